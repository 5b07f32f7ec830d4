-- What the rules leave to all but strangers.
use Rattle.std.proofs.Common.{◌≡◌, [], Bool, true, false, Some, None, Option, refl, sym, ap, ◌∙◌}
use Rattle.std.specs.Prelude.{IsFalse}
use Rattle.std.specs.List.{list_any}
use Rattle.std.proofs.lemmas.Bool.{false≢true}
use Rattle.policy.specs.Settings.{Settings}
use Rattle.policy.specs.Caller.{Caller}
use Rattle.policy.specs.Class.{class_of}
use Rattle.policy.specs.Operation as operations
use Rattle.policy.specs.Rules.{is_stranger}
use Rattle.policy.specs.Rules as policy
use Rattle.policy.specs.declared.kinds.Class.{Class}
use Rattle.policy.specs.declared.kinds.Class.TheVariants.{Stranger, Allowed, Trusted}
use Rattle.policy.specs.declared.kinds.Rule.{Rule}
use Rattle.policy.specs.declared.kinds.Rule.TheVariants.{NoIgnoreLiveness}
use Rattle.model.specs.World.{World}
use Rattle.model.specs.Request.{Request, add_text, add_source, import_object, info, nar, ls, list, list_live, list_dead}
use Rattle.model.specs.Request.{list_roots, list_roots_of, collect, delete, report}
use Rattle.model.specs.Liveness.{lives}
use Rattle.model.specs.Verdict.{operation_of, named_in, verdict}
use Rattle.laws.specs.ReadOnly.{OnlyReads}
use Rattle.laws.specs.Permissions.{NobodyIgnoresLiveness, AllMayAsk}

module _ (s : Settings) (w : World) (c : Caller) where
  -- what the rules say to both classes but that of strangers, wherever what is named lives or not
  known : (q : Request) (b : Bool) (answer : Option Rule) (k : Class) → class_of s c ≡ k → IsFalse (is_stranger k)
      → list_any (lives s w) (named_in q) ≡ b
      → policy.verdict Allowed c (operation_of q) b ≡ answer → policy.verdict Trusted c (operation_of q) b ≡ answer
      → verdict s w c q ≡ answer
  known q b answer Stranger is h l a t = absurd (false≢true (sym h))
  known q b answer Allowed is h l a t =
      ap (λ class. policy.verdict class c (operation_of q) (list_any (lives s w) (named_in q))) is
      ∙ ap (policy.verdict Allowed c (operation_of q)) l ∙ a
  known q b answer Trusted is h l a t =
      ap (λ class. policy.verdict class c (operation_of q) (list_any (lives s w) (named_in q))) is
      ∙ ap (policy.verdict Trusted c (operation_of q)) l ∙ t

  may : IsFalse (is_stranger (class_of s c)) → (q : Request) → operation_of q ≡ operations.plain → named_in q ≡ []
      → verdict s w c q ≡ None
  may h q p n =
      known q false None (class_of s c) refl h (ap (list_any (lives s w)) n)
      (ap (λ op. policy.verdict Allowed c op false) p) (ap (λ op. policy.verdict Trusted c op false) p)

  may_tell : IsFalse (is_stranger (class_of s c)) → (q : Request) → OnlyReads q → verdict s w c q ≡ None
  may_tell h (info p) o = may h (info p) refl refl
  may_tell h (nar p) o = may h (nar p) refl refl
  may_tell h (ls p) o = may h (ls p) refl refl
  may_tell h list o = may h list refl refl
  may_tell h list_live o = may h list_live refl refl
  may_tell h list_dead o = may h list_dead refl refl
  may_tell h list_roots o = may h list_roots refl refl
  may_tell h (list_roots_of p) o = may h (list_roots_of p) refl refl
  may_tell h report o = may h report refl refl
  may_tell h _ o = absurd o

pub nobody_ignores_liveness : NobodyIgnoresLiveness
nobody_ignores_liveness s w c h = record {
  collect_ =
      λ limit. known s w c (collect true limit) false (Some NoIgnoreLiveness) (class_of s c) refl h refl refl refl;
  delete_ =
      λ named. known s w c (delete named true) (list_any (lives s w) named) (Some NoIgnoreLiveness) (class_of s c) refl
      h refl refl refl;
}

pub all_may_ask : AllMayAsk
all_may_ask s w c h = record {
  text = λ name refs contents. may s w c h (add_text name refs contents) refl refl;
  source = λ name refs b. may s w c h (add_source name refs b) refl refl;
  import = λ i addressed. known s w c (import_object i) false None (class_of s c) refl h refl
      (ap (λ b. policy.verdict Allowed c (operations.import_object b) false) addressed)
      (ap (λ b. policy.verdict Trusted c (operations.import_object b) false) addressed);
  reads = may_tell s w c h;
  collect_ = λ limit. known s w c (collect false limit) false None (class_of s c) refl h refl refl refl;
  delete_ = λ named none. known s w c (delete named false) false None (class_of s c) refl h none refl refl;
}
