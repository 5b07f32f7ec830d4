-- In a sound world every reply that isn't done is one line.
use Rattle.std.proofs.Common.{◌≡◌, ℕ, List, ◌++◌, true, false, cond, codes, Some, None, Option, option_map, find, refl}
use Rattle.std.proofs.Common.{sym, IsTrue, subst}
use Rattle.std.specs.Prelude.{Contains}
use Rattle.paths.specs.StorePath.{full_path}
use Rattle.paths.specs.Root.{Kind, permanent, user, profile, runtime, temporary, Root, in_order}
use Rattle.live.specs.Reach.{reaches}
use Rattle.live.proofs.Members.{found}
use Rattle.live.proofs.Order.{member_ordered}
use Rattle.policy.specs.Settings.{Settings}
use Rattle.policy.specs.Caller.{Caller}
use Rattle.policy.specs.Class.{class_of}
use Rattle.policy.specs.Rules.{is_trusted}
use Rattle.policy.specs.Words.{rule_word}
use Rattle.policy.specs.declared.kinds.Class.{Class}
use Rattle.policy.specs.declared.kinds.Rule.{Rule}
use Rattle.policy.specs.declared.kinds.Rule.TheVariants.{Connect, TrustedImport, TrustedPermanentRoot}
use Rattle.policy.specs.declared.kinds.Rule.TheVariants.{TrustedRuntimeRoots, OwnRoot, NoIgnoreLiveness, Live}
use Rattle.model.specs.World.{Path, Pair, World, roots_of}
use Rattle.model.specs.Sound.{IsSound}
use Rattle.model.specs.Request.{Request}
use Rattle.model.specs.Reply.{done, denied, refused, failed, Failed, memory, size, disk}
use Rattle.model.specs.Liveness.{graph_of, keep_of, first_root_of, lives}
use Rattle.model.specs.Seen.{censored, seen_root}
use Rattle.model.specs.Verdict.{named_in, root_of_first, shown}
use Rattle.report.specs.Stops.{root_text, shown_text, denial_text, failure_text}
use Rattle.report.specs.Laws.{omits, IsLine, StopsAreLines}
use Rattle.report.proofs.Lacking.{omits_both}
use Rattle.report.proofs.Table.{are_lines}
use Rattle.report.proofs.Labels.{Unbroken, unbroken}

-- ---- failures

failure_line : (f : Failed) → IsLine (failure_text f)
failure_line memory = record { line = codes "failed: memory"; ends = refl; one = refl }
failure_line size = record { line = codes "failed: size"; ends = refl; one = refl }
failure_line disk = record { line = codes "failed: disk"; ends = refl; one = refl }

-- ---- denials

word_omits : (rule : Rule) → IsTrue (omits 10 (codes "denied: " ++ rule_word rule))
word_omits Connect = refl
word_omits TrustedImport = refl
word_omits TrustedPermanentRoot = refl
word_omits TrustedRuntimeRoots = refl
word_omits OwnRoot = refl
word_omits NoIgnoreLiveness = refl
word_omits Live = refl

-- the pair that a root is shown as lacks a line feed
abbrev Plain : Pair → Type 0
Plain p = IsTrue (omits 10 p.0) × IsTrue (omits 10 p.1)

abbrev PlainIf : Option Pair → Type 0
PlainIf None = Unit {0}
PlainIf (Some p) = Plain p

module _ (dir : List ℕ) (whole : IsTrue (omits 10 dir)) where
  shown_lacks : (o : Option Pair) → PlainIf o → IsTrue (omits 10 (shown_text dir o))
  shown_lacks None h = refl
  shown_lacks (Some p) h =
      omits_both 10 (codes " ") (root_text dir p) refl
      (omits_both 10 (p.0 ++ codes " ") (full_path dir p.1) (omits_both 10 p.0 (codes " ") h.0 refl)
      (omits_both 10 (dir ++ codes "/") p.1 (omits_both 10 dir (codes "/") whole refl) h.1))

  denial_line : (rule : Rule) (o : Option Pair) → PlainIf o → IsLine (denial_text dir rule o)
  denial_line rule o h = record {
    line = codes "denied: " ++ rule_word rule ++ shown_text dir o;
    ends = refl;
    one = omits_both 10 (codes "denied: " ++ rule_word rule) (shown_text dir o) (word_omits rule) (shown_lacks o h);
  }

-- ---- the root that is shown

hidden : (k : Kind) (r : Root) → r.kind ≡ k → IsTrue (omits 10 r.label)
    → IsTrue (omits 10 (censored (record r { kind = k })).label)
hidden permanent r e h = h
hidden user r e h = h
hidden profile r e h = h
hidden runtime r e h = refl
hidden temporary r e h = refl

seen_plain : (class : Class) (r : Root) → Unbroken r → Plain (seen_root class r)
seen_plain class r h =
    elim (is_trusted class) as (λ b. Plain ((cond b r (censored r)).label, (cond b r (censored r)).target)) [
      | true ↦ (h.0, h.1)
      | false ↦ (hidden r.kind r refl h.0, h.1)
    ]

module _ (s : Settings) (w : World) (sound : IsSound s.store_dir w) where
  first_listed : (p : Path) (r : Root) → first_root_of s w p ≡ Some r → Contains (roots_of w) r
  first_listed p r e =
      member_ordered (roots_of w) r
      (found (λ x. reaches (keep_of s) (graph_of w) x.target p) (in_order (roots_of w)) r e).0

  root_plain : (class : Class) (p : Option Path) (o : Option Root) → root_of_first s w p ≡ o
      → PlainIf (option_map (seen_root class) o)
  root_plain class p None e = tt
  root_plain class None (Some r) e = absurd cc
  root_plain class (Some p) (Some r) e = seen_plain class r (unbroken s.store_dir w sound r (first_listed p r e))

  shown_plain : (c : Caller) (q : Request) (rule : Rule) → PlainIf (shown s w c q rule)
  shown_plain c q Live =
      root_plain (class_of s c) (find (lives s w) (named_in q)) (root_of_first s w (find (lives s w) (named_in q))) refl
  shown_plain c q Connect = tt
  shown_plain c q TrustedImport = tt
  shown_plain c q TrustedPermanentRoot = tt
  shown_plain c q TrustedRuntimeRoots = tt
  shown_plain c q OwnRoot = tt
  shown_plain c q NoIgnoreLiveness = tt

pub stops : StopsAreLines
stops s w c q (done a) new whole sound step not_done = absurd (not_done tt)
stops s w c q (denied rule root) new whole sound step not_done =
    subst (λ o. IsLine (denial_text s.store_dir rule o)) (sym step.1)
    (denial_line s.store_dir whole rule (shown s w c q rule) (shown_plain s w sound c q rule))
stops s w c q (refused r) new whole sound step not_done = are_lines r
stops s w c q (failed f) new whole sound step not_done = failure_line f
