-- The label of a root that was dropped isn't told.
use Rattle.std.proofs.Common.{◌≡◌, ℕ, List, [], ◌∷◌, ◌++◌, map, slice_index, Bool, true, false, not, ◌==◌, ◌&&◌, codes}
use Rattle.std.proofs.Common.{is_some, refl, sym, ap, arith, ◌∙◌, IsTrue, subst, inl, inr}
use Rattle.std.specs.Prelude.{Contains, if◌then◌else◌}
use Rattle.std.specs.List.{list_all, filter}
use Rattle.std.specs.FinMap as finite
use Rattle.std.proofs.lemmas.Bool.{false≢true, eq-eqb, and_parts}
use Rattle.std.proofs.lemmas.List.{append_assoc, append_cancel_left}
use Rattle.paths.specs.Names.{is_plain_name, is_plain_byte}
use Rattle.paths.specs.Root.{Kind, permanent, user, profile, runtime, temporary, Root, permanent_label, user_label}
use Rattle.paths.specs.Root.{generation_label}
use Rattle.live.proofs.Members.{cases, at_head, behind}
use Rattle.policy.specs.Settings.{Settings}
use Rattle.policy.specs.Caller.{Caller}
use Rattle.policy.specs.Class.{class_of}
use Rattle.policy.specs.Rules.{is_trusted}
use Rattle.policy.specs.declared.kinds.Class.{Class}
use Rattle.model.specs.World.{Path, Pair, World, roots_of}
use Rattle.model.specs.Sound.{IsSound}
use Rattle.model.specs.Request.{drop_permanent, drop_user_root}
use Rattle.model.specs.Reply.{Answer, roots}
use Rattle.model.specs.declared.refusal.Refusal.TheVariants.{BadRootName}
use Rattle.model.specs.Seen.{plain, is_hidden, hidden_label, censored, same_pair, each_once, seen_root, seen}
use Rattle.model.specs.Tests.{tests}
use Rattle.laws.specs.ListedRoots.{Shows}
use Rattle.laws.specs.Relisted.{CoexistedWith, ListsNoMore, DroppedLabelsAreNotListed}
use Rattle.model.proofs.Filtered.{from_mapped, from_filtered}
use Rattle.laws.proofs.LabelsDiffer.{plain_bytes}
use Rattle.laws.proofs.RootsByTable.{kinds_distinct, every, of_kind, runtimes}
use Rattle.laws.proofs.RootChanges.{drops_permanent, drops_user_roots}
use Rattle.laws.proofs.ProfileChanges.{deletes_generations}
use Rattle.laws.proofs.Relisted.{permanent_removed, user_removed}
use Rattle.laws.proofs.RelistedProfiles.{generation_absent}
use Rattle.laws.proofs.Tellings.{root_listings_report}
use Rattle.model.proofs.Passed.{met, each_passed}

-- ---- what is seen is some root

once_from : (ps : List Pair) (p : Pair) → Contains (each_once ps) p → Contains ps p
once_from [] p c = c
once_from (x ∷ xs) p c =
    elim (cases x p (filter (λ q. not (same_pair x q)) (each_once xs)) c) as (λ _. Contains (x ∷ xs) p) [
      | inl is ↦ subst (λ y. Contains (x ∷ xs) y) is (at_head x xs)
      | inr later ↦ behind x p xs (once_from xs p (from_filtered (λ q. not (same_pair x q)) (each_once xs) p later).0)
    ]

seen_of : (class : Class) (rs : List Root) (pair : Pair) → Contains (seen class rs) pair
    → (r : Root) × Contains rs r × (seen_root class r ≡ pair)
seen_of class rs pair = by (is_trusted class)
  where
    by : (b : Bool) → Contains (if b then map plain rs else each_once (map plain (map censored rs))) pair
        → (r : Root) × Contains rs r × (plain (if b then r else censored r) ≡ pair)
    by true c = from_mapped plain rs pair c
    by false c =
        let x = from_mapped plain (map censored rs) pair (once_from (map plain (map censored rs)) pair c) in
        let y = from_mapped censored rs x.0 x.1 in
        (y.0, y.1, ap plain y.2 ∙ x.2)

-- ---- a label that no root has but, perhaps, one of runtime

-- what is reported to a caller of a root by this label
abbrev pub Allows : Settings → World → Caller → List ℕ → Path → Type 0
Allows s w c label p = IsTrue (is_trusted (class_of s c)) × IsTrue (finite.contains_key w.runtime (label, p))

-- no root but one of runtime has it, and it isn't what replaces a hidden one
pub record IsFree (w : World) (label : List ℕ) : Type 0 where
  pub apart : (r : Root) → Contains (roots_of w) r → (r.kind ≡ runtime → ⊥) → r.label ≡ label → ⊥
  pub shown : hidden_label ≡ label → ⊥

module _ (s : Settings) (w : World) (c : Caller) (label : List ℕ) (free : IsFree w label) where
  in_runtime : (r : Root) → Contains (roots_of w) r → r.kind ≡ runtime
      → IsTrue (finite.contains_key w.runtime (r.label, r.target))
  in_runtime = runtimes w (λ x. IsTrue (finite.contains_key w.runtime (x.label, x.target))) (λ pair h. h)

  to_trusted : (p : Path) (r : Root) → Contains (roots_of w) r → r.label ≡ label → r.target ≡ p
      → IsTrue (finite.contains_key w.runtime (label, p))
  to_trusted p r m l t =
      of_kind runtime (λ x. Contains (roots_of w) x → x.label ≡ label → x.target ≡ p
      → IsTrue (finite.contains_key w.runtime (label, p))) r
      (λ run k d e. ap (finite.contains_key w.runtime) (λ i. (sym d i, sym e i)) ∙ in_runtime r k run)
      (λ other k d e. absurd (free.apart r k other d)) m l t

  to_others : (r : Root) → Contains (roots_of w) r → (k : Kind) → r.kind ≡ k
      → (if is_hidden k then hidden_label else r.label) ≡ label → ⊥
  to_others r m permanent is l = free.apart r m (λ run. kinds_distinct permanent runtime refl (sym is ∙ run)) l
  to_others r m user is l = free.apart r m (λ run. kinds_distinct user runtime refl (sym is ∙ run)) l
  to_others r m profile is l = free.apart r m (λ run. kinds_distinct profile runtime refl (sym is ∙ run)) l
  to_others r m runtime is l = free.shown l
  to_others r m temporary is l = free.shown l

  one : (p : Path) (r : Root) → Contains (roots_of w) r → seen_root (class_of s c) r ≡ (label, p) → Allows s w c label p
  one p r m = by (is_trusted (class_of s c)) refl
    where
      by : (b : Bool) → is_trusted (class_of s c) ≡ b → plain (if b then r else censored r) ≡ (label, p)
          → IsTrue (is_trusted (class_of s c)) × IsTrue (finite.contains_key w.runtime (label, p))
      by true is e = (is, to_trusted p r m (ap (λ (x : Pair). x.0) e) (ap (λ (x : Pair). x.1) e))
      by false is e = absurd (to_others r m r.kind refl (ap (λ (x : Pair). x.0) e))

  among : (p : Path) (a : Answer) (rs : List Root) → a ≡ roots (seen (class_of s c) rs)
      → ((r : Root) → Contains rs r → Contains (roots_of w) r) → Shows a (label, p) → Allows s w c label p
  among p a rs reported stand h =
      let x = seen_of (class_of s c) rs (label, p) (subst (λ y. Shows y (label, p)) reported h) in
      one p x.0 (stand x.0 x.1) x.2

  pub no_more : ListsNoMore s w c label
  no_more = record {
    all = λ a new h p k. let x =
        (root_listings_report s w c).all a new h in among p a x.shown x.reported (λ r d. (x.exactly r).0 d) k;
    of = λ q a new h p k. let x =
        (root_listings_report s w c).of q a new h in among p a x.shown x.reported (λ r d. ((x.exactly r).0 d).0) k;
  }

-- ---- labels of one kind are those of no other

abbrev first_byte : List ℕ → ℕ
first_byte label = slice_index label 0

distinct_bytes : (a b : ℕ) → (a == b) ≡ false → a ≡ b → ⊥
distinct_bytes a b f e = false≢true (sym f ∙ eq-eqb a b e)

module _ (dir : List ℕ) (w : World) (sound : IsSound dir w) where
  -- what a plain name begins with isn't a part of a label of a user root
  no_slash : (n rest : List ℕ) → IsTrue (is_plain_name n) → n ≡ codes "per-user/" ++ rest → ⊥
  no_slash n rest plain e = false≢true (ap (list_all is_plain_byte) (sym e) ∙ plain_bytes n plain)

  user_rest : (owner name : List ℕ)
      → user_label owner name ≡ codes "gcroots/" ++ (codes "per-user/" ++ (owner ++ codes "/" ++ name))
  user_rest owner name =
      append_assoc (codes "gcroots/per-user/" ++ owner) (codes "/") name
      ∙ append_assoc (codes "gcroots/per-user/") owner (codes "/" ++ name)
      ∙ ap (λ t. codes "gcroots/per-user/" ++ t) (sym (append_assoc owner (codes "/") name))

  pub permanent_free : (name : List ℕ) → IsTrue (is_plain_name name) → (r : Root)
      → CoexistedWith w permanent (permanent_label name) r → (r.kind ≡ runtime → ⊥) → r.label ≡ permanent_label name → ⊥
  permanent_free name plain r b =
      every (λ x. (x.kind ≡ permanent → x.label ≡ permanent_label name → ⊥) → (x.kind ≡ runtime → ⊥)
      → x.label ≡ permanent_label name → ⊥) w (record {
        permanent_ = λ n t e other run l. other refl l;
        user_ =
            λ o t e other run l. no_slash name (o.0 ++ codes "/" ++ o.1) plain
            (append_cancel_left (codes "gcroots/") name (codes "per-user/" ++ (o.0 ++ codes "/" ++ o.1))
            (sym l ∙ user_rest o.0 o.1));
        generation_ = λ o p n t e g other run l. distinct_bytes 112 103 refl (ap first_byte l);
        runtime_ = λ pair h other run l. run refl;
        temporary_ = λ t h other run l. distinct_bytes 123 103 refl (ap first_byte l);
      }) r b.existed b.other

  pub user_free : (owner name : List ℕ) → (r : Root) → CoexistedWith w user (user_label owner name) r
      → (r.kind ≡ runtime → ⊥) → r.label ≡ user_label owner name → ⊥
  user_free owner name r b =
      every (λ x. (x.kind ≡ user → x.label ≡ user_label owner name → ⊥) → (x.kind ≡ runtime → ⊥)
      → x.label ≡ user_label owner name → ⊥) w (record {
        permanent_ = λ n t e other run l.
            no_slash n (owner ++ codes "/" ++ name) (sound.permanent_name n (ap is_some e))
            (append_cancel_left (codes "gcroots/") n (codes "per-user/" ++ (owner ++ codes "/" ++ name))
            (l ∙ user_rest owner name));
        user_ = λ o t e other run l. other refl l;
        generation_ = λ o p n t e g other run l. distinct_bytes 112 103 refl (ap first_byte l);
        runtime_ = λ pair h other run l. run refl;
        temporary_ = λ t h other run l. distinct_bytes 123 103 refl (ap first_byte l);
      }) r b.existed b.other

  pub generation_free : (owner name : List ℕ) (n : ℕ) → (r : Root)
      → CoexistedWith w profile (generation_label owner name n) r → (r.kind ≡ runtime → ⊥)
      → r.label ≡ generation_label owner name n → ⊥
  generation_free owner name n r b =
      every (λ x. (x.kind ≡ profile → x.label ≡ generation_label owner name n → ⊥) → (x.kind ≡ runtime → ⊥)
      → x.label ≡ generation_label owner name n → ⊥) w (record {
        permanent_ = λ m t e other run l. distinct_bytes 103 112 refl (ap first_byte l);
        user_ = λ o t e other run l. distinct_bytes 103 112 refl (ap first_byte l);
        generation_ = λ o p m t e g other run l. other refl l;
        runtime_ = λ pair h other run l. run refl;
        temporary_ = λ t h other run l. distinct_bytes 123 112 refl (ap first_byte l);
      }) r b.existed b.other

pub dropped_labels_are_not_reported : DroppedLabelsAreNotListed
dropped_labels_are_not_reported s w c mid next sound = record {
  permanent_ = λ name a h.
      let x = drops_permanent s w c name a mid h in
      let plain =
      met (is_plain_name name) _ (each_passed (tests s w (drop_permanent name)) h.1 _ (0, omega arith, refl)) in
      no_more s mid next (permanent_label name) (record {
        apart = λ r m. permanent_free s.store_dir w sound name plain r ((permanent_removed w mid name x.3 x.2 r).0 m);
        shown = λ l. distinct_bytes 123 103 refl (ap first_byte l);
      });
  user_ = λ owner name a h.
      let x = drops_user_roots s w c owner name a mid h in
      let plain =
      and_parts (is_plain_name owner) (is_plain_name name)
      (met (is_plain_name owner && is_plain_name name) BadRootName
      (each_passed (tests s w (drop_user_root owner name)) h.1 _ (0, omega arith, refl))) in
      no_more s mid next (user_label owner name) (record {
        apart =
            λ r m. user_free s.store_dir w sound owner name r
            ((user_removed s.store_dir w mid sound owner name plain.0 x.3 x.2 r).0 m);
        shown = λ l. distinct_bytes 123 103 refl (ap first_byte l);
      });
  generation_ = λ owner name n a h.
      let x = (deletes_generations s w c owner name n a mid h).1 in
      no_more s mid next (generation_label owner name n) (record {
        apart =
            λ r m. generation_free s.store_dir w sound owner name n r
            ((generation_absent s.store_dir w mid sound owner name n x r).0 m);
        shown = λ l. distinct_bytes 123 112 refl (ap first_byte l);
      });
}
