-- The order of the kinds of roots.
use Rattle.std.proofs.Common.{◌≡◌, List, [], ◌∷◌, ◌++◌, refl, subst, inl, inr}
use Rattle.std.specs.Prelude.{Contains}
use Rattle.std.specs.List.{AllByRecursion}
use Rattle.std.specs.List.Sorted.{IsStrictlySortedBy}
use Rattle.std.specs.declared.cmp.Ordering.{Ordering}
use Rattle.std.specs.declared.cmp.Ordering.TheVariants.{Less, Equal, Greater}
use Rattle.std.specs.Ordering.{ordering_then, nat_cmp}
use Rattle.paths.specs.Root.{set_of, Kind, permanent, user, profile, runtime, temporary, Root, place, root_cmp}
use Rattle.paths.specs.Root.{in_order}
use Rattle.live.proofs.Members.{cases, no_member}
use Rattle.model.specs.World.{explicit_roots, runtime_roots, temporary_roots}
use Rattle.laws.specs.LabelsAndOrder.{AreLabelled, MayFollow, KindsInOrder}
use Rattle.laws.proofs.Freed.{keys_rise}

pub are_labelled : AreLabelled
are_labelled = record {
  permanent_ = λ name t. refl;
  user_ = λ owner name t. refl;
  generation_ = λ owner name n t. refl;
  runtime_ = λ label t. refl;
  temporary_ = λ t. refl;
}

-- ---- what comes after a root in a list that rises

pub member_all : {X : Type 0} (P : X → Type 0) (xs : List X) → AllByRecursion P xs → (x : X) → Contains xs x → P x
member_all P [] h x c = absurd (no_member x c)
member_all P (y ∷ ys) h x c = elim (cases y x ys c) as (λ _. P x) [
  | inl is ↦ subst P is h.0
  | inr later ↦ member_all P ys h.1 x later
]

after_is_more : (front : List Root) (r : Root) (back : List Root) → IsStrictlySortedBy root_cmp (front ++ r ∷ back)
    → (next : Root) → Contains back next → root_cmp r next ≡ Less
unfolding IsStrictlySortedBy
after_is_more [] r back h next c = member_all (λ y. root_cmp r y ≡ Less) back h.0 next c
after_is_more (x ∷ front) r back h next c = after_is_more front r back h.1 next c

not_greater : (a b : Ordering) → ordering_then a b ≡ Less → a ≡ Greater → ⊥
not_greater Less b e f = cc
not_greater Equal b e f = cc
not_greater Greater b e f = cc

may_follow : (j k : Kind) → (nat_cmp (place j) (place k) ≡ Greater → ⊥) → MayFollow j k
may_follow permanent permanent h = tt
may_follow permanent user h = tt
may_follow permanent profile h = tt
may_follow permanent runtime h = tt
may_follow permanent temporary h = tt
may_follow user permanent h = absurd (h refl)
may_follow user user h = tt
may_follow user profile h = tt
may_follow user runtime h = tt
may_follow user temporary h = tt
may_follow profile permanent h = absurd (h refl)
may_follow profile user h = absurd (h refl)
may_follow profile profile h = tt
may_follow profile runtime h = tt
may_follow profile temporary h = tt
may_follow runtime permanent h = absurd (h refl)
may_follow runtime user h = absurd (h refl)
may_follow runtime profile h = absurd (h refl)
may_follow runtime runtime h = tt
may_follow runtime temporary h = tt
may_follow temporary permanent h = absurd (h refl)
may_follow temporary user h = absurd (h refl)
may_follow temporary profile h = absurd (h refl)
may_follow temporary runtime h = absurd (h refl)
may_follow temporary temporary h = tt

pub rise : (xs : List Root) → IsStrictlySortedBy root_cmp (in_order xs)
unfolding in_order
rise xs = keys_rise root_cmp (set_of root_cmp xs)

pub kinds_in_order : KindsInOrder
kinds_in_order w front r back e next c =
    may_follow r.kind next.kind (not_greater (nat_cmp (place r.kind) (place next.kind)) _
    (after_is_more front r back (subst (λ (xs : List Root). IsStrictlySortedBy root_cmp xs) e
    (rise (explicit_roots w ++ runtime_roots w ++ temporary_roots w))) next c))
