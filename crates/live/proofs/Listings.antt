-- What waits, by the blocks that are listed.
use Rattle.std.proofs.Common.{◌≡◌, ℕ, ◌+◌, ◌*◌, ◌/◌, ◌<◌, ◌≤◌, min, List, [], ◌∷◌, ◌++◌, length, replicate, set, Bool}
use Rattle.std.proofs.Common.{true, false, Option, Some, None, refl, sym, ap, ◌∙◌, subst, inl, inr, ◌⊎◌, arith}
use Rattle.std.specs.Prelude.{Contains, IfNone, IfSome, MatchOption}
use Rattle.std.proofs.lemmas.Bool.{cases_eq, cases_lt, false≢true}
use Rattle.std.proofs.lemmas.List.{length-set, length-replicate, get_or-set_same}
use Rattle.std.proofs.lemmas.List.Elements.{Contains-append_left, Contains-push, Contains-push_cases}
use Rattle.live.specs.Marks.{IsDequeued, IsDone, IsTaken, NoneWaits, Waits}
use Rattle.live.specs.Listed.{AllListed, IsListed, ListsMore, NoneBetween, Waiting}
use Rattle.live.proofs.OneRoot.{consumed_length, none_waits, waits_inside, waits_other}
use Rattle.live.proofs.Members.{no_member}

pub stays_false : (bs : List Bool) (j : ℕ) → Waits (set bs j false) j → ⊥
stays_false bs j w = elim (cases_lt j (length bs)) as (λ _. ⊥) [
  | inl below ↦ false≢true (sym (get_or-set_same bs j false false below) ∙ w)
  | inr past ↦ (let h = waits_inside (set bs j false) j w in let n = length-set bs j false in omega arith)
]

pub stays_same : (bs : List Bool) (j b : ℕ) → Waits (set bs j false) b → Waits bs b
stays_same bs j b w = elim (cases_eq b j) as (λ _. Waits bs b) [
  | inl same ↦ absurd (stays_false bs j (subst (Waits (set bs j false)) same w))
  | inr other ↦ waits_other bs false j b other w
]

-- a fact for each case, at one of the cases
pub if_some : (P : Type 0) (Q : ℕ → Type 0) (o : Option ℕ) → MatchOption o P Q → IfSome o Q
if_some P Q None m = tt
if_some P Q (Some x) m = m

pub if_none : (P : Type 0) (Q : ℕ → Type 0) (o : Option ℕ) → MatchOption o P Q → IfNone o P
if_none P Q None m = m
if_none P Q (Some x) m = tt

-- what the places that wait say of the whole walk, where the marks stay
pub taken : (first : List ℕ) (old new : List Bool) (o : Option ℕ)
    → MatchOption o ((new ≡ old) × NoneWaits new) (IsDequeued old new)
    → IfSome o (IsTaken (record { first = first; waiting = old }) (record { first = first; waiting = new }))
taken first old new None m = tt
taken first old new (Some place) m = record { first = refl; waiting = m }

pub done : (first : List ℕ) (old new : List Bool) (o : Option ℕ)
    → MatchOption o ((new ≡ old) × NoneWaits new) (IsDequeued old new)
    → IfNone o (IsDone (record { first = first; waiting = old }) (record { first = first; waiting = new }))
done first old new None m = record { first = refl; waiting = m.0; none = m.1 }
done first old new (Some place) m = tt

-- there are as many places as before
pub next_length : (o : Option ℕ) (old new : List Bool)
    → MatchOption o ((new ≡ old) × NoneWaits new) (IsDequeued old new) → length new ≡ length old
next_length None old new m = ap length m.0
next_length (Some place) old new m = consumed_length old new place m

-- nothing waits yet
pub listed_none : (w : Waiting) (n : ℕ) → w.waiting ≡ replicate n false → w.listed ≡ replicate (n / 256 + 1) false
    → w.at ≡ 0 → w.end ≡ 0 → IsListed w
listed_none w n waiting listed at end = record {
  waits = λ i h. absurd (none_waits n i (subst (λ (bs : List Bool). Waits bs i) waiting h));
  lists = λ b h. absurd (none_waits (n / 256 + 1) b (subst (λ (bs : List Bool). Waits bs b) listed h));
  ordered = omega arith;
  within = omega arith;
  room =
      (let a = ap length waiting ∙ length-replicate n false in
      let b = ap length listed ∙ length-replicate (n / 256 + 1) false in omega arith);
}

-- the block of a place is among those there are
pub block_inside : (w : Waiting) (place : ℕ) → IsListed w → place < length w.waiting → place / 256 < length w.listed
block_inside w place is h = (let r = is.room in omega arith)

-- what was pushed is there
pub last_of : (w v : Waiting) (b : ℕ) → v.blocks ≡ w.blocks ++ b ∷ [] → Contains v.blocks b
last_of w v b blocks = subst (λ (ks : List ℕ). Contains ks b) (sym blocks) (Contains-push w.blocks b)

-- one more block is listed
pub lists_more : (marks : List Bool) (blocks news : List ℕ) (block : ℕ) → AllListed marks blocks
    → news ≡ blocks ++ block ∷ [] → AllListed (set marks block true) news
lists_more marks blocks news block lists is b h =
    subst (λ (ks : List ℕ). Contains ks b) (sym is)
    (elim (cases_eq b block) as (λ _. Contains (blocks ++ block ∷ []) b) [
      | inl same ↦ subst (Contains (blocks ++ block ∷ [])) (sym same) (Contains-push blocks block)
      | inr other ↦ Contains-append_left blocks (block ∷ []) b (lists b (waits_other marks true block b other h))
    ])

-- more blocks may be listed
pub listed_more : (w v : Waiting) → IsListed w → v.waiting ≡ w.waiting → v.at ≡ w.at → v.end ≡ w.end
    → ListsMore w.listed v.listed w.blocks v.blocks → IsListed v
listed_more w v is waiting at end more = record {
  waits =
      λ i h. elim (is.waits i (subst (λ (bs : List Bool). Waits bs i) waiting h)) as (λ _. ((v.at ≤ i) × (i < v.end))
      ⊎ Contains v.blocks (i / 256)) [
        | inl hand ↦ inl (omega (arith, hand.0), omega (arith, hand.1))
        | inr c ↦ inr (more.kept (i / 256) c)
      ];
  lists = more.lists;
  ordered = (let o = is.ordered in omega arith);
  within = (let n = is.within in let l = ap length waiting in omega arith);
  room = (let r = is.room in let m = more.count in let l = ap length waiting in omega arith);
}

-- one more place waits, in a block that is listed
pub listed_put : (w v : Waiting) (place : ℕ) → IsListed w → v.waiting ≡ set w.waiting place true → v.at ≡ w.at
    → v.end ≡ w.end → ListsMore w.listed v.listed w.blocks v.blocks → Contains v.blocks (place / 256) → IsListed v
listed_put w v place is waiting at end more here = record {
  waits = λ i h. elim (cases_eq i place) as (λ _. ((v.at ≤ i) × (i < v.end)) ⊎ Contains v.blocks (i / 256)) [
    | inl same ↦ inr (subst (λ k. Contains v.blocks (k / 256)) (sym same) here)
    | inr other ↦ elim (is.waits i
        (waits_other w.waiting true place i other (subst (λ (bs : List Bool). Waits bs i) waiting h))) as (λ _.
        ((v.at ≤ i) × (i < v.end)) ⊎ Contains v.blocks (i / 256)) [
          | inl hand ↦ inl (omega (arith, hand.0), omega (arith, hand.1))
          | inr c ↦ inr (more.kept (i / 256) c)
        ]
  ];
  lists = more.lists;
  ordered = (let o = is.ordered in omega arith);
  within = (let n = is.within in let l = ap length waiting ∙ length-set w.waiting place true in omega arith);
  room =
      (let r = is.room in let m = more.count in let l = ap length waiting ∙ length-set w.waiting place true in
      omega arith);
}

pub none_more : (waiting : List Bool) (from to : ℕ) → NoneBetween waiting from to → (Waits waiting to → ⊥)
    → NoneBetween waiting from (to + 1)
none_more waiting from to none not i a b h = elim (cases_eq i to) as (λ _. ⊥) [
  | inl same ↦ not (subst (Waits waiting) same h)
  | inr other ↦ none i a (omega (arith, other)) h
]

-- the first that waits in the block at hand waits no longer
pub listed_consumed : (w v : Waiting) (place : ℕ) → IsListed w → w.at ≤ place → place < w.end
    → NoneBetween w.waiting w.at place → v.waiting ≡ set w.waiting place false
    → v.listed ≡ w.listed → v.blocks ≡ w.blocks → v.at ≡ place + 1 → v.end ≡ w.end → IsListed v
listed_consumed w v place is from to none waiting listed blocks at end = record {
  waits = λ i h. elim (cases_eq i place) as (λ _. ((v.at ≤ i) × (i < v.end)) ⊎ Contains v.blocks (i / 256)) [
    | inl same ↦ absurd (stays_false w.waiting place
        (subst (λ k. Waits (set w.waiting place false) k) same (subst (λ (bs : List Bool). Waits bs i) waiting h)))
    | inr other ↦ still i other (waits_other w.waiting false place i other
        (subst (λ (bs : List Bool). Waits bs i) waiting h))
  ];
  lists =
      λ b h. subst (λ (ks : List ℕ). Contains ks b) (sym blocks)
      (is.lists b (subst (λ (bs : List Bool). Waits bs b) listed h));
  ordered = omega arith;
  within = (let n = is.within in let l = ap length waiting ∙ length-set w.waiting place false in omega arith);
  room =
      (let r = is.room in let l = ap length waiting ∙ length-set w.waiting place false in let m = ap length listed in
      omega arith);
}
  where
    still : (i : ℕ) → (i ≡ place → ⊥) → Waits w.waiting i → ((v.at ≤ i) × (i < v.end)) ⊎ Contains v.blocks (i / 256)
    still i other h = elim (is.waits i h) as (λ _. ((v.at ≤ i) × (i < v.end)) ⊎ Contains v.blocks (i / 256)) [
      | inl hand ↦ elim (cases_lt i place) as (λ _. ((v.at ≤ i) × (i < v.end)) ⊎ Contains v.blocks (i / 256)) [
        | inl before ↦ absurd (none i hand.0 before h)
        | inr past ↦ inl (omega (arith, other, past), omega (arith, hand.1))
      ]
      | inr c ↦ inr (subst (λ (ks : List ℕ). Contains ks (i / 256)) (sym blocks) c)
    ]

-- nothing is left of the block at hand
pub listed_done : (w v : Waiting) → IsListed w → NoneBetween w.waiting w.at w.end → v.waiting ≡ w.waiting
    → v.listed ≡ w.listed → v.blocks ≡ w.blocks
    → v.at ≡ w.end → v.end ≡ w.end → IsListed v
listed_done w v is none waiting listed blocks at end = record {
  waits =
      λ i h. elim (is.waits i (subst (λ (bs : List Bool). Waits bs i) waiting h)) as (λ _. ((v.at ≤ i) × (i < v.end))
      ⊎ Contains v.blocks (i / 256)) [
        | inl hand ↦ absurd (none i hand.0 hand.1 (subst (λ (bs : List Bool). Waits bs i) waiting h))
        | inr c ↦ inr (subst (λ (ks : List ℕ). Contains ks (i / 256)) (sym blocks) c)
      ];
  lists =
      λ b h. subst (λ (ks : List ℕ). Contains ks b) (sym blocks)
      (is.lists b (subst (λ (bs : List Bool). Waits bs b) listed h));
  ordered = omega arith;
  within = (let n = is.within in let l = ap length waiting in omega arith);
  room = (let r = is.room in let l = ap length waiting in let m = ap length listed in omega arith);
}

-- where no block is listed, nothing waits
pub none_listed : (w : Waiting) → IsListed w → w.end ≤ w.at → w.blocks ≡ [] → NoneWaits w.waiting
none_listed w is done empty i h = elim (is.waits i h) as (λ _. ⊥) [
  | inl hand ↦ omega (arith, hand.0, hand.1)
  | inr c ↦ no_member (i / 256) (subst (λ (ks : List ℕ). Contains ks (i / 256)) empty c)
]

-- the next block is at hand
pub listed_begun : (w v : Waiting) (block most : ℕ) → IsListed w → w.end ≤ w.at → w.blocks ≡ v.blocks ++ block ∷ []
    → v.waiting ≡ w.waiting
    → length v.listed ≡ length w.listed → (Waits v.listed block → ⊥) → ((b : ℕ) → Waits v.listed b → Waits w.listed b)
    → length w.waiting ≤ most → v.at ≡ min (min (block * 256) most) (length w.waiting)
    → v.end ≡ min (min (v.at + 256) most) (length w.waiting) → IsListed v
listed_begun w v block most is done blocks waiting count gone others fits at end = record {
  waits =
      λ i h. elim (is.waits i (subst (λ (bs : List Bool). Waits bs i) waiting h)) as (λ _. ((v.at ≤ i) × (i < v.end))
      ⊎ Contains v.blocks (i / 256)) [
        | inl hand ↦ absurd (omega (arith, hand.0, hand.1))
        | inr c ↦ elim (Contains-push_cases v.blocks block (i / 256)
            (subst (λ (ks : List ℕ). Contains ks (i / 256)) blocks c)) as (λ _. ((v.at ≤ i) × (i < v.end))
            ⊎ Contains v.blocks (i / 256)) [
              | inl later ↦ inr later
              | inr this ↦ inl (hand i this
                  (waits_inside w.waiting i (subst (λ (bs : List Bool). Waits bs i) waiting h)))
            ]
      ];
  lists = λ b h. elim (cases_eq b block) as (λ _. Contains v.blocks b) [
    | inl same ↦ absurd (gone (subst (Waits v.listed) same h))
    | inr other ↦ elim (Contains-push_cases v.blocks block b
        (subst (λ (ks : List ℕ). Contains ks b) blocks (is.lists b (others b h)))) as (λ _. Contains v.blocks b) [
          | inl later ↦ later
          | inr this ↦ absurd (other (sym this))
        ]
  ];
  ordered = omega arith;
  within = (let l = ap length waiting in omega arith);
  room = (let r = is.room in let l = ap length waiting in let m = count in omega arith);
}
  where
    hand : (i : ℕ) → block ≡ i / 256 → i < length w.waiting → (v.at ≤ i) × (i < v.end)
    hand i this h = (omega arith, omega arith)
