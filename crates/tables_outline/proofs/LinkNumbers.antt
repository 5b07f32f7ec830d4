-- Links as the entries of a graph, by numbers.
use Rattle.std.proofs.Common.{◌≡◌, ℕ, zero, suc, ◌+◌, ◌<◌, ◌≤◌, ◌==◌, Bool, true, false, cond, List, [], ◌++◌, length}
use Rattle.std.proofs.Common.{replicate, Option, Some, None, is_some, refl, sym, ap, ◌∙◌, subst, inl, inr, arith}
use Rattle.std.proofs.Common.{IsTrue}
use Rattle.std.specs.Prelude.{Contains, if◌then◌else◌}
use Rattle.std.specs.FinMap as finite
use Rattle.std.proofs.lemmas.Bool.{cases_eq, cases_lt, eq-eqb, eqb-true, ne_eqb, false≢true}
use Rattle.std.proofs.lemmas.List.{get_or_past}
use Rattle.std.proofs.lemmas.List.Elements.{Contains-append_left, Contains-append_right, Contains-append_cases}
use Rattle.std.proofs.lemmas.List.FromFn.{get_or-map-range_with_len, length-map-range_with_len}
use Rattle.std.proofs.lemmas.List.Sums.{sum_by-cons}
use Rattle.live.specs.Graph.{Graph, IsEdge, Keep, Links, Path, deriver, holds, is_valid, listed, output, reference}
use Rattle.live.specs.Graph.{same}
use Rattle.live.specs.Numbering.{place_of}
use Rattle.live.specs.Places.{AllInside, Entries, counting, entries_at, held, no_entries}
use Rattle.live.specs.Reaching.{AreNumbers}
use Rattle.live.specs.Sources.{AreSources, times_among}
use Rattle.live.proofs.Members.{any_from, at_head, cases, no_member, some_of_any}
use Rattle.live.proofs.Reach.{same_is, same_itself}
use Rattle.live.proofs.References.{counted_in, in_counted}
use Rattle.live.proofs.Times.{never, times_append}
use Rattle.tables_outline.specs.Links.{AreInside, AreLinksOf, AreSound, LinksValue, all_entries, entries_of, flag_of}
use Rattle.tables_outline.specs.Links.{is_linked, links_found, lists_both, sources_of, targets_below}
use Rattle.tables_outline.specs.LinkLists.{flag_at, has, list_at}
use Rattle.tables_outline.specs.LinkNames.{AreDistinct, name_at}
use Rattle.tables_outline.proofs.Named.{numbered}

-- ---- how often a number is among the targets of a source

times_replicated : (k i b : ℕ) → times_among (replicate k i) b ≡ cond (i == b) k 0
times_replicated zero i b = by (i == b)
  where
    by : (c : Bool) → ◌≡◌ {A = ℕ} 0 (cond c 0 0)
    by true = refl
    by false = refl
times_replicated (suc k) i b =
    let rest = times_replicated k i b in
    let more = sum_by-cons (λ (y : ℕ). cond (y == b) 1 0) i (replicate k i) in
    by (i == b) (more ∙ ap (λ n. cond (i == b) 1 0 + n) rest)
  where
    by : (c : Bool) → times_among (replicate (suc k) i) b ≡ cond c 1 0 + cond c k 0
        → times_among (replicate (suc k) i) b ≡ cond c (suc k) 0
    by true e = (let one : 1 + k ≡ suc k = omega arith in e ∙ one)
    by false e = e

module _ (flags : List Bool) (lists : List (List ℕ)) (a : ℕ) where
  times_step : (n b : ℕ) → times_among (targets_below flags lists a (suc n)) b
      ≡ times_among (targets_below flags lists a n) b + cond (n == b) (times_among (sources_of flags lists n) a) 0
  times_step n b =
      times_append (targets_below flags lists a n) (replicate (times_among (sources_of flags lists n) a) n) b
      ∙ ap (λ k. times_among (targets_below flags lists a n) b + k)
      (times_replicated (times_among (sources_of flags lists n) a) n b)

  times_beyond : (n b : ℕ) → n ≤ b → times_among (targets_below flags lists a n) b ≡ 0
  times_beyond zero b past = refl
  times_beyond (suc n) b past =
      let rest = times_beyond n b (omega arith) in
      let absent =
      ap (λ c. cond c (times_among (sources_of flags lists n) a) 0) (ne_eqb n b (λ e. absurd (omega arith))) in
      let step = times_step n b in
      omega (arith, rest, absent, step)

  times_below : (n b : ℕ) → b < n
      → times_among (targets_below flags lists a n) b ≡ times_among (sources_of flags lists b) a
  times_below zero b below = absurd (omega arith)
  times_below (suc n) b below =
      elim (cases_eq n b) as (λ _. times_among (targets_below flags lists a (suc n)) b
      ≡ times_among (sources_of flags lists b) a) [
        | inl is ↦ (
            let rest = times_beyond n b (omega arith) in
            let yes = ap (λ c. cond c (times_among (sources_of flags lists n) a) 0) (eq-eqb n b is) in
            let same : times_among (sources_of flags lists n) a ≡ times_among (sources_of flags lists b) a =
            ap (λ j. times_among (sources_of flags lists j) a) is in
            let step = times_step n b in
            omega (arith, rest, yes, same, step))
        | inr other ↦ (
            let rest = times_below n b (omega arith) in
            let absent = ap (λ c. cond c (times_among (sources_of flags lists n) a) 0) (ne_eqb n b other) in
            let step = times_step n b in
            omega (arith, rest, absent, step))
      ]

  pub target_inside : (n b : ℕ) → Contains (targets_below flags lists a n) b → b < n
  target_inside n b c = elim (cases_lt b n) as (λ _. b < n) [
    | inl below ↦ below
    | inr past ↦ absurd (let none = times_beyond n b past in
        let some = in_counted b (targets_below flags lists a n) c in omega (arith, none, some))
  ]

  -- a target of a source lists it, and the other way round
  pub target_lists : (n b : ℕ) → Contains (targets_below flags lists a n) b → Contains (sources_of flags lists b) a
  target_lists n b c =
      let below = times_below n b (target_inside n b c) in
      let some = in_counted b (targets_below flags lists a n) c in
      counted_in a (sources_of flags lists b) (omega (arith, below, some))

  pub listed_target : (n b : ℕ) → b < n → Contains (sources_of flags lists b) a
      → Contains (targets_below flags lists a n) b
  listed_target n b below c =
      let same = times_below n b below in
      let some = in_counted a (sources_of flags lists b) c in
      counted_in b (targets_below flags lists a n) (omega (arith, same, some))

-- what is listed, where it counts
flagged_lists : (flags : List Bool) (lists : List (List ℕ)) (b a : ℕ) → Contains (sources_of flags lists b) a
    → (flag_at flags b ≡ true) × Contains (list_at lists b) a
flagged_lists flags lists b a c = by (flag_at flags b) refl c
  where
    by : (f : Bool) → flag_at flags b ≡ f → Contains (if f then list_at lists b else []) a
        → (flag_at flags b ≡ true) × Contains (list_at lists b) a
    by true e d = (e, d)
    by false e d = absurd (no_member a d)

lists_flagged : (flags : List Bool) (lists : List (List ℕ)) (b a : ℕ) → flag_at flags b ≡ true
    → Contains (list_at lists b) a → Contains (sources_of flags lists b) a
lists_flagged flags lists b a e c = subst (λ f. Contains (if f then list_at lists b else []) a) (sym e) c

has_listed : (lists : List (List ℕ)) (b a : ℕ) → Contains (list_at lists b) a → has lists b a ≡ true
has_listed lists b a c = any_from (λ y. y == a) (list_at lists b) a c (eq-eqb a a refl)

listed_has : (lists : List (List ℕ)) (b a : ℕ) → has lists b a ≡ true → Contains (list_at lists b) a
listed_has lists b a e =
    let s = some_of_any (λ y. y == a) (list_at lists b) e in
    subst (λ y. Contains (list_at lists b) y) (eqb-true s.0 a s.2) s.1

module _ (l : LinksValue) where
  pub count : length (all_entries l) ≡ length l.names
  count = length-map-range_with_len (entries_of l) 0 (length l.names)

  pub entries_is : (a : ℕ) → a < length l.names → entries_at (all_entries l) a ≡ entries_of l a
  entries_is a h = get_or-map-range_with_len (entries_of l) 0 (length l.names) a a no_entries h (omega arith)

  no_entries_at : (a : ℕ) → length l.names ≤ a → entries_at (all_entries l) a ≡ no_entries
  no_entries_at a past = get_or_past (all_entries l) a no_entries (let n = count in omega (arith, n, past))

  -- ---- sources

  module _ (lists : List (List ℕ)) (inside : AreInside (length l.names) lists) (kind : Entries → List ℕ)
      (none : kind no_entries ≡ [])
      (are : (a : ℕ) → kind (entries_of l a) ≡ targets_below l.held lists a (length l.names)) where
    pub sources_are : (place : ℕ) → place < length (all_entries l)
        → AreSources (all_entries l) kind place (sources_of l.held lists place)
    sources_are place below = record {
      each =
          λ a. elim (cases_lt a (length l.names)) as (λ _. times_among (sources_of l.held lists place) a
          ≡ times_among (kind (entries_at (all_entries l) a)) place) [
            | inl h ↦
                sym (ap (λ e. times_among (kind e) place) (entries_is a h) ∙ ap (λ xs. times_among xs place) (are a)
                ∙ times_below l.held lists a (length l.names) place (let n = count in omega (arith, n, below)))
            | inr past ↦
                never (sources_of l.held lists place) a (λ c. (
                let listed = flagged_lists l.held lists place a c in
                let it = inside.each place a (has_listed lists place a listed.1) in
                let x = it.1 in
                absurd (omega (arith, x, past))))
                ∙ sym (ap (λ e. times_among (kind e) place) (no_entries_at a past)
                ∙ ap (λ xs. times_among xs place) none)
          ];
    }

  pub all_inside : AllInside (all_entries l)
  all_inside a b c = elim (cases_lt a (length l.names)) as (λ _. b < length (all_entries l)) [
    | inl h ↦ (let below = parts (subst (λ e. Contains (held e) b) (entries_is a h) c) in let n = count in
        omega (arith, n, below))
    | inr past ↦ absurd (no_member b (subst (λ e. Contains (held e) b) (no_entries_at a past) c))
  ]
    where
      n : ℕ
      n = length l.names

      parts : Contains (held (entries_of l a)) b → b < length l.names
      parts d =
          elim (Contains-append_cases (targets_below l.held l.references a n ++ targets_below l.held l.outputs a n)
          (targets_below l.held l.derivers a n) b d) as (λ _. b < length l.names) [
            | inl front ↦ elim (Contains-append_cases (targets_below l.held l.references a n)
                (targets_below l.held l.outputs a n) b front) as (λ _. b < length l.names) [
                  | inl r ↦ target_inside l.held l.references a n b r
                  | inr o ↦ target_inside l.held l.outputs a n b o
                ]
            | inr v ↦ target_inside l.held l.derivers a n b v
          ]

-- ---- numbers of a graph

where_on : (k : Bool) (xs : List ℕ) (b : ℕ) → Contains (if k then xs else []) b → IsTrue k × Contains xs b
where_on true xs b c = (refl, c)
where_on false xs b c = absurd (no_member b c)

on_where : (k : Bool) (xs : List ℕ) (b : ℕ) → IsTrue k → Contains xs b → Contains (if k then xs else []) b
on_where k xs b h c = subst (λ (j : Bool). Contains (if j then xs else []) b) (sym h) c

holds_in : (ps : List Path) (p : Path) → holds ps p ≡ true → Contains ps p
holds_in ps p e = (let s = some_of_any (same p) ps e in subst (λ q. Contains ps q) (sym (same_is p s.0 s.2)) s.1)

in_holds : (ps : List Path) (p : Path) → Contains ps p → holds ps p ≡ true
in_holds ps p c = any_from (same p) ps p c (same_itself p)

the_listed : (o : Option Path) (p : Path) → Contains (listed o) p → o ≡ Some p
the_listed None p c = absurd (no_member p c)
the_listed (Some q) p c =
    elim (cases q p [] c) as (λ _. Some q ≡ Some p) [ inl e ↦ ap Some e | inr nothing ↦ absurd (no_member p nothing) ]

module _ (l : LinksValue) (sound : AreSound l) (distinct : AreDistinct l.names) (g : Graph)
    (are : AreLinksOf (finite.get g) l) where
  abbrev n : ℕ
  n = length l.names

  abbrev name : ℕ → Path
  name i = name_at l.names i

  at : (i : ℕ) → i < n → place_of l.names (name i) ≡ Some i
  at = distinct.each

  -- a number of an object is flagged
  valid_flag : (b : ℕ) → b < n → flag_at l.held b ≡ is_some (finite.get g (name b))
  valid_flag b h = sym (ap (flag_of l.held) (at b h)) ∙ are.held (name b)

  number_of : (p : Path) (o : Option ℕ) → place_of l.names p ≡ o → flag_of l.held o ≡ true
      → (i : ℕ) × (i < length (all_entries l)) × (name i ≡ p)
  number_of p None e t = absurd (false≢true t)
  number_of p (Some i) e t =
      (let it = numbered l.names p i e in let c = count l in let below = it.0 in (i, omega (arith, c, below), it.1))

  -- an entry of a kind by its lists
  module _ (lists : List (List ℕ)) (kind : Links → List Path)
      (linked : (p q : Path) → is_linked l.names lists p q ≡ holds (kind (links_found (finite.get g p))) q)
      (empty : kind (links_found None) ≡ []) where
    has_kind : (a b : ℕ) → a < n → b < n → has lists b a ≡ holds (kind (links_found (finite.get g (name a)))) (name b)
    has_kind a b h k =
        sym (ap (λ o. lists_both lists o (place_of l.names (name a))) (at b k)
        ∙ ap (lists_both lists (Some b)) (at a h)) ∙ linked (name a) (name b)

    found_in : (o : Option Links) (q : Path) → holds (kind (links_found o)) q ≡ true
        → (x : Links) × (o ≡ Some x) × Contains (kind x) q
    found_in None q t =
        absurd (no_member q (subst (λ ps. Contains ps q) empty (holds_in (kind (links_found None)) q t)))
    found_in (Some x) q t = (x, refl, holds_in (kind x) q t)

    pub to_kind : (a b : ℕ) → a < n → Contains (targets_below l.held lists a n) b
        → (b < n) × IsTrue (is_valid g (name b))
        × ((x : Links) × (finite.get g (name a) ≡ Some x) × Contains (kind x) (name b))
    to_kind a b h c =
        let below = target_inside l.held lists a n b c in
        let there = flagged_lists l.held lists b a (target_lists l.held lists a n b c) in (
          below,
          sym (valid_flag b below) ∙ there.0,
          found_in (finite.get g (name a)) (name b) (sym (has_kind a b h below) ∙ has_listed lists b a there.1),
        )

    pub from_kind : (a b : ℕ) → a < n → b < n → IsTrue (is_valid g (name b)) → (x : Links)
        → finite.get g (name a) ≡ Some x → Contains (kind x) (name b) → Contains (targets_below l.held lists a n) b
    from_kind a b h k v x e c =
        listed_target l.held lists a n b k
        (lists_flagged l.held lists b a (valid_flag b k ∙ v)
        (listed_has lists b a (has_kind a b h k ∙ ap (λ o. holds (kind (links_found o)) (name b)) e
        ∙ in_holds (kind x) (name b) c)))

  abbrev references_of : Links → List Path
  references_of x = x.references

  abbrev outputs_of : Links → List Path
  outputs_of x = x.outputs

  abbrev deriver_of : Links → List Path
  deriver_of x = listed x.deriver

  small : (a : ℕ) → a < length (all_entries l) → a < n
  small a h = (let c = count l in omega (arith, c, h))

  large : (a : ℕ) → a < n → a < length (all_entries l)
  large a h = (let c = count l in omega (arith, c, h))

  to_edge : (keep : Keep) (a b : ℕ) → a < n → Contains (counting keep (entries_of l a)) b
      → (b < n) × IsEdge keep g (name a) (name b)
  to_edge keep a b h d =
      elim (Contains-append_cases (targets_below l.held l.references a n
      ++ (if keep.outputs then targets_below l.held l.outputs a n else []))
      (if keep.derivations then targets_below l.held l.derivers a n else []) b d)
      as (λ _. (b < n) × IsEdge keep g (name a) (name b)) [
        | inl front ↦ elim (Contains-append_cases (targets_below l.held l.references a n)
            (if keep.outputs then targets_below l.held l.outputs a n else []) b front) as (λ _. (b < n)
            × IsEdge keep g (name a) (name b)) [
              | inl r ↦ (let k = to_kind l.references references_of are.references refl a b h r in
                  (k.0, reference k.2.0 k.2.1 k.1 k.2.2))
              | inr o ↦ (let w = where_on keep.outputs (targets_below l.held l.outputs a n) b o in
                  let k = to_kind l.outputs outputs_of are.outputs refl a b h w.1 in
                  (k.0, output k.2.0 k.2.1 k.1 w.0 k.2.2))
            ]
        | inr v ↦ (let w = where_on keep.derivations (targets_below l.held l.derivers a n) b v in
            let k = to_kind l.derivers deriver_of are.derivers refl a b h w.1 in
            (k.0, deriver k.2.0 k.2.1 k.1 w.0 (the_listed k.2.0.deriver (name b) k.2.2)))
      ]

  from_edge : (keep : Keep) (a b : ℕ) → a < n → b < n → IsEdge keep g (name a) (name b)
      → Contains (counting keep (entries_of l a)) b
  from_edge keep a b h k e = parts e
    where
      refs : List ℕ
      refs = targets_below l.held l.references a n

      outs : List ℕ
      outs = if keep.outputs then targets_below l.held l.outputs a n else []

      ders : List ℕ
      ders = if keep.derivations then targets_below l.held l.derivers a n else []

      parts : IsEdge keep g (name a) (name b) → Contains (refs ++ outs ++ ders) b
      parts (reference x e v c) =
          Contains-append_left (refs ++ outs) ders b
          (Contains-append_left refs outs b (from_kind l.references references_of are.references refl a b h k v x e c))
      parts (output x e v o c) =
          Contains-append_left (refs ++ outs) ders b
          (Contains-append_right refs outs b
          (on_where keep.outputs (targets_below l.held l.outputs a n) b o
          (from_kind l.outputs outputs_of are.outputs refl a b h k v x e c)))
      parts (deriver x e v o c) =
          Contains-append_right (refs ++ outs) ders b
          (on_where keep.derivations (targets_below l.held l.derivers a n) b o
          (from_kind l.derivers deriver_of are.derivers refl a b h k v x e
          (subst (λ (y : Option Path). Contains (listed y) (name b)) (sym c) (at_head (name b) []))))

  pub are_numbers : AreNumbers g (all_entries l) (name_at l.names)
  are_numbers = record {
    all = λ p v. number_of p (place_of l.names p) refl (are.held p ∙ v);
    one =
        λ i j h k v e. (let is : Some i ≡ Some j =
        sym (at i (small i h)) ∙ ap (place_of l.names) e ∙ at j (small j k) in cc);
    edge =
        λ keep a b h c. (let x = to_edge keep a b (small a h)
        (subst (λ e. Contains (counting keep e) b) (entries_is l a (small a h)) c) in (large b x.0, x.1));
    entry =
        λ keep a b h k e. subst (λ e. Contains (counting keep e) b) (sym (entries_is l a (small a h)))
        (from_edge keep a b (small a h) (small b k) e);
  }
