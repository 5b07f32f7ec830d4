-- Archives that aren't cut the right way aren't sound.
use Rattle.std.proofs.Common.{◌≡◌, ℕ, ◌+◌, ◌≤◌, List, [], ◌∷◌, length, Bool, true, false, Some, refl, sym, ap, subst}
use Rattle.std.proofs.Common.{◌∙◌, arith, IsTrue, inl, inr}
use Rattle.std.specs.Prelude.{ℤ, pos, ◌<ℤ◌, is_some}
use Rattle.std.specs.Ordering.{int_cmp}
use Rattle.std.specs.FinMap as finite
use Rattle.std.specs.FinMap.Entries.{find as find_entry}
use Rattle.std.proofs.lemmas.Bool.{false≢true, cases_eq}
use Rattle.std.proofs.lemmas.Int.{ints}
use Rattle.std.proofs.lemmas.Option.{same_Some}
use Rattle.tables_sql.specs.Contents.{Contents, Stored}
use Rattle.model.specs.World.{Path}
use Rattle.tables_world.specs.Pieces.{piece_size, GoOn, IsCut}
use Rattle.tables_world.specs.Rows.{pieces_in}
use Rattle.tables_schema.specs.declared.schema.Schema.{Schema}
use Rattle.tables_schema.specs.Schemas.{has_pieces}
use Rattle.tables_world.specs.Worlds.{rows_of, IsSoundBy}
use Rattle.laws.specs.FaultyPieces.{ExcludesFaultyPieces, FaultyCutsAreUnsound}
use Rattle.tables_world.proofs.Cuts.{size}
use Rattle.laws.proofs.FaultyRows.{no_key, at_prefix, past_prefix}
use Rattle.laws.proofs.Schemas.{pieces_count_from_one}
use Rattle.tables_world.proofs.SoundParts.{some_key}
use Rattle.tables_world.proofs.Reported.{get-piece}

-- ---- pieces that go on after a part

at_most : (part : List ℕ) (k : ℕ) (es : List (ℤ × List ℕ)) → GoOn part k es → length part ≤ piece_size
at_most part k [] g = g
at_most part k (e ∷ es) g = omega (arith, g.0)

full : (part : List ℕ) (k m : ℕ) (es : List (ℤ × List ℕ)) → GoOn part k es
    → IsTrue (is_some (find_entry int_cmp (pos m) es)) → length part ≡ piece_size
full part k m [] g h = absurd (false≢true h)
full part k m (e ∷ es) g h = g.0

-- what is at a number: a byte or more, at most 65,536, and all of these where another follows
record IsSized (m : ℕ) (piece : List ℕ) (es : List (ℤ × List ℕ)) : Type 0 where
  some : 1 ≤ length piece
  most : length piece ≤ piece_size
  all : IsTrue (is_some (find_entry int_cmp (pos (m + 1)) es)) → length piece ≡ piece_size

sized : (part : List ℕ) (k : ℕ) (es : List (ℤ × List ℕ)) → GoOn part k es → (m : ℕ) (piece : List ℕ) → k ≤ m
    → find_entry int_cmp (pos m) es ≡ Some piece → IsSized m piece es
sized part k [] g m piece le e = absurd (false≢true (ap is_some e))
sized part k (x ∷ xs) g m piece le e = elim (cases_eq m k) as (λ _. IsSized m piece (x ∷ xs)) [
  | inl is ↦
      let here : x.1 ≡ piece = same_Some x.1 piece (sym (at_prefix m x xs (g.1 ∙ ap pos (sym is))) ∙ e) in
      subst (λ b. IsSized m b (x ∷ xs)) here (record {
        some = g.2;
        most = at_most x.1 (k + 1) xs g.3;
        all =
            λ h. full x.1 (k + 1) (m + 1) xs g.3
            (sym (ap is_some (past_prefix (m + 1) k x xs g.1 (λ n. omega arith))) ∙ h);
      })
  | inr apart ↦
      let s = sized x.1 (k + 1) xs g.3 m piece (omega arith) (sym (past_prefix m k x xs g.1 apart) ∙ e) in
      record {
        some = s.some;
        most = s.most;
        all = λ h. s.all (sym (ap is_some (past_prefix (m + 1) k x xs g.1 (λ n. omega arith))) ∙ h);
      }
]

no_gap : (part : List ℕ) (k : ℕ) (es : List (ℤ × List ℕ)) → GoOn part k es → (m : ℕ) → k ≤ m
    → IsTrue (is_some (find_entry int_cmp (pos (m + 1)) es)) → IsTrue (is_some (find_entry int_cmp (pos m) es))
no_gap part k [] g m le h = h
no_gap part k (x ∷ xs) g m le h = elim (cases_eq m k) as (λ _. IsTrue (is_some (find_entry int_cmp (pos m) (x ∷ xs)))) [
  | inl is ↦ ap is_some (at_prefix m x xs (g.1 ∙ ap pos (sym is)))
  | inr apart ↦
      ap is_some (past_prefix m k x xs g.1 apart)
      ∙ no_gap x.1 (k + 1) xs g.3 m (omega arith)
      (sym (ap is_some (past_prefix (m + 1) k x xs g.1 (λ n. omega arith))) ∙ h)
]

-- ---- the pieces of a path

module _ (schema : Schema) (dir : List ℕ) (c : Contents) (sound : IsSoundBy schema dir c) (p : Path) where
  in_list : (n : ℤ) → find_entry int_cmp n (finite.entries (pieces_in (rows_of c) p)) ≡ finite.get c.pieces (p, n)
  in_list n = sym (finite.get-entries (pieces_in (rows_of c) p) n) ∙ get-piece c p n

  has_table : (n : ℤ) → IsTrue (finite.contains_key c.pieces (p, n)) → (b : Bool) → has_pieces schema ≡ b
      → IsTrue (has_pieces schema)
  has_table n present true f = f
  has_table n present false f =
      absurd (no_key (ap (λ m. finite.get m (p, n)) (sound.no_pieces f) ∙ finite.get-empty _ (p, n)) present)

  object_of : (n : ℤ) → IsTrue (finite.contains_key c.pieces (p, n)) → (o : Stored) × (finite.get c.objects p ≡ Some o)
  object_of n present = some_key (finite.get c.objects p) (sound.pieces p n present)

  cut_of : (n : ℤ) → IsTrue (finite.contains_key c.pieces (p, n))
      → (o : Stored) × IsCut o.nar (finite.entries (pieces_in (rows_of c) p))
  cut_of n present = let o =
      object_of n present in (o.0, sound.cut (has_table n present (has_pieces schema) refl) p o.0 o.1)

  numbered : (n : ℤ) → IsTrue (finite.contains_key c.pieces (p, n)) → (m : ℕ) × (n ≡ pos m) × (1 ≤ m)
  numbered n present = pieces_count_from_one schema dir (rows_of c) sound p n present

  piece_sized : (m : ℕ) (piece : List ℕ) → 1 ≤ m → finite.get c.pieces (p, pos m) ≡ Some piece
      → IsSized m piece (finite.entries (pieces_in (rows_of c) p))
  piece_sized m piece le e = let o =
      cut_of (pos m) (ap is_some e) in
      sized o.0.nar 1 (finite.entries (pieces_in (rows_of c) p)) o.1 m piece le (in_list (pos m) ∙ e)

  some_sized : (n : ℤ) (piece : List ℕ) → finite.get c.pieces (p, n) ≡ Some piece
      → (m : ℕ) × (n ≡ pos m) × IsSized m piece (finite.entries (pieces_in (rows_of c) p))
  some_sized n piece e =
      let m = numbered n (ap is_some e) in
      (m.0, m.1, piece_sized m.0 piece m.2 (ap (λ z. finite.get c.pieces (p, z)) (sym m.1) ∙ e))

pub pieces_exclude : (c : Contents) (p : Path) → ExcludesFaultyPieces c p
pieces_exclude c p = record {
  of_no_object = λ n present none dir schema sound. no_key none (sound.pieces p n present);
  below_1 = λ n present low dir schema sound.
      let m = numbered schema dir c sound p n present in
      let less : pos m.0 <ℤ pos 1 = subst (λ z. z <ℤ pos 1) m.1 low in
      omega (arith, ints, less, m.2);
  gap = λ n le none present dir schema sound.
      let o = cut_of schema dir c sound p (pos (n + 1)) present in
      no_key none (sym (ap is_some (in_list schema dir c sound p (pos n)))
      ∙ no_gap o.0.nar 1 (finite.entries (pieces_in (rows_of c) p)) o.1 n le
      (ap is_some (in_list schema dir c sound p (pos (n + 1))) ∙ present));
  empty = λ n e dir schema sound. let s = some_sized schema dir c sound p n [] e in let one = s.2.some in omega arith;
  too_long = λ n piece e more dir schema sound. let s =
      some_sized schema dir c sound p n piece e in omega (arith, s.2.most, size, more);
  short_before_another = λ n piece e next short dir schema sound.
      let s = some_sized schema dir c sound p (pos n) piece e in
      let number : n ≡ s.0 = cc in
      short (s.2.all (ap is_some (in_list schema dir c sound p (pos (s.0 + 1))
      ∙ ap (λ m. finite.get c.pieces (p, pos (m + 1))) (sym number)) ∙ next) ∙ size);
}

-- ---- the row of an object

pub faulty_cuts : FaultyCutsAreUnsound
faulty_cuts c p o row = record {
  too_long = λ more dir. (
    (λ sound. let most = at_most o.nar 1 (finite.entries (pieces_in (rows_of c) p)) (sound.cut refl p o row) in
        omega (arith, most, size, more)),
    (λ sound. let most = at_most o.nar 1 (finite.entries (pieces_in (rows_of c) p)) (sound.cut refl p o row) in
        omega (arith, most, size, more)),
  );
  short_before_a_piece = λ present short dir schema sound.
      let cut = sound.cut (has_table schema dir c sound p (pos 1) present (has_pieces schema) refl) p o row in
      short (full o.nar 1 1 (finite.entries (pieces_in (rows_of c) p)) cut
      (ap is_some (in_list schema dir c sound p (pos 1)) ∙ present) ∙ size);
}
