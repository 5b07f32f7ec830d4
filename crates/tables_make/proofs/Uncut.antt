-- Archives that aren't cut yet have no further pieces, so that each piece of theirs is new.
use Rattle.std.proofs.Common.{◌≡◌, inl, inr, ℕ, ◌<◌, ◌≤◌, ◌+◌, List, [], ◌∷◌, String, Global, string_bytes, Bool, true}
use Rattle.std.proofs.Common.{false, cond, length, Some, None, Option, option_map, is_some, refl, sym, ap, subst, ◌∙◌}
use Rattle.std.proofs.Common.{arith}
use Rattle.std.specs.Prelude.{ℤ, pos, not, nat_lt}
use Rattle.std.specs.Ordering.{eq_by_cmp, is_eq}
use Rattle.std.specs.declared.cmp.Ordering.{Ordering}
use Rattle.std.specs.Cmp.{IsTotalOrder, Equal-is, tied_itself}
use Rattle.std.specs.Option.{option_or}
use Rattle.std.specs.FinMap as finite
use Rattle.std.proofs.lemmas.Bool.{cases_Bool, false≢true, le-ltb}
use Rattle.std.proofs.lemmas.List.{length-take}
use Rattle.std.proofs.lemmas.Option.{same_Some}
use Rattle.sqlite_value.specs.declared.value.Value.TheVariants.{Text, Blob}
use Rattle.sqlite_value.specs.Order.{Row}
use Rattle.sqlite.specs.Effect.{Database}
use Rattle.sqlite.specs.Values.{or_null}
use Rattle.paths.specs.Root.{bytes_cmp}
use Rattle.tables_schema.specs.Forms.{piece}
use Rattle.tables_schema.specs.Presence.{IsFree}
use Rattle.tables_sql.specs.Contents.{Bytes, Stored, Contents, contents_of, map_of, numbered_cmp, is_piece, piece_of}
use Rattle.tables_rows.specs.Entries.{text_or_null}
use Rattle.tables_sql.proofs.FurtherTables.{if_any_free}
use Rattle.tables_sql.proofs.Orders.{numbered_antisymmetric}
use Rattle.model.specs.World.{Path}
use Rattle.tables_world.specs.Pieces.{piece_size}
use Rattle.tables_make.specs.Cutting.{cut_object}
use Rattle.tables_make.specs.Migrating.{CutRows, CutRowsAt, IsUncut, LongRows}
use Rattle.tables_rows.specs.Reasons.{Rows, AreAmong, NoRow, RowsIfAny}
use Rattle.tables_rows.proofs.Reasons.{all_among, none_among, text_same}
use Rattle.tables_make.proofs.Rewritten.{cut_stored, one_object, one_piece, piece_at}

-- ---- one key

-- what was taken away isn't there
pub deleted : {K X : Type 0} {R : K → K → Ordering} → IsTotalOrder R → finite.IsAntisymmetric R
    → (m : finite.FinMap R X) (k : K) → finite.get (finite.retain_keys m (λ x. not (eq_by_cmp R x k))) k ≡ None
deleted {R = R} o same m k =
    finite.get-retain_keys m (λ x. not (eq_by_cmp R x k)) k (λ x e. ap (λ y. not (eq_by_cmp R y k)) (sym (same k x e)))
    ∙ ap (λ r. cond (not (is_eq r)) (finite.get m k) None) (tied_itself o k)

-- two numbers of one path
pub apart : (p : Bytes) (k n : ℕ) → n + 1 ≤ k → eq_by_cmp numbered_cmp (p, pos k) (p, pos n) ≡ false
apart p k n more = elim (cases_Bool (eq_by_cmp numbered_cmp (p, pos k) (p, pos n))) [
  | inl tied ↦ absurd (let same =
      numbered_antisymmetric (p, pos k) (p, pos n) ((Equal-is (numbered_cmp (p, pos k) (p, pos n))).0 tied) in
      let is : pos k ≡ pos n = ap (λ (x : Bytes × ℤ). x.1) same in let equal : k ≡ n = cc in
      omega (arith, equal, more))
  | inr other ↦ other
]

-- ---- archives that aren't cut

-- a table whose name is free holds nothing
pub no_pieces : (db : Database) → IsFree db.schema piece.name → (contents_of db).pieces ≡ finite.empty
unfolding map_of
no_pieces db free = ap (map_of numbered_cmp is_piece piece_of) (if_any_free db piece.name free)

pub none_cut : (c : Contents) → c.pieces ≡ finite.empty → IsUncut c
none_cut c none p o present long n =
    ap (λ (m : finite.FinMap numbered_cmp (List ℕ)). finite.get m (p, n)) none ∙ finite.get-empty numbered_cmp (p, n)

-- what is longer than a row takes once an object is cut is another, and as it was
module _ (p : Path) (c : Contents) where
  still : (q : Path) (o : Stored) → finite.get (cut_object p c).objects q ≡ Some o → piece_size < length o.nar
      → (eq_by_cmp bytes_cmp q p ≡ false) × (finite.get c.objects q ≡ Some o)
  still q o present long =
      by (eq_by_cmp bytes_cmp q p) (finite.get c.objects q) refl refl (sym (one_object p q c) ∙ present)
    where
      by : (b : Bool) (g : Option Stored) → eq_by_cmp bytes_cmp q p ≡ b → finite.get c.objects q ≡ g
          → cond (eq_by_cmp bytes_cmp q p) (option_map cut_stored (finite.get c.objects q)) (finite.get c.objects q)
          ≡ Some o
          → (eq_by_cmp bytes_cmp q p ≡ false) × (finite.get c.objects q ≡ Some o)
      by false g other found is = (
        other,
        sym (ap (λ b. cond b (option_map cut_stored (finite.get c.objects q)) (finite.get c.objects q)) other)
            ∙ is,
      )
      by true None same found is =
          absurd (false≢true (ap is_some
          (sym (ap (λ b. cond b (option_map cut_stored (finite.get c.objects q)) (finite.get c.objects q)) same
          ∙ ap (option_map cut_stored) found) ∙ is)))
      by true (Some x) same found is =
          let cut : cut_stored x ≡ o =
          same_Some (cut_stored x) o (sym
          (ap (λ b. cond b (option_map cut_stored (finite.get c.objects q)) (finite.get c.objects q)) same
          ∙ ap (option_map cut_stored) found) ∙ is) in
          absurd (omega (arith, ap (λ (y : Stored). length y.nar) cut, length-take piece_size x.nar, long))

  pub uncut_next : IsUncut c → IsUncut (cut_object p c)
  uncut_next h q o present long n =
      let is = still q o present long in
      one_piece p q n c ∙ ap (λ b. cond b (option_or (piece_at n (finite.get c.objects q)) (finite.get c.pieces (q, n)))
      (finite.get c.pieces (q, n))) is.0 ∙ h q o is.1 long n

  -- so no more rows are put then
  pub cut_among : (q : Path) → AreAmong (CutRowsAt (cut_object p c) q) (CutRowsAt c q)
  cut_among q =
      subst (λ o. AreAmong (RowsIfAny (LongRows q) o) (CutRowsAt c q)) (sym (one_object p q c))
      (by (eq_by_cmp bytes_cmp q p) (finite.get c.objects q))
    where
      by : (b : Bool) (g : Option Stored)
          → AreAmong (RowsIfAny (LongRows q) (cond b (option_map cut_stored g) g)) (RowsIfAny (LongRows q) g)
      by false g = all_among (RowsIfAny (LongRows q) g)
      by true None = all_among NoRow
      by true (Some o) =
          let short : nat_lt piece_size (length (cut_stored o).nar) ≡ false =
          le-ltb piece_size (length (cut_stored o).nar) (omega (arith, length-take piece_size o.nar)) in
          subst (λ b. AreAmong (cond b (CutRows q (cut_stored o)) NoRow) (LongRows q o)) (sym short)
          (none_among (LongRows q o))

-- the rows of an object that is there
pub rows_found : (P : Rows → Type 0) (c : Contents) (p q : Path) (o : Stored) → q ≡ p → finite.get c.objects p ≡ Some o
    → P (LongRows q o) → P (CutRowsAt c p)
rows_found P c p q o named present h =
    subst (λ g. P (RowsIfAny (LongRows p) g)) (sym present) (subst (λ x. P (LongRows x o)) named h)

-- an object's row, in other words
pub row_is : {base p front first digest hash : Bytes} → base ≡ p → front ≡ first → digest ≡ hash
    → (deriver ca : Option (String Global))
    → ◌≡◌ {A = Row} (Text base ∷ Blob front ∷ Blob digest ∷ text_or_null deriver ∷ text_or_null ca ∷ [])
    (Text p ∷ Blob first ∷ Blob hash ∷ or_null Text (option_map string_bytes deriver)
    ∷ or_null Text (option_map string_bytes ca) ∷ [])
row_is named begins same deriver ca =
    λ i. Text (named i) ∷ Blob (begins i) ∷ Blob (same i) ∷ text_same deriver i ∷ text_same ca i ∷ []
