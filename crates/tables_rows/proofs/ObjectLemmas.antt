-- The table of objects, described once, and what the texts of its statements mean.
use Rattle.std.proofs.Common.{◌≡◌, ℕ, List, [], ◌∷◌, ◌++◌, inl, arith, vec_len, codes, true, ◌&&◌, Some, None, Option}
use Rattle.std.proofs.Common.{Vec, Global, String, map, length, refl, sym, subst}
use Rattle.std.specs.Prelude.{◌<◌, ◌↔◌, IsSome, IsUtf8, is_some}
use Rattle.std.specs.Option.{option_to_list}
use Rattle.sqlite_rules.proofs.ListLemmas.{has_right}
use Rattle.sqlite_rules.proofs.ProbeLemmas.{mapped_has}
use Rattle.sqlite_rules.specs.Lists.{Has}
use Rattle.std.specs.Ordering.{eq_by_cmp}
use Rattle.std.specs.List.{AllByRecursion}
use Rattle.std.specs.FinMap as finite
use Rattle.sqlite_value.specs.declared.value.Value.{Value}
use Rattle.sqlite_value.specs.declared.value.Value.TheVariants.{Null, Int, Real, Text, Blob}
use Rattle.sqlite_value.specs.Order.{bytes}
use Rattle.sqlite_tied.specs.Compute.{everything}
use Rattle.tables_rows.specs.declared.objects.Object.{Object}
use Rattle.tables_schema.specs.Forms.{object}
use Rattle.tables_sql.specs.Contents.{Bytes, Stored, texts_cmp, is_text, is_blob, is_object, object_of, text_if_any}
use Rattle.tables_sql.specs.Contents.{is_text_or_null}
use Rattle.tables_sql.specs.Queries.{IsSelect}
use Rattle.tables_rows.specs.Entries.{stored_of, ShowsObject, IsStored, stored, IsObjectRow}
use Rattle.tables_sql.proofs.Orders.{texts_total, texts_antisymmetric}
use Rattle.tables_sql.proofs.Truths.{cast_null}
use Rattle.tables_rows.proofs.Optional.{IsKept, given, kept_given, bound_given, read_given, option_fits}
use Rattle.tables_sql.proofs.Means.{insert_means}
use Rattle.tables_sql.proofs.Ordered.{Place, IsColumn}
use Rattle.tables_sql.proofs.ContentsLemmas.{object_set}
use Rattle.tables_sql.proofs.Typed.{base_is}
use Rattle.tables_sql.proofs.One.{one_is, none_is}
use Rattle.sqlite.specs.Values.{bound_value}
use Rattle.tables_sql.proofs.Parts.{added, selected, removed, said_one}
use Rattle.tables_sql.proofs.KeyOrders.{by_text}
use Rattle.tables_rows.proofs.Legible.{object_row}
use Rattle.tables_sql.proofs.FreeKeys.{agreed_one}
use Rattle.tables_sql.proofs.RowKinds.{object_kept}
use Rattle.tables_sql.proofs.OneOfNine.{one_of_nine}
use Rattle.tables_sql.proofs.Description.{Description, Inserts, Addition, Removal, Reading, Selection}
use Rattle.tables_sql.specs.Texts.{IsReadable}
use Rattle.sqlite_schema.specs.declared.schema.Kind.TheVariants as kind
use Rattle.sqlite_schema.specs.Rules.{is_of}
use Rattle.sqlite_typing.specs.Types.{class_of}

-- ---- the table

abbrev pub table : Description Bytes Stored
table =
    one_of_nine object texts_total texts_antisymmetric is_object object_of (λ c. c.objects)
    (λ c m. record c { objects = m })
    refl (λ db has. refl) (λ s has. has.1.0) (λ db of_store. of_store.keyed.1.0) object_kept object_set

-- ---- one more

abbrev pub insert_text : List ℕ
insert_text = codes "INSERT INTO object (base, nar, hash, deriver, ca) VALUES (?1, ?2, ?3, ?4, ?5)"

pub insert_is : Inserts table insert_text 5
unfolding everything
insert_is s at tree found = (
  _,
  insert_means insert_text refl s at (codes "object") object.columns object.primary tree _ found refl,
  refl,
  refl,
  refl,
  refl,
  refl,
)

-- a text that may be missing has a class, and is of the type of its column
has_class : (v : Value) → is_text_or_null v ≡ true → is_some (class_of v) ≡ true
has_class Null h = refl
has_class (Int n) h = refl
has_class (Real x) h = absurd (let e = h in cc)
has_class (Text t) h = refl
has_class (Blob b) h = refl

is_a_text : (v : Value) → is_text_or_null v ≡ true → is_of kind.Text v ≡ true
is_a_text Null h = refl
is_a_text (Int n) h = absurd (let e = h in cc)
is_a_text (Real x) h = absurd (let e = h in cc)
is_a_text (Text t) h = refl
is_a_text (Blob b) h = absurd (let e = h in cc)

addition_kept : (base nar hash : List ℕ) (deriver ca : Value) → IsKept deriver → IsKept ca
    → Addition table insert_text (Text base ∷ Blob nar ∷ Blob hash ∷ deriver ∷ ca ∷ [])
    (Text base ∷ Blob nar ∷ Blob hash ∷ deriver ∷ ca ∷ []) base
    (record { nar = nar; hash = hash; deriver = text_if_any deriver; ca = text_if_any ca })
addition_kept base nar hash deriver ca d c =
    added table insert_is (λ rows. rw (cast_null, d.cast_is, c.cast_is) refl) (
      rw (has_class deriver d.kind, has_class ca c.kind) refl,
      rw (is_a_text deriver d.kind, is_a_text ca c.kind) refl,
      λ id. (refl, rw (d.kind, c.kind) refl, refl),
    )
    (λ id r kind h. agreed_one (Text base) (Int id) (Blob nar ∷ Blob hash ∷ deriver ∷ ca ∷ []) r (base_is r kind) h)

pub addition : (base nar hash : List ℕ) (deriver ca : Option (String Global))
    → Addition table insert_text (Text base ∷ Blob nar ∷ Blob hash ∷ bound_value (given deriver)
    ∷ bound_value (given ca) ∷ []) (Text base ∷ Blob nar ∷ Blob hash ∷ given deriver ∷ given ca ∷ []) base
    (stored nar hash deriver ca)
addition base nar hash deriver ca =
    rw (bound_given deriver, bound_given ca, ← read_given deriver, ← read_given ca)
    (addition_kept base nar hash (given deriver) (given ca) (kept_given deriver) (kept_given ca))

-- its texts are UTF-8
pub readable : (base nar hash : List ℕ) (deriver ca : Option (String Global)) → IsUtf8 base
    → AllByRecursion IsReadable (Text base ∷ Blob nar ∷ Blob hash ∷ given deriver ∷ given ca ∷ [])
readable base nar hash deriver ca utf8 =
    (utf8, (tt, (tt, ((kept_given deriver).readable, ((kept_given ca).readable, tt)))))

-- ---- reading them

abbrev pub places : List Place
places = (codes "base", 0) ∷ (codes "nar", 1) ∷ (codes "hash", 2) ∷ (codes "deriver", 3) ∷ (codes "ca", 4) ∷ []

pub places_are : AllByRecursion (IsColumn object.name object.columns object.primary) places
unfolding everything
places_are = (
  (refl, (_, refl, refl, refl)),
  (
    (refl, (_, refl, refl, refl)),
    ((refl, (_, refl, refl, refl)), ((refl, (_, refl, refl, refl)), ((refl, (_, refl, refl, refl)), tt))),
  ),
)

abbrev pub reading : Reading table ShowsObject stored_of IsObjectRow
reading = record {
  shown = places;
  by = 1;
  fits =
      λ params filter tree r t h. (
        λ i. is_text (h.0 i) && is_blob (h.1 i) && is_blob (h.2 i)
            && (option_fits _ _ h.3).0 i && (option_fits _ _ h.4).0 i,
        λ i. (
          bytes (h.0 i),
          record {
            nar = bytes (h.1 i);
            hash = bytes (h.2 i);
            deriver = (option_fits _ _ h.3).1 i;
            ca = (option_fits _ _ h.4).1 i;
          },
        ),
      );
  legible = λ params filter tree. object_row;
  orders = λ params filter tree a b h k. by_text a b (base_is a h) (base_is b k);
}

abbrev pub of_text : List ℕ
of_text = codes "SELECT base, nar, hash, deriver, ca FROM object WHERE base = ?1 ORDER BY base"

pub of : (base : List ℕ) → Selection table reading of_text (Text base ∷ []) (λ k. eq_by_cmp texts_cmp k base)
unfolding everything
of base =
    selected table reading places_are refl of_text (Text base ∷ []) (
      (_, _, _, _, refl, refl, refl),
      refl,
      λ s at tree known. (rw (known.low, known.by_tree), rw (known.low, known.by_tree) refl),
    )
    (λ r kind. said_one (Text base) r (base_is r kind))

pub of_read : IsSelect of_text
of_read = (of []).reads

-- ---- those gone

abbrev pub delete_text : List ℕ
delete_text = codes "DELETE FROM object WHERE base = ?1"

pub removal : (base : List ℕ) → Removal table delete_text (Text base ∷ []) (λ k. eq_by_cmp texts_cmp k base)
unfolding everything
removal base =
    removed table places places_are refl delete_text (Text base ∷ []) (
      (_, _, _, _, refl, refl, refl),
      refl,
      λ s at tree known. (rw (known.low, known.by_tree), rw (known.low, known.by_tree) refl),
    )
    (λ r kind. said_one (Text base) r (base_is r kind))

-- ---- the one of a path

none_of : (objects : finite.FinMap texts_cmp Stored) (base : Bytes) (all : List Object)
    → map stored_of all ≡ finite.entries (finite.retain_keys objects (λ k. eq_by_cmp texts_cmp k base))
    → (0 < length all → ⊥) → finite.get objects base ≡ None
none_of objects base [] read none = none_is texts_total texts_antisymmetric objects base read
none_of objects base (x ∷ all) read none = absurd (none (omega arith))

-- the last of what a read of the path lists
pub last_is : (objects : finite.FinMap texts_cmp Stored) (base : Bytes) (all : Vec Object Global) (rest : List Object)
    (last : Option Object) → map stored_of all.items
    ≡ finite.entries (finite.retain_keys objects (λ k. eq_by_cmp texts_cmp k base))
    → all.items ≡ rest ++ option_to_list last → (IsSome last ↔ (0 < vec_len all)) → IsStored objects base last
last_is objects base all rest (Some x) read is some =
    let present : Has all.items x = subst (λ l. Has l x) (sym is) (has_right rest (x ∷ []) x (inl refl)) in
    one_is texts_total texts_antisymmetric objects base (stored_of x).0 (stored_of x).1
    (subst (λ l. Has l (stored_of x)) read (mapped_has stored_of all.items x present))
last_is objects base all rest None read is some =
    none_of objects base all.items read (λ more. absurd (let e = some.1 (omega (arith, all.ok.0, more)) in cc))
