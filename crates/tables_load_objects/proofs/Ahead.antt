-- Rows that were read ahead: each is the object of its path.
use Rattle.std.proofs.Common.{◌≡◌, List, [], ◌∷◌, ◌++◌, map, Bool, true, false, cond, Some, None, Option, is_some, sym}
use Rattle.std.proofs.Common.{ap, subst, ◌∙◌, string_bytes, option_to_list}
use Rattle.std.specs.Prelude.{IfSome}
use Rattle.std.specs.FinMap as finite
use Rattle.std.specs.List.{AllByRecursion}
use Rattle.std.proofs.lemmas.Bool.{false≢true}
use Rattle.tables_sql.specs.Contents.{Bytes, Contents, Stored}
use Rattle.tables_rows.specs.declared.objects.Object.{Object}
use Rattle.tables_rows.specs.Entries.{IsStored, stored_of}
use Rattle.tables_sql.proofs.Orders.{texts_total, texts_antisymmetric}
use Rattle.tables_outline.proofs.Puts.{get-kept}
use Rattle.tables_load_objects.specs.Rows.{AreStored}
use Rattle.tables_load_objects.proofs.EachEntry.{each_entry}

module _ (c : Contents) where
  abbrev IsOne : Bytes × Stored → Type 0
  IsOne e = finite.get c.objects e.0 ≡ Some e.1

  kept_one : (test : Bytes → Bool) (k : Bytes) (x : Stored) → finite.get (finite.retain_keys c.objects test) k ≡ Some x
      → finite.get c.objects k ≡ Some x
  kept_one test k x found = by (test k) (sym (get-kept texts_total texts_antisymmetric c.objects test k) ∙ found)
    where
      by : (b : Bool) → cond b (finite.get c.objects k) None ≡ Some x → finite.get c.objects k ≡ Some x
      by true h = h
      by false h = absurd (false≢true (ap is_some h))

  of_mapped : (all : List Object) → AllByRecursion IsOne (map stored_of all) → AreStored c all
  of_mapped [] h = tt
  of_mapped (o ∷ os) h = (h.0, of_mapped os h.1)

  -- so are those of some paths
  pub stored_all : (test : Bytes → Bool) (all : List Object)
      → map stored_of all ≡ finite.entries (finite.retain_keys c.objects test) → AreStored c all
  stored_all test all read =
      of_mapped all (subst (AllByRecursion IsOne) (sym read)
      (each_entry texts_total texts_antisymmetric IsOne (finite.retain_keys c.objects test) (kept_one test)))

  later : (first : Option Object) (rest : List Object) → AreStored c (option_to_list first ++ rest) → AreStored c rest
  later None rest h = h
  later (Some o) rest h = h.1

  -- and the others, where the first is taken
  pub rest_stored : (all : List Object) (first : Option Object) (rest : List Object)
      → all ≡ option_to_list first ++ rest → AreStored c all → AreStored c rest
  rest_stored all first rest is h = later first rest (subst (AreStored c) is h)

  -- and the first
  pub first_stored : (all : List Object) (first : Option Object) (rest : List Object) (o : Object) → first ≡ Some o
      → all ≡ option_to_list first ++ rest → AreStored c all
      → finite.get c.objects (string_bytes o.base) ≡ Some (stored_of o).1
  first_stored all first rest o is split h =
      (subst (λ (p : Option Object). AreStored c (option_to_list p ++ rest)) is (subst (AreStored c) split h)).0

  pub found_so : (base : Bytes) (found : Option Object) (o : Object) → found ≡ Some o
      → IfSome found (λ p. (string_bytes p.base ≡ base) × (finite.get c.objects base ≡ Some (stored_of p).1))
      → IsStored c.objects base (Some o)
  found_so base found o is h =
      subst (λ (p : Option Object). IfSome p
      (λ q. (string_bytes q.base ≡ base) × (finite.get c.objects base ≡ Some (stored_of q).1))) is h
