-- An object that is added to tables.
use Rattle.std.proofs.Common.{◌≡◌, ℕ, List, length, Some, None, Bool, Option, option_map, is_some, cond, refl}
use Rattle.std.proofs.Common.{sym, ap, ap₂, subst, ◌∙◌, arith, IsTrue, String, Global, string_bytes}
use Rattle.std.specs.Prelude.{IsSome}
use Rattle.std.specs.Cmp.{eq_by_cmp_equiv}
use Rattle.std.specs.FinMap as finite
use Rattle.std.proofs.lemmas.Bool.{false≢true}
use Rattle.sha2.specs.Sha256.{sha256}
use Rattle.sqlite_trees.specs.declared.store.Store.{Ghosts}
use Rattle.sqlite.specs.State.{HasCleanDisk}
use Rattle.sqlite.specs.Held.{state}
use Rattle.paths.specs.Root.{bytes_cmp, Set, set_of}
use Rattle.paths.specs.ContentAddress.{address_of}
use Rattle.tables_sql.specs.Contents.{Contents, Stored, contents_of}
use Rattle.tables_rows.specs.Entries.{stored}
use Rattle.model.specs.World.{Path, Object, World}
use Rattle.tables_world.specs.Pieces.{row_part, further_pieces}
use Rattle.tables_world.specs.Rows.{address_in, object_in}
use Rattle.tables_world.specs.Worlds.{rows_of, world_in}
use Rattle.tables_outline.specs.Outline.{OutlineValue, Outlined, outlined, outline_of, with_archive}
use Rattle.tables_outline.proofs.Orders.{bytes_total, bytes_antisymmetric}
use Rattle.tables_outline.proofs.Puts.{unput_put}
use Rattle.tables_outline.proofs.Reported.{get-reported}
use Rattle.tables_writes.specs.Rewritten.{HasNoObject, put_object}
use Rattle.tables_writes.specs.Entries.{with_archived}
use Rattle.tables_writes.specs.Writes.{StaysSound}
use Rattle.tables_rows.specs.Reasons.{AreAmong}
use Rattle.tables_rows.proofs.Reasons.{all_among}
use Rattle.tables_writes.specs.RowsPut.{AddedRows, ObjectRows, RowsWithAddress}
use Rattle.tables_writes.specs.TablesValue.{TablesValue, Agrees}
use Rattle.tables_writes.proofs.Inserted.{AreNew, object_of, object_follows, outline_follows, no_output, no_piece}
use Rattle.tables_writes.proofs.Inserted.{no_reference, get-set_of}
use Rattle.tables_writes.proofs.Parts.{same}
use Rattle.tables_writes.proofs.AfterWrites.{Follows, IsWrite}

some_unit : (o : Option (Unit {0})) → cond (is_some o) (Some tt) None ≡ o
some_unit None = refl
some_unit (Some x) = refl

-- the keys of a set make it
set_again : (m : Set bytes_cmp) → set_of bytes_cmp (finite.keys m) ≡ m
set_again m = finite.same_map bytes_total bytes_antisymmetric _ _ (λ q.
    get-set_of (finite.keys m) q ∙ ap (λ (b : Bool). cond b (Some tt) None) (sym (finite.contains_key-keys m q))
    ∙ some_unit (finite.get m q))

-- the entries of a map make it
map_again : (m : finite.FinMap bytes_cmp Path) → finite.from_entries (finite.entries m) ≡ m
map_again m =
    finite.same_map bytes_total bytes_antisymmetric _ _
    (λ q. finite.get-from_entries bytes_total (finite.entries m) q ∙ sym (finite.get-entries m q))

-- what is made of nothing is nothing
pub none_reported : {X Y : Type 0} (f : X → Y) (g : Option X) → option_map f g ≡ None → g ≡ None
none_reported f None h = refl
none_reported f (Some x) h = absurd (false≢true (ap is_some (sym h)))

-- an object that the outline hasn't is in no row
pub unstored : (c : Contents) (outline : OutlineValue) (p : Path) → outline_of (world_in c) ≡ outline
    → finite.get outline.objects p ≡ None → finite.get c.objects p ≡ None
unstored c outline p same none =
    none_reported (object_in (rows_of c) p) (finite.get c.objects p)
    (sym (get-reported bytes_total bytes_antisymmetric (object_in (rows_of c)) c.objects p)
    ∙ none_reported outlined (finite.get (world_in c).objects p)
    (sym (get-reported bytes_total bytes_antisymmetric (λ _ x. outlined x) (world_in c).objects p)
    ∙ ap (λ (o : OutlineValue). finite.get o.objects p) same ∙ none))

-- what is found at the path of an object that was put
pub found_put : (old put : OutlineValue) (path key : Path) (given : Outlined) (found : Option Outlined) → key ≡ path
    → put ≡ record old { objects = finite.insert old.objects key given } → found ≡ finite.get put.objects path
    → found ≡ Some given
found_put old put path key given found same is at =
    at ∙ ap (λ (o : OutlineValue). finite.get o.objects path) is
    ∙ ap (λ k. finite.get (finite.insert old.objects k given) path) same
    ∙ finite.get-insert bytes_total old.objects path given path
    ∙ ap (λ b. cond b (Some given) (finite.get old.objects path)) ((eq_by_cmp_equiv bytes_total).refl path)

-- one that was put is taken away again
pub object_undone : (old put undone : OutlineValue) (path key : Path) (given : Outlined) → key ≡ path
    → put ≡ record old { objects = finite.insert old.objects key given } → finite.get old.objects path ≡ None
    → undone ≡ record put { objects = finite.remove put.objects path } → undone ≡ old
object_undone old put undone path key given same is none back =
    back ∙ ap (λ (o : OutlineValue). record o { objects = finite.remove o.objects path })
    (is ∙ ap (λ k. record old { objects = finite.insert old.objects k given }) same)
    ∙ ap (λ m. record old { objects = m })
    (unput_put bytes_total bytes_antisymmetric old.objects path given None (sym none))

-- the rows of one that is added, in other words
pub object_rows : (nar : List ℕ) {base path : Path} {found given : Outlined} (deriver ca : Option (String Global))
    → base ≡ path → found ≡ given → option_map string_bytes deriver ≡ given.deriver
    → AreAmong (ObjectRows base (stored (row_part nar) found.hash deriver ca) (finite.keys found.references)
    (finite.entries found.outputs) (further_pieces nar))
    (RowsWithAddress path nar given (option_map string_bytes ca))
object_rows nar {base = base} {found = found} deriver ca at is same =
    let rows =
    ObjectRows base (stored (row_part nar) found.hash deriver ca) (finite.keys found.references)
    (finite.entries found.outputs) (further_pieces nar) in
    subst (λ (x : Type 0). x) (λ i. AreAmong rows
    (ObjectRows (at i) (record {
      nar = row_part nar;
      hash = (is i).hash;
      deriver = same i;
      ca = option_map string_bytes ca;
    }) (finite.keys (is i).references) (finite.entries (is i).outputs)
    (further_pieces nar))) (all_among rows)

-- and whichever text of the content address it is
pub address_among : (p : Path) (nar : List ℕ) (o : Outlined) (ca : Option (List ℕ)) → address_in ca ≡ o.ca
    → AreAmong (RowsWithAddress p nar o ca) (AddedRows p nar o)
address_among p nar o ca is = record { count = omega arith; has = λ t values h. (ca, is, h) }

module _ {S : Type 0} (g : Ghosts S) (k now : TablesValue S) (view : k ≡ now) (put : OutlineValue)
    (path key nar : List ℕ) (given found : Outlined) (deriver ca : Option (String Global))
    (agrees : Agrees g k)
    (new : finite.get now.outline.objects path ≡ None)
    (size : given.size ≡ length nar)
    (hash : given.hash ≡ sha256 nar)
    (deriver_is : option_map string_bytes deriver ≡ given.deriver)
    (ca_is : address_in (option_map string_bytes ca) ≡ given.ca)
    (address : (text : List ℕ) → option_map string_bytes ca ≡ Some text → IsSome (address_of text))
    (found_is : found ≡ given)
    (sound : StaysSound g now (with_archived path nar given))
  where
    abbrev row : Stored
    row = stored (row_part nar) found.hash deriver ca

    abbrev change : Contents → Contents
    change = put_object path row (finite.keys found.references) (finite.entries found.outputs) (further_pieces nar)

    abbrev object : Object
    object = with_archive nar given

    object_is : object_of nar row (finite.keys found.references) (finite.entries found.outputs) ≡ object
    object_is = λ i. record {
      nar = nar;
      references = (set_again found.references ∙ ap (λ (o : Outlined). o.references) found_is) i;
      deriver = deriver_is i;
      ca = ca_is i;
      outputs = (map_again found.outputs ∙ ap (λ (o : Outlined). o.outputs) found_is) i;
    }

    outlined_is : outlined object ≡ given
    outlined_is = ap₂ (λ s h. record given { size = s; hash = h }) (sym size) (sym hash)

    none : finite.get k.outline.objects path ≡ None
    none = ap (λ (n : TablesValue S). finite.get n.outline.objects path) view ∙ new

    are_new : HasCleanDisk (state g k.connection) → IsTrue (state g k.connection).is_open
        → AreNew path nar row (finite.entries found.outputs) (contents_of (state g k.connection).now)
    are_new clean is_open = record {
      object = unstored (contents_of (state g k.connection).now) k.outline path (agrees.rows clean is_open).same none;
      row = refl;
      hash = ap (λ (o : Outlined). o.hash) found_is ∙ hash;
      address = address;
      sorted = finite.entries_sorted found.outputs;
    }

    pub object_fits : HasCleanDisk (state g k.connection) → IsTrue (state g k.connection).is_open
        → HasNoObject path (contents_of (state g k.connection).now)
    object_fits clean is_open =
        let c = contents_of (state g k.connection).now in
        let rows = (agrees.rows clean is_open).sound in
        let new = are_new clean is_open in
        let rs = finite.keys found.references in
        let es = finite.entries found.outputs in
        record {
          object = new.object;
          references = no_reference k.dir path nar row rs es c rows new;
          outputs = no_output k.dir path nar row rs es c rows new;
          pieces = no_piece k.dir path nar row rs es c rows new;
        }

    follows : HasCleanDisk (state g k.connection) → IsTrue (state g k.connection).is_open
        → Follows k.dir change (λ (w : World). record w { objects = finite.insert w.objects path object })
        (contents_of (state g k.connection).now)
    follows clean is_open =
        let c = contents_of (state g k.connection).now in
        subst (λ (x : Object). Follows k.dir change
        (λ (w : World). record w { objects = finite.insert w.objects path x }) c) object_is
        (object_follows k.dir path nar row (finite.keys found.references) (finite.entries found.outputs) c
        (agrees.rows clean is_open).sound (are_new clean is_open))

    abbrev outline_with : OutlineValue → OutlineValue
    outline_with o = record o { objects = finite.insert o.objects path (outlined object) }

    law : (w : World) → outline_of (record w { objects = finite.insert w.objects path object })
        ≡ outline_with (outline_of w)
    law w = outline_follows path object w

    pub put_is : key ≡ path → put ≡ record k.outline { objects = finite.insert k.outline.objects key given }
        → put ≡ outline_with k.outline
    put_is same is =
        is ∙ ap₂ (λ p v. record k.outline { objects = finite.insert k.outline.objects p v }) same (sym outlined_is)

    pub object_write : IsWrite g k now change (with_archived path nar given) outline_with
    object_write = record { view = view; law = law; follows = follows; agrees = agrees; sound = sound }
