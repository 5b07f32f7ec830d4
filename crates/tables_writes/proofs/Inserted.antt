-- What the rows of an object that is added make of the world.
use Rattle.std.proofs.Common.{◌≡◌, ℕ, List, [], ◌∷◌, ◌++◌, map, drop, Bool, true, false, ◌&&◌, ◌||◌, cond, Some, None}
use Rattle.std.proofs.Common.{Option, option_map, is_some, refl, sym, ap, ap₂, subst, subst₂, ◌∙◌, T, IsTrue}
use Rattle.std.specs.Prelude.{ℤ, IsSome}
use Rattle.std.specs.Ordering.{int_cmp}
use Rattle.std.specs.Cmp.{eq_by_cmp_equiv, int_cmp_total}
use Rattle.std.specs.List.{list_any}
use Rattle.std.specs.FinMap as finite
use Rattle.std.specs.FinMap.Entries.{find as find_entry, is_sorted, same_entries}
use Rattle.std.proofs.lemmas.Bool.{false≢true}
use Rattle.std.proofs.lemmas.Option.{same_Some}
use Rattle.sha2.specs.Sha256.{sha256}
use Rattle.paths.specs.Root.{bytes_cmp, set_of}
use Rattle.paths.specs.ContentAddress.{address_of}
use Rattle.tables_sql.specs.Contents.{Contents, Stored}
use Rattle.model.specs.World.{Path, Object, World}
use Rattle.model.specs.Sound.{IsSound}
use Rattle.tables_world.specs.Pieces.{piece_size, joined, IsCut, row_part, further_pieces}
use Rattle.tables_world.specs.Rows.{references_in, outputs_in, pieces_in, archive_in, object_in, address_in}
use Rattle.tables_world.specs.Worlds.{IsSoundContents, rows_of, world_in}
use Rattle.tables_outline.specs.Outline.{outlined, outline_of}
use Rattle.tables_writes.specs.Rewritten.{put_object}
use Rattle.tables_outline.proofs.Orders.{bytes_total, bytes_antisymmetric}
use Rattle.tables_outline.proofs.Puts.{tied_is}
use Rattle.tables_world.proofs.Cuts.{cut_right, cut_whole}
use Rattle.tables_world.proofs.Migrating.{rising}
use Rattle.tables_world.proofs.Reported.{get-reference, get-output, get-piece}
use Rattle.tables_writes.proofs.Parts.{same, either, get-put_references, get-put_outputs, get-put_pieces}
use Rattle.tables_outline.proofs.Reported.{get-reported, reported_insert}
use Rattle.tables_writes.proofs.AfterWrites.{Follows}

-- the object that rows with this archive, these references and these outputs show
abbrev pub object_of : List ℕ → Stored → List Path → List (List ℕ × Path) → Object
object_of nar o references outputs =
    record {
      nar = nar;
      references = set_of bytes_cmp references;
      deriver = o.deriver;
      ca = address_in o.ca;
      outputs = finite.from_entries outputs;
    }

-- rows that fit an object that is new, with this archive
pub record AreNew (p : Path) (nar : List ℕ) (o : Stored) (outputs : List (List ℕ × Path)) (c : Contents) : Type 0 where
  pub object : finite.get c.objects p ≡ None
  pub row : o.nar ≡ row_part nar
  pub hash : o.hash ≡ sha256 nar
  pub address : (text : List ℕ) → o.ca ≡ Some text → IsSome (address_of text)
  pub sorted : T (is_sorted bytes_cmp outputs)

none_of : {X : Type 0} (o : Option X) → (IsTrue (is_some o) → ⊥) → o ≡ None
none_of None h = refl
none_of (Some x) h = absurd (h refl)

or_none : {X : Type 0} (g : Option X) → either g None ≡ g
or_none None = refl
or_none (Some x) = refl

first_units : (rs : List Path) → map (λ (e : Path × Unit {0}). e.0)
    (map (λ (r : Path). let e : Path × Unit {0} = (r, tt) in e) rs) ≡ rs
first_units [] = refl
first_units (r ∷ rs) = ap (λ (l : List Path). r ∷ l) (first_units rs)

units_found : (r : Path) (rs : List Path)
    → find_entry bytes_cmp r (map (λ (x : Path). let e : Path × Unit {0} = (x, tt) in e) rs)
    ≡ cond (list_any (same r) rs) (Some tt) None
units_found r [] = refl
units_found r (x ∷ rs) = by (same r x) (units_found r rs)
  where
    by : (b : Bool) → find_entry bytes_cmp r (map (λ (x : Path). let e : Path × Unit {0} = (x, tt) in e) rs)
        ≡ cond (list_any (same r) rs) (Some tt) None
        → cond b (Some tt) (find_entry bytes_cmp r (map (λ (x : Path). let e : Path × Unit {0} = (x, tt) in e) rs))
        ≡ cond (b || list_any (same r) rs) (Some tt) None
    by true later = refl
    by false later = later

pub get-set_of : (rs : List Path) (r : Path)
    → finite.get (set_of bytes_cmp rs) r ≡ cond (list_any (same r) rs) (Some tt) None
get-set_of rs r =
    finite.get-from_entries bytes_total (map (λ (x : Path). let e : Path × Unit {0} = (x, tt) in e) rs) r
    ∙ units_found r rs

module _ (dir : List ℕ) (p : Path) (nar : List ℕ) (o : Stored) (rs : List Path) (es : List (List ℕ × Path))
    (c : Contents) (rows : IsSoundContents dir c) (new : AreNew p nar o es c) where
  abbrev after : Contents
  after = put_object p o rs es (further_pieces nar) c

  pub no_reference : (r : Path) → finite.get c.refs (p, r) ≡ None
  no_reference r =
      none_of (finite.get c.refs (p, r))
      (λ present. false≢true (ap is_some (sym new.object) ∙ rows.references p r present))

  pub no_output : (n : Path) → finite.get c.outs (p, n) ≡ None
  no_output n =
      none_of (finite.get c.outs (p, n))
      (λ present. false≢true (ap is_some (sym new.object) ∙ rows.outputs p n present))

  pub no_piece : (n : ℤ) → finite.get c.pieces (p, n) ≡ None
  no_piece n =
      none_of (finite.get c.pieces (p, n))
      (λ present. false≢true (ap is_some (sym new.object) ∙ rows.pieces p n present))

  -- a piece of a path, after it
  piece_after : (q : Path) (n : ℤ)
      → finite.get after.pieces (q, n)
      ≡ cond (same q p) (either (find_entry int_cmp n (further_pieces nar)) (finite.get c.pieces (q, n)))
      (finite.get c.pieces (q, n))
  piece_after = get-put_pieces p (further_pieces nar) c.pieces (rising nar 1 (drop piece_size nar))

  -- ---- of the path itself

  own_references : references_in (rows_of after) p ≡ set_of bytes_cmp rs
  own_references = finite.same_map bytes_total bytes_antisymmetric _ _ (λ r.
      get-reference after p r ∙ get-put_references p rs c.refs p r
      ∙ ap₂ (λ b g. cond (b && list_any (same r) rs) (Some tt) g) ((eq_by_cmp_equiv bytes_total).refl p)
      (no_reference r)
      ∙ sym (get-set_of rs r))

  own_outputs : outputs_in (rows_of after) p ≡ finite.from_entries es
  own_outputs = finite.same_map bytes_total bytes_antisymmetric _ _ (λ n.
      get-output after p n ∙ get-put_outputs p es c.outs new.sorted p n
      ∙ ap₂ (λ b g. cond b (either (find_entry bytes_cmp n es) g) g) ((eq_by_cmp_equiv bytes_total).refl p)
      (no_output n)
      ∙ or_none (find_entry bytes_cmp n es)
      ∙ sym (finite.get-from_entries bytes_total es n))

  own_pieces : finite.entries (pieces_in (rows_of after) p) ≡ further_pieces nar
  own_pieces =
      same_entries int_cmp int_cmp_total finite.int_cmp-IsAntisymmetric (finite.entries (pieces_in (rows_of after) p))
      (further_pieces nar) (finite.entries_sorted (pieces_in (rows_of after) p)) (rising nar 1 (drop piece_size nar))
      (λ n.
      sym (finite.get-entries (pieces_in (rows_of after) p) n) ∙ get-piece after p n ∙ piece_after p n
      ∙ ap₂ (λ b g. cond b (either (find_entry int_cmp n (further_pieces nar)) g) g)
      ((eq_by_cmp_equiv bytes_total).refl p) (no_piece n)
      ∙ or_none (find_entry int_cmp n (further_pieces nar)))

  own_archive : archive_in (rows_of after) p o ≡ nar
  own_archive = ap₂ (λ row pieces. row ++ joined pieces) new.row own_pieces ∙ cut_whole nar

  own_cut : IsCut o.nar (finite.entries (pieces_in (rows_of after) p))
  own_cut = subst₂ IsCut (sym new.row) (sym own_pieces) (cut_right nar)

  own : object_in (rows_of after) p o ≡ object_of nar o rs es
  own =
      λ i. record {
        nar = own_archive i;
        references = own_references i;
        deriver = o.deriver;
        ca = address_in o.ca;
        outputs = own_outputs i;
      }

  -- ---- of another path

  other_references : (q : Path) → same q p ≡ false → references_in (rows_of after) q ≡ references_in (rows_of c) q
  other_references q apart = finite.same_map bytes_total bytes_antisymmetric _ _ (λ r.
      get-reference after q r ∙ get-put_references p rs c.refs q r
      ∙ ap (λ b. cond (b && list_any (same r) rs) (Some tt) (finite.get c.refs (q, r))) apart
      ∙ sym (get-reference c q r))

  other_outputs : (q : Path) → same q p ≡ false → outputs_in (rows_of after) q ≡ outputs_in (rows_of c) q
  other_outputs q apart = finite.same_map bytes_total bytes_antisymmetric _ _ (λ n.
      get-output after q n ∙ get-put_outputs p es c.outs new.sorted q n
      ∙ ap (λ b. cond b (either (find_entry bytes_cmp n es) (finite.get c.outs (q, n))) (finite.get c.outs (q, n)))
      apart ∙ sym (get-output c q n))

  other_piece : (q : Path) → same q p ≡ false → (n : ℤ) → finite.get after.pieces (q, n) ≡ finite.get c.pieces (q, n)
  other_piece q apart n =
      piece_after q n ∙ ap (λ b. cond b
      (either (find_entry int_cmp n (further_pieces nar)) (finite.get c.pieces (q, n))) (finite.get c.pieces (q, n)))
      apart

  other_pieces : (q : Path) → same q p ≡ false → pieces_in (rows_of after) q ≡ pieces_in (rows_of c) q
  other_pieces q apart =
      finite.same_map int_cmp_total finite.int_cmp-IsAntisymmetric _ _
      (λ n. get-piece after q n ∙ other_piece q apart n ∙ sym (get-piece c q n))

  other_archive : (q : Path) → same q p ≡ false → (x : Stored)
      → archive_in (rows_of after) q x ≡ archive_in (rows_of c) q x
  other_archive q apart x = ap (λ m. x.nar ++ joined (finite.entries m)) (other_pieces q apart)

  other : (q : Path) → same q p ≡ false → (x : Stored) → object_in (rows_of after) q x ≡ object_in (rows_of c) q x
  other q apart x =
      λ i. record {
        nar = other_archive q apart x i;
        references = other_references q apart i;
        deriver = x.deriver;
        ca = address_in x.ca;
        outputs = other_outputs q apart i;
      }

  -- ---- the world

  pub with_object : World → World
  with_object w = record w { objects = finite.insert w.objects p (object_of nar o rs es) }

  objects_after : (world_in after).objects ≡ finite.insert (world_in c).objects p (object_of nar o rs es)
  objects_after = finite.same_map bytes_total bytes_antisymmetric _ _ (λ q.
      get-reported bytes_total bytes_antisymmetric (object_in (rows_of after)) (finite.insert c.objects p o) q
      ∙ ap (option_map (object_in (rows_of after) q)) (finite.get-insert bytes_total c.objects p o q)
      ∙ by q (same q p) refl (finite.get c.objects q)
      ∙ sym (finite.get-insert bytes_total (world_in c).objects p (object_of nar o rs es) q
      ∙ ap (cond (same q p) (Some (object_of nar o rs es)))
      (get-reported bytes_total bytes_antisymmetric (object_in (rows_of c)) c.objects q)))
    where
      each : (q : Path) → same q p ≡ false → (g : Option Stored)
          → option_map (object_in (rows_of after) q) g ≡ option_map (object_in (rows_of c) q) g
      each q apart None = refl
      each q apart (Some x) = ap Some (other q apart x)

      by : (q : Path) (b : Bool) → same q p ≡ b → (g : Option Stored)
          → option_map (object_in (rows_of after) q) (cond b (Some o) g)
          ≡ cond b (Some (object_of nar o rs es)) (option_map (object_in (rows_of c) q) g)
      by q true t g = ap (λ j. Some (object_in (rows_of after) j o)) (tied_is bytes_antisymmetric q p t) ∙ ap Some own
      by q false t g = each q t g

  world_after : world_in after ≡ record (world_in c) {
    objects =
        finite.insert (world_in c).objects p (object_of nar o rs es);
  }
  world_after = ap (λ m. record (world_in c) { objects = m }) objects_after

  -- ---- the rows

  stored_after : (q : Path) (x : Stored) → finite.get (finite.insert c.objects p o) q ≡ Some x
      → (P : Path → Stored → Type 0) → P p o → (same q p ≡ false → finite.get c.objects q ≡ Some x → P q x) → P q x
  stored_after q x e P mine foreign_rows = by (same q p) refl (sym (finite.get-insert bytes_total c.objects p o q) ∙ e)
    where
      by : (b : Bool) → same q p ≡ b → cond b (Some o) (finite.get c.objects q) ≡ Some x → P q x
      by true t h = subst₂ P (sym (tied_is bytes_antisymmetric q p t)) (same_Some o x h) mine
      by false t h = foreign_rows t h

  still_present : (q : Path) → (same q p ≡ false → IsTrue (finite.contains_key c.objects q))
      → IsTrue (finite.contains_key (finite.insert c.objects p o) q)
  still_present q h = ap is_some (finite.get-insert bytes_total c.objects p o q) ∙ by (same q p) refl
    where
      by : (b : Bool) → same q p ≡ b → is_some (cond b (Some o) (finite.get c.objects q)) ≡ true
      by true t = refl
      by false t = h t

  pub object_follows : Follows dir (put_object p o rs es (further_pieces nar))
      (λ (w : World). record w { objects = finite.insert w.objects p (object_of nar o rs es) }) c
  object_follows = record {
    world = world_after;
    sound = λ world. record {
      directory = rows.directory;
      settings_are = rows.settings_are;
      no_pieces = λ h. absurd (false≢true (sym h));
      no_temporary = rows.no_temporary;
      cut =
          λ h q x e. stored_after q x e (λ k y. IsCut y.nar (finite.entries (pieces_in (rows_of after) k))) own_cut
          (λ apart was.
          subst (λ m. IsCut x.nar (finite.entries m)) (sym (other_pieces q apart)) (rows.cut h q x was));
      address =
          λ q x text e ca. stored_after q x e (λ k y. y.ca ≡ Some text → IsSome (address_of text)) (new.address text)
          (λ apart was. rows.address q x text was) ca;
      hash =
          λ q x e. stored_after q x e (λ k y. y.hash ≡ sha256 (archive_in (rows_of after) k y))
          (new.hash ∙ ap sha256 (sym own_archive))
          (λ apart was. rows.hash q x was ∙ ap sha256 (sym (other_archive q apart x)));
      pieces =
          λ q n present. still_present q
          (λ apart. rows.pieces q n (ap is_some (sym (other_piece q apart n)) ∙ present));
      references = λ q r present. still_present q (λ apart. rows.references q r
          (ap is_some (sym (get-put_references p rs c.refs q r
          ∙ ap (λ b. cond (b && list_any (same r) rs) (Some tt) (finite.get c.refs (q, r))) apart))
          ∙ present));
      outputs = λ q n present. still_present q (λ apart. rows.outputs q n
          (ap is_some (sym (get-put_outputs p es c.outs new.sorted q n
          ∙ ap (λ b. cond b (either (find_entry bytes_cmp n es) (finite.get c.outs (q, n)))
          (finite.get c.outs (q, n))) apart)) ∙ present));
      generations = rows.generations;
      numbers = rows.numbers;
      current = rows.current;
      sessions = rows.sessions;
      world = subst (IsSound dir) (sym world_after) world;
    };
  }

-- the outline gains it
pub outline_follows : (p : Path) (o : Object) (w : World)
    → outline_of (record w { objects = finite.insert w.objects p o })
    ≡ record (outline_of w) { objects = finite.insert (outline_of w).objects p (outlined o) }
outline_follows p o w =
    ap (λ m. record (outline_of w) { objects = m })
    (reported_insert bytes_total bytes_antisymmetric (λ _ x. outlined x) w.objects p o)
