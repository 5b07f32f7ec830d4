-- What is written is what a migration makes of the rows.
use Rattle.std.proofs.Common.{◌≡◌, ℕ, List, [], ◌∷◌, Bool, true, false, ◌||◌, cond, Some, None, Option, option_map}
use Rattle.std.proofs.Common.{is_some, codes, refl, sym, ap, ◌∙◌}
use Rattle.std.specs.Prelude.{ℤ}
use Rattle.std.specs.List.{list_any}
use Rattle.std.specs.Ordering.{eq_by_cmp, int_cmp}
use Rattle.std.specs.Option.{option_or}
use Rattle.std.specs.Cmp.{Equal-is}
use Rattle.std.specs.FinMap as finite
use Rattle.std.specs.FinMap.Entries.{find as find_entry}
use Rattle.std.proofs.lemmas.Bool.{false≢true}
use Rattle.paths.specs.Root.{bytes_cmp}
use Rattle.tables_sql.specs.Contents.{Stored, Contents, texts_cmp, numbered_cmp}
use Rattle.tables_sql.proofs.Orders.{texts_total, texts_antisymmetric, numbered_total, numbered_antisymmetric}
use Rattle.model.specs.World.{Path}
use Rattle.tables_world.specs.Pieces.{piece_size, row_part, further_pieces}
use Rattle.tables_world.specs.Rows.{settings, cut_row as cut_row_in, migrated}
use Rattle.tables_schema.specs.declared.schema.Schema.{Schema}
use Rattle.tables_schema.specs.declared.schema.Schema.TheVariants.{V1, V2, V3}
use Rattle.tables_schema.specs.Schemas.{schema_text}
use Rattle.tables_world.specs.Worlds.{rows_of, IsSoundBy}
use Rattle.tables_world.proofs.Migrating.{rising, or_none, piece_of, get-migrated_piece, get-migrated_row}
use Rattle.tables_world.proofs.Reported.{whole}
use Rattle.tables_make.specs.Cutting.{cut_found, cut_object, cut_objects, renumbered}
use Rattle.tables_make.specs.Migrated.{migrated_contents}
use Rattle.tables_make.proofs.Cuts.{used_once, none_further}
use Rattle.tables_make.proofs.Pieces.{get-put_pieces}
use lib.ListN.{drop}

tied_is : (q p : Path) → eq_by_cmp bytes_cmp q p ≡ true → q ≡ p
tied_is q p h = texts_antisymmetric q p ((Equal-is (bytes_cmp q p)).0 h)

-- ---- the settings

same_settings : (schema : Schema) (dir : List ℕ)
    → finite.insert (settings schema dir) (codes "schema") (schema_text V3) ≡ settings V3 dir
same_settings schema dir =
    finite.same_map texts_total texts_antisymmetric
    (finite.insert (settings schema dir) (codes "schema") (schema_text V3)) (settings V3 dir) (λ q.
    finite.get-insert texts_total (settings schema dir) (codes "schema") (schema_text V3) q
    ∙ ap (cond (eq_by_cmp texts_cmp q (codes "schema")) (Some (schema_text V3))) (got schema q)
    ∙ by q (eq_by_cmp texts_cmp q (codes "schema")) (eq_by_cmp texts_cmp q (codes "store-dir")) refl refl
    ∙ sym (got V3 q))
  where
    got : (s : Schema) (q : List ℕ)
        → finite.get (settings s dir) q
        ≡ cond (eq_by_cmp texts_cmp q (codes "store-dir")) (Some dir)
        (cond (eq_by_cmp texts_cmp q (codes "schema")) (Some (schema_text s))
        (finite.get (finite.empty {R = texts_cmp}) q))
    got s q =
        finite.get-insert texts_total (finite.insert finite.empty (codes "schema") (schema_text s)) (codes "store-dir")
        dir q
        ∙ ap (cond (eq_by_cmp texts_cmp q (codes "store-dir")) (Some dir))
        (finite.get-insert texts_total finite.empty (codes "schema") (schema_text s) q)

    by : (q : List ℕ) (a b : Bool) → eq_by_cmp texts_cmp q (codes "schema") ≡ a
        → eq_by_cmp texts_cmp q (codes "store-dir") ≡ b
        → cond a (Some (schema_text V3))
        (cond b (Some dir) (cond a (Some (schema_text schema)) (finite.get (finite.empty {R = texts_cmp}) q)))
        ≡ cond b (Some dir) (cond a (Some (schema_text V3)) (finite.get (finite.empty {R = texts_cmp}) q))
    by q true true s d =
        absurd (false≢true (sym (ap (λ k. eq_by_cmp texts_cmp k (codes "store-dir")) (tied_is q (codes "schema") s))
        ∙ d))
    by q true false s d = refl
    by q false b s d = refl

-- ---- one object

abbrev pub cut_stored : Stored → Stored
cut_stored o = record o { nar = row_part o.nar }

-- the piece of an archive in one row that has a number
abbrev pub piece_at : ℤ → Option Stored → Option (List ℕ)
piece_at n None = None
piece_at n (Some o) = find_entry int_cmp n (further_pieces o.nar)

cut_twice : (g : Option Stored) → option_map cut_stored (option_map cut_stored g) ≡ option_map cut_stored g
cut_twice None = refl
cut_twice (Some o) = ap (λ (nar : List ℕ). Some (record o { nar = nar })) (used_once o.nar)

none_again : (n : ℤ) (g : Option Stored) → piece_at n (option_map cut_stored g) ≡ None
none_again n None = refl
none_again n (Some o) = ap (find_entry int_cmp n) (none_further o.nar)

pub one_object : (p q : Path) (c : Contents)
    → finite.get (cut_object p c).objects q
    ≡ cond (eq_by_cmp bytes_cmp q p) (option_map cut_stored (finite.get c.objects q)) (finite.get c.objects q)
one_object p q c = by (finite.get c.objects p) refl (eq_by_cmp bytes_cmp q p) refl
  where
    by : (o : Option Stored) → finite.get c.objects p ≡ o → (b : Bool) → eq_by_cmp bytes_cmp q p ≡ b
        → finite.get (cut_found p o c).objects q
        ≡ cond b (option_map cut_stored (finite.get c.objects q)) (finite.get c.objects q)
    by None is true t = let none : finite.get c.objects q ≡ None =
        ap (finite.get c.objects) (tied_is q p t) ∙ is in none ∙ sym (ap (option_map cut_stored) none)
    by None is false t = refl
    by (Some o) is true t =
        finite.get-insert texts_total c.objects p (cut_stored o) q
        ∙ ap (λ b. cond b (Some (cut_stored o)) (finite.get c.objects q)) t
        ∙ sym (ap (option_map cut_stored) (ap (finite.get c.objects) (tied_is q p t) ∙ is))
    by (Some o) is false t =
        finite.get-insert texts_total c.objects p (cut_stored o) q
        ∙ ap (λ b. cond b (Some (cut_stored o)) (finite.get c.objects q)) t

pub one_piece : (p q : Path) (n : ℤ) (c : Contents)
    → finite.get (cut_object p c).pieces (q, n)
    ≡ cond (eq_by_cmp bytes_cmp q p) (option_or (piece_at n (finite.get c.objects q)) (finite.get c.pieces (q, n)))
    (finite.get c.pieces (q, n))
one_piece p q n c = by (finite.get c.objects p) refl (eq_by_cmp bytes_cmp q p) refl
  where
    by : (o : Option Stored) → finite.get c.objects p ≡ o → (b : Bool) → eq_by_cmp bytes_cmp q p ≡ b
        → finite.get (cut_found p o c).pieces (q, n)
        ≡ cond b (option_or (piece_at n (finite.get c.objects q)) (finite.get c.pieces (q, n)))
        (finite.get c.pieces (q, n))
    by None is true t =
        sym (ap (λ g. option_or (piece_at n g) (finite.get c.pieces (q, n)))
        (ap (finite.get c.objects) (tied_is q p t) ∙ is))
    by None is false t = refl
    by (Some o) is b t =
        get-put_pieces p q n (further_pieces o.nar) c.pieces (rising o.nar 1 (drop piece_size o.nar))
        ∙ ap (λ d. cond d (option_or (find_entry int_cmp n (further_pieces o.nar)) (finite.get c.pieces (q, n)))
        (finite.get c.pieces (q, n))) t
        ∙ found b t
      where
        found : (d : Bool) → eq_by_cmp bytes_cmp q p ≡ d
            → cond d (option_or (find_entry int_cmp n (further_pieces o.nar)) (finite.get c.pieces (q, n)))
            (finite.get c.pieces (q, n))
            ≡ cond d (option_or (piece_at n (finite.get c.objects q)) (finite.get c.pieces (q, n)))
            (finite.get c.pieces (q, n))
        found true u =
            sym (ap (λ g. option_or (piece_at n g) (finite.get c.pieces (q, n)))
            (ap (finite.get c.objects) (tied_is q p u) ∙ is))
        found false u = refl

-- ---- some objects

more_rows : (a b : Bool) (g : Option Stored)
    → cond b (option_map cut_stored (cond a (option_map cut_stored g) g)) (cond a (option_map cut_stored g) g)
    ≡ cond (a || b) (option_map cut_stored g) g
more_rows true true g = cut_twice g
more_rows true false g = refl
more_rows false b g = refl

some_objects : (ps : List Path) (q : Path) (c : Contents)
    → finite.get (cut_objects ps c).objects q
    ≡ cond (list_any (eq_by_cmp bytes_cmp q) ps) (option_map cut_stored (finite.get c.objects q))
    (finite.get c.objects q)
some_objects [] q c = refl
some_objects (p ∷ ps) q c =
    some_objects ps q (cut_object p c)
    ∙ ap (λ g. cond (list_any (eq_by_cmp bytes_cmp q) ps) (option_map cut_stored g) g) (one_object p q c)
    ∙ more_rows (eq_by_cmp bytes_cmp q p) (list_any (eq_by_cmp bytes_cmp q) ps) (finite.get c.objects q)

more_pieces : (n : ℤ) (a b : Bool) (g : Option Stored) (x : Option (List ℕ))
    → cond b (option_or (piece_at n (cond a (option_map cut_stored g) g)) (cond a (option_or (piece_at n g) x) x))
    (cond a (option_or (piece_at n g) x) x) ≡ cond (a || b) (option_or (piece_at n g) x) x
more_pieces n true true g x = ap (λ o. option_or o (option_or (piece_at n g) x)) (none_again n g)
more_pieces n true false g x = refl
more_pieces n false b g x = refl

some_pieces : (ps : List Path) (q : Path) (n : ℤ) (c : Contents)
    → finite.get (cut_objects ps c).pieces (q, n)
    ≡ cond (list_any (eq_by_cmp bytes_cmp q) ps)
    (option_or (piece_at n (finite.get c.objects q)) (finite.get c.pieces (q, n))) (finite.get c.pieces (q, n))
some_pieces [] q n c = refl
some_pieces (p ∷ ps) q n c =
    let b : Bool = list_any (eq_by_cmp bytes_cmp q) ps in
    some_pieces ps q n (cut_object p c)
    ∙ ap (λ g. cond b (option_or (piece_at n g) (finite.get (cut_object p c).pieces (q, n)))
    (finite.get (cut_object p c).pieces (q, n))) (one_object p q c)
    ∙ ap (λ x. cond b (option_or (piece_at n
    (cond (eq_by_cmp bytes_cmp q p) (option_map cut_stored (finite.get c.objects q))
    (finite.get c.objects q))) x) x) (one_piece p q n c)
    ∙ more_pieces n (eq_by_cmp bytes_cmp q p) b (finite.get c.objects q) (finite.get c.pieces (q, n))

-- the other tables stay
abbrev Objects : Type 0
Objects = finite.FinMap texts_cmp Stored

abbrev Pieces : Type 0
Pieces = finite.FinMap numbered_cmp (List ℕ)

others_found : (p : Path) (o : Option Stored) (c : Contents) (x : Objects) (y : Pieces)
    → ◌≡◌ {A = Contents} (record (cut_found p o c) { objects = x; pieces = y }) (record c { objects = x; pieces = y })
others_found p None c x y = refl
others_found p (Some o) c x y = refl

others_kept : (ps : List Path) (c : Contents)
    → cut_objects ps c ≡ record c { objects = (cut_objects ps c).objects; pieces = (cut_objects ps c).pieces }
others_kept [] c = refl
others_kept (p ∷ ps) c =
    others_kept ps (cut_object p c)
    ∙ others_found p (finite.get c.objects p) c (cut_objects ps (cut_object p c)).objects
    (cut_objects ps (cut_object p c)).pieces

-- ---- all objects

module _ (dir : List ℕ) (c : Contents) (none : c.pieces ≡ finite.empty) where
  all : List Path
  all = finite.keys c.objects

  present : (q : Path) → list_any (eq_by_cmp bytes_cmp q) all ≡ is_some (finite.get c.objects q)
  unfolding all
  present q = sym (finite.contains_key-keys c.objects q)

  same_objects : (cut_objects all c).objects ≡ (migrated V1 dir (rows_of c)).objects
  same_objects =
      finite.same_map texts_total texts_antisymmetric (cut_objects all c).objects (migrated V1 dir (rows_of c)).objects
      (λ q.
      some_objects all q c
      ∙ ap (λ b. cond b (option_map cut_stored (finite.get c.objects q)) (finite.get c.objects q)) (present q)
      ∙ by q (finite.get c.objects q)
      ∙ sym (get-migrated_row dir (rows_of c) q))
    where
      by : (q : Path) (g : Option Stored)
          → cond (is_some g) (option_map cut_stored g) g ≡ option_map (cut_row_in (rows_of c) q) g
      by q None = refl
      by q (Some o) = ap (λ (nar : List ℕ). Some (record o { nar = row_part nar })) (sym (whole c q o none))

  same_pieces : (cut_objects all c).pieces ≡ (migrated V1 dir (rows_of c)).pieces
  same_pieces =
      finite.same_map numbered_total numbered_antisymmetric (cut_objects all c).pieces
      (migrated V1 dir (rows_of c)).pieces (λ k.
      some_pieces all k.0 k.1 c
      ∙ ap (λ b. cond b (option_or (piece_at k.1 (finite.get c.objects k.0)) (finite.get c.pieces k))
      (finite.get c.pieces k)) (present k.0)
      ∙ ap (λ x. cond (is_some (finite.get c.objects k.0)) (option_or (piece_at k.1 (finite.get c.objects k.0)) x) x)
      (ap (λ (m : Pieces). finite.get m k) none ∙ finite.get-empty numbered_cmp k)
      ∙ by k.0 k.1 (finite.get c.objects k.0)
      ∙ sym (get-migrated_piece dir (rows_of c) k.0 k.1))
    where
      by : (q : Path) (n : ℤ) (g : Option Stored)
          → cond (is_some g) (option_or (piece_at n g) None) None ≡ piece_of (rows_of c) q n g
      by q n None = refl
      by q n (Some o) =
          or_none (find_entry int_cmp n (further_pieces o.nar))
          ∙ ap (λ nar. find_entry int_cmp n (further_pieces nar)) (sym (whole c q o none))

-- what is written of a migration from the first schema is the whole of it
pub first_written : (dir : List ℕ) (c : Contents) → IsSoundBy V1 dir c
    → renumbered (cut_objects (finite.keys c.objects) c) ≡ migrated_contents V1 dir c
unfolding all
first_written dir c sound =
    let none : c.pieces ≡ finite.empty = sound.no_pieces refl in
    let meta : finite.insert c.meta (codes "schema") (schema_text V3) ≡ settings V3 dir =
    ap (λ m. finite.insert m (codes "schema") (schema_text V3)) sound.settings_are ∙ same_settings V1 dir in
    ap renumbered (others_kept (finite.keys c.objects) c)
    ∙ (λ i. record c { meta = meta i; objects = same_objects dir c none i; pieces = same_pieces dir c none i })

-- and so of one from the second
pub second_written : (dir : List ℕ) (c : Contents) → IsSoundBy V2 dir c → renumbered c ≡ migrated_contents V2 dir c
second_written dir c sound =
    let meta : finite.insert c.meta (codes "schema") (schema_text V3) ≡ settings V3 dir =
    ap (λ m. finite.insert m (codes "schema") (schema_text V3)) sound.settings_are ∙ same_settings V2 dir in
    λ i. record c { meta = meta i }
