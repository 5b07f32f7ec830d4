-- A migration keeps the world, and leaves rows that are sound by the third schema.
use Rattle.std.proofs.Common.{◌≡◌, ℕ, ◌+◌, ◌<◌, List, [], ◌∷◌, ◌++◌, map, drop, Bool, true, false, ◌&&◌, cond, Some}
use Rattle.std.proofs.Common.{None, Option, option_map, refl, sym, ap, arith, ◌∙◌, IsTrue, subst}
use Rattle.std.specs.Prelude.{ℤ, pos, ◌<ℤ◌, is_some}
use Rattle.std.specs.List.{flat_map}
use Rattle.std.specs.declared.cmp.Ordering.{Ordering}
use Rattle.std.specs.declared.cmp.Ordering.TheVariants.{Less, Equal, Greater}
use Rattle.std.specs.Ordering.{MatchOrdering, eq_by_cmp, is_eq, is_lt, int_cmp, ordering_then}
use Rattle.std.specs.Option.{option_or}
use Rattle.std.specs.Cmp.{IsTotalOrder, Equal-is, int_cmp_total, int_ranked, then_total, on_total}
use Rattle.std.specs.Cmp.Lexicographic.{nat_list_cmp_total, on_texts}
use Rattle.std.specs.FinMap as finite
use Rattle.std.specs.FinMap.Entries.{find as find_entry, is_sorted, below_all, same_entries}
use Rattle.std.proofs.lemmas.Bool.{false≢true}
use Rattle.std.proofs.lemmas.Int.{ints}
use Rattle.std.proofs.lemmas.Option.{same_Some}
use Rattle.sha2.specs.Sha256.{sha256}
use Rattle.paths.specs.Root.{bytes_cmp}
use Rattle.tables_sql.specs.Contents.{Stored}
use Rattle.model.specs.World.{Path}
use Rattle.model.specs.Sound.{IsSound}
use Rattle.tables_world.specs.Pieces.{piece_size, joined, IsCut, row_part, pieces_by, further_pieces}
use Rattle.tables_world.specs.Rows.{Piece, piece_cmp, Rows, pieces_in, archive_in, object_in, world_of, IsSoundRows}
use Rattle.tables_world.specs.Rows.{cut_row, cut_pieces, migrated}
use Rattle.tables_schema.specs.declared.schema.Schema.TheVariants.{V1, V2, V3}
use Rattle.tables_world.specs.Laws.{MigratesSoundly}
use Rattle.tables_world.proofs.Cuts.{cut_right, cut_whole}
use Rattle.tables_world.proofs.Columns.{bytes_antisymmetric, get_changed, piece_at}
use lib.Dec.{T}

-- ---- pieces rise

and_T : (a b : Bool) → T a → T b → T (a && b)
and_T true b p q = q
and_T false b p q = absurd p

both_T : (a b : Bool) → T (a && b) → T a × T b
both_T true b h = (tt, h)
both_T false b h = absurd h

below_int : (m n : ℕ) → m < n → T (is_lt (int_cmp (pos m) (pos n)))
below_int m n h = by (int_cmp (pos m) (pos n)) (int_ranked (pos m) (pos n) (int_cmp (pos m) (pos n)) refl)
  where
    by : (r : Ordering) → MatchOrdering r (pos m <ℤ pos n) (pos m ≡ pos n) (pos n <ℤ pos m) → T (is_lt r)
    by Less k = tt
    by Equal k = let same : m ≡ n = cc in absurd (omega arith)
    by Greater k = absurd (omega (arith, ints, k))

above_all : (turns : List ℕ) (m n : ℕ) (bytes : List ℕ) → m < n
    → T (below_all int_cmp (pos m) (pieces_by turns n bytes))
above_all [] m n bytes h = tt
above_all (turn ∷ turns) m n [] h = tt
above_all (turn ∷ turns) m n (b ∷ bs) h =
    and_T (is_lt (int_cmp (pos m) (pos n))) _ (below_int m n h)
    (above_all turns m (n + 1) (drop piece_size (b ∷ bs)) (omega arith))

-- the pieces of some bytes rise by their numbers
pub rising : (turns : List ℕ) (n : ℕ) (bytes : List ℕ) → T (is_sorted int_cmp (pieces_by turns n bytes))
rising [] n bytes = tt
rising (turn ∷ turns) n [] = tt
rising (turn ∷ turns) n (b ∷ bs) =
    and_T (below_all int_cmp (pos n) (pieces_by turns (n + 1) (drop piece_size (b ∷ bs)))) _
    (above_all turns n (n + 1) (drop piece_size (b ∷ bs)) (omega arith))
    (rising turns (n + 1) (drop piece_size (b ∷ bs)))

-- ---- a piece among those of all archives

tied_both : (r s : Ordering) → is_eq (ordering_then r s) ≡ (is_eq r && is_eq s)
tied_both Less s = refl
tied_both Equal s = refl
tied_both Greater s = refl

block : (k p : Path) (n : ℤ) (xs : List (ℤ × List ℕ)) (rest : List (Piece × List ℕ)) (b : Bool)
    → eq_by_cmp bytes_cmp p k ≡ b
    → find_entry piece_cmp (p, n) (map (λ (x : ℤ × List ℕ). ((k, x.0), x.1)) xs ++ rest)
    ≡ cond b (option_or (find_entry int_cmp n xs) (find_entry piece_cmp (p, n) rest)) (find_entry piece_cmp (p, n) rest)
block k p n [] rest true e = refl
block k p n [] rest false e = refl
block k p n (x ∷ xs) rest true e =
    by (eq_by_cmp int_cmp n x.0) (tied_both (bytes_cmp p k) (int_cmp n x.0) ∙ ap (λ b. b && eq_by_cmp int_cmp n x.0) e)
    (block k p n xs rest true e)
  where
    by : (q : Bool) → eq_by_cmp piece_cmp (p, n) (k, x.0) ≡ q
        → find_entry piece_cmp (p, n) (map (λ (y : ℤ × List ℕ). ((k, y.0), y.1)) xs ++ rest)
        ≡ option_or (find_entry int_cmp n xs) (find_entry piece_cmp (p, n) rest)
        → cond (eq_by_cmp piece_cmp (p, n) (k, x.0)) (Some x.1)
        (find_entry piece_cmp (p, n) (map (λ (y : ℤ × List ℕ). ((k, y.0), y.1)) xs ++ rest))
        ≡ option_or (cond q (Some x.1) (find_entry int_cmp n xs)) (find_entry piece_cmp (p, n) rest)
    by true t later =
        ap (λ b. cond b (Some x.1) (find_entry piece_cmp (p, n) (map (λ (y : ℤ × List ℕ). ((k, y.0), y.1)) xs ++ rest)))
        t
    by false t later =
        ap (λ b. cond b (Some x.1) (find_entry piece_cmp (p, n) (map (λ (y : ℤ × List ℕ). ((k, y.0), y.1)) xs ++ rest)))
        t ∙ later
block k p n (x ∷ xs) rest false e =
    ap (λ b. cond b (Some x.1) (find_entry piece_cmp (p, n) (map (λ (y : ℤ × List ℕ). ((k, y.0), y.1)) xs ++ rest)))
    (tied_both (bytes_cmp p k) (int_cmp n x.0) ∙ ap (λ b. b && eq_by_cmp int_cmp n x.0) e)
    ∙ block k p n xs rest false e

less_is_distinct : (r : Ordering) → T (is_lt r) → is_eq r ≡ false
less_is_distinct Less h = refl
less_is_distinct Equal h = absurd h
less_is_distinct Greater h = absurd h

none_below : (k : Path) (es : List (Path × Stored)) → T (below_all bytes_cmp k es) → find_entry bytes_cmp k es ≡ None
none_below k [] h = refl
none_below k (e ∷ es) h =
    let parts = both_T (is_lt (bytes_cmp k e.0)) (below_all bytes_cmp k es) h in
    ap (λ b. cond b (Some e.1) (find_entry bytes_cmp k es)) (less_is_distinct (bytes_cmp k e.0) parts.0)
    ∙ none_below k es parts.1

pub or_none : {X : Type 0} (o : Option X) → option_or o None ≡ o
or_none None = refl
or_none (Some x) = refl

pub piece_total : IsTotalOrder piece_cmp
piece_total = then_total (on_texts (λ (p : Piece). p.0)) (on_total (λ (p : Piece). p.1) int_cmp_total)

module _ (c : Rows) where
  -- the piece of an archive that has a number
  abbrev pub piece_of : Path → ℤ → Option Stored → Option (List ℕ)
  piece_of p n None = None
  piece_of p n (Some o) = find_entry int_cmp n (further_pieces (archive_in c p o))

  find_piece : (es : List (Path × Stored)) (p : Path) (n : ℤ) → T (is_sorted bytes_cmp es)
      → find_entry piece_cmp (p, n) (flat_map (λ (e : Path × Stored). cut_pieces c e.0 e.1) es)
      ≡ piece_of p n (find_entry bytes_cmp p es)
  find_piece [] p n h = refl
  find_piece (e ∷ es) p n h =
      let parts = both_T (below_all bytes_cmp e.0 es) (is_sorted bytes_cmp es) h in
      block e.0 p n (further_pieces (archive_in c e.0 e.1)) (flat_map (λ (d : Path × Stored). cut_pieces c d.0 d.1) es)
      (eq_by_cmp bytes_cmp p e.0) refl
      ∙ by (eq_by_cmp bytes_cmp p e.0) refl parts.0 (find_piece es p n parts.1)
    where
      by : (b : Bool) → eq_by_cmp bytes_cmp p e.0 ≡ b → T (below_all bytes_cmp e.0 es)
          → find_entry piece_cmp (p, n) (flat_map (λ (d : Path × Stored). cut_pieces c d.0 d.1) es)
          ≡ piece_of p n (find_entry bytes_cmp p es)
          → cond b (option_or (find_entry int_cmp n (further_pieces (archive_in c e.0 e.1)))
          (find_entry piece_cmp (p, n) (flat_map (λ (d : Path × Stored). cut_pieces c d.0 d.1) es)))
          (find_entry piece_cmp (p, n) (flat_map (λ (d : Path × Stored). cut_pieces c d.0 d.1) es))
          ≡ piece_of p n (cond b (Some e.1) (find_entry bytes_cmp p es))
      by true t below later =
          let same : p ≡ e.0 = bytes_antisymmetric p e.0 ((Equal-is (bytes_cmp p e.0)).0 t) in
          let none : find_entry bytes_cmp p es ≡ None =
          ap (λ k. find_entry bytes_cmp k es) same ∙ none_below e.0 es below in
          ap (option_or (find_entry int_cmp n (further_pieces (archive_in c e.0 e.1)))) (later ∙ ap (piece_of p n) none)
          ∙ or_none (find_entry int_cmp n (further_pieces (archive_in c e.0 e.1)))
          ∙ ap (λ k. find_entry int_cmp n (further_pieces (archive_in c k e.1))) (sym same)
      by false t below later = later

module _ (dir : List ℕ) (c : Rows) where
  new : Rows
  new = migrated V1 dir c

  get_piece : (p : Path) (n : ℤ) → finite.get new.pieces (p, n) ≡ piece_of c p n (finite.get c.objects p)
  unfolding new
  get_piece p n =
      finite.get-from_entries piece_total
      (flat_map (λ (e : Path × Stored). cut_pieces c e.0 e.1) (finite.entries c.objects)) (p, n)
      ∙ find_piece c (finite.entries c.objects) p n (finite.entries_sorted c.objects)
      ∙ ap (piece_of c p n) (sym (finite.get-entries c.objects p))

  get_row : (p : Path) → finite.get new.objects p ≡ option_map (cut_row c p) (finite.get c.objects p)
  unfolding new
  get_row p = get_changed nat_list_cmp_total bytes_antisymmetric (cut_row c) c.objects p

  pieces_are : (p : Path) (o : Stored) → finite.get c.objects p ≡ Some o
      → finite.entries (pieces_in new p) ≡ further_pieces (archive_in c p o)
  pieces_are p o e =
      same_entries int_cmp int_cmp_total finite.int_cmp-IsAntisymmetric (finite.entries (pieces_in new p))
      (further_pieces (archive_in c p o)) (finite.entries_sorted (pieces_in new p))
      (rising (archive_in c p o) 1 (drop piece_size (archive_in c p o)))
      (λ n. sym (finite.get-entries (pieces_in new p) n) ∙ piece_at new p n ∙ get_piece p n ∙ ap (piece_of c p n) e)

  archive_is : (p : Path) (o : Stored) → finite.get c.objects p ≡ Some o
      → archive_in new p (cut_row c p o) ≡ archive_in c p o
  archive_is p o e =
      ap (λ es. row_part (archive_in c p o) ++ joined es) (pieces_are p o e) ∙ cut_whole (archive_in c p o)

  row_back : (p : Path) (o : Stored) → finite.get new.objects p ≡ Some o
      → (old : Stored) × (finite.get c.objects p ≡ Some old) × (cut_row c p old ≡ o)
  row_back p o e = by (finite.get c.objects p) refl (sym (get_row p) ∙ e)
    where
      by : (x : Option Stored) → finite.get c.objects p ≡ x → option_map (cut_row c p) x ≡ Some o
          → (old : Stored) × (finite.get c.objects p ≡ Some old) × (cut_row c p old ≡ o)
      by None f g = absurd (false≢true (ap is_some g))
      by (Some old) f g = (old, f, same_Some (cut_row c p old) o g)

  row_present : (p : Path) → IsTrue (finite.contains_key c.objects p) → IsTrue (finite.contains_key new.objects p)
  row_present p h = ap is_some (get_row p) ∙ by (finite.get c.objects p) h
    where
      by : (x : Option Stored) → is_some x ≡ true → is_some (option_map (cut_row c p) x) ≡ true
      by None g = absurd (false≢true g)
      by (Some o) g = refl

  owner_present : (p : Path) (n : ℤ) → IsTrue (finite.contains_key new.pieces (p, n))
      → IsTrue (finite.contains_key new.objects p)
  owner_present p n h = row_present p (by (finite.get c.objects p) refl (sym (ap is_some (get_piece p n)) ∙ h))
    where
      by : (x : Option Stored) → finite.get c.objects p ≡ x → is_some (piece_of c p n x) ≡ true → is_some x ≡ true
      by None f g = absurd (false≢true g)
      by (Some o) f g = refl

  same_object : (p : Path) → finite.get (world_of new).objects p ≡ finite.get (world_of c).objects p
  unfolding new
  same_object p =
      get_changed nat_list_cmp_total bytes_antisymmetric (object_in new) new.objects p
      ∙ ap (option_map (object_in new p)) (get_row p)
      ∙ by (finite.get c.objects p) refl
      ∙ sym (get_changed nat_list_cmp_total bytes_antisymmetric (object_in c) c.objects p)
    where
      by : (x : Option Stored) → finite.get c.objects p ≡ x
          → option_map (object_in new p) (option_map (cut_row c p) x) ≡ option_map (object_in c p) x
      by None f = refl
      by (Some o) f = ap (λ (b : List ℕ). Some (record (object_in c p o) { nar = b })) (archive_is p o f)

  same_world : world_of new ≡ world_of c
  unfolding new
  same_world =
      let objects =
      finite.same_map nat_list_cmp_total bytes_antisymmetric (world_of new).objects (world_of c).objects
      same_object in
      λ i. record (world_of c) { objects = objects i }

  cut_sound : IsSoundRows V1 dir c → IsSoundRows V3 dir new
  unfolding new
  cut_sound sound = record {
    directory = sound.directory;
    settings_are = refl;
    no_pieces = λ none. absurd (false≢true (sym none));
    no_temporary = λ none. absurd (false≢true (sym none));
    cut = λ present p o e.
        let old = row_back p o e in
        subst (λ (x : Stored). IsCut x.nar (finite.entries (pieces_in new p))) old.2
        (subst (λ (es : List (ℤ × List ℕ)). IsCut (row_part (archive_in c p old.0)) es)
        (sym (pieces_are p old.0 old.1)) (cut_right (archive_in c p old.0)));
    hash = λ p o e.
        let old = row_back p o e in
        subst (λ (x : Stored). x.hash ≡ sha256 (archive_in new p x)) old.2
        (sound.hash p old.0 old.1 ∙ ap sha256 (sym (archive_is p old.0 old.1)));
    address = λ p o text e a.
        let old = row_back p o e in
        sound.address p old.0 text old.1 (ap (λ (x : Stored). x.ca) old.2 ∙ a);
    pieces = owner_present;
    references = λ p r h. row_present p (sound.references p r h);
    outputs = λ p name h. row_present p (sound.outputs p name h);
    generations = sound.generations;
    numbers = sound.numbers;
    current = sound.current;
    sessions = sound.sessions;
    world = subst (IsSound dir) (sym same_world) sound.world;
  }

-- ---- what a migration makes of each entry

pub get-migrated_piece : (dir : List ℕ) (c : Rows) (p : Path) (n : ℤ)
    → finite.get (migrated V1 dir c).pieces (p, n) ≡ piece_of c p n (finite.get c.objects p)
unfolding new
get-migrated_piece dir c p n = get_piece dir c p n

pub get-migrated_row : (dir : List ℕ) (c : Rows) (p : Path)
    → finite.get (migrated V1 dir c).objects p ≡ option_map (cut_row c p) (finite.get c.objects p)
unfolding new
get-migrated_row dir c p = get_row dir c p

pub migrates_soundly : MigratesSoundly
unfolding new
migrates_soundly V1 dir c sound = (cut_sound dir c sound, same_world dir c)
migrates_soundly V2 dir c sound = (
  record {
    directory = sound.directory;
    settings_are = refl;
    no_pieces = λ none. absurd (false≢true (sym none));
    no_temporary = λ none. absurd (false≢true (sym none));
    cut = sound.cut;
    hash = sound.hash;
    address = sound.address;
    pieces = sound.pieces;
    references = sound.references;
    outputs = sound.outputs;
    generations = sound.generations;
    numbers = sound.numbers;
    current = sound.current;
    sessions = sound.sessions;
    world = sound.world;
  },
  refl,
)
migrates_soundly V3 dir c sound = (sound, refl)
