-- Rows with faulty settings aren't sound; and what the archive of a sound row is.
use Rattle.std.proofs.Common.{◌≡◌, ◌≢◌, ℕ, ◌+◌, ◌≤◌, List, [], ◌∷◌, ◌++◌, Bool, true, false, cond, Some, None, Option}
use Rattle.std.proofs.Common.{refl, sym, ap, ap₂, ◌∙◌, arith, le_refl, IsTrue, IsFalse}
use Rattle.std.specs.Prelude.{ℤ, pos, codes, is_some}
use Rattle.std.specs.List.{concat}
use Rattle.std.specs.Ordering.{eq_by_cmp, is_eq, int_cmp}
use Rattle.std.specs.Cmp.{Equal-is, tied_itself, int_cmp_total}
use Rattle.std.specs.Cmp.Lexicographic.{nat_list_cmp_total}
use Rattle.std.specs.FinMap as finite
use Rattle.std.specs.FinMap.Entries.{find as find_entry}
use Rattle.std.proofs.lemmas.Bool.{false≢true, false_from_ne_true}
use Rattle.std.proofs.lemmas.List.{append-nil}
use Rattle.std.proofs.lemmas.Option.{same_Some}
use Rattle.paths.specs.Names.{is_store_dir}
use Rattle.paths.specs.Root.{bytes_cmp}
use Rattle.tables_sql.specs.Contents.{Contents, Stored}
use Rattle.model.specs.World.{Path}
use Rattle.tables_world.specs.Pieces.{joined, GoOn}
use Rattle.tables_world.specs.Rows.{settings, pieces_in, archive_in, references_in, outputs_in, number_in}
use Rattle.tables_schema.specs.declared.schema.Schema.{Schema}
use Rattle.tables_schema.specs.Schemas.{schema_text, has_pieces}
use Rattle.tables_world.specs.Worlds.{rows_of, IsSoundBy}
use Rattle.tables_world.specs.Parts.{IsSoundRow, AreSoundParts}
use Rattle.laws.specs.CutArchives.{FollowFrom, HasArchive}
use Rattle.laws.specs.FaultyRows.{ExcludesFaultySettings}
use Rattle.tables_world.proofs.Columns.{bytes_antisymmetric}
use Rattle.laws.proofs.Schemas.{names, schemas_differ}
use Rattle.tables_world.proofs.SoundParts.{sound_by_parts}
use Rattle.tables_world.proofs.Reported.{get-piece, whole}

-- ---- what can't be

pub clash : {b : Bool} → IsFalse b → IsTrue b → ⊥
clash bad good = false≢true (sym bad ∙ good)

pub no_key : {X : Type 0} {o : Option X} → o ≡ None → IsTrue (is_some o) → ⊥
no_key none present = false≢true (sym (ap is_some none) ∙ present)

pub parts_of : (schema : Schema) (dir : List ℕ) (c : Contents) → IsSoundBy schema dir c
    → AreSoundParts schema dir (rows_of c)
parts_of schema dir c sound = (sound_by_parts schema dir (rows_of c)).0 sound

-- ---- settings

pub untied : (a b : List ℕ) → a ≢ b → eq_by_cmp bytes_cmp a b ≡ false
untied a b apart =
    false_from_ne_true (eq_by_cmp bytes_cmp a b) (λ t. apart (bytes_antisymmetric a b ((Equal-is (bytes_cmp a b)).0 t)))

abbrev first_set : Schema → finite.FinMap bytes_cmp (List ℕ)
first_set schema = finite.insert finite.empty (codes "schema") (schema_text schema)

unset : (schema : Schema) (dir word : List ℕ) → word ≢ codes "schema" → word ≢ codes "store-dir"
    → finite.get (settings schema dir) word ≡ None
unset schema dir word no_schema no_directory =
    finite.get-insert nat_list_cmp_total (first_set schema) (codes "store-dir") dir word
    ∙ ap (λ b. cond b (Some dir) (finite.get (first_set schema) word)) (untied word (codes "store-dir") no_directory)
    ∙ finite.get-insert nat_list_cmp_total finite.empty (codes "schema") (schema_text schema) word
    ∙ ap (λ b. cond b (Some (schema_text schema)) (finite.get (finite.empty {R = bytes_cmp}) word))
    (untied word (codes "schema") no_schema)
    ∙ finite.get-empty bytes_cmp word

pub settings_exclude : (c : Contents) → ExcludesFaultySettings c
settings_exclude c = record {
  no_directory =
      λ text is bad dir schema sound. clash
      (ap is_store_dir (same_Some dir text (sym (names schema dir (rows_of c) sound).directory ∙ is)) ∙ bad)
      sound.directory;
  other_directory = λ dir other schema sound. other (names schema dir (rows_of c) sound).directory;
  not_the_first = λ other dir sound. other ((schemas_differ dir (rows_of c)).first sound).0.schema;
  not_the_second = λ other dir sound. other ((schemas_differ dir (rows_of c)).second sound).0.schema;
  not_the_third = λ other dir sound. other ((schemas_differ dir (rows_of c)).third sound).schema;
  further_word =
      λ word no_schema no_directory present dir schema sound. no_key
      (ap (λ m. finite.get m word) sound.settings_are ∙ unset schema dir word no_schema no_directory) present;
  piece_in_the_first =
      λ p n present dir sound. no_key (ap (λ m. finite.get m (p, n)) (sound.no_pieces refl) ∙ finite.get-empty _ (p, n))
      present;
  session_in_the_first =
      λ owner n t present dir sound. no_key
      (ap (λ m. finite.get m (owner, n, t)) (sound.no_temporary refl) ∙ finite.get-empty _ (owner, n, t)) present;
  session_in_the_second =
      λ owner n t present dir sound. no_key
      (ap (λ m. finite.get m (owner, n, t)) (sound.no_temporary refl) ∙ finite.get-empty _ (owner, n, t)) present;
}

-- ---- archives

-- numbers that are the same tie, and others don't
pub tie : (m : ℕ) (z : ℤ) → z ≡ pos m → eq_by_cmp int_cmp (pos m) z ≡ true
tie m z is = ap (eq_by_cmp int_cmp (pos m)) is ∙ ap is_eq (tied_itself int_cmp_total (pos m))

pub untie : (m n : ℕ) (z : ℤ) → z ≡ pos n → m ≢ n → eq_by_cmp int_cmp (pos m) z ≡ false
untie m n z is apart =
    false_from_ne_true (eq_by_cmp int_cmp (pos m) z)
    (λ t. apart (ap number_in (finite.int_cmp-IsAntisymmetric (pos m) z ((Equal-is (int_cmp (pos m) z)).0 t) ∙ is)))

-- the entry of a number at the beginning of some pieces, and one after it
pub at_prefix : (m : ℕ) (e : ℤ × List ℕ) (es : List (ℤ × List ℕ)) → e.0 ≡ pos m
    → find_entry int_cmp (pos m) (e ∷ es) ≡ Some e.1
at_prefix m e es is = ap (λ b. cond b (Some e.1) (find_entry int_cmp (pos m) es)) (tie m e.0 is)

pub past_prefix : (m n : ℕ) (e : ℤ × List ℕ) (es : List (ℤ × List ℕ)) → e.0 ≡ pos n → m ≢ n
    → find_entry int_cmp (pos m) (e ∷ es) ≡ find_entry int_cmp (pos m) es
past_prefix m n e es is apart = ap (λ b. cond b (Some e.1) (find_entry int_cmp (pos m) es)) (untie m n e.0 is apart)

followed : (c : Contents) (p : Path) (part : List ℕ) (n : ℕ) (es : List (ℤ × List ℕ)) (ps : List (List ℕ))
    → GoOn part n es
    → ((m : ℕ) → n ≤ m → find_entry int_cmp (pos m) es ≡ finite.get c.pieces (p, pos m)) → FollowFrom c p n ps
    → joined es ≡ concat ps
followed c p part n [] [] g same f = refl
followed c p part n [] (x ∷ ps) g same f = absurd (no_key (sym (same n (le_refl n))) (ap is_some f.0))
followed c p part n (e ∷ es) [] g same f = absurd (no_key (same n (le_refl n) ∙ f) (ap is_some (at_prefix n e es g.1)))
followed c p part n (e ∷ es) (x ∷ ps) g same f =
    let here : e.1 ≡ x = same_Some e.1 x (sym (at_prefix n e es g.1) ∙ same n (le_refl n) ∙ f.0) in
    let later : (m : ℕ) → n + 1 ≤ m → find_entry int_cmp (pos m) es ≡ finite.get c.pieces (p, pos m)
    = λ m le. sym (past_prefix m n e es g.1 (λ is. omega arith)) ∙ same m (omega arith) in
    ap₂ (λ a b. a ++ b) here (followed c p e.1 (n + 1) es ps g.3 later f.1)

nothing : (c : Contents) (p : Path) (ps : List (List ℕ)) → c.pieces ≡ finite.empty → FollowFrom c p 1 ps
    → concat ps ≡ []
nothing c p [] none f = refl
nothing c p (x ∷ ps) none f =
    absurd (no_key (ap (λ m. finite.get m (p, pos 1)) none ∙ finite.get-empty _ (p, pos 1)) (ap is_some f.0))

pub archive_is : (schema : Schema) (dir : List ℕ) (c : Contents) (p : Path) (o : Stored) (nar : List ℕ)
    → IsSoundBy schema dir c → finite.get c.objects p ≡ Some o → HasArchive c p o nar
    → archive_in (rows_of c) p o ≡ nar
archive_is schema dir c p o nar sound row h = by (has_pieces schema) refl ∙ sym h.whole
  where
    by : (b : Bool) → has_pieces schema ≡ b → archive_in (rows_of c) p o ≡ o.nar ++ concat h.pieces
    by true f =
        ap (λ l. o.nar ++ l) (followed c p o.nar 1 (finite.entries (pieces_in (rows_of c) p)) h.pieces
        (sound.cut f p o row)
        (λ m le. sym (finite.get-entries (pieces_in (rows_of c) p) (pos m)) ∙ get-piece c p (pos m)) h.follow)
    by false f =
        whole c p o (sound.no_pieces f) ∙ sym (append-nil o.nar)
        ∙ ap (λ l. o.nar ++ l) (sym (nothing c p h.pieces (sound.no_pieces f) h.follow))

-- ---- an object's row

module _ (c : Contents) (p : Path) (o : Stored) (row : finite.get c.objects p ≡ Some o) (schema : Schema) (dir : List ℕ)
    (sound : IsSoundBy schema dir c) where
  pub row_sound : IsSoundRow dir p o (archive_in (rows_of c) p o) (references_in (rows_of c) p)
      (outputs_in (rows_of c) p)
  row_sound = (parts_of schema dir c sound).objects.objects p o row

  pub read_as : (nar : List ℕ) → HasArchive c p o nar → archive_in (rows_of c) p o ≡ nar
  read_as nar h = archive_is schema dir c p o nar sound row h
