-- Texts among the paths of all objects.
use Rattle.std.proofs.Common.{◌≡◌, List, [], ◌∷◌, ◌++◌, map, Bool, true, false, ◌&&◌, refl, sym, ap, subst, ◌∙◌}
use Rattle.std.proofs.Common.{append_assoc}
use Rattle.std.specs.Prelude.{◌||◌}
use Rattle.std.specs.Borrow.{Bor}
use Rattle.std.specs.List.{list_all, list_any}
use Rattle.std.specs.Ordering.{eq_by_cmp}
use Rattle.std.specs.FinMap as finite
use Rattle.paths.specs.StorePath.{is_base_name}
use Rattle.paths.specs.Root.{bytes_cmp}
use Rattle.tables_sql.specs.Contents.{Numbered}
use Rattle.tables_rows.specs.declared.references.Reference.{Reference}
use Rattle.tables_rows.specs.declared.outputs.Output.{Output}
use Rattle.tables_rows.specs.declared.pieces.PieceKey.{PieceKey}
use Rattle.tables_rows.specs.Entries.{reference_of, output_of, numbered_in}
use Rattle.model.specs.World.{Path, Pair}
use Rattle.tables_load_objects.specs.Known.{borrowed, is_known, is_known_reference, is_known_output, is_known_piece}
use Rattle.tables_load_objects.specs.Rising.{Rises}
use Rattle.tables_load_objects.specs.Loaded.{Objects, is_object, is_reference, is_output, is_owned}
use Rattle.tables_outline.proofs.Loops.{map-append}
use Rattle.tables_load_objects.proofs.OwnRows.{keys_rise}

-- one path more is borrowed
pub borrowed_more : (paths : List (Bor Path)) (b : Bor Path) (rest : List Path)
    → borrowed (paths ++ b ∷ []) ++ rest ≡ borrowed paths ++ b.now ∷ rest
borrowed_more paths b rest =
    ap (λ l. l ++ rest) (map-append (λ (p : Bor Path). p.now) paths (b ∷ []))
    ∙ append_assoc (borrowed paths) (b.now ∷ []) rest

pub any_borrowed : (q : Path → Bool) (paths : List (Bor Path))
    → list_any q (borrowed paths) ≡ list_any (λ (b : Bor Path). q b.now) paths
any_borrowed q [] = refl
any_borrowed q (b ∷ paths) = ap (λ x. q b.now || x) (any_borrowed q paths)

-- paths in order, and a slice of them
pub here_rise : (own rows : List (Bor Path)) → rows ≡ own → Rises (borrowed own) → Rises (borrowed rows)
here_rise own rows is up = subst (λ (l : List (Bor Path)). Rises (borrowed l)) (sym is) up

pub any_here : (q : Path → Bool) (paths : List Path) (own rows : List (Bor Path)) → borrowed own ≡ paths → rows ≡ own
    → list_any q paths ≡ list_any (λ (b : Bor Path). q b.now) rows
any_here q paths own rows view is = ap (list_any q) (sym view ∙ ap borrowed (sym is)) ∙ any_borrowed q rows

-- the paths of all objects
module _ (objects : Objects) (paths : List Path) (all : paths ≡ finite.keys objects) where
  pub all_rise : Rises paths
  all_rise = subst Rises (sym all) (keys_rise (finite.entries objects) (finite.entries_sorted objects))

  known_is : is_known paths ≡ is_object objects
  known_is i p =
      is_base_name p && (ap (list_any (λ q. eq_by_cmp bytes_cmp p q)) all ∙ sym (finite.contains_key-keys objects p)) i

  pub references_reported : (rows same : List Reference) → rows ≡ same → (b : Bool)
      → b ≡ list_all (is_known_reference paths) (map reference_of rows)
      → b ≡ list_all (is_reference objects) (map reference_of same)
  references_reported rows same is b h =
      h ∙ (λ i. list_all (λ (e : Pair × Unit {0}). known_is i e.0.0 && known_is i e.0.1) (map reference_of rows))
      ∙ ap (λ l. list_all (is_reference objects) (map reference_of l)) is

  pub outputs_reported : (rows same : List Output) → rows ≡ same → (b : Bool)
      → b ≡ list_all (is_known_output paths) (map output_of rows)
      → b ≡ list_all (is_output objects) (map output_of same)
  outputs_reported rows same is b h =
      h ∙ (λ i. list_all (λ (e : Pair × Path). known_is i e.0.0) (map output_of rows))
      ∙ ap (λ l. list_all (is_output objects) (map output_of l)) is

  pub pieces_reported : (rows same : List PieceKey) → rows ≡ same → (b : Bool)
      → b ≡ list_all (is_known_piece paths) (map numbered_in rows)
      → b ≡ list_all (is_owned objects) (map numbered_in same)
  pieces_reported rows same is b h =
      h ∙ (λ i. list_all (λ (k : Numbered). known_is i k.0) (map numbered_in rows))
      ∙ ap (λ l. list_all (is_owned objects) (map numbered_in l)) is

-- ---- tests one after another

pub and_no : (a b : Bool) → b ≡ false → (a && b) ≡ false
and_no true b h = h
and_no false b h = refl

pub first_fails : (a b c : Bool) → a ≡ false → false ≡ ((a && b) && c)
first_fails a b c h = sym (ap (λ x. (x && b) && c) h)

pub second_fails : (a b c : Bool) → a ≡ true → b ≡ false → false ≡ ((a && b) && c)
second_fails a b c h k = sym (ap (λ x. (x && b) && c) h ∙ ap (λ x. x && c) k)

pub both_pass : (a b c r : Bool) → a ≡ true → b ≡ true → r ≡ c → r ≡ ((a && b) && c)
both_pass a b c r h k is = is ∙ sym (ap (λ x. (x && b) && c) h ∙ ap (λ x. x && c) k)
