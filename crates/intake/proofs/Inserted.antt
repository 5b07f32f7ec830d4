-- A path that is put at a name, in memory and in the map that contracts see.
use Rattle.std.proofs.Common.{◌≡◌, ℕ, List, [], ◌∷◌, String, Global, string_bytes, cond, Some, refl, sym, ap, ◌∙◌}
use Rattle.std.specs.declared.cmp.Ordering.{Ordering}
use Rattle.std.specs.declared.cmp.Ordering.TheVariants.{Less, Equal, Greater}
use Rattle.std.specs.Ordering.{eq_by_cmp, match_ordering}
use Rattle.std.specs.Cmp.Lexicographic.{nat_list_cmp_total}
use Rattle.std.specs.BTreeMap.{insert_entry}
use Rattle.std.specs.FinMap as finite
use Rattle.std.specs.FinMap.Entries.{put, by_order, find-put}
use Rattle.paths.specs.Root.{bytes_cmp}
use Rattle.drv.specs.View.{pairs}
use Rattle.intake.specs.Recorded.{outputs_view}

abbrev Entries : Type 0
Entries = List (String Global × List ℕ)

pub bytes_antisymmetric : finite.IsAntisymmetric bytes_cmp
bytes_antisymmetric = finite.slice_cmp-IsAntisymmetric finite.nat_cmp-IsAntisymmetric

-- the order of names
abbrev by_bytes : String Global → String Global → Ordering
by_bytes a b = bytes_cmp (string_bytes a) (string_bytes b)

pairs-insert : (es : Entries) (name : String Global) (path : List ℕ)
    → pairs (insert_entry by_bytes es name path) ≡ put bytes_cmp (string_bytes name) path (pairs es)
pairs-insert [] name path = refl
pairs-insert (e ∷ es) name path = by (by_bytes name e.0) (pairs-insert es name path)
  where
    by : (r : Ordering) → pairs (insert_entry by_bytes es name path) ≡ put bytes_cmp (string_bytes name) path (pairs es)
        → pairs (match_ordering r ((name, path) ∷ e ∷ es) ((e.0, path) ∷ es) (e ∷ insert_entry by_bytes es name path))
        ≡ by_order r ((string_bytes name, path) ∷ (string_bytes e.0, e.1) ∷ pairs es)
        ((string_bytes e.0, path) ∷ pairs es)
        ((string_bytes e.0, e.1) ∷ put bytes_cmp (string_bytes name) path (pairs es))
    by Less later = refl
    by Equal later = refl
    by Greater later = ap (λ l. (string_bytes e.0, e.1) ∷ l) later

pub inserted : (es : Entries) (name : String Global) (path : List ℕ)
    → outputs_view (insert_entry by_bytes es name path) ≡ finite.insert (outputs_view es) (string_bytes name) path
inserted es name path =
    ap finite.from_entries (pairs-insert es name path)
    ∙ finite.same_map nat_list_cmp_total bytes_antisymmetric _ _ (λ q.
    finite.get-from_entries nat_list_cmp_total (put bytes_cmp (string_bytes name) path (pairs es)) q
    ∙ find-put bytes_cmp nat_list_cmp_total q (string_bytes name) path (pairs es)
    ∙ sym (finite.get-insert nat_list_cmp_total (outputs_view es) (string_bytes name) path q
    ∙ ap (cond (eq_by_cmp bytes_cmp q (string_bytes name)) (Some path))
    (finite.get-from_entries nat_list_cmp_total (pairs es) q)))
