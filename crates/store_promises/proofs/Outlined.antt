-- What the outline of a world says of it.
use Rattle.std.proofs.Common.{◌≡◌, List, map, Option, Some, None, is_some, option_map, sym, ap, ◌∙◌}
use Rattle.std.specs.List.{list_all}
use Rattle.std.specs.FinMap as finite
use Rattle.std.proofs.lemmas.Bool.{false≢true}
use Rattle.std.proofs.lemmas.Option.{same_Some}
use Rattle.paths.specs.Root.{bytes_cmp}
use Rattle.model.specs.World.{Path, Object, World, has, all_paths}
use Rattle.tables_outline.specs.Outline.{OutlineValue, Outlined, outlined, outline_of}
use Rattle.model.specs.Reply.{record_of}
use Rattle.model.specs.Answers.{record_at}
use Rattle.store_promises.specs.Summaries.{info_in}
use Rattle.tables_outline.proofs.Orders.{bytes_total, bytes_antisymmetric}
use Rattle.tables_outline.proofs.Reported.{get-reported, has-reported}
use Rattle.tables_writes.proofs.Outlined.{entries_outlined, keys_mapped}

-- the same paths
pub paths_outlined : (w : World) → finite.keys (outline_of w).objects ≡ all_paths w
paths_outlined w =
    ap (map (λ (e : Path × Outlined). e.0)) (entries_outlined w)
    ∙ keys_mapped bytes_cmp outlined (finite.entries w.objects)

pub all_outlined : (o : OutlineValue) (w : World) → outline_of w ≡ o → finite.keys o.objects ≡ all_paths w
all_outlined o w is = ap (λ (x : OutlineValue). finite.keys x.objects) (sym is) ∙ paths_outlined w

pub has_outlined : (w : World) (p : Path) → finite.contains_key (outline_of w).objects p ≡ has w p
has_outlined w p = has-reported bytes_total bytes_antisymmetric (λ _ x. outlined x) w.objects p

pub get_outlined : (w : World) (p : Path)
    → finite.get (outline_of w).objects p ≡ option_map outlined (finite.get w.objects p)
get_outlined w p = get-reported bytes_total bytes_antisymmetric (λ _ x. outlined x) w.objects p

-- a path that the outline has is valid, and one that it hasn't isn't
pub valid_by : (o : OutlineValue) (w : World) (p : Path) (found : Option Outlined) → outline_of w ≡ o
    → found ≡ finite.get o.objects p → has w p ≡ is_some found
valid_by o w p found is at =
    sym (has_outlined w p) ∙ ap (λ (x : OutlineValue). finite.contains_key x.objects p) is ∙ ap is_some (sym at)

found_by : (o : OutlineValue) (w : World) (p : Path) (found : Option Outlined) → outline_of w ≡ o
    → found ≡ finite.get o.objects p → option_map outlined (finite.get w.objects p) ≡ found
found_by o w p found is at = sym (get_outlined w p) ∙ ap (λ (x : OutlineValue). finite.get x.objects p) is ∙ sym at

-- the record of what is found is the object's
pub record_by : (o : OutlineValue) (w : World) (p : Path) (x : Outlined) → outline_of w ≡ o
    → Some x ≡ finite.get o.objects p → record_of (info_in p x) ≡ record_at p (finite.get w.objects p)
record_by o w p x is at = by (finite.get w.objects p) (found_by o w p (Some x) is at)
  where
    by : (r : Option Object) → option_map outlined r ≡ Some x → record_of (info_in p x) ≡ record_at p r
    by None e = absurd (false≢true (ap is_some e))
    by (Some y) e = ap (λ z. record_of (info_in p z)) (sym (same_Some (outlined y) x e))

-- whether paths are all valid
pub all_valid_by : (o : OutlineValue) (w : World) (ps : List Path) → outline_of w ≡ o
    → list_all (has w) ps ≡ list_all (finite.contains_key o.objects) ps
all_valid_by o w ps is =
    (λ i. list_all (λ p. sym (has_outlined w p) i) ps)
    ∙ ap (λ (x : OutlineValue). list_all (finite.contains_key x.objects) ps) is
