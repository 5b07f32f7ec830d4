use Rattle.std.proofs.Common.{◌≡◌, true, ℕ, List, string_bytes, sym, ap, ◌∙◌, is_some}
use Rattle.std.specs.Ordering.{eq_by_cmp}
use Rattle.std.specs.Map.{lookup}
use Rattle.std.specs.FinMap as finite
use Rattle.paths.specs.Root.{bytes_cmp}
use Rattle.tables_outline.specs.Maps.{seen_map, unput}
use Rattle.tables_outline.specs.View.{outline_view}
use Rattle.tables_outline.specs.Outline.{OutlineValue}
use Rattle.tables_outline.proofs.Orders.{bytes_total, bytes_antisymmetric}
use Rattle.std.specs.Option.{option_copied_mut}
use Rattle.std.proofs.lemmas.Bool.{false≢true}
use Rattle.tables_outline.proofs.Trees.{has_seen}
use Rattle.tables_outline.proofs.Written.{written}
use Rattle.tables_outline.proofs.outline.Outline.undo_permanent.Goals as goal

pub returns-in-Some-get_mut : goal.returns-in-Some-get_mut
returns-in-Some-get_mut c =
    let es = c.self.inside.permanent.entries in
    let name = c.args.name.now in
    let present : is_some (lookup (λ k. eq_by_cmp bytes_cmp name (string_bytes k)) es) ≡ true =
    sym (has_seen bytes_cmp string_bytes (λ (t : List ℕ). t) bytes_total bytes_antisymmetric
    c.self.inside.permanent.entries name)
    ∙ ap (λ (o : OutlineValue). finite.contains_key o.permanent name) c.self.view_is ∙ c.requires in
    ap (λ m. record (outline_view c.self.inside) { permanent = m })
    (ap (seen_map bytes_cmp string_bytes (λ (t : List ℕ). t)) (c.get_mut.follows.holds c.in-Some.target).0
    ∙ written bytes_cmp string_bytes (λ (t : List ℕ). t) bytes_total bytes_antisymmetric es name c.in-Some.target
    present)
    ∙ ap (λ (o : OutlineValue). record o { permanent = finite.insert o.permanent name c.in-Some.target }) c.self.view_is
    ∙ ap (λ h. record c.args.self.now { permanent = unput c.args.self.now.permanent name h }) (sym c.in-Some.is)

pub returns-in_default : goal.returns-in_default
returns-in_default c =
    let es = c.self.inside.permanent.entries in
    let name = c.args.name.now in
    let present : is_some (lookup (λ k. eq_by_cmp bytes_cmp name (string_bytes k)) es) ≡ true =
    sym (has_seen bytes_cmp string_bytes (λ (t : List ℕ). t) bytes_total bytes_antisymmetric
    c.self.inside.permanent.entries name)
    ∙ ap (λ (o : OutlineValue). finite.contains_key o.permanent name) c.self.view_is ∙ c.requires in
    absurd (false≢true (ap is_some (ap option_copied_mut (sym c.in_default.is) ∙ c.get_mut.ensures.value) ∙ present))

pub returns-in-None : goal.returns-in-None
returns-in-None c =
    c.drop_permanent.ensures
    ∙ ap (λ h. record c.args.self.now { permanent = unput c.args.self.now.permanent c.args.name.now h })
    (sym c.in-None.is)
