use Rattle.std.proofs.Common.{subst}
use Rattle.std.specs.FinMap as finite
use Rattle.paths.specs.Root.{bytes_cmp}
use Rattle.tables_outline.specs.Changes.{ChangesTo}
use Rattle.tables_outline.specs.View.{outline_view}
use Rattle.tables_outline.specs.Outline.{OutlineValue, Outlined}
use Rattle.tables_outline.proofs.TurnedObjects.{changed}
use Rattle.tables_outline.proofs.outline.Outline.insert_object.Goals as goal

pub returns : goal.returns
returns c =
    let with : finite.FinMap bytes_cmp Outlined → OutlineValue =
    λ m. record (outline_view c.self.inside) { objects = m } in
    subst (λ (o : OutlineValue). ChangesTo o (with c.insert.new.self) c.insert.result
    (record o { objects = finite.insert o.objects c.args.path c.args.object })) c.self.view_is
    (changed with c.self.inside.objects c.insert.new.self
    (finite.insert c.self.inside.objects c.args.path c.args.object) c.insert.result c.insert.ensures)
