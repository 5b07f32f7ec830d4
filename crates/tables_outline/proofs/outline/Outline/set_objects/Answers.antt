use Rattle.std.proofs.Common.{subst}
use Rattle.std.specs.FinMap as finite
use Rattle.paths.specs.Root.{bytes_cmp}
use Rattle.tables_outline.specs.Changes.{ChangesTo}
use Rattle.tables_outline.specs.Maps.{put_all}
use Rattle.tables_outline.specs.View.{outline_view}
use Rattle.tables_outline.specs.Outline.{OutlineValue, Outlined}
use Rattle.tables_outline.proofs.TurnedObjects.{changed}
use Rattle.tables_outline.proofs.outline.Outline.set_objects.Goals as goal

pub returns : goal.returns
returns c =
    let with : finite.FinMap bytes_cmp Outlined → OutlineValue =
    λ m. record (outline_view c.self.inside) { objects = m } in
    subst (λ (o : OutlineValue). ChangesTo o (with c.set.new.self) c.set.result
    (record o { objects = put_all c.args.objects.items finite.empty })) c.self.view_is
    (changed with c.self.inside.objects c.set.new.self (put_all c.args.objects.items finite.empty) c.set.result
    c.set.ensures)
