use Rattle.live.specs.Places.{entries_at}
use Rattle.live.proofs.Turned.{noted_all}
use Rattle.live.proofs.reversed_graph.Reversed.note_object.Goals as goal

pub returns : goal.returns
returns c =
    noted_all c.args.kinds (entries_at c.args.graph.now c.args.place) c.args.self.now c.note_if.new.self
    c.note_if-2.new.self c.note_if-3.new.self c.args.place
    c.object-has.result.references c.object-has.result.outputs c.object-has.result.all c.object-has.ensures.references
    c.object-has.ensures.outputs c.object-has.ensures.all
    c.in_ok-note_if.ensures c.in_ok-note_if-2.ensures c.in_ok-note_if-3.ensures
