use Rattle.live.proofs.Conditions.{rise_all}
use Rattle.live.proofs.numbered.conditions.do_rise.Goals as goal

pub returns : goal.returns
returns c = λ t. rise_all c.args.rows.now c.loop-i.i c.loop-i-test.false c.loop-i.invariant
