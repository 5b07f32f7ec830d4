use Rattle.std.proofs.Common.{sym, ap, ◌∙◌}
use Rattle.std.specs.FinMap as finite
use Rattle.tables_load_objects.proofs.Ahead.{first_stored, rest_stored}
use Rattle.tables_load_objects.proofs.rows_ahead.next_of.Goals as goal

pub returns-in_default-clause-left : goal.returns-in_default-clause-left
returns-in_default-clause-left c x all =
    rest_stored x c.args.ahead.now.items c.pop_front.result c.pop_front.new.self.items c.pop_front.ensures.items all

pub returns-then-not-is_of-clause-left : goal.returns-then-not-is_of-clause-left
returns-then-not-is_of-clause-left c x all =
    rest_stored x c.args.ahead.now.items c.pop_front.result c.pop_front.new.self.items c.pop_front.ensures.items all

pub returns-clause-left : goal.returns-clause-left
returns-clause-left c x all =
    rest_stored x c.args.ahead.now.items c.pop_front.result c.pop_front.new.self.items c.pop_front.ensures.items all

pub returns-clause-found : goal.returns-clause-found
returns-clause-found c x all =
    let is = c.is_of.ensures.0 c.if-not-is_of.false in (
      is,
      ap (finite.get x.objects) (sym is)
          ∙ first_stored x c.args.ahead.now.items c.pop_front.result c.pop_front.new.self.items c.in-Some.next
          c.in-Some.is c.pop_front.ensures.items all,
    )
