use Rattle.live.proofs.Turns.{IsUnder}
use Rattle.live.proofs.limited_collection.limited.Given as goal

abbrev pub invariant-turns : goal.invariant-turns
invariant-turns l = IsUnder l.graph l.marks l.sizes l.limit l.turn l.remaining l.wanted
