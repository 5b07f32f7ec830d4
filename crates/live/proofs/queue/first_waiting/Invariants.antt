use Rattle.live.specs.Listed.{NoneBetween}
use Rattle.live.proofs.queue.first_waiting.Given as goal

abbrev pub invariant-loop-place : goal.invariant-loop-place
invariant-loop-place l = NoneBetween l.waiting l.start l.place
