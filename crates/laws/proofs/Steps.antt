-- Marking takes at most a step for each object, each entry that counts and each root.
use Rattle.std.proofs.Common.{ℕ, ◌≤◌, List, [], ◌∷◌, length, Bool, true, false, arith}
use Rattle.std.specs.Prelude.{if◌then◌else◌, nat_lt, map}
use Rattle.std.proofs.lemmas.List.Sums.{sum_by-cons}
use Rattle.live.specs.Graph.{Keep}
use Rattle.live.specs.Places.{Entries, counting}
use Rattle.live.specs.Marks.{cost, marked_cost}
use Rattle.laws.specs.Steps.{steps_of, TakesFewSteps}

at_most : (b : Bool) (w : ℕ) → (if b then w else 0) ≤ w
at_most true w = omega arith
at_most false w = omega arith

-- what the marked cost, all places cost at least
cost_of_all : (keep : Keep) (none : ℕ) (rows : List Entries) (marks : List ℕ)
    → marked_cost none (map (cost keep) rows) marks ≤ steps_of keep rows
cost_of_all keep none [] marks = omega arith
cost_of_all keep none (row ∷ rows) [] = omega arith
cost_of_all keep none (row ∷ rows) (mark ∷ marks) =
    let rest = cost_of_all keep none rows marks in
    let total = sum_by-cons (λ (e : Entries). length (counting keep e)) row rows in
    omega (arith, rest, total, at_most (nat_lt mark none) (cost keep row))

pub takes_few_steps : (keep : Keep) → TakesFewSteps keep
takes_few_steps keep = record {
  places =
      λ rows targets m is. (let steps = is.steps in let all = cost_of_all keep m.none rows m.first in
      omega (arith, steps, all));
  paths = λ rows roots m is. is.most_steps;
}
