use Rattle.std.proofs.Common.{◌∙◌, ◌∷◌, ◌<◌, ap, arith, map, refl, sym, subst, List, Bool, Option, Some, Vec, Global, ℕ}
use Rattle.std.proofs.Common.{length}
use Rattle.std.specs.Prelude.{All, IfSome, not, ◌&&◌, ◌==◌}
use Rattle.std.specs.List.{list_any}
use Rattle.std.specs.Option.{option_map}
use Rattle.live.specs.Numbering.{graph_of, path_at}
use Rattle.live.specs.Remainder.{group_at, is_in, left_after, places_left}
use Rattle.live.proofs.Rests.{no_group, no_turn}
use Rattle.live.proofs.Turns.{consumed_turn}
use Rattle.live.proofs.remainder.Remaining.turn.Goals as goal

pub returns-then-wanted-eq0-clause-turn : goal.returns-then-wanted-eq0-clause-turn
returns-then-wanted-eq0-clause-turn c rows is_dead size stands turn turns =
    no_turn (graph_of rows) is_dead size turns (map (path_at rows) (places_left c.args.self.now.left)) 0 refl
    ∙ sym (no_turn (graph_of rows) is_dead size (turn ∷ turns) (map (path_at rows) (places_left c.args.self.now.left))
    c.args.wanted c.if-wanted-eq0.true)

pub returns-in_ok-still_wanted-in-Some-clause-turn : goal.returns-in_ok-still_wanted-in-Some-clause-turn
returns-in_ok-still_wanted-in-Some-clause-turn c rows is_dead size stands turn turns =
    let listed = c.deref.ensures.value in
    consumed_turn c.args.graph.now c.args.self.now c.remove_all.new.self c.args.sizes.now rows is_dead size stands
    c.deref.result.now
    (subst (All (λ t. t < length c.args.graph.now)) (sym listed)
    (subst (λ (o : Option (Vec ℕ Global)). IfSome o (λ v. All (λ t. t < length c.args.graph.now) v.items))
    c.in-Some.is c.in_ok-group.ensures.inside))
    c.requires.remaining.places c.in_ok-still_wanted-in-Some.ensures.deleted.remaining.places
    (λ i h. c.in_ok-still_wanted-in-Some.ensures.deleted.left i h
    ∙ ap (λ (bs : List Bool). is_in bs i && not (list_any (λ j. j == i) c.deref.result.now))
    c.in_ok-group.ensures.same.left)
    c.args.wanted c.in_ok-still_wanted-in-Some.still_wanted (let n = c.if-wanted-eq0.false in omega arith)
    c.in_ok-still_wanted-in-Some.ensures.wanted
    (sym (c.in_ok-group.ensures.group c.args.sizes.now rows is_dead size stands)
    ∙ ap (option_map (group_at rows)) c.in-Some.is ∙ ap (λ xs. Some (map (path_at rows) xs)) (sym listed))
    turn turns

pub returns-in-None-clause-turn : goal.returns-in-None-clause-turn
returns-in-None-clause-turn c rows is_dead size stands turn turns =
    let none =
    sym (c.in_ok-group.ensures.group c.args.sizes.now rows is_dead size stands)
    ∙ ap (option_map (group_at rows)) c.in-None.is in
    ap (λ (bs : List Bool). left_after (graph_of rows) is_dead size turns (map (path_at rows) (places_left bs)) 0)
    c.in_ok-group.ensures.same.left
    ∙ no_turn (graph_of rows) is_dead size turns (map (path_at rows) (places_left c.args.self.now.left)) 0 refl
    ∙ sym (no_group (graph_of rows) is_dead size (turn ∷ turns) (map (path_at rows) (places_left c.args.self.now.left))
    c.args.wanted none)

pub returns-then-wanted-eq0-clause-dead : goal.returns-then-wanted-eq0-clause-dead
returns-then-wanted-eq0-clause-dead c = record { dead = refl; remaining = c.requires.remaining }

pub returns-in_ok-still_wanted-in-Some-clause-dead : goal.returns-in_ok-still_wanted-in-Some-clause-dead
returns-in_ok-still_wanted-in-Some-clause-dead c = record {
  dead = c.in_ok-still_wanted-in-Some.ensures.deleted.dead ∙ c.in_ok-group.ensures.same.dead;
  remaining = c.in_ok-still_wanted-in-Some.ensures.deleted.remaining;
}

pub returns-in-None-clause-dead : goal.returns-in-None-clause-dead
returns-in-None-clause-dead c =
    record { dead = c.in_ok-group.ensures.same.dead; remaining = c.in_ok-group.ensures.same.remaining }
