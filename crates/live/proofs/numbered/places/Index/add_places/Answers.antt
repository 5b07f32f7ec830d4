use Rattle.std.proofs.Common.{ap, ◌∙◌, ◌++◌, sym, append-nil, Vec, Global, ℕ}
use Rattle.std.specs.Option.{option_to_list}
use Rattle.live.specs.Numbering.{paths_of}
use Rattle.live.proofs.Makings.{places_more}
use Rattle.live.proofs.numbered.places.Index.add_places.Goals as goal
use Rattle.live.proofs.numbered.places.Index.add_places.Goals.{in-Some+in_ok-push, in_default}

pub loop-path-preserved : goal.loop-path-preserved
loop-path-preserved c =
    places_more (paths_of c.args.self.now) c.args.paths.now c.loop-path.path-index c.path-item.result
    c.loop-path-test.true c.path-item.is c.find.result c.find.ensures
    c.args.targets.now.items c.loop-path.targets.items c.match-find.targets.items c.loop-path.invariant
    (elim c.match-find.branch [
      | in-Some+in_ok-push w ↦ ap (λ (v : Vec ℕ Global). v.items) w.targets-is ∙ w.in_ok-push.ensures.items
          ∙ ap (λ o. c.loop-path.targets.items ++ option_to_list o) (sym w.in-Some.is)
      | in_default w ↦ ap (λ (v : Vec ℕ Global). v.items) w.targets-is ∙ sym (append-nil c.loop-path.targets.items)
          ∙ ap (λ o. c.loop-path.targets.items ++ option_to_list o) (sym w.in_default.is)
    ])
