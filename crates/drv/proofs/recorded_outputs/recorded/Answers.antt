use Rattle.std.proofs.Common.{◌∙◌, ◌∷◌, ℕ, List, Option, ap, arith, string_bytes}
use Rattle.std.proofs.lemmas.List.{map_push, nil_from_length}
use Rattle.drv.specs.View.{views, pairs}
use Rattle.drv.proofs.Answering.{recorded_more, recorded_less, recorded_all}
use Rattle.drv.proofs.recorded_outputs.recorded.Goals as goal

pub loop-name-preserved-in-Continue-1 : goal.loop-name-preserved-in-Continue-1
loop-name-preserved-in-Continue-1 c =
    let name = string_bytes c.in-Some.field-0.name in
    let next = c.next.new.self.rest.items in
    recorded_more (pairs c.loop-name.found.items) (pairs c.push.new.self.items) name c.in-Some-path.path
    (views c.loop-name.name-iterator.rest.items) (views next) _
    (ap views c.in-Some.ensures.steps.0 ∙ ap (λ (path : Option (List ℕ)). (name, path) ∷ views next) c.in-Some-path.is)
    (ap pairs c.in_ok-push.ensures.items
    ∙ map_push (λ x. (string_bytes x.0, x.1)) c.loop-name.found.items
    (c.in-Some.field-0.name, c.in-Some-path.path))
    c.loop-name.invariant

pub loop-name-preserved : goal.loop-name-preserved
loop-name-preserved c =
    let name = string_bytes c.in-Some.field-0.name in
    let next = c.next.new.self.rest.items in
    recorded_less (pairs c.loop-name.found.items) name (views c.loop-name.name-iterator.rest.items) (views next) _
    (ap views c.in-Some.ensures.steps.0 ∙ ap (λ (path : Option (List ℕ)). (name, path) ∷ views next) c.in_default.is)
    c.loop-name.invariant

pub returns : goal.returns
returns c =
    let rest = c.loop-name.name-iterator.rest in
    recorded_all (pairs c.loop-name.found.items) (views rest.items) _
    (ap views (nil_from_length rest.items (omega (arith, c.in-None.ensures.steps.0, rest.ok.0))))
    c.loop-name.invariant
