use Rattle.std.proofs.Common.{◌≡◌, ◌-◌, length, take, drop, min, ap, subst, ◌∙◌, arith, length-append, length-drop}
use Rattle.std.proofs.lemmas.List.{take_all}
use Rattle.wire_server.specs.Bodies.{Grows}
use Rattle.wire_server.proofs.Came.{body_came, body_kept}
use Rattle.wire_server.proofs.keeper.receive_body.Goals as goal

pub returns : goal.returns
returns g c =
    let held = c.args.held.now in
    let len = c.args.head.now.spans.len in
    let behind = length-drop len held in
    let whole : take (length held - len) (drop len held) ≡ drop len held =
    take_all (length held - len) (drop len held) (omega (arith, behind)) in
    let first : c.split_at.result.0.now ≡ take c.min.result (drop len held) =
    c.split_at.ensures.front ∙ ap (take c.min.result) whole in
    let count : c.min.result ≡ min c.args.size (length (drop len held)) =
    omega (arith, c.min.ensures, behind, ap length whole) in
    let missing = c.args.size - length c.split_at.result.0.now in
    let left : missing ≡ c.args.size - (length held - len) =
    omega (arith, c.split_at.ensures.front_len, count, behind) in
    let rest = c.keep_rest.ensures in
    let start = g.K.Keeper.represents c.args.body.now in
    let mid = g.K.Keeper.represents c.keep.new.self in
    record {
      came = body_came _ _ held len c.args.size missing rest.read c.keep_rest.result c.requires left rest.came;
      kept = λ e.
          body_kept _ _ held len c.args.size missing rest.read c.keep_rest.result c.requires left rest.came c.min.result
          start mid (g.K.Keeper.represents c.keep_rest.new.body) e count
          (subst (λ piece. Grows start mid piece) first c.in_ok-keep.ensures) (rest.kept e);
      missing = λ e. omega (arith, rest.missing e, length-append held rest.read, left, c.requires);
      fault = rest.fault;
    }
