use Rattle.std.proofs.Common.{Some, None, arith, sym, ◌∙◌, ap, ◌++◌, ◌∷◌}
use Rattle.std.proofs.lemmas.Str.Pattern.{split_parts, strip_prefix_char}
use Rattle.wire_bodies.proofs.Reading.{no_colon, no_space}
use Rattle.wire_bodies.proofs.lines.entry_of.Goals as goal

-- src/body.rt:35:9
pub returns-in_default-split_once : goal.returns-in_default-split_once
returns-in_default-split_once c = λ k v is lacks utf8.
    no_colon c.args.line.now c.in-Ok.text.now c.split_once.result c.in-Ok.ensures.cases.0 c.split_once.ensures.cases
    c.in_default-split_once.is k v is lacks

-- src/body.rt:28:1
pub returns-in-Some-strip_prefix : goal.returns-in-Some-strip_prefix
returns-in-Some-strip_prefix c =
    let parts =
    split_parts 58 c.in-Ok.text.now (Some (c.in-Some.key, c.in-Some.rest)) c.in-Some.ensures.cases (omega arith) in
    let value =
    strip_prefix_char 32 c.in-Some.rest.now (Some c.in-Some-strip_prefix.value) c.in-Some-strip_prefix.ensures.cases
    (omega arith) in (
      sym c.in-Ok.ensures.cases.0 ∙ parts.0 ∙ ap (λ t. c.in-Some.key.now ++ 58 ∷ t) value,
      parts.1,
      c.in-Ok.ensures.cases.1,
    )

-- src/body.rt:28:1
pub returns-in-None : goal.returns-in-None
returns-in-None c =
    let none = strip_prefix_char 32 c.in-Some.rest.now None c.in-None.ensures.cases (omega arith) in
    λ k v is lacks utf8. no_space c.args.line.now c.in-Ok.text.now c.in-Some.key c.in-Some.rest c.in-Ok.ensures.cases.0
    c.in-Some.ensures.cases none k v is lacks
