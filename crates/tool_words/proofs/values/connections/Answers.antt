use Rattle.std.proofs.Common.{codes, ap, ◌∙◌}
use Rattle.std.specs.Str.Parse.{ParsesUnsigned, ExplainsUnsignedError, HasUnsignedDigitsIfOk}
use Rattle.std.specs.Prelude.{option_and_then}
use Rattle.clap.specs.Matches.{found_of, one_text}
use Rattle.clap.proofs.WalkLemmas.{one_text-rows}
use Rattle.tool_words.specs.Values.{number_below}
use Rattle.tool_words.proofs.Numbers.{number_read}
use Rattle.tool_words.proofs.values.connections.Goals as goal

pub returns : goal.returns
returns c =
    let found = found_of c.args.matches.now in
    number_read {gives = λ text r. ParsesUnsigned 32 10 text r × ExplainsUnsignedError 10 text r
    × HasUnsignedDigitsIfOk text r} 32 (one_text found (codes "connections")) c.get_one.result
    c.get_one.ensures.value (λ text r read. read.0) c.get_one.ensures.none
    ∙ ap (option_and_then (number_below 32)) (one_text-rows found (codes "connections"))
