use Rattle.std.proofs.Common.{ap, inl, option_map, refl}
use Rattle.policy.specs.Toml.{config_of}
use Rattle.report.specs.Outputs.{printed_of}
use Rattle.tool_words.specs.Asked.{optional_text}
use Rattle.tool_words.specs.Line.{line_view}
use Rattle.tool.specs.Works.{DoesWith, calls}
use Rattle.tool.proofs.Answered.{stopped_under, unread_console}
use Rattle.tool.proofs.Called.{named, under, unnamed}
use Rattle.tool.specs.Streams.{happened}
use Rattle.tool.specs.Requests.{most_read}
use Rattle.tool.proofs.Reading.{unread_within}
use Rattle.tool.proofs.calls.call.Goals as goal

pub returns-in-Err : goal.returns-in-Err
returns-in-Err g c = record {
  given = record {
    answer = λ ask is.
        let p = printed_of g.E.Write.contents c.args.console.now.errors.now c.say.new.writer c.say.result in
        stopped_under (config_of c.args.config.now) _ c.in-Err.stop (g.R.Read.remaining c.args.console.now.input.now)
        (g.W.Write.contents c.args.console.now.output.now) p c.in-Err.ensures.err c.say.ensures
        (λ s memory. inl memory);
    reads =
        unread_within (most_read (line_view c.args.line.now).asked) (g.R.Read.remaining c.args.console.now.input.now);
  };
  same = (refl, refl, refl);
}

pub returns-in-Err-parse_caller : goal.returns-in-Err-parse_caller
returns-in-Err-parse_caller g c = record {
  given = record {
    answer = λ ask is.
        let known = g.R.Read.remaining c.args.console.now.input.now in
        let out = g.W.Write.contents c.args.console.now.output.now in
        let p =
        printed_of g.E.Write.contents c.args.console.now.errors.now c.say-in-Err-parse_caller.new.writer
        c.say-in-Err-parse_caller.result in
        let console = unread_console known out p in
        under (config_of c.args.config.now) c.in-Ok.config _ console c.in-Ok.ensures.ok
        (unnamed (λ who. DoesWith _ (optional_text c.args.line.now.db) c.in-Ok.config (calls who ask) console)
        (line_view c.args.line.now) c.in-Err-parse_caller.stop known out p c.in-Err-parse_caller.ensures.err
        c.say-in-Err-parse_caller.ensures);
    reads =
        unread_within (most_read (line_view c.args.line.now).asked) (g.R.Read.remaining c.args.console.now.input.now);
  };
  same = (refl, refl, refl);
}

pub returns-in-Ok-parse_caller : goal.returns-in-Ok-parse_caller
returns-in-Ok-parse_caller g c = record {
  given = record {
    answer = λ ask is.
        let console =
        happened g.R.Read.remaining g.W.Write.contents g.E.Write.contents c.args.console.now
        c.with_tables.new.console c.with_tables.result in
        let caller = c.in-Ok-parse_caller.caller in
        under (config_of c.args.config.now) c.in-Ok.config _ console c.in-Ok.ensures.ok
        (named (λ who. DoesWith _ (optional_text c.args.line.now.db) c.in-Ok.config (calls who ask) console)
        (line_view c.args.line.now) caller console
        c.in-Ok-parse_caller.ensures.ok
        (c.with_tables.ensures.given.answer (calls caller ask) (ap (option_map (calls caller)) is)));
    reads = c.with_tables.ensures.given.reads;
  };
  same = c.with_tables.ensures.same;
}
