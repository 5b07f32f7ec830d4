use Rattle.std.proofs.Common.{List, Ok, Option, inl, inr, refl, ℕ, ◌≡◌, ◌⊎◌}
use Rattle.policy.specs.Settings.{Settings}
use Rattle.policy.specs.Toml.{config_of}
use Rattle.clap.specs.Walk.{Text}
use Rattle.report.specs.Outputs.{Console, printed_of}
use Rattle.model.specs.declared.failures.Failure.TheVariants.{Memory}
use Rattle.tool_pure.specs.declared.stops.Stop.TheVariants.{Failed}
use Rattle.tool_words.specs.Asked.{optional_text}
use Rattle.tool_words.specs.declared.line.ServeArguments.{ServeArguments}
use Rattle.tool.specs.Answer.{AnswersServing}
use Rattle.tool.specs.Works.{DoesWith, Doing, serves}
use Rattle.tool.proofs.Answered.{stopped_under}
use Rattle.tool.proofs.Called.{under}
use Rattle.tool.specs.Streams.{StopsUnread, happened}
use Rattle.tool.specs.Requests.{most_served}
use Rattle.tool.proofs.Reading.{unread_within}
use Rattle.tool.proofs.serve.serve.Goals as goal

-- what is done with a store under the settings of a configuration is the answer
serving : (of_file : Doing) (config : List ℕ) (s : Settings) (db : Option Text) (a : ServeArguments) (console : Console)
    → config_of config ≡ Ok s → DoesWith of_file db s (serves a) console → AnswersServing of_file config db a console
serving of_file config s db a console is does =
    under (config_of config) s (λ s. StopsUnread (Failed Memory) console ⊎ DoesWith of_file db s (serves a) console)
    console is (inr does)

pub returns-in-Ok : goal.returns-in-Ok
returns-in-Ok g c = record {
  given = record {
    answer =
        let console =
        happened g.R.Read.remaining g.W.Write.contents g.E.Write.contents c.args.console.now
        c.with_tables.new.console c.with_tables.result in
        serving _ c.args.config.now c.in-Ok.config (optional_text c.args.db) c.args.arguments console c.in-Ok.ensures.ok
        (c.with_tables.ensures.given.answer (serves c.args.arguments) refl);
    reads = c.with_tables.ensures.given.reads;
  };
  same = c.with_tables.ensures.same;
}

pub returns-in-Err : goal.returns-in-Err
returns-in-Err g c = record {
  given = record {
    answer =
        let p = printed_of g.E.Write.contents c.args.console.now.errors.now c.say.new.writer c.say.result in
        stopped_under (config_of c.args.config.now) _ c.in-Err.stop (g.R.Read.remaining c.args.console.now.input.now)
        (g.W.Write.contents c.args.console.now.output.now) p c.in-Err.ensures.err c.say.ensures
        (λ s memory. inl memory);
    reads = unread_within (most_served c.args.arguments) (g.R.Read.remaining c.args.console.now.input.now);
  };
  same = (refl, refl, refl);
}
