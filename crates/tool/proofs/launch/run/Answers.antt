use Rattle.std.proofs.Common.{ap}
use Rattle.std.proofs.KnownBytes.{Keeps-refl}
use Rattle.report.specs.Outputs.{console_of}
use Rattle.tool_words.specs.Line.{Line, line_view}
use Rattle.tool.specs.Requests.{most_read}
use Rattle.tool.proofs.Answered.{line_refused, line_run, same_line}
use Rattle.tool.proofs.Reading.{unread_within, within_same}
use Rattle.tool.proofs.Returned.{returned}
use Rattle.tool.proofs.launch.run.Goals as goal

pub returns-in-Ok-clause-line : goal.returns-in-Ok-clause-line
returns-in-Ok-clause-line g c = λ line is.
    let same = c.execute.ensures.same in
    let done =
    returned c.execute.ensures _ _ _ (c.input-1.given.1 same.0) (c.output-1.given.1 same.1)
    (c.errors-1.given.1 same.2) in
    line_run _ _ (line_view c.in-Ok.line) line _ c.in-Ok.ensures.ok is done.answer

pub returns-in-Ok-clause-words : goal.returns-in-Ok-clause-words
returns-in-Ok-clause-words g c = λ none. absurd (none (line_view c.in-Ok.line, c.in-Ok.ensures.ok))

pub returns-in-Err-clause-words : goal.returns-in-Err-clause-words
returns-in-Err-clause-words g c = λ none. (c.in-Err.fault, c.in-Err.ensures.err, c.explain.ensures)

pub returns-in-Err-clause-line : goal.returns-in-Err-clause-line
returns-in-Err-clause-line g c =
    let console =
    console_of g.R.Read.remaining g.W.Write.contents g.E.Write.contents c.args.input.now c.args.input.now
    c.args.output.now c.explain.new.output c.args.errors.now c.explain.new.errors c.explain.result in
    line_refused _ _ c.in-Err.fault console c.in-Err.ensures.err c.explain.ensures
    (Keeps-refl (g.R.Read.remaining c.args.input.now))

pub returns-in-Ok-clause-reads : goal.returns-in-Ok-clause-reads
returns-in-Ok-clause-reads g c = λ line is.
    let same = c.execute.ensures.same in
    let done =
    returned c.execute.ensures _ _ _ (c.input-1.given.1 same.0) (c.output-1.given.1 same.1)
    (c.errors-1.given.1 same.2) in
    within_same (most_read line.asked) (most_read (line_view c.in-Ok.line).asked) _ _
    (ap (λ (l : Line). most_read l.asked) (same_line _ line (line_view c.in-Ok.line) is c.in-Ok.ensures.ok)) done.reads

pub returns-in-Err-clause-reads : goal.returns-in-Err-clause-reads
returns-in-Err-clause-reads g c = λ line is.
    unread_within (most_read line.asked) (g.R.Read.remaining c.args.input.now)

pub returns-in-Ok-clause-unread : goal.returns-in-Ok-clause-unread
returns-in-Ok-clause-unread g c = λ none. absurd (none (line_view c.in-Ok.line, c.in-Ok.ensures.ok))

pub returns-in-Err-clause-unread : goal.returns-in-Err-clause-unread
returns-in-Err-clause-unread g c = λ none. Keeps-refl (g.R.Read.remaining c.args.input.now)
