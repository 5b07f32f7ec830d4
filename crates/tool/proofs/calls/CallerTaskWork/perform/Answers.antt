use Rattle.std.proofs.Common.{◌≡◌, List, ℕ, Ok, Err, ap, refl, subst, ◌∙◌}
use Rattle.policy.specs.Settings.{Settings}
use Rattle.store_types.specs.View.{request_view}
use Rattle.report.specs.Outputs.{Console, change_of, console_of, printed_of}
use Rattle.tool_words.specs.Asked.{asked_view}
use Rattle.tool.specs.Calls.{Serves}
use Rattle.tool.specs.Requests.{IsAskedBy, asks}
use Rattle.tool.proofs.Answered.{errors_only}
use Rattle.tool.proofs.Called.{asked, served, stopped_over}
use Rattle.tool.proofs.Done.{called_at}
use Rattle.tool.proofs.Unchanged.{unchanged}
use Rattle.tool.proofs.calls.CallerTaskWork.perform.Goals as goal

pub returns-in-Ok-clause-answered : goal.returns-in-Ok-clause-answered
returns-in-Ok-clause-answered g c = record {
  given = record {
    answer =
        let console =
        console_of g.R.Read.remaining g.W.Write.contents g.E.Write.contents c.args.console.now.input.now
        c.request.new.input c.args.console.now.output.now c.call_store-status.new.output
        c.args.console.now.errors.now c.call_store-status.new.errors c.call_store-status.result in
        let caller = c.args.self.now.caller.now in
        let old = c.args.store.now in
        let new = c.call_store-status.new.store in
        let dir : c.store_dir-dir.result.now ≡ old.settings.store_dir =
        c.store_dir-dir.ensures ∙ ap (λ (s : Settings). s.store_dir) c.config.ensures in
        called_at g.S.Store caller (asks (asked_view c.args.self.now.task.now)) console old new
        (λ ask is.
        asked (Serves g.S.Store caller console.written old new) (new ≡ old) ask old.settings.store_dir caller
        console.input c.in-Ok.request console.written
        (subst (λ (d : List ℕ). IsAskedBy ask d caller console.input (Ok c.in-Ok.request)) dir
        (c.in-Ok.ensures.asked ask is))
        (λ r same. served g.S.Store caller console.written old new (request_view c.in-Ok.request) r same
        c.call_store-status.ensures));
    reads = c.request.ensures.reads;
  };
  same = (refl, refl, refl);
}

pub returns-in-Err-clause-answered : goal.returns-in-Err-clause-answered
returns-in-Err-clause-answered g c = record {
  given = record {
    answer =
        let input = change_of g.R.Read.remaining c.args.console.now.input.now c.request.new.input in
        let out = g.W.Write.contents c.args.console.now.output.now in
        let p = printed_of g.E.Write.contents c.args.console.now.errors.now c.say.new.writer c.say.result in
        let console : Console = record { input = input; written = errors_only out p } in
        let caller = c.args.self.now.caller.now in
        let old = c.args.store.now in
        let dir : c.store_dir-dir.result.now ≡ old.settings.store_dir =
        c.store_dir-dir.ensures ∙ ap (λ (s : Settings). s.store_dir) c.config.ensures in
        called_at g.S.Store caller (asks (asked_view c.args.self.now.task.now)) console old old
        (λ ask is.
        stopped_over (Serves g.S.Store caller console.written old old) (old ≡ old) ask old.settings.store_dir
        caller input c.in-Err.stop out p
        (subst (λ (d : List ℕ). IsAskedBy ask d caller input (Err c.in-Err.stop)) dir
        (c.in-Err.ensures.asked ask is))
        c.say.ensures refl);
    reads = c.request.ensures.reads;
  };
  same = (refl, refl, refl);
}

pub returns-in-Ok-clause-unchanged : goal.returns-in-Ok-clause-unchanged
returns-in-Ok-clause-unchanged g c reads =
    unchanged g.S.Store c.args.self.now.caller.now (request_view c.in-Ok.request) c.call_store-status.ensures.0
    c.args.store.now c.call_store-status.new.store c.call_store-status.ensures.1
    (λ w. c.reads-reads.ensures.still reads c.args.store.now.settings w)
