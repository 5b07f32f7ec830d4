use Rattle.std.proofs.Common.{◌≡◌, List, [], ◌∷◌, ◌++◌, length, map, refl, sym, ap, subst, ◌∙◌, arith}
use Rattle.std.proofs.lemmas.List.{map_push, nil_from_length}
use Rattle.sqlite.specs.State.{HasCleanDisk}
use Rattle.sqlite.specs.Held.{state}
use Rattle.policy.specs.Settings.{Settings}
use Rattle.model.specs.Reply.{Reply}
use Rattle.tables_writes.proofs.AfterWrites.{clean_before}
use Rattle.store_promises.specs.Disk.{StepOver}
use Rattle.store_promises.proofs.Untouched.{others_both, others_still}
use Rattle.store_types.specs.View.{call_view, request_view, reply_view}
use Rattle.store_types.specs.Spent.{spent_reply}
use Rattle.store.proofs.Alike.{runs_alike}
use Rattle.store.proofs.Pinned.{run_pins}
use Rattle.store.proofs.Runs.{HasRun, begun, one_more, ended}
use Rattle.store.proofs.Spent.{SpentSoFar, none_so_far, one_so_far, all_so_far}
use Rattle.store.proofs.store.Store.run.Goals as goal

pub loop-asked-init : goal.loop-asked-init
loop-asked-init g c =
    let all = c.into_iter-asked-iterator.ensures.into_iter_gives.0 in record {
      settings = refl;
      room =
          omega (
            arith,
            c.in_ok-replies.ensures.len,
            c.in_ok-replies.ensures.capacity,
            c.len.ensures,
            c.args.calls.ok.0,
            ap length all,
          );
      so_far =
          λ w t. (
            w,
            begun c.args.self.now.settings (map call_view c.args.calls.items) _ w _ _ (ap (map call_view) all)
                (ap (map reply_view) c.in_ok-replies.ensures.empty),
            t,
          );
      others = λ w t. others_still g.S.Store c.args.self.now.tables;
      spent =
          none_so_far c.args.self.now.settings c.args.calls.items _ _ all
          (ap (map reply_view) c.in_ok-replies.ensures.empty);
    }

pub push_reserved-requires : goal.push_reserved-requires
push_reserved-requires g c = omega (arith, c.loop-asked.invariant.room, ap length c.in-Some.ensures.steps.0)

pub loop-asked-preserved : goal.loop-asked-preserved
loop-asked-preserved g c =
    let first = c.in-Some.ensures.steps.0 in
    let s = c.args.self.now.settings in
    let reported = map reply_view c.loop-asked.replies.items in
    let reply = reply_view c.call-reply.result in record {
      settings = c.call-reply.ensures.settings ∙ c.loop-asked.invariant.settings;
      room =
          omega (
            arith,
            c.loop-asked.invariant.room,
            ap length first,
            c.push_reserved.ensures.len,
            c.push_reserved.ensures.capacity,
          );
      so_far = λ w t.
          let m = c.loop-asked.invariant.so_far w t in
          let n = c.call-reply.ensures.step m.0 m.2 in
          let was = HasCleanDisk (state g.S.Store c.loop-asked.self.tables.connection) in
          let is = HasCleanDisk (state g.S.Store c.call-reply.new.self.tables.connection) in
          let clean : is → was = λ h. clean_before _ _ _ (c.call-reply.ensures.survives m.0 m.2) h in
          let step =
          subst (λ (x : Settings). StepOver is x m.0 c.in-Some.asked.0 (request_view c.in-Some.asked.1) reply n.0)
          c.loop-asked.invariant.settings n.1 in
          let grown : map reply_view c.push_reserved.new.self.items ≡ reported ++ reply ∷ [] =
          ap (map reply_view) c.push_reserved.ensures.items
          ∙ map_push reply_view c.loop-asked.replies.items c.call-reply.result in (
            n.0,
            subst (λ (rs : List Reply). HasRun is s (map call_view c.args.calls.items)
                (map call_view c.next.new.self.rest.items) rs w n.0) (sym grown)
                (one_more s (map call_view c.args.calls.items) was is clean w m.0 n.0
                (map call_view c.loop-asked.asked-iterator.rest.items) (map call_view c.next.new.self.rest.items)
                (call_view c.in-Some.asked) reported reply
                (ap (map call_view) first) m.1 step),
            n.2,
          );
      others = λ w t.
          let m = c.loop-asked.invariant.so_far w t in
          others_both g.S.Store c.args.self.now.tables c.loop-asked.self.tables c.call-reply.new.self.tables _
          (c.loop-asked.invariant.others w t) (c.call-reply.ensures.survives m.0 m.2) c.call-reply.ensures.others;
      spent =
          let grown : map reply_view c.push_reserved.new.self.items ≡ reported ++ reply ∷ [] =
          ap (map reply_view) c.push_reserved.ensures.items
          ∙ map_push reply_view c.loop-asked.replies.items c.call-reply.result in
          subst (λ (rs : List Reply). SpentSoFar s c.args.calls.items c.next.new.self.rest.items rs) (sym grown)
          (one_so_far s c.args.calls.items c.loop-asked.asked-iterator.rest.items c.next.new.self.rest.items
          c.in-Some.asked reported reply first c.loop-asked.invariant.spent
          (λ lost. subst (λ (x : Settings). reply ≡ spent_reply x c.in-Some.asked.0 (request_view c.in-Some.asked.1))
          c.loop-asked.invariant.settings (c.call-reply.ensures.spent lost).0));
    }

pub loop-asked-preserved-in-Some : goal.loop-asked-preserved-in-Some
loop-asked-preserved-in-Some g c =
    let first = c.in-Some.ensures.steps.0 in
    let s = c.args.self.now.settings in
    let reported = map reply_view c.loop-asked.replies.items in
    let reply = reply_view c.call-reply.result in record {
      settings = c.call-reply.ensures.settings ∙ c.loop-asked.invariant.settings;
      room =
          omega (
            arith,
            c.loop-asked.invariant.room,
            ap length first,
            c.push_reserved.ensures.len,
            c.push_reserved.ensures.capacity,
          );
      so_far = λ w t.
          let m = c.loop-asked.invariant.so_far w t in
          let n = c.call-reply.ensures.step m.0 m.2 in
          let was = HasCleanDisk (state g.S.Store c.loop-asked.self.tables.connection) in
          let is = HasCleanDisk (state g.S.Store c.call-reply.new.self.tables.connection) in
          let clean : is → was = λ h. clean_before _ _ _ (c.call-reply.ensures.survives m.0 m.2) h in
          let step =
          subst (λ (x : Settings). StepOver is x m.0 c.in-Some.asked.0 (request_view c.in-Some.asked.1) reply n.0)
          c.loop-asked.invariant.settings n.1 in
          let grown : map reply_view c.push_reserved.new.self.items ≡ reported ++ reply ∷ [] =
          ap (map reply_view) c.push_reserved.ensures.items
          ∙ map_push reply_view c.loop-asked.replies.items c.call-reply.result in (
            n.0,
            subst (λ (rs : List Reply). HasRun is s (map call_view c.args.calls.items)
                (map call_view c.next.new.self.rest.items) rs w n.0) (sym grown)
                (one_more s (map call_view c.args.calls.items) was is clean w m.0 n.0
                (map call_view c.loop-asked.asked-iterator.rest.items) (map call_view c.next.new.self.rest.items)
                (call_view c.in-Some.asked) reported reply
                (ap (map call_view) first) m.1 step),
            n.2,
          );
      others = λ w t.
          let m = c.loop-asked.invariant.so_far w t in
          others_both g.S.Store c.args.self.now.tables c.loop-asked.self.tables c.call-reply.new.self.tables _
          (c.loop-asked.invariant.others w t) (c.call-reply.ensures.survives m.0 m.2) c.call-reply.ensures.others;
      spent =
          let grown : map reply_view c.push_reserved.new.self.items ≡ reported ++ reply ∷ [] =
          ap (map reply_view) c.push_reserved.ensures.items
          ∙ map_push reply_view c.loop-asked.replies.items c.call-reply.result in
          subst (λ (rs : List Reply). SpentSoFar s c.args.calls.items c.next.new.self.rest.items rs) (sym grown)
          (one_so_far s c.args.calls.items c.loop-asked.asked-iterator.rest.items c.next.new.self.rest.items
          c.in-Some.asked reported reply first c.loop-asked.invariant.spent
          (λ lost. subst (λ (x : Settings). reply ≡ spent_reply x c.in-Some.asked.0 (request_view c.in-Some.asked.1))
          c.loop-asked.invariant.settings (c.call-reply.ensures.spent lost).0));
    }

pub returns-clause-settings : goal.returns-clause-settings
returns-clause-settings g c = c.loop-asked.invariant.settings

pub returns-clause-runs : goal.returns-clause-runs
returns-clause-runs g c w t =
    let m = c.loop-asked.invariant.so_far w t in
    let rest = c.loop-asked.asked-iterator.rest in
    let none = nil_from_length rest.items (omega (arith, c.in-None.ensures.steps.0, rest.ok.0)) in
    let s = c.args.self.now.settings in
    let calls = map call_view c.args.calls.items in
    let replies = map reply_view c.loop-asked.replies.items in
    let run = ended s calls _ w m.0 (map call_view rest.items) replies (ap (map call_view) none) m.1 in
    record {
      next = m.0;
      described = m.2;
      run = run;
      pins = λ r throughout. run_pins _ s w m.0 r calls replies run throughout;
      others = c.loop-asked.invariant.others w t;
    }

pub returns-clause-hides : goal.returns-clause-hides
returns-clause-hides g c w v last others t differ run alike =
    let m = c.loop-asked.invariant.so_far w t in
    let rest = c.loop-asked.asked-iterator.rest in
    let none = nil_from_length rest.items (omega (arith, c.in-None.ensures.steps.0, rest.ok.0)) in
    let s = c.args.self.now.settings in
    let calls = map call_view c.args.calls.items in
    let replies = map reply_view c.loop-asked.replies.items in
    runs_alike _ s w v m.0 last calls replies others differ
    (ended s calls _ w m.0 (map call_view rest.items) replies (ap (map call_view) none) m.1) run alike

pub returns-clause-spent : goal.returns-clause-spent
returns-clause-spent g c =
    let rest = c.loop-asked.asked-iterator.rest in
    all_so_far c.args.self.now.settings c.args.calls.items rest.items (map reply_view c.loop-asked.replies.items)
    (nil_from_length rest.items (omega (arith, c.in-None.ensures.steps.0, rest.ok.0))) c.loop-asked.invariant.spent
