-- What is seen of a server, by those who see something else than its state.
use Rattle.std.proofs.Common.{ℕ, List, [], ◌∷◌, Option, Result, Ok, Err, refl, sym, subst}
use Rattle.std.specs.declared.io.Error.{Error}
use Rattle.httparse.specs.Grammar.{RequestHead}
use Rattle.wire_server.specs.Division.{Item, message, faulty}
use Rattle.wire_server.specs.Responses.{Replied}
use Rattle.wire_server.specs.declared.error.WireError.{WireError}
use Rattle.wire_server.specs.Serves.{Replies, Served}
use Rattle.wire_server.specs.Sessions.{result_of}
use Rattle.wire_server.specs.ServesAll as server
use Rattle.wire_server.specs.ServesAll.{Session, Follow, ServesOn}

-- Each answer leads from what shows the old state to something that shows the new one. If the new state is good, so
-- was the old one, and the answer shows what is seen of them.
module _ {S W : Type 0} (answers : S → RequestHead → List ℕ → Replied → S → Type 0)
    (seen : W → RequestHead → List ℕ → Replied → W → Type 0) (Shows : S → W → Type 0) (Good : S → Type 0)
    (step : (s : S) (w : W) (h : RequestHead) (body : List ℕ) (r : Replied) (new : S) → Shows s w
    → answers s h body r new → (w' : W) × Shows new w' × (Good new → Good s × seen w h body r w')) where
  -- something shows the new state; and where that is good, the old one was, and this is seen
  abbrev Sees : S → S → (W → Type 0) → Type 0
  Sees old new by = (w' : W) × Shows new w' × (Good new → Good old × by w')

  replies_seen : (old : S) (w : W) (items : List Item) (replies : List (List ℕ)) (new : S) → Shows old w
      → Replies answers old items replies new
      → Sees old new (λ w'. Replies seen w items replies w')
  replies_seen old w [] [] new shows same =
      (w, subst (λ s. Shows s w) (sym same) shows, λ good. (subst Good same good, refl))
  replies_seen old w [] (reply ∷ replies) new shows none = absurd none
  replies_seen old w (message h body ∷ items) [] new shows none = absurd none
  replies_seen old w (faulty fault ∷ items) [] new shows none = absurd none
  replies_seen old w (message h body ∷ items) (reply ∷ replies) new shows (mid, r, answered, is, rest) =
      let one = step old w h body r mid shows answered in
      let more = replies_seen mid one.0 items replies new one.1 rest in (
        more.0,
        more.1,
        λ good. let after = more.2 good in let first = one.2 after.0 in
            (first.0, (one.0, r, first.1, is, after.1)),
      )
  replies_seen old w (faulty fault ∷ items) (reply ∷ replies) new shows (is, rest) =
      let more = replies_seen old w items replies new shows rest in
      (more.0, more.1, λ good. let after = more.2 good in (after.0, (is, after.1)))

  -- one connection
  pub served_seen : (input input' output output' : Option (List ℕ)) (old : S) (w : W) (new : S)
      (result : Result ℕ WireError)
      → Shows old w
      → Served answers input input' output output' old new result
      → Sees old new (λ w'. Served seen input input' output output' w w' result)
  served_seen input input' output output' old w new (Ok n) shows served =
      let more = replies_seen old w served.items served.replies new shows served.answered in (
        more.0,
        more.1,
        λ good.
            let after = more.2 good in (
              after.0,
              record {
                items = served.items;
                replies = served.replies;
                counted = served.counted;
                prefix = served.prefix;
                whole = served.whole;
                read = served.read;
                answered = after.1;
                written = served.written;
              },
            ),
      )
  served_seen input input' output output' old w new (Err fault) shows stopped =
      let more = replies_seen old w stopped.items stopped.replies new shows stopped.answered in (
        more.0,
        more.1,
        λ good.
            let after = more.2 good in (
              after.0,
              record {
                items = stopped.items;
                replies = stopped.replies;
                bytes = stopped.bytes;
                prefix = stopped.prefix;
                read = stopped.read;
                awaited = stopped.awaited;
                answered = after.1;
                written = stopped.written;
                appended = stopped.appended;
              },
            ),
      )

  -- connections one after another
  follow_seen : (old : S) (w : W) (err err' : Option (List ℕ)) (sessions : List Session) (new : S) → Shows old w
      → Follow answers old err sessions new err'
      → Sees old new (λ w'. Follow seen w err sessions w' err')
  follow_seen old w err err' [] new shows (same, kept) =
      (w, subst (λ s. Shows s w) (sym same) shows, λ good. (subst Good same good, (refl, kept)))
  follow_seen old w err err' (session ∷ sessions) new shows (fresh, mid, said, is, served, says, rest) =
      let one =
      served_seen session.input session.left fresh session.output old w mid (result_of session.end) shows served in
      let more = follow_seen mid one.0 said err' sessions new one.1 rest in (
        more.0,
        more.1,
        λ good. let after = more.2 good in let first = one.2 after.0 in
            (first.0, (fresh, one.0, said, is, first.1, says, after.1)),
      )

  module _ (waiting waiting' closed closed' unread unread' : Option (List (List ℕ))) (err err' : Option (List ℕ))
      (old : S) (w : W) (new : S) (shows : Shows old w) where
    sessions_seen : (sessions : List Session)
        → server.Serves answers waiting waiting' closed closed' unread unread' err err' old new sessions
        → Sees old new (λ w'. server.Serves seen waiting waiting' closed closed' unread unread' err err' w w' sessions)
    sessions_seen sessions served =
        let more = follow_seen old w err err' sessions new shows served.followed in (
          more.0,
          more.1,
          λ good. let after = more.2 good in (
            after.0,
            record { accepted = served.accepted; left = served.left; rest = served.rest; followed = after.1 },
          ),
        )

    pub serves_on_seen : (Fails : Error → Type 0) (n : ℕ) (faults faults' : Option ℕ) (result : Result ℕ Error)
        → ServesOn answers Fails n waiting waiting' closed closed' unread unread' faults faults' err err' old new result
        → Sees old new
        (λ w'. ServesOn seen Fails n waiting waiting' closed closed' unread unread' faults faults' err err' w w' result)
    serves_on_seen Fails n faults faults' (Ok count) (sessions, served, all, counted, none) =
        let more = sessions_seen sessions served in
        (more.0, more.1, λ good. let after = more.2 good in (after.0, (sessions, after.1, all, counted, none)))
    serves_on_seen Fails n faults faults' (Err fault) (sessions, served, fewer, fails, one) =
        let more = sessions_seen sessions served in
        (more.0, more.1, λ good. let after = more.2 good in (after.0, (sessions, after.1, fewer, fails, one)))
