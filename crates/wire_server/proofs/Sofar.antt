-- A server, as far as it has come.
use Rattle.std.proofs.Common.{◌≡◌, ◌∙◌, ◌+◌, ◌≤◌, ℕ, List, [], ◌∷◌, ◌++◌, length, length-append, Option, Some, None}
use Rattle.std.proofs.Common.{refl, sym, ap, subst, arith}
use Rattle.std.proofs.lemmas.List.{map-append}
use Rattle.std.specs.Io.KnownBytes.{Appends, Keeps}
use Rattle.std.proofs.KnownBytes.{Keeps-refl, Keeps-trans}
use Rattle.httparse.specs.Grammar.{RequestHead}
use Rattle.wire_server.specs.Responses.{Replied}
use Rattle.wire_server.specs.declared.connection.End.{End}
use Rattle.wire_server.specs.declared.connection.End.TheVariants as ends
use Rattle.wire_server.specs.Peers.{IsFresh, ClosesPeers, AcceptsPeers, CountsFaults}
use Rattle.wire_server.specs.Serves.{Served}
use Rattle.wire_server.specs.Sessions.{Says, failure, result_of}
use Rattle.wire_server.specs.ServesAll.{Session, Follow, Serves, failures}
use Rattle.wire_server.proofs.Peers.{takes_none, takes_more, leaves_none, leaves_more, counts_none, counts_more}

-- ---- what is said

appends_kept : (a b c : Option (List ℕ)) (bytes : List ℕ) → Keeps a b → Appends b c bytes → Appends a c bytes
appends_kept None b c bytes p q = tt
appends_kept (Some x) None c bytes p q = absurd p
appends_kept (Some x) (Some y) None bytes p q = absurd q
appends_kept (Some x) (Some y) (Some z) bytes p q = q ∙ ap (λ t. t ++ bytes) p

says_kept : (end : End) (a b c : Option (List ℕ)) → Keeps a b → Says end b c → Says end a c
says_kept (ends.Served count) a b c p q = Keeps-trans a b c p q
says_kept (ends.Reported fault) a b c p q = appends_kept a b c _ p q
says_kept (ends.Unreported fault) a b c p (n, below, q) = (n, below, appends_kept a b c _ p q)

-- ---- how many failed

failures_append : (sessions more : List Session) → failures (sessions ++ more) ≡ failures sessions + failures more
failures_append [] more = omega arith
failures_append (session ∷ sessions) more = let rest = failures_append sessions more in omega (arith, rest)

pub failure_le : (end : End) → failure end ≤ 1
failure_le (ends.Served count) = omega arith
failure_le (ends.Reported fault) = omega arith
failure_le (ends.Unreported fault) = omega arith

pub failures_le : (sessions : List Session) → failures sessions ≤ length sessions
failures_le [] = omega arith
failures_le (session ∷ sessions) = omega (arith, failure_le session.end, failures_le sessions)

module _ {S : Type 0} (answers : S → RequestHead → List ℕ → Replied → S → Type 0) where
  follow_kept : (old new : S) (err said err' : Option (List ℕ)) (sessions : List Session) → Keeps err said
      → Follow answers old said sessions new err'
      → Follow answers old err sessions new err'
  follow_kept old new err said err' [] kept (same, more) = (same, Keeps-trans err said err' kept more)
  follow_kept old new err said err' (session ∷ sessions) kept (before, mid, line, fresh, served, says, rest) =
      (before, mid, line, fresh, served, says_kept session.end err said line kept says, rest)

  follow_more : (old mid new : S) (err said err' : Option (List ℕ)) (sessions more : List Session)
      → Follow answers old err sessions mid said
      → Follow answers mid said more new err' → Follow answers old err (sessions ++ more) new err'
  follow_more old mid new err said err' [] more (same, kept) second =
      follow_kept old new err said err' more kept (subst (λ s. Follow answers s said more new err') same second)
  follow_more old mid new err said err' (session ∷ sessions) more (before, s, line, fresh, served, says, rest) second =
      (before, s, line, fresh, served, says, follow_more s mid new line said err' sessions more rest second)

  -- a number of connections were served, and no accept failed
  pub record Sofar (waiting waiting' closed closed' unread unread' : Option (List (List ℕ))) (faults faults' : Option ℕ)
      (err err' : Option (List ℕ)) (old new : S) (n count : ℕ) : Type 0 where
    pub sessions : List Session
    pub serves : Serves answers waiting waiting' closed closed' unread unread' err err' old new sessions
    pub counted : length sessions ≡ n
    pub failing : count ≡ failures sessions
    pub accepting : CountsFaults faults faults' 0

  pub sofar_start : (waiting closed unread : Option (List (List ℕ))) (faults : Option ℕ) (err : Option (List ℕ)) (s : S)
      → Sofar waiting waiting closed closed unread unread faults faults err err s s 0 0
  sofar_start waiting closed unread faults err s = record {
    sessions = [];
    serves = record {
      accepted = takes_none waiting;
      left = leaves_none closed;
      rest = leaves_none unread;
      followed = (refl, Keeps-refl err);
    };
    counted = refl;
    failing = refl;
    accepting = counts_none faults;
  }

  module _ (waiting waiting' closed closed' unread unread' : Option (List (List ℕ))) (faults faults' : Option ℕ)
      (err err' : Option (List ℕ)) (old new : S) (n count : ℕ)
      (sofar : Sofar waiting waiting' closed closed' unread unread' faults faults' err err' old new n count) where
    -- no more was taken, left or said
    pub sofar_still : (waiting'' closed'' unread'' : Option (List (List ℕ))) → AcceptsPeers waiting' waiting'' []
        → ClosesPeers closed' closed'' [] → ClosesPeers unread' unread'' []
        → Serves answers waiting waiting'' closed closed'' unread unread'' err err' old new (sofar.sessions ++ [])
    sofar_still waiting'' closed'' unread'' accepted left rest = record {
      accepted =
          subst (AcceptsPeers waiting waiting'') (sym (map-append (λ s. s.input) sofar.sessions []))
          (takes_more waiting waiting' waiting'' _ [] sofar.serves.accepted accepted);
      left =
          subst (ClosesPeers closed closed'') (sym (map-append (λ s. s.output) sofar.sessions []))
          (leaves_more closed closed' closed'' _ [] sofar.serves.left left);
      rest =
          subst (ClosesPeers unread unread'') (sym (map-append (λ s. s.left) sofar.sessions []))
          (leaves_more unread unread' unread'' _ [] sofar.serves.rest rest);
      followed = follow_more old new new err err' err' sofar.sessions [] sofar.serves.followed (refl, Keeps-refl err');
    }

    -- one more connection
    pub sofar_more : (waiting'' closed'' unread'' : Option (List (List ℕ))) (faults'' : Option ℕ)
        (err'' input more before output : Option (List ℕ)) (new' : S) (end : End)
        → AcceptsPeers waiting' waiting'' (input ∷ []) → ClosesPeers closed' closed'' (output ∷ [])
        → ClosesPeers unread' unread'' (more ∷ []) → IsFresh before
        → Served answers input more before output new new' (result_of end) → Says end err' err''
        → CountsFaults faults' faults'' 0
        → Sofar waiting waiting'' closed closed'' unread unread'' faults faults'' err err'' old new' (n + 1)
        (count + failure end)
    sofar_more waiting'' closed'' unread'' faults'' err'' input more before output new' end accepted left rest fresh
        served says ok =
        let session : Session = record { input = input; left = more; output = output; end = end } in
        record {
          sessions = sofar.sessions ++ session ∷ [];
          serves = record {
            accepted =
                subst (AcceptsPeers waiting waiting'') (sym (map-append (λ s. s.input) sofar.sessions (session ∷ [])))
                (takes_more waiting waiting' waiting'' _ (input ∷ []) sofar.serves.accepted accepted);
            left =
                subst (ClosesPeers closed closed'') (sym (map-append (λ s. s.output) sofar.sessions (session ∷ [])))
                (leaves_more closed closed' closed'' _ (output ∷ []) sofar.serves.left left);
            rest =
                subst (ClosesPeers unread unread'') (sym (map-append (λ s. s.left) sofar.sessions (session ∷ [])))
                (leaves_more unread unread' unread'' _ (more ∷ []) sofar.serves.rest rest);
            followed =
                follow_more old new new' err err' err'' sofar.sessions (session ∷ []) sofar.serves.followed
                (before, new', err'', fresh, served, says, (refl, Keeps-refl err''));
          };
          counted = omega (arith, length-append sofar.sessions (session ∷ []), sofar.counted);
          failing = omega (arith, failures_append sofar.sessions (session ∷ []), sofar.failing);
          accepting = counts_more faults faults' faults'' 0 0 sofar.accepting ok;
        }
