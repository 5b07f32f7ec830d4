-- What one exchange adds to a connection that was served so far.
use Rattle.std.proofs.Common.{◌≡◌, ℕ, ◌+◌, ◌≤◌, max, List, ◌++◌, length, drop, Option, Some, None, Ok, Err, true}
use Rattle.std.proofs.Common.{false, sym, ap, ◌∙◌, arith, subst, inl, inr}
use Rattle.std.specs.declared.alloc.AllocError.{AllocError}
use Rattle.std.specs.Io.KnownBytes.{Appends}
use Rattle.std.proofs.KnownBytes.{Keeps-refl}
use Rattle.httparse.specs.Grammar.{RequestHead}
use Rattle.wire_server.specs.Responses.{Replied, replied, reply_bytes}
use Rattle.wire_server.specs.declared.error.WireError.{WireError}
use Rattle.wire_server.specs.declared.error.WireError.TheVariants.{Read, Write, Memory}
use Rattle.wire_server.specs.declared.exchange.Exchange.{Exchange}
use Rattle.wire_server.specs.Bodies.{IsOfReading}
use Rattle.wire_server.specs.Arrivals.{Arrives}
use Rattle.wire_server.specs.Sends.{SendsReply}
use Rattle.wire_server.specs.Serves.{Serves, Stops, reported}
use Rattle.wire_server.specs.Exchanges.{Exchanged}
use Rattle.wire_server.proofs.Follows.{awaits_more}
use Rattle.wire_server.proofs.Reported.{Reported}
use Rattle.wire_server.proofs.Ends.{reported_read, stopped, still, ended, refused, refused_in_part, answered_in_part}
use Rattle.wire_server.proofs.Ends.{answered_lost, closed, goes_on}

module _ {S : Type 0} (answers : S → RequestHead → List ℕ → Replied → S → Type 0) (input output : Option (List ℕ))
    (s : S)
    (mid rest out : Option (List ℕ)) (held held' : List ℕ) (t t' : S) (n : ℕ)
    (report : Reported answers input mid output out held s t n) (small : length held ≤ 4095) where
  -- what is held after a message
  few_after : (all : List ℕ) (k : ℕ) → held' ≡ drop k all → length held' ≤ max (length held) 4095
      → length (drop k all) ≤ 4095
  few_after all k kept few = omega (arith, ap length kept, few, small)

  -- the input is at its end
  pub turn_end : Exchanged answers mid rest held held' t t' (Ok None)
      → Serves answers input rest output out s t' (reported n)
  turn_end (read, accepted, (none, end, same)) =
      let read_told = reported_read answers input output s mid rest out held read t n report accepted in
      subst (λ u. Serves answers input rest output out s u (reported n)) (sym same)
      (ended answers input output s rest out (held ++ read) t n read_told none end)

  -- nothing came
  pub turn_broken : {C B : Type 0} (decides : S → RequestHead → C → Type 0) (represents : B → List ℕ → Type 0)
      (e : WireError)
      → Arrives answers decides represents t (length held) mid rest held held' (Err e)
      → Stops answers input rest output out s t e
  turn_broken decides represents e (read, consumed, brings) =
      let read_told = reported_read answers input output s mid rest out held read t n report consumed in
      stopped answers input output s rest rest out (held ++ read) t n read_told e (λ is. by e brings.0 is)
      (λ is. awaits_more (held ++ read) read_told.done read_told.stays input rest read_told.follows (brings.1 is))
    where
      by : (v : WireError) → IsOfReading v → v ≡ Write → ⊥
      by Read reads is = cc
      by Write none is = none
      by Memory reads is = cc

  -- no response came
  pub turn_lost : (e : AllocError) → Exchanged answers mid rest held held' t t' (Err e)
      → Stops answers input rest output out s t' Memory
  turn_lost e (read, accepted, inl same) =
      subst (λ u. Stops answers input rest output out s u Memory) (sym same)
      (stopped answers input output s mid rest out held t n report Memory (λ is. cc) (λ is. cc))
  turn_lost e (read, accepted, inr (r, a)) =
      let read_told = reported_read answers input output s mid rest out held read t n report accepted in
      answered_lost answers input output s rest out (held ++ read) t n a.head a.size a.h read_told a.holds out t' r
      a.answered (Keeps-refl out)

  -- ---- a response

  module _ (x : Exchange) (out' : Option (List ℕ)) where
    as_refused : (r : Replied) → replied x.response ≡ r → x.close ≡ true
        → reply_bytes x.close (replied x.response) ≡ reply_bytes true r
    as_refused r said close = ap (λ v. reply_bytes v (replied x.response)) close ∙ ap (reply_bytes true) said

    -- it wasn't written whole
    pub turn_cut : Exchanged answers mid rest held held' t t' (Ok (Some x)) → (e : WireError)
        → SendsReply out out' (reply_bytes x.close (replied x.response)) (Err e)
        → Stops answers input rest output out' s t' e
    turn_cut comes Read sent = absurd sent
    turn_cut (read, accepted, inl (a, close, kept, few)) Write sent =
        let read_told =
        reported_read answers input output s mid rest out held read t n report accepted in
        answered_in_part answers input output s rest out (held ++ read) t n a.head a.size a.h read_told a.holds out' t'
        (replied x.response) a.answered
        (subst (λ v. SendsReply out out' (reply_bytes v (replied x.response)) (Err Write)) close sent)
        (few_after (held ++ read) (a.head.spans.len + a.size) kept few)
    turn_cut (read, accepted, inl (a, close, kept, few)) Memory sent =
        let read_told =
        reported_read answers input output s mid rest out held read t n report accepted in
        answered_lost answers input output s rest out (held ++ read) t n a.head a.size a.h read_told a.holds out' t'
        (replied x.response) a.answered sent
    turn_cut (read, accepted, inr ((fault, some, is, near, (said, close)), same)) Write sent =
        let read_told =
        reported_read answers input output s mid rest out held read t n report accepted in
        subst (λ u. Stops answers input rest output out' s u Write) (sym same)
        (refused_in_part answers input output s rest out out' (held ++ read) t n fault read_told some is (length held)
        small near (subst (λ b. SendsReply out out' b (Err Write)) (as_refused _ said close) sent))
    turn_cut (read, accepted, inr ((fault, some, is, near, (said, close)), same)) Memory sent =
        let kept = still answers input output s mid out out' held t n report sent in
        subst (λ u. Stops answers input rest output out' s u Memory) (sym same)
        (stopped answers input output s mid rest out' held t n kept Memory (λ is. cc) (λ is. cc))

    module _ (sent : Appends out out' (reply_bytes x.close (replied x.response))) where
      -- all of it was written, and the connection is closed
      pub turn_closed : Exchanged answers mid rest held held' t t' (Ok (Some x)) → x.close ≡ true
          → Serves answers input rest output out' s t' (reported (n + 1))
      turn_closed (read, accepted, inl (a, close, kept, few)) last =
          let read_told =
          reported_read answers input output s mid rest out held read t n report accepted in
          closed answers input output s rest out (held ++ read) t n a.head a.size a.h read_told a.holds out' t'
          (replied x.response) a.answered (sym close ∙ last)
          (subst (λ v. Appends out out' (reply_bytes v (replied x.response))) close sent)
          (few_after (held ++ read) (a.head.spans.len + a.size) kept few)
      turn_closed (read, accepted, inr ((fault, some, is, near, (said, close)), same)) last =
          let read_told =
          reported_read answers input output s mid rest out held read t n report accepted in
          subst (λ u. Serves answers input rest output out' s u (reported (n + 1))) (sym same)
          (refused answers input output s rest out out' (held ++ read) t n fault read_told some is (length held) small
          near (subst (Appends out out') (as_refused _ said close) sent))

      -- all of it was written, and the next may come
      pub turn_on : Exchanged answers mid rest held held' t t' (Ok (Some x)) → x.close ≡ false
          → Reported answers input rest output out' held' s t' (n + 1)
      turn_on (read, accepted, inl (a, close, kept, few)) on =
          let read_told =
          reported_read answers input output s mid rest out held read t n report accepted in
          subst (λ h. Reported answers input rest output out' h s t' (n + 1)) (sym kept)
          (goes_on answers input output s rest out (held ++ read) t n a.head a.size a.h read_told a.holds out' t'
          (replied x.response) a.answered (sym close ∙ on)
          (subst (λ v. Appends out out' (reply_bytes v (replied x.response))) close sent))
      turn_on (read, accepted, inr ((fault, some, is, near, (said, close)), same)) on =
          let both : true ≡ false = sym close ∙ on in
          cc

      -- and few bytes are held then
      pub turn_near : Exchanged answers mid rest held held' t t' (Ok (Some x)) → x.close ≡ false → length held' ≤ 4095
      turn_near (read, accepted, inl (a, close, kept, few)) on = omega (arith, few, small)
      turn_near (read, accepted, inr ((fault, some, is, near, (said, close)), same)) on =
          let both : true ≡ false = sym close ∙ on in
          cc
