-- What one turn of the loop comes to.
use Rattle.std.proofs.Common.{◌≡◌, ℕ, ◌+◌, ◌<◌, ◌≤◌, ◌-◌, ◌^◌, List, [], ◌∷◌, ◌++◌, length, take, drop, Option}
use Rattle.std.proofs.Common.{true, false, refl, sym, ap, ◌∙◌, arith, subst, inl, inr}
use Rattle.std.specs.Prelude.{IfSome}
use Rattle.std.specs.Io.KnownBytes.{Consumes, IsAtEnd, Appends, Keeps}
use Rattle.std.proofs.KnownBytes.{Appends-trans, Appends-nil, Appends-kept}
use Rattle.streams.specs.Sends.{AppendsPrefix}
use Rattle.httparse.specs.Grammar.{RequestHead}
use Rattle.wire_server.specs.declared.head.Head.{Head}
use Rattle.wire_server.specs.declared.error.Fault.{Fault}
use Rattle.wire_server.specs.Messages.{IsFault, HoldsMessage, ReadsTo}
use Rattle.wire_server.specs.Division.{message, faulty, closes}
use Rattle.wire_server.specs.Responses.{Replied, reply_bytes}
use Rattle.wire_server.specs.Answers.{body_in}
use Rattle.wire_server.specs.Serves.{fault_reply, joined, reported, IsWritten, AwaitsAll, Serves, Stops}
use Rattle.wire_server.specs.declared.error.WireError.{WireError}
use Rattle.wire_server.specs.declared.error.WireError.TheVariants.{Read, Write, Memory}
use Rattle.wire_server.proofs.Follows.{follows_start, follows_read, follows_more, begins_open, begins_fault}
use Rattle.wire_server.proofs.Follows.{begins_item, divides_end, divides_fault, divides_last, takes_few, takes_fault}
use Rattle.wire_server.proofs.Follows.{takes_item}
use Rattle.wire_server.proofs.Reported.{Reported, joined_more, counted_more, replies_item, replies_fault, stays_more}

full : (n k : ℕ) → n ≡ 340282366920938463463374607431768211455 → n ≡ k → k < 2 ^ 128 - 1 → ⊥
full n k is same small = omega arith

-- one more reply
sent_more : (a b c : Option (List ℕ)) (replies : List (List ℕ)) (last : List ℕ) → Appends a b (joined replies)
    → Appends b c last → Appends a c (joined (replies ++ last ∷ []))
sent_more a b c replies last first second =
    subst (Appends a c) (sym (joined_more replies last)) (Appends-trans a b c (joined replies) last first second)

module _ {S : Type 0} (answers : S → RequestHead → List ℕ → Replied → S → Type 0) (input output : Option (List ℕ))
    (s : S) where
  pub reported_start : Reported answers input input output output [] s s 0
  reported_start =
      record {
        done = [];
        replies = [];
        counted = refl;
        follows = follows_start input;
        stays = tt;
        answered = refl;
        written = Appends-nil output;
      }

  pub reported_read : (mid rest out : Option (List ℕ)) (held bs : List ℕ) (t : S) (n : ℕ)
      → Reported answers input mid output out held s t n
      → Consumes mid rest bs → Reported answers input rest output out (held ++ bs) s t n
  reported_read mid rest out held bs t n report read = record {
    done = report.done;
    replies = report.replies;
    counted = report.counted;
    follows = follows_read input mid rest held bs report.done report.follows read;
    stays = report.stays;
    answered = report.answered;
    written = report.written;
  }

  -- broken off before another reply
  pub stopped : (rest left out : Option (List ℕ)) (held : List ℕ) (t : S) (n : ℕ)
      (report : Reported answers input rest output out held s t n) (e : WireError) → (e ≡ Write → ⊥)
      → (e ≡ Read → AwaitsAll input left report.done)
      → Stops answers input left output out s t e
  stopped rest left out held t n report e reading waiting = record {
    items = report.done;
    replies = report.replies;
    bytes = joined report.replies;
    prefix = begins_open held report.done report.stays input rest report.follows;
    read = λ is. absurd (reading is);
    awaited = waiting;
    answered = report.answered;
    written = by e reading;
    appended = report.written;
  }
    where
      by : (v : WireError) → (v ≡ Write → ⊥) → IsWritten v report.done report.replies (joined report.replies)
      by Read reads = (report.stays, refl)
      by Write reads = absurd (reads refl)
      by Memory reads = inl (report.stays, refl)

  -- nothing was read, answered or written
  pub unserved : Stops answers input input output output s s Memory
  unserved = stopped input input output [] s 0 reported_start Memory (λ is. cc) (λ is. cc)

  -- a connection to whose writer nothing was given
  pub still : (rest out out' : Option (List ℕ)) (held : List ℕ) (t : S) (n : ℕ)
      → Reported answers input rest output out held s t n → Keeps out out'
      → Reported answers input rest output out' held s t n
  still rest out out' held t n report kept = record {
    done = report.done;
    replies = report.replies;
    counted = report.counted;
    follows = report.follows;
    stays = report.stays;
    answered = report.answered;
    written = Appends-kept output out out' (joined report.replies) report.written kept;
  }

  -- as many as are counted
  pub counted_out : (rest out : Option (List ℕ)) (held : List ℕ) (t : S) (n : ℕ)
      → Reported answers input rest output out held s t n
      → n ≡ 340282366920938463463374607431768211455 → length held ≤ 4095
      → Serves answers input rest output out s t 18446744073709551615
  counted_out rest out held t n report is few = record {
    items = report.done;
    replies = report.replies;
    counted = ap reported (sym is ∙ report.counted);
    prefix = begins_open held report.done report.stays input rest report.follows;
    whole = λ small. absurd (full n (length report.done) is report.counted small);
    read = takes_few held report.done report.stays input rest report.follows few;
    answered = report.answered;
    written = report.written;
  }

  -- nothing is left
  pub ended : (rest out : Option (List ℕ)) (held : List ℕ) (t : S) (n : ℕ)
      → Reported answers input rest output out held s t n → held ≡ [] → IsAtEnd rest
      → Serves answers input rest output out s t (reported n)
  ended rest out held t n report none end = record {
    items = report.done;
    replies = report.replies;
    counted = ap reported report.counted;
    prefix = begins_open held report.done report.stays input rest report.follows;
    whole = λ small. divides_end held report.done report.stays input rest report.follows none end;
    read = takes_few held report.done report.stays input rest report.follows (omega (arith, ap length none));
    answered = report.answered;
    written = report.written;
  }

  -- ---- an input that begins with no message

  module _ (rest out out' : Option (List ℕ)) (held : List ℕ) (t : S) (n : ℕ) (fault : Fault)
      (report : Reported answers input rest output out held s t n)
      (some : 0 < length held) (is : IfSome rest (λ more. IsFault (held ++ more) fault)) (before : ℕ)
      (small : before ≤ 4095) (near : ReadsTo before held rest) where
    pub refused : Appends out out' (fault_reply fault) → Serves answers input rest output out' s t (reported (n + 1))
    refused sent = record {
      items = report.done ++ faulty fault ∷ [];
      replies = report.replies ++ fault_reply fault ∷ [];
      counted = ap reported (counted_more report.done (faulty fault) n report.counted);
      prefix = begins_fault held report.done report.stays fault input rest report.follows some is;
      whole = λ small. divides_fault held report.done report.stays fault input rest report.follows some is;
      read = takes_fault held report.done report.stays fault input rest report.follows before small near;
      answered = replies_fault answers s t report.done report.replies fault report.answered;
      written = sent_more output out out' report.replies (fault_reply fault) report.written sent;
    }

    pub refused_in_part : AppendsPrefix out out' (fault_reply fault) → Stops answers input rest output out' s t Write
    refused_in_part (k, below, sent) = record {
      items = report.done ++ faulty fault ∷ [];
      replies = report.replies ++ fault_reply fault ∷ [];
      bytes = joined report.replies ++ take k (fault_reply fault);
      prefix = begins_fault held report.done report.stays fault input rest report.follows some is;
      read = λ _. takes_fault held report.done report.stays fault input rest report.follows before small near;
      awaited = λ failed. cc;
      answered = replies_fault answers s t report.done report.replies fault report.answered;
      written = (report.replies, fault_reply fault, k, refl, below, refl);
      appended = Appends-trans output out out' (joined report.replies) (take k (fault_reply fault)) report.written sent;
    }

  -- ---- a message

  module _ (rest out : Option (List ℕ)) (held : List ℕ) (t : S) (n : ℕ) (head : Head) (size : ℕ) (h : RequestHead)
      (report : Reported answers input rest output out held s t n) (is : HoldsMessage held head size h) where
    answered_broken : (out' : Option (List ℕ)) (new : S) (r : Replied) (e : WireError) (bytes : List ℕ)
        → (e ≡ Write → length (drop (head.spans.len + size) held) ≤ 4095) → (e ≡ Read → ⊥)
        → answers t h (body_in held head size) r new
        → IsWritten e (report.done ++ message h (body_in held head size) ∷ [])
        (report.replies ++ reply_bytes (closes h) r ∷ []) bytes
        → Appends output out' bytes
        → Stops answers input rest output out' s new e
    answered_broken out' new r e bytes few writing answered written appended = record {
      items = report.done ++ message h (body_in held head size) ∷ [];
      replies = report.replies ++ reply_bytes (closes h) r ∷ [];
      bytes = bytes;
      prefix = begins_item held report.done report.stays head size h is input rest report.follows;
      read = λ failed. takes_item held report.done report.stays head size h is input rest report.follows (few failed);
      awaited = λ failed. absurd (writing failed);
      answered =
          replies_item answers s t new report.done report.replies h (body_in held head size) r report.answered answered;
      written = written;
      appended = appended;
    }

    -- a prefix of the reply was written
    pub answered_in_part : (out' : Option (List ℕ)) (new : S) (r : Replied) → answers t h (body_in held head size) r new
        → AppendsPrefix out out' (reply_bytes (closes h) r) → length (drop (head.spans.len + size) held) ≤ 4095
        → Stops answers input rest output out' s new Write
    answered_in_part out' new r answered (k, below, sent) few =
        answered_broken out' new r Write (joined report.replies ++ take k (reply_bytes (closes h) r)) (λ _. few)
        (λ is. cc) answered
        (report.replies, reply_bytes (closes h) r, k, refl, below, refl)
        (Appends-trans output out out' (joined report.replies) (take k (reply_bytes (closes h) r)) report.written sent)

    -- nothing of it was
    pub answered_lost : (out' : Option (List ℕ)) (new : S) (r : Replied) → answers t h (body_in held head size) r new
        → Keeps out out'
        → Stops answers input rest output out' s new Memory
    answered_lost out' new r answered kept =
        answered_broken out' new r Memory (joined report.replies) (λ is. cc) (λ is. cc) answered
        (inr (report.replies, reply_bytes (closes h) r, refl, refl))
        (Appends-kept output out out' (joined report.replies) report.written kept)

    pub closed : (out' : Option (List ℕ)) (new : S) (r : Replied) → answers t h (body_in held head size) r new
        → closes h ≡ true
        → Appends out out' (reply_bytes (closes h) r) → length (drop (head.spans.len + size) held) ≤ 4095
        → Serves answers input rest output out' s new (reported (n + 1))
    closed out' new r answered last sent few = record {
      items = report.done ++ message h (body_in held head size) ∷ [];
      replies = report.replies ++ reply_bytes (closes h) r ∷ [];
      counted = ap reported (counted_more report.done _ n report.counted);
      prefix = begins_item held report.done report.stays head size h is input rest report.follows;
      whole = λ small. divides_last held report.done report.stays head size h is input rest report.follows last;
      read = takes_item held report.done report.stays head size h is input rest report.follows few;
      answered =
          replies_item answers s t new report.done report.replies h (body_in held head size) r report.answered answered;
      written = sent_more output out out' report.replies (reply_bytes (closes h) r) report.written sent;
    }

    pub goes_on : (out' : Option (List ℕ)) (new : S) (r : Replied) → answers t h (body_in held head size) r new
        → closes h ≡ false
        → Appends out out' (reply_bytes (closes h) r)
        → Reported answers input rest output out' (drop (head.spans.len + size) held) s new (n + 1)
    goes_on out' new r answered on sent = record {
      done = report.done ++ message h (body_in held head size) ∷ [];
      replies = report.replies ++ reply_bytes (closes h) r ∷ [];
      counted = counted_more report.done _ n report.counted;
      follows = follows_more held report.done report.stays head size h is input rest report.follows;
      stays = stays_more report.done h (body_in held head size) report.stays on;
      answered =
          replies_item answers s t new report.done report.replies h (body_in held head size) r report.answered answered;
      written = sent_more output out out' report.replies (reply_bytes (closes h) r) report.written sent;
    }
