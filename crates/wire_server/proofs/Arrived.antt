-- A message of which the head is held, as its body comes and as it is answered.
use Rattle.std.proofs.Common.{◌≡◌, ℕ, ◌+◌, ◌<◌, ◌≤◌, List, [], ◌∷◌, ◌++◌, min, length, drop, Bool, true, false, ◌==◌}
use Rattle.std.proofs.Common.{refl, Option, Err, sym, ap, ◌∙◌, arith, inl, inr, length-append, length-drop}
use Rattle.std.proofs.lemmas.List.{drop_all}
use Rattle.std.proofs.lemmas.Bool.Decides.{nat_tests}
use Rattle.std.specs.Prelude.{IfSome}
use Rattle.std.specs.Io.KnownBytes.{IsAtEnd}
use Rattle.std.specs.declared.alloc.AllocError.{AllocError}
use Rattle.httparse.specs.Grammar.{RequestHead, print_request}
use Rattle.wire_server.specs.Heads.{IsHead}
use Rattle.wire_server.proofs.Heads.{ends_in_line_feed}
use Rattle.wire_server.specs.declared.head.Head.{Head}
use Rattle.wire_server.specs.declared.error.Fault.TheVariants.{BadLength}
use Rattle.wire_server.specs.Messages.{AwaitsMore, HoldsHead, HoldsTo, ReadsTo, IsFault, EndsInside}
use Rattle.wire_server.specs.Division.{closes}
use Rattle.wire_server.proofs.Longer.{holds-append}
use Rattle.wire_server.proofs.Reading.{at_end_all, ends_inside}
use Rattle.wire_server.specs.Responses.{Replied, replied}
use Rattle.wire_server.specs.declared.responder.Begun.{Begun}
use Rattle.wire_server.specs.declared.exchange.Exchange.{Exchange}
use Rattle.wire_server.specs.Answers.{body_in, Answered, IsReady}
use Rattle.wire_server.specs.Arrivals.{Whole}
use Rattle.wire_server.specs.Exchanges.{IsAnswered, IsLost}

-- ---- a body that comes

-- where a head is held some byte is
held_some : (held rest : List ℕ) (h : RequestHead) → IsHead held h rest → 0 < length held
held_some held rest h is =
    let ends = ends_in_line_feed h in
    omega (
      arith,
      ap length is.reads.1,
      length-append (print_request h) rest,
      ap length ends.1,
      length-append ends.0 (10 ∷ []),
    )

module _ (held read : List ℕ) (head : Head) (size : ℕ) (is : HoldsHead held head size) where
  -- the bytes end inside it
  inside : length (held ++ read) < head.spans.len + size → EndsInside (held ++ read)
  inside = ends_inside (held ++ read) head is.0 size (holds-append held read head is.0 is.1) is.2

  pub awaits_body : length (held ++ read) < head.spans.len + size → AwaitsMore (held ++ read)
  awaits_body short = inr (inside short)

  pub cut_short : (n : ℕ) (rest : Option (List ℕ)) → IsAtEnd rest → length (held ++ read) < head.spans.len + size
      → (0 < length (held ++ read)) × IfSome rest (λ more. IsFault ((held ++ read) ++ more) BadLength)
      × ReadsTo n (held ++ read) rest
  cut_short n rest end short =
      let all = held ++ read in
      let some = held_some held _ is.0 is.1.is_head in
      let more : 0 < length all = omega (arith, some, length-append held read) in
      (more, at_end_all (λ t. IsFault t BadLength) all rest (inr (inside short)) end, inl (end, inside short))

  -- it came whole
  module _ {S C B : Type 0} (answers : S → RequestHead → List ℕ → Replied → S → Type 0)
      (decides : S → RequestHead → C → Type 0) (represents : B → List ℕ → Type 0) (s : S) (n : ℕ)
      (near : HoldsTo n head.spans.len held) where
    pub whole_arrives : (ready : Begun (C × B)) → head.spans.len + size ≤ length (held ++ read)
        → IsReady answers decides represents s is.0 (body_in (held ++ read) head size) ready
        → drop (head.spans.len + size) (held ++ read) ≡ drop (head.spans.len + size) held
        → Whole answers decides represents s n (held ++ read) held head size ready
    whole_arrives ready whole is_ready rest = record {
      h = is.0;
      message = record { holds = holds-append held read head is.0 is.1; states = is.2; whole = whole };
      holds = is.1;
      answerable = is_ready;
      rest = sym rest;
      near = near;
    }

-- a number of bytes that stays at the greatest is as good as the number, where there are fewer
pub drop_saturated : (n m : ℕ) (bytes : List ℕ) → m ≡ min n 18446744073709551615 → length bytes < 18446744073709551616
    → drop m bytes ≡ drop n bytes
drop_saturated n m bytes is fits = by (m == n) refl
  where
    by : (v : Bool) → (m == n) ≡ v → drop m bytes ≡ drop n bytes
    by true e = ap (λ k. drop k bytes) (grind (arith, nat_tests))
    by false e = drop_all m bytes (grind (arith, nat_tests, is)) ∙ sym (drop_all n bytes (grind (arith, nat_tests, is)))

-- ---- a message that came whole

module _ {S C B : Type 0} (answers : S → RequestHead → List ℕ → Replied → S → Type 0)
    (decides : S → RequestHead → C → Type 0) (represents : B → List ℕ → Type 0)
    (s : S) (n : ℕ) (all held : List ℕ) (head : Head) (size : ℕ) (ready : Begun (C × B))
    (is : Whole answers decides represents s n all held head size ready) (new : S) where
  -- the response that came
  pub answered_whole : (held' : List ℕ) (x : Exchange) → answers s is.h (body_in all head size) (replied x.response) new
      → x.close ≡ closes is.h
      → held' ≡ drop (head.spans.len + size) held → IsAnswered answers n all held' s x new
  answered_whole held' x a close rest = (
    record { head = head; size = size; h = is.h; holds = is.message; answered = a },
    close,
    rest ∙ is.rest,
    omega (arith, ap length rest, length-drop (head.spans.len + size) held, is.near),
  )

  -- none, or one that is lost
  pub lost_whole : (e : AllocError) → Answered answers s is.h (body_in all head size) (Err e) new
      → IsLost answers all s new
  lost_whole e (inl none) = inl none
  lost_whole e (inr (r, a)) = inr (r, record { head = head; size = size; h = is.h; holds = is.message; answered = a })
