-- From the result of a command to the answer that it gives.
use Rattle.std.proofs.Common.{◌≡◌, ℕ, ◌⊎◌, ◌≤◌, Bool, true, List, [], arith, take, Option, Some, None, Result, Ok, Err}
use Rattle.std.proofs.Common.{String, Global, ap, sym, subst, inl, inr}
use Rattle.std.specs.Prelude.{IfOk, IfErr, IfSome, is_none, string_bytes}
use Rattle.model.specs.declared.refusal.Refusal.{Refusal}
use Rattle.model.specs.declared.failures.Failure.TheVariants.{Memory, Size, Disk, File, Input, Output}
use Rattle.tool_pure.specs.declared.stops.Stop.{Stop}
use Rattle.tool_pure.specs.declared.stops.Stop.TheVariants.{Refused, Failed}
use Rattle.streams.specs.Reads.{ConsumesAtMost, TakesFewer}
use Rattle.report.specs.Outputs.{Console, Stream, Written}
use Rattle.tool_pure.specs.Stream.{Answers, AnswersBy, AnswersTo, GivesUp, InputFails, IsFailure, IsResultOf, IsStopAt}
use Rattle.tool_pure.specs.Stream.{ReadsFor, result_text}
use Rattle.std.proofs.KnownBytes.{Consumes-nil, Consumes-kept, Keeps-refl}

-- the answer of a result by its fault or its input
by_result : (fault : Option Refusal) (answer : List ℕ → Result (List ℕ) Stop) (known : Option (List ℕ))
    (result : Result (List ℕ) Stop) (w : Written)
    → IsResultOf fault answer known result → Answers result w → AnswersBy fault answer known w
by_result (Some fault) answer known result w is given = subst (λ r. Answers r w) is given
by_result None answer None result w is given = (is.0, subst (λ r. Answers r w) is.1 given)
by_result None answer (Some bytes) result w is given = subst (λ r. Answers r w) is given

-- memory or the input gave out, and that was said
gave_up : (fails : Type 0) (result : Result (List ℕ) Stop) (w : Written) → IsFailure fails result → Answers result w
    → GivesUp fails w
gave_up fails (Ok text) w is given = absurd is
gave_up fails (Err (Refused refusal)) w is given = absurd is
gave_up fails (Err (Failed Memory)) w is given = inl given
gave_up fails (Err (Failed Input)) w is given = inr (is, given)
gave_up fails (Err (Failed File)) w is given = absurd is
gave_up fails (Err (Failed Output)) w is given = absurd is
gave_up fails (Err (Failed Size)) w is given = absurd is
gave_up fails (Err (Failed Disk)) w is given = absurd is

pub answers_to : (fault : Option Refusal) (most : ℕ) (answer : List ℕ → Result (List ℕ) Stop)
    (result : Result (List ℕ) Stop) (c : Console)
    → IsFailure (InputFails (is_none fault) most c.input) result ⊎ IsResultOf fault answer c.input.old result
    → Answers result c.written
    → AnswersTo fault most answer c
answers_to fault most answer result c (inl is) given =
    inl (gave_up (InputFails (is_none fault) most c.input) result c.written is given)
answers_to fault most answer result c (inr is) given =
    inr (by_result fault answer c.input.old result c.written is given)

-- a stop by a fault that is found before the input is read, or since memory ran out or the input failed
pub stopped_at : (fault : Option Refusal) (most : ℕ) (answer : List ℕ → Result (List ℕ) Stop) (input : Stream)
    (stop : Stop)
    → IsStopAt fault most input stop
    → IsFailure (InputFails (is_none fault) most input) (Err stop) ⊎ IsResultOf fault answer input.old (Err stop)
stopped_at fault most answer input stop (inl is) = inl is
stopped_at (Some fault) most answer input stop (inr is) = inr (let e : Refused fault ≡ stop = cc in ap Err (sym e))
stopped_at None most answer input stop (inr is) = let h : None ≡ Some stop = is in cc

-- memory gave out, or the input that is read
pub lost : (reads : Bool) (most : ℕ) (input : Stream) (stop : Stop) → reads ≡ true
    → (stop ≡ Failed Memory) ⊎ (stop ≡ Failed Input)
    → (stop ≡ Failed Input → TakesFewer most input.old input.new) → IsFailure (InputFails reads most input) (Err stop)
lost reads most input stop read (inl memory) fewer = rw memory tt
lost reads most input stop read (inr is) fewer =
    subst (λ e. IsFailure (InputFails reads most input) (Err e)) (sym is) (read, fewer is)

-- there is no fault, and memory or the input gave out
pub deleted_at : (fault : Option Refusal) (most : ℕ) (input : Stream) (stop : Stop) → fault ≡ None
    → (stop ≡ Failed Memory) ⊎ (stop ≡ Failed Input)
    → (stop ≡ Failed Input → TakesFewer most input.old input.new) → IsStopAt fault most input stop
deleted_at fault most input stop none why fewer = inl (lost (is_none fault) most input stop (ap is_none none) why fewer)

-- a line that was found, as a result
pub by_line : (fails : Type 0) (r : Result (String Global) Stop) (a : Result (List ℕ) Stop)
    → IfOk r (λ line. a ≡ Ok (string_bytes line)) → IfErr r (λ e. (e ≡ Failed Memory) ⊎ (a ≡ Err e))
    → IsFailure fails (result_text r) ⊎ (result_text r ≡ a)
by_line fails (Ok line) a ok err = inr (sym ok)
by_line fails (Err e) a ok (inl memory) = rw memory (inl tt)
by_line fails (Err e) a ok (inr is) = inr (sym is)

-- a result by a prefix of the input that is answered as all of it
pub of_prefix : (fails : Type 0) (fault : Option Refusal) (answer : List ℕ → Result (List ℕ) Stop)
    (known : Option (List ℕ)) (result : Result (List ℕ) Stop) (most : ℕ) (bytes : List ℕ)
    → fault ≡ None → IfSome known (λ all. bytes ≡ take most all)
    → ((all : List ℕ) → bytes ≡ take most all → result ≡ answer bytes → result ≡ answer all)
    → IsFailure fails result ⊎ (result ≡ answer bytes) → IsFailure fails result ⊎ IsResultOf fault answer known result
of_prefix fails fault answer known result most bytes none prefix same (inl is) = inl is
of_prefix fails fault answer known result most bytes none prefix same (inr is) =
    inr (subst (λ f. IsResultOf f answer known result) (sym none) (by_known known prefix))
  where
    by_known : (known : Option (List ℕ)) → IfSome known (λ all. bytes ≡ take most all)
        → IsResultOf None answer known result
    by_known None prefix = (bytes, is)
    by_known (Some all) prefix = same all prefix is

-- ---- what is read

-- nothing was
pub unread : (fault : Option Refusal) (most : ℕ) (known : Option (List ℕ)) → ReadsFor fault most known known
unread (Some fault) most known = Keeps-refl known
unread None most known = ([], Consumes-nil known, omega arith)

-- a fact of each text that is found is one of its bytes
pub with_text : (r : Result (String Global) Stop) (P : Type 0) → IfOk r (λ text. P) → IfOk (result_text r) (λ bytes. P)
with_text (Ok text) P h = h
with_text (Err stop) P h = tt

-- what is read to a bound is read to a greater one
pub within : (fault : Option Refusal) (most bound : ℕ) (old new : Option (List ℕ)) → most ≤ bound
    → ReadsFor fault most old new → ConsumesAtMost bound old new
within (Some fault) most bound old new fits kept =
    ([], Consumes-kept old old new [] (Consumes-nil old) kept, omega arith)
within None most bound old new fits taken = (taken.0, taken.1, omega (arith, taken.2))
