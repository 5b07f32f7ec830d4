-- What was answered on a console was answered on the streams that it was made of.
use Rattle.std.proofs.Common.{◌≡◌, ℕ, List, Option, subst, sym}
use Rattle.report.specs.Outputs.{Console, console_of}
use Rattle.tool.specs.Requests.{AnswersReading}
use Rattle.tool.specs.Streams.{AnswersOn}
use Rattle.tool.specs.declared.console.Console.{Console as Streams}

pub returned : {R W E : Type 0} {most : Option ℕ} {answers : Console → Type 0} {input : R → Option (List ℕ)}
    {output : W → Option (List ℕ)} {errors : E → Option (List ℕ)} {old new : Streams R W E} {status : ℕ}
    → AnswersOn most answers input output errors old new status
    → (r : R) (w : W) (e : E) → r ≡ new.input.now → w ≡ new.output.now → e ≡ new.errors.now
    → AnswersReading most answers
    (console_of input output errors old.input.now r old.output.now w old.errors.now e status)
returned {R = R} {W = W} {E = E} {most = most} {answers = answers} {input = input} {output = output}
    {errors = errors} {old = old} {new = new} {status = status} on r w e same_input same_output same_errors =
    let P : R → W → E → Type 0 = λ x y z. AnswersReading most answers
    (console_of input output errors old.input.now x old.output.now y old.errors.now z status) in
    subst (λ x. P x w e) (sym same_input)
    (subst (λ y. P new.input.now y e) (sym same_output)
    (subst (λ z. P new.input.now new.output.now z) (sym same_errors) on.given))
