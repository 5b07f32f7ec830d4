-- What a body on the input asks, of which all is read.
use Rattle.std.proofs.Common.{◌≡◌, ◌⊎◌, ◌++◌, ℕ, ◌<◌, List, [], length, take, Option, Some, None, Result, Ok, Err, inl}
use Rattle.std.proofs.Common.{inr, ap, subst, refl, sym, ◌∙◌, arith, take_all, length-take}
use Rattle.std.specs.Prelude.{IfErr, IfOk, IfSome, IsOkAnd, MatchResult, is_ok}
use Rattle.clap.specs.Walk.{Text}
use Rattle.model.specs.World.{Path}
use Rattle.store_types.specs.View.{request_view}
use Rattle.model.specs.Request.{Request}
use Rattle.store_types.specs.declared.requests.Request.{Request as Made}
use Rattle.wire_bodies.specs.declared.error.BodyError.{BodyError}
use Rattle.wire_bodies.specs.declared.error.BodyError.TheVariants as body_error
use Rattle.model.specs.declared.refusal.Refusal.{Refusal}
use Rattle.model.specs.declared.failures.Failure.TheVariants.{Memory, Input}
use Rattle.tool_pure.specs.declared.stops.Stop.{Stop}
use Rattle.tool_pure.specs.declared.stops.Stop.TheVariants.{Failed}
use Rattle.tool_pure.specs.Faults.{body_stop}
use Rattle.tool.specs.Bodies.{ReadAs}
use Rattle.report.specs.Outputs.{Stream}
use Rattle.streams.specs.Reads.{TakesFewer}
use Rattle.tool_pure.specs.Stream.{InputFails}
use Rattle.tool.specs.Requests.{Gives, IsAsked, IsAskedOver, StepsAs, on_object, with_bytes}
use Rattle.tool.proofs.Requested.{object_asked, unread}

-- more bytes than a `Vec` has there are not
pub whole_is : (known : Option (List ℕ)) (bytes : List ℕ) → length bytes < 9223372036854775808
    → IfSome known (λ all. bytes ≡ take 18446744073709551615 all)
    → IfSome known (λ all. bytes ≡ all)
whole_is None bytes short is = is
whole_is (Some all) bytes short is =
    let cut : length bytes ≡ length (take 18446744073709551615 all) = ap length is in
    is ∙ take_all 18446744073709551615 all (omega (arith, cut, short, length-take 18446744073709551615 all))

-- what came after nothing is all of the input
pub after_nothing : (known : Option (List ℕ)) (held taken : List ℕ) → held ≡ []
    → IfSome known (λ all. taken ≡ held ++ all) → IfSome known (λ all. taken ≡ all)
after_nothing None held taken none is = tt
after_nothing (Some all) held taken none is = is ∙ ap (λ h. h ++ all) none

module _ (fails : Type 0) (ask : List ℕ → Result Request Refusal → Type 0) where
  -- what the whole input asks
  pub whole_asked : (known : Option (List ℕ)) (body : List ℕ) (made : Result Made Stop)
      → IfSome known (λ all. body ≡ all) → IsAsked ⊥ (ask body) made
      → IsAskedOver fails ask known made
  whole_asked None body made is h = (body, unread fails (ask body) made h)
  whole_asked (Some all) body made is h = unread fails (ask all) made (subst (λ b. IsAsked ⊥ (ask b) made) is h)

  removed_for : (stop : Stop) (bytes : List ℕ) → (stop ≡ Failed Memory) ⊎ (stop ≡ Failed Input)
      → (stop ≡ Failed Input → fails) → IsAsked fails (ask bytes) (Err stop)
  removed_for stop bytes (inl memory) lost = subst (λ e. IsAsked fails (ask bytes) (Err e)) (sym memory) tt
  removed_for stop bytes (inr input) lost = subst (λ e. IsAsked fails (ask bytes) (Err e)) (sym input) (lost input)

  -- memory gave out, or the input that was read
  pub gone : (known : Option (List ℕ)) (stop : Stop) → (stop ≡ Failed Memory) ⊎ (stop ≡ Failed Input)
      → (stop ≡ Failed Input → fails)
      → IsAskedOver fails ask known (Err stop)
  gone None stop why lost = ([], removed_for stop [] why lost)
  gone (Some bytes) stop why lost = removed_for stop bytes why lost

-- why a body asks nothing
pub body_refused : (says : Request → Type 0) (fault : BodyError) (stop : Stop) → stop ≡ body_stop fault
    → (fault ≡ body_error.BadBodyHead → (q : Request) → says q → ⊥)
    → IsAsked ⊥ (ReadAs says) (Err stop)
body_refused says body_error.BadBodyHead stop is none =
    subst (λ e. IsAsked ⊥ (ReadAs says) (Err e)) (sym is) (refl, none refl)
body_refused says body_error.Memory stop is none = subst (λ e. IsAsked ⊥ (ReadAs says) (Err e)) (sym is) tt

-- what an object asks by what came of the input, or that nothing came
pub object_came : {A : Type 0} (dir : List ℕ) (o : Text × List Text) (ask : List ℕ → List Path → List ℕ → Request)
    (input : Stream) (n : List ℕ) (bases : List Path) (most : ℕ)
    (bytes_of : A → List ℕ) (Good : A → Type 0) (came : Result A Stop) (made : Result Made Stop)
    → on_object dir o ask ≡ Ok (ask n bases)
    → MatchResult came (λ x. IsOkAnd made (λ q. request_view q ≡ ask n bases (bytes_of x))) (λ stop. made ≡ Err stop)
    → IfOk came (λ x. IfSome input.old (λ all. bytes_of x ≡ take most all))
    → IfErr came (λ e. (e ≡ Failed Memory) ⊎ (e ≡ Failed Input))
    → (came ≡ Err (Failed Input) → TakesFewer most input.old input.new) → IfOk came Good
    → ((x : A) → Good x → (all : List ℕ) → bytes_of x ≡ take most all
    → StepsAs (ask n bases (bytes_of x)) (ask n bases all))
    → IsAskedOver (InputFails (is_ok (on_object dir o ask)) most input)
    (λ bytes. Gives (with_bytes bytes (on_object dir o ask))) input.old made
object_came dir o ask input n bases most bytes_of Good (Ok x) (Ok q) is given prefix why lost good steps =
    object_asked dir o (InputFails (is_ok (on_object dir o ask)) most input) ask input.old n bases (bytes_of x) most q
    is given prefix (steps x good)
object_came dir o ask input n bases most bytes_of Good (Ok x) (Err stop) is given prefix why lost good steps =
    absurd given
object_came dir o ask input n bases most bytes_of Good (Err stop) made is given prefix why lost good steps =
    subst (λ m. IsAskedOver (InputFails (is_ok (on_object dir o ask)) most input)
    (λ bytes. Gives (with_bytes bytes (on_object dir o ask))) input.old m) (sym given)
    (gone (InputFails (is_ok (on_object dir o ask)) most input)
    (λ bytes. Gives (with_bytes bytes (on_object dir o ask))) input.old stop why
    (λ same. (ap is_ok is, lost (ap (λ e. Err e) same))))
