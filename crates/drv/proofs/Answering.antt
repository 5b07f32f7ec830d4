-- What a function answers, and at the exit of a step that failed.
use Rattle.std.proofs.Common.{◌≡◌, ◌≢◌, ℕ, true, false, cond, List, [], ◌∷◌, ◌++◌, Option, Some, None, Result, Ok, Err}
use Rattle.std.proofs.Common.{refl, sym, ap, ◌∙◌, append_assoc}
use Rattle.std.specs.Prelude.{MatchResult, IfOk, IfErr}
use Rattle.std.proofs.lemmas.List.{append-nil}
use Rattle.drv.specs.declared.error.DrvError.{DrvError}
use Rattle.drv.specs.declared.error.DrvError.TheVariants.{BadDerivation, DoubleOutput, Memory}
use Rattle.drv.specs.Answer.{Fails}
use Rattle.drv.specs.Derivation.{recorded, Records}
use Rattle.drv.specs.Outcome.{IsFault, IsOutcome, have_own_names, answered, outputs_of}
use Rattle.drv.specs.Reading.{listed}
use Rattle.drv.proofs.Outcomes.{Named, one_outcome}

-- where a step gives nothing, the whole gives nothing
pub fails_then : {A B : Type 0} (e : DrvError) (step : Option A) (whole : Option B) → Fails e step
    → (step ≡ None → whole ≡ None) → Fails e whole
fails_then BadDerivation step whole f h = h f
fails_then DoubleOutput step whole f h = absurd f
fails_then Memory step whole f h = tt

abbrev pub Recorded : Type 0
Recorded = List (List ℕ × List ℕ)

-- ---- what is recorded

pub recorded_none : recorded [] ≡ []
unfolding recorded
recorded_none = refl

pub recorded_path : (name base : List ℕ) (rest : List Named)
    → recorded ((name, Some base) ∷ rest) ≡ (name, base) ∷ recorded rest
unfolding recorded
recorded_path name base rest = refl

pub recorded_bare : (name : List ℕ) (rest : List Named) → recorded ((name, None) ∷ rest) ≡ recorded rest
unfolding recorded
recorded_bare name rest = refl

-- an output with a path was pushed
pub recorded_more : (found now : Recorded) (name base : List ℕ) (left next : List Named) (total : Recorded)
    → left ≡ (name, Some base) ∷ next → now ≡ found ++ (name, base) ∷ []
    → found ++ recorded left ≡ total → now ++ recorded next ≡ total
recorded_more found now name base left next total is pushed so_far =
    ap (λ (xs : Recorded). xs ++ recorded next) pushed ∙ append_assoc found ((name, base) ∷ []) (recorded next)
    ∙ ap (λ (xs : Recorded). found ++ xs) (sym (recorded_path name base next) ∙ ap recorded (sym is)) ∙ so_far

-- one without was left out
pub recorded_less : (found : Recorded) (name : List ℕ) (left next : List Named) (total : Recorded)
    → left ≡ (name, None) ∷ next
    → found ++ recorded left ≡ total → found ++ recorded next ≡ total
recorded_less found name left next total is so_far =
    ap (λ (xs : Recorded). found ++ xs) (sym (recorded_bare name next) ∙ ap recorded (sym is)) ∙ so_far

pub recorded_all : (found : Recorded) (left : List Named) (total : Recorded) → left ≡ []
    → found ++ recorded left ≡ total → found ≡ total
recorded_all found left total is so_far =
    sym (append-nil found) ∙ ap (λ (xs : Recorded). found ++ xs) (sym recorded_none ∙ ap recorded (sym is)) ∙ so_far

-- ---- the outcome

pub outcome_fails : (dir text : List ℕ) (e : DrvError) → Fails e (listed dir text) → e ≢ Memory
    → outputs_of dir text ≡ Err e
unfolding outputs_of
outcome_fails dir text BadDerivation f other = ap answered f
outcome_fails dir text DoubleOutput f other = absurd f
outcome_fails dir text Memory f other = absurd (other refl)

pub outcome_shared : (dir text : List ℕ) (all : List Named) → listed dir text ≡ Some all → have_own_names all ≡ false
    → outputs_of dir text ≡ Err DoubleOutput
unfolding outputs_of
outcome_shared dir text all is shared = ap answered is ∙ ap (λ b. cond b (Ok (recorded all)) (Err DoubleOutput)) shared

pub outcome_found : (dir text : List ℕ) (all : List Named) (found : Recorded) → listed dir text ≡ Some all
    → have_own_names all ≡ true → found ≡ recorded all → outputs_of dir text ≡ Ok found
unfolding outputs_of
outcome_found dir text all found is own are =
    ap answered is ∙ ap (λ b. cond b (Ok (recorded all)) (Err DoubleOutput)) own ∙ ap (λ (r : Recorded). Ok r) (sym are)

-- ---- the clauses of a call that answers so

abbrev pub Answers : {X : Type 0} → (X → Recorded) → List ℕ → List ℕ → Result X DrvError → Type 0
Answers view dir text answer =
    MatchResult answer (λ v. outputs_of dir text ≡ Ok (view v)) (λ e. e ≢ Memory → outputs_of dir text ≡ Err e)

found-is : (x y : Recorded) → ◌≡◌ {A = Result Recorded DrvError} (Ok x) (Ok y) → x ≡ y
found-is x y e = cc

fault-is : (e f : DrvError) → ◌≡◌ {A = Result Recorded DrvError} (Err e) (Err f) → e ≡ f
fault-is e f h = cc

apart : (x : Recorded) (e : DrvError) → ◌≡◌ {A = Result Recorded DrvError} (Ok x) (Err e) → ⊥
apart x e h = cc

known : (dir text : List ℕ) (outcome : Result Recorded DrvError) → outputs_of dir text ≡ outcome
    → IsOutcome dir text outcome
known dir text outcome e = (one_outcome dir text outcome).1 e

is_memory : (e : DrvError) → (e ≢ Memory → ⊥) → e ≡ Memory
is_memory BadDerivation h = absurd (h (λ e. let no : ⊥ = cc in no))
is_memory DoubleOutput h = absurd (h (λ e. let no : ⊥ = cc in no))
is_memory Memory h = refl

pub gives_found : {X : Type 0} (view : X → Recorded) (dir text : List ℕ) (answer : Result X DrvError)
    → Answers view dir text answer → IfOk answer (λ v. Records dir text (view v))
gives_found view dir text (Ok v) h = known dir text (Ok (view v)) h
gives_found view dir text (Err e) h = tt

pub gives_fault : {X : Type 0} (view : X → Recorded) (dir text : List ℕ) (answer : Result X DrvError)
    → Answers view dir text answer → IfErr answer (λ e. e ≢ Memory → IsFault dir text e)
gives_fault view dir text (Ok v) h = tt
gives_fault view dir text (Err e) h = λ other. known dir text (Err e) (h other)

pub each_found : {X : Type 0} (view : X → Recorded) (dir text : List ℕ) (answer : Result X DrvError)
    → Answers view dir text answer
    → (xs : Recorded) → Records dir text xs → MatchResult answer (λ v. view v ≡ xs) (λ e. e ≡ Memory)
each_found view dir text (Ok v) h xs r = found-is (view v) xs (sym h ∙ (one_outcome dir text (Ok xs)).0 r)
each_found view dir text (Err e) h xs r =
    is_memory e (λ other. apart xs e (sym ((one_outcome dir text (Ok xs)).0 r) ∙ h other))

pub each_fault : {X : Type 0} (view : X → Recorded) (dir text : List ℕ) (answer : Result X DrvError)
    → Answers view dir text answer
    → (f : DrvError) → IsFault dir text f → MatchResult answer (λ v. ⊥) (λ e. e ≢ Memory → e ≡ f)
each_fault view dir text (Ok v) h f r = apart (view v) f (sym h ∙ (one_outcome dir text (Err f)).0 r)
each_fault view dir text (Err e) h f r = λ other. fault-is e f (sym (h other) ∙ (one_outcome dir text (Err f)).0 r)
