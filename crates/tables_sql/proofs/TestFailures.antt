-- Why the tests of the store's tables at opening fail, one query after another, and how they leave the connection.
use Rattle.std.proofs.Common.{◌≡◌, ◌⊎◌, ℕ, List, [], inl, inr, Result, Ok, Err, IsErrAnd, IfErr, sym, subst, ◌∙◌, arith}
use Rattle.std.specs.Prelude.{IsSome}
use Rattle.sqlite.specs.declared.error.Error.{Error}
use Rattle.sqlite.specs.State.{State, HasCleanDisk, Survives, IsUnchanged, FailsToQuery}
use Rattle.sqlite.proofs.StateLemmas.{survives_then}
use Rattle.tables_sql.proofs.Steps.{shown_then}
use Rattle.tables_sql.specs.declared.failure.Failed.{Failed}
use Rattle.tables_sql.specs.declared.failure.Failed.TheVariants.{Memory, Size, Disk}
use Rattle.tables_sql.specs.Calls.{KeepsShown}
use Rattle.tables_sql.specs.Failures.{failure_of, FailsWith, FailsFor, IsQueryFailure, FailsToTest, FailsToRead}

-- an error that is passed on
pub passed_on : {T : Type 0} (r : Result T Failed) (e : Failed) (P : Failed → Type 0) → IsErrAnd r (λ f. f ≡ e) → P e
    → IfErr r P
passed_on (Ok x) e P is h = tt
passed_on (Err f) e P is h = subst P (sym is) h

-- ---- why they fail

-- a query fails for the disk or a limit on steps alone
by_query : (old new : State) (found : Type 0) (f : Failed) → FailsWith old new ⊥ (IsSome old.step_limit) f
    → FailsToTest old new found f
by_query old new found Memory h = tt
by_query old new found Size h = h.0
by_query old new found Disk (inl h) = inl h.0
by_query old new found Disk (inr h) = inr (inl h.0)

pub test_fails : (old new : State) (text : List ℕ) (found : Type 0)
    → ((e : Error) → FailsToQuery text [] old new e → FailsWith old new ⊥ (IsSome old.step_limit) (failure_of e))
    → (f : Failed) → IsQueryFailure text [] old new f → FailsToTest old new found f
test_fails old new text found fails f h =
    by_query old new found f (subst (FailsWith old new ⊥ (IsSome old.step_limit)) (sym h.1) (fails h.0 h.2))

-- a query of texts failed, or no memory was left for them
pub texts_fail : (old new : State) (text : List ℕ)
    → ((e : Error) → FailsToQuery text [] old new e → FailsWith old new ⊥ (IsSome old.step_limit) (failure_of e))
    → (f : Failed) → IsQueryFailure text [] old new f ⊎ ((f ≡ Memory) × IsUnchanged old new) → FailsToTest old new ⊥ f
texts_fail old new text fails f (inl h) = test_fails old new text ⊥ fails f h
texts_fail old new text fails f (inr h) = subst (FailsToTest old new ⊥) (sym h.0) tt

-- ---- what stays

pub both_keep : (a b c : State) → (HasCleanDisk b → KeepsShown a b) → (HasCleanDisk c → KeepsShown b c)
    → Survives b c (λ _. ⊥) → HasCleanDisk c → KeepsShown a c
both_keep a b c first next survives clean = shown_then a b c (first (omega (arith, survives.clean, clean))) (next clean)

-- neither of two calls leaves anything to a crash
pub survives_both : (a b c : State) → Survives a b (λ _. ⊥) → Survives b c (λ _. ⊥) → Survives a c (λ _. ⊥)
survives_both a b c h k = survives_then a b c (λ _. ⊥) (λ _. ⊥) (λ _. ⊥) (λ clean db no. no) (λ clean db no. no) h k

-- ---- one test after another

-- it was passed, and nothing changed
abbrev Passes : State → State → Type 0
Passes a b = (HasCleanDisk b → IsUnchanged a b) × Survives a b (λ _. ⊥)

after : (a b c : State) (P Q : Type 0) → IsUnchanged a b → Survives a b (λ _. ⊥) → (P → Q) → (f : Failed)
    → FailsToTest b c P f → FailsToTest a c Q f
after a b c P Q same before so Memory h = tt
after a b c P Q same before so Size h = h
after a b c P Q same before so Disk (inl (inl more)) = inl (inl (omega (arith, more, before.counts)))
after a b c P Q same before so Disk (inl (inr shut)) = absurd (let no = sym same.0.is_open ∙ shut in cc)
after a b c P Q same before so Disk (inr (inl limit)) = inr (inl (subst IsSome before.limit limit))
after a b c P Q same before so Disk (inr (inr h)) = inr (inr (so h))

-- a failure after a test that was passed is one of both
pub fails_after : (a b c : State) (P Q : Type 0) → Passes a b → Survives b c (λ _. ⊥) → HasCleanDisk c
    → (IsUnchanged a b → P → Q) → (f : Failed) → FailsToTest b c P f → FailsToTest a c Q f
fails_after a b c P Q passes later clean so = let same =
    passes.0 (omega (arith, later.clean, clean)) in after a b c P Q same passes.1 (so same)

-- ---- one read after another

-- one alone
pub read_fails : {T : Type 0} (old new : State) (r : Result T Failed) → IfErr r (FailsFor old new)
    → IfErr r (FailsToRead old new)
read_fails old new (Ok x) h = tt
read_fails old new (Err f) h = by_query old new ⊥ f h

pub read_passed : {T : Type 0} (old new : State) (r : Result T Failed) (e : Failed) → IsErrAnd r (λ f. f ≡ e)
    → FailsFor old new e → IfErr r (FailsToRead old new)
read_passed old new r e is h = passed_on r e (FailsToRead old new) is (by_query old new ⊥ e h)

-- no memory was left for what was read
pub memory_passed : {T : Type 0} (old new : State) (r : Result T Failed) → IsErrAnd r (λ f. f ≡ Memory)
    → IfErr r (FailsToRead old new)
memory_passed old new r is = passed_on r Memory (FailsToRead old new) is tt

-- after others that were done
pub read_then : {T : Type 0} (a b c : State) (r : Result T Failed) → (HasCleanDisk b → IsUnchanged a b)
    → Survives a b (λ _. ⊥) → Survives b c (λ _. ⊥) → HasCleanDisk c → IfErr r (FailsToRead b c)
    → IfErr r (FailsToRead a c)
read_then a b c (Ok x) same first later clean h = tt
read_then a b c (Err f) same first later clean h = fails_after a b c ⊥ ⊥ (same, first) later clean (λ _ no. no) f h

pub read_then_passed : {T : Type 0} (a b c : State) (r : Result T Failed) (e : Failed) → IsErrAnd r (λ f. f ≡ e)
    → (HasCleanDisk b → IsUnchanged a b) → Survives a b (λ _. ⊥) → Survives b c (λ _. ⊥) → HasCleanDisk c
    → FailsToRead b c e → IfErr r (FailsToRead a c)
read_then_passed a b c r e is same first later clean h =
    passed_on r e (FailsToRead a c) is (fails_after a b c ⊥ ⊥ (same, first) later clean (λ _ no. no) e h)
