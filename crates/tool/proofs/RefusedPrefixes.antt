-- If a prefix of what is added is refused, all of it is refused in the same way.
use Rattle.std.proofs.Common.{◌≡◌, ℕ, ◌+◌, ◌<◌, ◌≤◌, Bool, true, false, List, [], ◌∷◌, length, take, Option, Some, None}
use Rattle.std.proofs.Common.{Result, Ok, Err, inl, inr, ap, subst, refl, sym, ◌∙◌, arith, take_all, length-take}
use Rattle.std.specs.Prelude.{nat_le, not}
use Rattle.std.proofs.lemmas.Bool.{cases_lt, lt-leb}
use Rattle.nar.specs.String.{padded}
use Rattle.nar.specs.Tree.{IsBytes, Tree}
use Rattle.nar.specs.Outcome.{outcome_of}
use Rattle.nar.specs.Archive.{IsArchive, limit}
use Rattle.nar.specs.declared.error.NarError.{NarError}
use Rattle.nar.proofs.Strings.{padded_le}
use Rattle.nar.proofs.Prefixes.{outcome_prefix}
use Rattle.nar.proofs.Decided.{outcome_archive}
use Rattle.paths.specs.Path.{source_path, text_path}
use Rattle.live.specs.Graph.{holds}
use Rattle.drv.specs.Outcome.{outputs_of}
use Rattle.model.specs.World.{Path, World}
use Rattle.model.specs.Objects.{most_references}
use Rattle.policy.specs.Settings.{Settings}
use Rattle.policy.specs.Caller.{Caller}
use Rattle.model.specs.Request.{add_source, add_text}
use Rattle.model.specs.Reply.{Reply, done, denied, refused, failed}
use Rattle.model.specs.declared.refusal.Refusal.{Refusal}
use Rattle.model.specs.declared.refusal.Refusal.TheVariants.{TooLarge, MissingReference, SelfReference}
use Rattle.model.specs.declared.refusal.Refusal.TheVariants.{TooManyReferences}
use Rattle.model.specs.Adds.{text_archive_size}
use Rattle.model.specs.Step.{Step}
use Rattle.model.specs.Faults.{archive_refusal}
use Rattle.model.specs.Tests.{archive_fault, first_failing, if_derivation, is_complete, outputs_fault, refusal}
use Rattle.model.specs.Tests.{tree_fault, unless}
use Rattle.model.proofs.Read.{fault_is_refused}
use Rattle.tool.specs.Requests.{StepsAs}

-- what is refused for its archive, unless it has too many references
abbrev fault_of : List Path → Refusal → Option Refusal
fault_of refs r = first_failing (unless (nat_le (length refs) most_references) TooManyReferences ∷ Some r ∷ [])

no_fault : (few : Bool) (r : Refusal) → first_failing (unless few TooManyReferences ∷ Some r ∷ []) ≡ None → ⊥
no_fault true r is = (let no : ◌≡◌ {A = Option Refusal} (Some r) None = is in cc)
no_fault false r is = (let no : ◌≡◌ {A = Option Refusal} (Some TooManyReferences) None = is in cc)

-- ---- contents that are too long

long_fault : (few small : Bool) (rest : List (Option Refusal)) → small ≡ false
    → first_failing (unless few TooManyReferences ∷ unless small TooLarge ∷ rest)
    ≡ first_failing (unless few TooManyReferences ∷ Some TooLarge ∷ [])
long_fault true small rest is = ap (λ b. first_failing (unless b TooLarge ∷ rest)) is
long_fault false small rest is = refl

too_long : (contents : List ℕ) → 16777104 < length contents → nat_le (text_archive_size contents) limit ≡ false
too_long contents long =
    lt-leb (112 + padded (length contents)) 16777216 (omega (arith, padded_le (length contents), long))

-- ---- archives with a fault

broken_fault : (few : Bool) (e : NarError) (r : Refusal) (outcome : Result Tree NarError) (rest : List (Option Refusal))
    → outcome ≡ Err e → archive_refusal e ≡ Some r
    → first_failing (unless few TooManyReferences ∷ archive_fault outcome ∷ rest)
    ≡ first_failing (unless few TooManyReferences ∷ Some r ∷ [])
broken_fault true e r outcome rest is reported =
    ap (λ fault. first_failing (fault ∷ rest)) (ap archive_fault is ∙ reported)
broken_fault false e r outcome rest is reported = refl

module _ (s : Settings) (w : World) (name : List ℕ) (refs : List Path) where
  long_refused : (contents : List ℕ) → nat_le (text_archive_size contents) limit ≡ false
      → refusal s w (add_text name refs contents) ≡ fault_of refs TooLarge
  long_refused contents long =
      let p = text_path s.store_dir name refs contents in
      long_fault (nat_le (length refs) most_references) (nat_le (text_archive_size contents) limit)
      (unless (not (holds refs p)) SelfReference ∷ if_derivation p (outputs_fault (outputs_of s.store_dir contents))
      ∷ unless (is_complete w p refs) MissingReference ∷ [])
      long

  broken_refused : (b : List ℕ) (e : NarError) (r : Refusal) → outcome_of b ≡ Err e → archive_refusal e ≡ Some r
      → refusal s w (add_source name refs b) ≡ fault_of refs r
  broken_refused b e r is reported =
      let p = source_path s.store_dir name refs b in
      broken_fault (nat_le (length refs) most_references) e r (outcome_of b)
      (unless (not (holds refs p)) SelfReference ∷ if_derivation p (tree_fault s.store_dir (outcome_of b))
      ∷ unless (is_complete w p refs) MissingReference ∷ [])
      is reported

  -- both are refused alike, whatever the rules say
  steps_long : (c : Caller) (prefix all : List ℕ) → nat_le (text_archive_size prefix) limit ≡ false
      → nat_le (text_archive_size all) limit ≡ false
      → (reply : Reply) (next : World) → Step s w c (add_text name refs prefix) reply next
      → Step s w c (add_text name refs all) reply next
  steps_long c prefix all hf hl (denied rule root) next step = step
  steps_long c prefix all hf hl (refused r) next step =
      (step.0, long_refused all hl ∙ sym (long_refused prefix hf) ∙ step.1, step.2)
  steps_long c prefix all hf hl (failed f) next step = step
  steps_long c prefix all hf hl (done a) next step =
      absurd (no_fault (nat_le (length refs) most_references) TooLarge (sym (long_refused prefix hf) ∙ step.1))

  steps_broken : (c : Caller) (prefix all : List ℕ) (e : NarError) → outcome_of prefix ≡ Err e → outcome_of all ≡ Err e
      → (reply : Reply) (next : World) → Step s w c (add_source name refs prefix) reply next
      → Step s w c (add_source name refs all) reply next
  steps_broken c prefix all e hf ha (denied rule root) next step = step
  steps_broken c prefix all e hf ha (refused r) next step =
      let fault =
      fault_is_refused prefix e hf in (
        step.0,
        broken_refused all e fault.0 ha fault.1 ∙ sym (broken_refused prefix e fault.0 hf fault.1) ∙ step.1,
        step.2,
      )
  steps_broken c prefix all e hf ha (failed f) next step = step
  steps_broken c prefix all e hf ha (done a) next step =
      let fault =
      fault_is_refused prefix e hf in
      absurd (no_fault (nat_le (length refs) most_references) fault.0
      (sym (broken_refused prefix e fault.0 hf fault.1) ∙ step.1))

-- contents that are read to one byte above the limit do for all of them
pub contents_step : (name : List ℕ) (refs : List Path) (all : List ℕ)
    → StepsAs (add_text name refs (take 16777105 all)) (add_text name refs all)
contents_step name refs all s w c reply next step =
    elim (cases_lt 16777104 (length all)) [
      | inl long ↦
          let cut : 16777104 < length (take 16777105 all) = omega (arith, length-take 16777105 all) in
          steps_long s w name refs c (take 16777105 all) all (too_long (take 16777105 all) cut) (too_long all long)
          reply next step
      | inr short ↦ subst (λ b. Step s w c (add_text name refs b) reply next) (take_all 16777105 all (omega arith)) step
    ]

module _ (name : List ℕ) (refs : List Path) (all : List ℕ) (bytes : IsBytes (take 16777224 all)) where
  prefix_step : (r : Result Tree NarError) → outcome_of (take 16777224 all) ≡ r
      → StepsAs (add_source name refs (take 16777224 all)) (add_source name refs all)
  prefix_step (Ok t) is s w c reply next step =
      let whole : IsArchive t (take 16777224 all) = (outcome_archive (take 16777224 all) t bytes).0 is in
      let few : length (take 16777224 all) ≤ 16777216 = whole.fits in
      subst (λ b. Step s w c (add_source name refs b) reply next)
      (take_all 16777224 all (omega (arith, length-take 16777224 all))) step
  prefix_step (Err e) is s w c reply next step =
      steps_broken s w name refs c (take 16777224 all) all e is (sym (outcome_prefix all) ∙ is) reply next step

  -- as many bytes as an archive may have, and 8 more, do for all of them
  pub archive_step : StepsAs (add_source name refs (take 16777224 all)) (add_source name refs all)
  archive_step = prefix_step (outcome_of (take 16777224 all)) refl
