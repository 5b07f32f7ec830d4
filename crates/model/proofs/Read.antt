-- What passes its test is read: no archive and no derivation text has out of memory for its fault.
use Rattle.std.proofs.Common.{◌≡◌, ℕ, zero, suc, List, [], ◌∷◌, length, Bool, true, false, cond, Some, None, Option, Ok}
use Rattle.std.proofs.Common.{Err, Result, refl, sym, ap, ◌∙◌, IsTrue}
use Rattle.std.specs.Prelude.{◌-◌, ◌==◌, nat_lt, take, drop, is_none, IsOk}
use Rattle.std.specs.List.{list_all}
use Rattle.std.proofs.lemmas.Bool.{false≢true}
use Rattle.nar.specs.declared.error.NarError.{NarError}
use Rattle.nar.specs.declared.error.NarError.TheVariants.{Truncated, BadTag, BadPadding, BadName, NotSorted, TooDeep}
use Rattle.nar.specs.declared.error.NarError.TheVariants.{Trailing, TooLarge, Memory}
use Rattle.nar.specs.String.{padded, size_of, string_of_length, string_at}
use Rattle.nar.specs.Steps.{Symbol, word, any, kind, file, entries, entry_name, node_word, start, check}
use Rattle.nar.specs.Tree.{Tree}
use Rattle.nar.specs.Archive.{limit}
use Rattle.nar.specs.Outcome.{and_then, parts_from, outcome_of}
use Rattle.drv.specs.declared.error.DrvError.{DrvError}
use Rattle.drv.specs.declared.error.DrvError.TheVariants as text
use Rattle.drv.specs.Outcome.{outputs_of}
use Rattle.drv.proofs.Outcomes.{one_outcome}
use Rattle.model.specs.World.{Path}
use Rattle.model.specs.declared.refusal.Refusal.{Refusal}
use Rattle.model.specs.declared.refusal.Refusal.TheVariants as refusals
use Rattle.model.specs.Faults.{archive_refusal}
use Rattle.model.specs.Tests.{archive_fault, outputs_fault}

some_refusal : (r : Refusal) → Some r ≡ None → ⊥
some_refusal r e = false≢true (ap is_none e)

-- ---- archives

abbrev is_of_bytes : NarError → Bool
is_of_bytes Memory = false
is_of_bytes _ = true

-- the fault, if there's one, isn't out of memory
FaultIsOfBytes : {A : Type 0} → Result A NarError → Type 0
FaultIsOfBytes (Ok x) = IsTrue true
FaultIsOfBytes (Err e) = IsTrue (is_of_bytes e)

none : {A : Type 0} (x : A) → FaultIsOfBytes (Ok x)
unfolding FaultIsOfBytes
none x = refl

this : (A : Type 0) (e : NarError) → IsTrue (is_of_bytes e) → FaultIsOfBytes {A = A} (Err e)
unfolding FaultIsOfBytes
this A e h = h

chosen : {A : Type 0} (b : Bool) (x y : Result A NarError) → FaultIsOfBytes x → FaultIsOfBytes y
    → FaultIsOfBytes (cond b x y)
chosen true x y p q = p
chosen false x y p q = q

goes_on : {A B : Type 0} (r : Result A NarError) (f : A → Result B NarError) → FaultIsOfBytes r
    → ((x : A) → FaultIsOfBytes (f x)) → FaultIsOfBytes (and_then r f)
unfolding FaultIsOfBytes
goes_on (Ok x) f h k = k x
goes_on (Err e) f h k = h

of_string : (n room : ℕ) (bytes : List ℕ) → FaultIsOfBytes (string_of_length n room bytes)
unfolding string_of_length
of_string n room bytes =
    chosen (nat_lt (length bytes) 8) _ _ (this _ Truncated refl)
    (chosen (nat_lt room (size_of n)) _ _ (this _ TooLarge refl)
    (chosen (nat_lt (length bytes) (size_of n)) _ _ (this _ Truncated refl)
    (chosen (list_all (λ b. b == 0) (take (padded n - n) (drop n (drop 8 bytes)))) _ _
    (none (take n (drop 8 bytes), drop (size_of n) bytes)) (this _ BadPadding refl))))

of_check : (x : Symbol) (s : List ℕ) → FaultIsOfBytes (check x s)
of_check (entry_name d last) s = chosen _ _ _ (chosen _ _ _ (none _) (this _ NotSorted refl)) (this _ BadName refl)
of_check (node_word d) s = chosen _ _ _ (chosen _ _ _ (this _ TooDeep refl) (none _)) (this _ BadTag refl)
of_check (word w) s = chosen _ _ _ (none _) (this _ BadTag refl)
of_check any s = none _
of_check (kind d) s = chosen _ _ _ (none _) (this _ BadTag refl)
of_check file s = chosen _ _ _ (none _) (this _ BadTag refl)
of_check (entries d last) s = chosen _ _ _ (none _) (this _ BadTag refl)

of_parts : (steps : ℕ) (κ : List Symbol) (room : ℕ) (bytes : List ℕ) → FaultIsOfBytes (parts_from steps κ room bytes)
of_parts steps [] room [] = none _
of_parts steps [] room (b ∷ bytes) = this _ Trailing refl
of_parts zero (x ∷ κ) room bytes = this _ Truncated refl
of_parts (suc steps) (x ∷ κ) room bytes =
    goes_on (string_at room bytes) _ (of_string _ room bytes) (λ next.
    goes_on (check x next.0) _ (of_check x next.0) (λ p.
    goes_on (parts_from steps _ _ next.1) _ (of_parts steps _ _ next.1) (λ ps. none _)))

of_outcome : (bytes : List ℕ) → FaultIsOfBytes (outcome_of bytes)
unfolding outcome_of
of_outcome bytes =
    goes_on (parts_from (length bytes) start limit bytes) _ (of_parts (length bytes) start limit bytes) (λ ps. none _)

passes : (r : Result Tree NarError) → FaultIsOfBytes r → archive_fault r ≡ None → (t : Tree) × (r ≡ Ok t)
unfolding FaultIsOfBytes
passes (Ok t) h e = (t, refl)
passes (Err Truncated) h e = absurd (some_refusal refusals.Truncated e)
passes (Err BadTag) h e = absurd (some_refusal refusals.BadTag e)
passes (Err BadPadding) h e = absurd (some_refusal refusals.BadPadding e)
passes (Err BadName) h e = absurd (some_refusal refusals.BadName e)
passes (Err NotSorted) h e = absurd (some_refusal refusals.NotSorted e)
passes (Err TooDeep) h e = absurd (some_refusal refusals.TooDeep e)
passes (Err Trailing) h e = absurd (some_refusal refusals.Trailing e)
passes (Err TooLarge) h e = absurd (some_refusal refusals.TooLarge e)
passes (Err Memory) h e = absurd (false≢true h)

pub archive_is_read : (bytes : List ℕ) → archive_fault (outcome_of bytes) ≡ None
    → (t : Tree) × (outcome_of bytes ≡ Ok t)
archive_is_read bytes e = passes (outcome_of bytes) (of_outcome bytes) e

not_read : {B : Type 0} (t : Tree) (e : NarError) → Ok t ≡ Err e → B
not_read t e is = absurd cc

-- and each fault of an archive has a refusal
pub fault_is_refused : (bytes : List ℕ) (e : NarError) → outcome_of bytes ≡ Err e
    → (r : Refusal) × (archive_refusal e ≡ Some r)
fault_is_refused bytes e is = by (archive_refusal e) refl
  where
    by : (o : Option Refusal) → archive_refusal e ≡ o → (r : Refusal) × (archive_refusal e ≡ Some r)
    by (Some r) h = (r, h)
    by None h = let read = archive_is_read bytes (ap archive_fault is ∙ h) in not_read read.0 e (sym read.1 ∙ is)

-- ---- derivation texts

pub outputs_are_read : (dir contents : List ℕ) → outputs_fault (outputs_of dir contents) ≡ None
    → IsOk (outputs_of dir contents)
outputs_are_read dir contents e = by (outputs_of dir contents) refl e
  where
    by : (r : Result (List (List ℕ × Path)) DrvError) → outputs_of dir contents ≡ r → outputs_fault r ≡ None → IsOk r
    by (Ok outputs) is h = refl
    by (Err text.BadDerivation) is h = absurd (some_refusal refusals.BadDerivation h)
    by (Err text.DoubleOutput) is h = absurd (some_refusal refusals.DoubleOutput h)
    by (Err text.Memory) is h = absurd ((one_outcome dir contents (Err text.Memory)).1 is)
