-- What the fault of an archive says of its test, and what its text says of a derivation.
use Rattle.std.proofs.Common.{◌≡◌, ℕ, List, Option, Some, None, Result, Ok, Err, refl, sym, ap, subst, ◌∙◌}
use Rattle.std.specs.Prelude.{◌≢◌}
use Rattle.std.proofs.lemmas.Option.{same_Some}
use Rattle.nar.specs.declared.error.NarError.{NarError}
use Rattle.nar.specs.Tree.{Tree, regular, symlink, directory}
use Rattle.drv.specs.declared.error.DrvError.{DrvError}
use Rattle.drv.specs.declared.error.DrvError.TheVariants as texts
use Rattle.drv.specs.Outcome.{IsFault, outputs_of}
use Rattle.drv.proofs.Outcomes.{one_outcome}
use Rattle.model.specs.Objects.{tree_outputs, outputs_if_sound}
use Rattle.model.specs.declared.refusal.Refusal.{Refusal}
use Rattle.model.specs.declared.refusal.Refusal.TheVariants.{BadDerivation}
use Rattle.model.specs.Faults.{archive_refusal}
use Rattle.model.specs.Tests.{archive_fault, outputs_fault, tree_fault}
use Rattle.intake.specs.Arrival.{fault_of}
use Rattle.intake.specs.Contents.{contents_of}
use Rattle.store_types.specs.declared.replies.Stop.{Stop}
use Rattle.store_types.specs.Stops.{derivation_stop}
use Rattle.store_types.specs.Tested.{Gives, Stops}

-- an archive without a fault passes the test of it
pub no_fault : (r : Result Tree NarError) (f : Option NarError) → f ≡ fault_of r → f ≡ None → archive_fault r ≡ None
no_fault (Ok t) f is none = refl
no_fault (Err e) f is none = let no : ⊥ = cc in absurd no

-- and with one it is refused for it
pub a_fault : (r : Result Tree NarError) (f : Option NarError) (e : NarError) → f ≡ fault_of r → f ≡ Some e
    → archive_refusal e ≡ archive_fault r
a_fault (Ok t) f e is some = let no : ⊥ = cc in absurd no
a_fault (Err x) f e is some = ap archive_refusal (sym (same_Some x e (sym is ∙ some)))

bad_distinct : texts.BadDerivation ≢ texts.Memory
bad_distinct is = cc

double_distinct : texts.DoubleOutput ≢ texts.Memory
double_distinct is = cc

-- and one of a derivation text that of its outputs
pub outputs_stop : (dir text : List ℕ) (e : DrvError) → (e ≢ texts.Memory → IsFault dir text e)
    → Stops (derivation_stop e) (outputs_fault (outputs_of dir text))
outputs_stop dir text texts.BadDerivation h =
    ap outputs_fault ((one_outcome dir text (Err texts.BadDerivation)).0 (h bad_distinct))
outputs_stop dir text texts.DoubleOutput h =
    ap outputs_fault ((one_outcome dir text (Err texts.DoubleOutput)).0 (h double_distinct))
outputs_stop dir text texts.Memory h = refl

-- a regular file has its contents as a text
pub with_text : (dir : List ℕ) (r : Result Tree NarError) (text : List ℕ) → Some text ≡ contents_of r
    → (outputs_fault (outputs_of dir text) ≡ tree_fault dir r)
    × (outputs_if_sound (outputs_of dir text) ≡ tree_outputs dir r)
with_text dir (Ok (regular executable contents)) text is =
    let same = same_Some text contents is in (
      ap (λ t. outputs_fault (outputs_of dir t)) same,
      ap (λ t. outputs_if_sound (outputs_of dir t)) same,
    )
with_text dir (Ok (symlink target)) text is = let no : ⊥ = cc in absurd no
with_text dir (Ok (directory _)) text is = let no : ⊥ = cc in absurd no
with_text dir (Err e) text is = let no : ⊥ = cc in absurd no

-- and anything else has none
pub no_text : (dir : List ℕ) (r : Result Tree NarError) → None ≡ contents_of r → tree_fault dir r ≡ Some BadDerivation
no_text dir (Ok (regular executable contents)) is = let no : ⊥ = cc in absurd no
no_text dir (Ok (symlink target)) is = refl
no_text dir (Ok (directory _)) is = refl
no_text dir (Err e) is = refl

-- what is given, in other words
pub given_as : {A B : Type 0} (r : Result A Stop) (view : A → B) (f h : Option Refusal) (a b : B) → f ≡ h → a ≡ b
    → Gives view r f a → Gives view r h b
given_as r view f h a b e k gives = subst (λ x. Gives view r x b) e (subst (λ y. Gives view r f y) k gives)
