-- When an object is refused, and what its contents answer.
use Rattle.std.proofs.Common.{◌≡◌, ℕ, ◌<◌, ◌≤◌, true, false, List, length, take, Option, Some, None, option_map, ap}
use Rattle.std.proofs.Common.{refl, ◌∙◌, arith, inl, inr, take_all, length-take}
use Rattle.std.specs.List.{list_all}
use Rattle.std.specs.Option.{option_map_or}
use Rattle.std.proofs.lemmas.Bool.{cases_lt, lt-ltb, le-ltb}
use Rattle.paths.specs.Names.{is_store_name}
use Rattle.paths.specs.declared.store_name.NameError.{NameError}
use Rattle.paths.specs.declared.store_name.NameError.TheVariants as name_error
use Rattle.model.specs.declared.refusal.Refusal.{Refusal}
use Rattle.model.specs.declared.refusal.Refusal.TheVariants.{BadStorePath, TooManyReferences}
use Rattle.tool_pure.specs.declared.stops.Stop.{Stop}
use Rattle.tool_pure.specs.declared.stops.Stop.TheVariants.{Refused}
use Rattle.tool_pure.specs.Object.{is_path_text, named_fault, count_fault, object_fault, text_path_answer, max_contents}
use Rattle.model.specs.Objects.{most_references}
use Rattle.tool_pure.specs.Faults.{name_stop}
use Rattle.tool_pure.specs.Stream.{IsStopBy}

-- the stop of a name that isn't one, or for which there was no memory
pub bad_name : (dir name : List ℕ) (refs : List (List ℕ)) (fault : NameError)
    → (fault ≡ name_error.BadStoreName → is_store_name name ≡ false)
    → IsStopBy (named_fault dir name refs) (name_stop fault)
bad_name dir name refs name_error.BadStoreName bad = inr (let wrong = bad refl in rw wrong refl)
bad_name dir name refs name_error.Memory bad = inl refl

pub bad_path : (dir name : List ℕ) (refs : List (List ℕ)) → is_store_name name ≡ true
    → list_all (is_path_text dir) refs ≡ false
    → named_fault dir name refs ≡ Some BadStorePath
bad_path dir name refs named bad = rw (named, bad) refl

pub no_named : (dir name : List ℕ) (refs : List (List ℕ)) → is_store_name name ≡ true
    → list_all (is_path_text dir) refs ≡ true
    → named_fault dir name refs ≡ None
no_named dir name refs named paths = rw (named, paths) refl

many_fault : (refs : List (List ℕ)) → most_references < length refs → count_fault refs ≡ Some TooManyReferences
many_fault refs many = rw (lt-ltb most_references (length refs) many) refl

few_fault : (refs : List (List ℕ)) → length refs ≤ most_references → count_fault refs ≡ None
few_fault refs few = rw (le-ltb most_references (length refs) few) refl

pub too_many : (dir name : List ℕ) (refs : List (List ℕ)) → named_fault dir name refs ≡ None
    → most_references < length refs
    → object_fault dir name refs ≡ Some TooManyReferences
too_many dir name refs none many = ap (λ f. option_map_or Some f (count_fault refs)) none ∙ many_fault refs many

pub no_fault : (dir name : List ℕ) (refs : List (List ℕ)) → named_fault dir name refs ≡ None
    → length refs ≤ most_references
    → object_fault dir name refs ≡ None
no_fault dir name refs none few = ap (λ f. option_map_or Some f (count_fault refs)) none ∙ few_fault refs few

first_of_two : (f rest : Option Refusal) (stop : Stop) → option_map Refused f ≡ Some stop
    → option_map Refused (option_map_or Some f rest) ≡ Some stop
first_of_two None rest stop is = let h : ◌≡◌ {A = Option Stop} None (Some stop) = is in cc
first_of_two (Some r) rest stop is = is

-- what is wrong with the name or a reference is wrong with the object
pub named_stop : (dir name : List ℕ) (refs : List (List ℕ)) (stop : Stop) → IsStopBy (named_fault dir name refs) stop
    → IsStopBy (object_fault dir name refs) stop
named_stop dir name refs stop (inl memory) = inl memory
named_stop dir name refs stop (inr is) = inr (first_of_two (named_fault dir name refs) (count_fault refs) stop is)

-- contents that are read to one byte above the limit answer as all of them
pub text_prefix : (dir name : List ℕ) (refs : List (List ℕ)) (all : List ℕ)
    → text_path_answer dir name refs (take 16777105 all) ≡ text_path_answer dir name refs all
text_prefix dir name refs all =
    elim (cases_lt max_contents (length all)) [
      | inl long ↦
          let cut : max_contents < length (take 16777105 all) = omega (arith, length-take 16777105 all) in
          rw (lt-ltb max_contents (length all) long, lt-ltb max_contents (length (take 16777105 all)) cut) refl
      | inr short ↦ ap (text_path_answer dir name refs) (take_all 16777105 all (omega arith))
    ]
