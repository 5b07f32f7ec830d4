-- Each part of a derivation that is skipped is one that is written, and what is written is skipped.
use Rattle.std.proofs.Common.{◌≡◌, ℕ, List, [], ◌∷◌, ◌++◌, map, Option, refl, sym, ap, ◌∙◌}
use Rattle.std.proofs.lemmas.List.{append-nil}
use Rattle.drv.specs.Written.{Written, string}
use Rattle.drv.specs.Derivation.{commas, tuple, list, input, variable}
use Rattle.drv.specs.Reading.{after, ◌>=>◌, further, string_end, list_end, variable_end, input_end}
use Rattle.drv.proofs.Steps.{Skips, Skips-then, Skips-byte, Skips-further}
use Rattle.drv.proofs.Lists.{Skips-list}
use Rattle.drv.proofs.Strings.{string_skips}
use Rattle.drv.proofs.Loops.{Item, string_item}

-- the same, where what is written has another form
pub Skips-as : {X Y : Type 0} (skip : List ℕ → Option (List ℕ)) (s : X → List ℕ) (u : Y → List ℕ) (to : X → Y)
    (from : Y → X)
    → ((x : X) → s x ≡ u (to x)) → ((y : Y) → u y ≡ s (from y)) → Skips skip s → Skips skip u
Skips-as skip s u to from is is_back skips = record {
  again = λ y rest. ap (λ (t : List ℕ). skip (t ++ rest)) (is_back y) ∙ skips.again (from y) rest;
  takes = λ t rest e.
      let x = skips.takes t rest e in
      (to x.0, x.1 ∙ ap (λ (f : List ℕ). f ++ rest) (is x.0));
}

pub strings_skip : Skips (list_end string_end) (λ (xs : List (List Written)). list (map string xs))
strings_skip = Skips-list string_end string string_item.skips string_item.opens

abbrev VariableParts : Type 0
VariableParts = ((Unit {0} × List Written) × List Written) × Unit {0}

abbrev variable_spelled : VariableParts → List ℕ
variable_spelled z = ((40 ∷ []) ++ string z.0.0.1 ++ (44 ∷ string z.0.1)) ++ 41 ∷ []

variable_is : (name value : List Written)
    → ((40 ∷ []) ++ string name ++ (44 ∷ string value)) ++ 41 ∷ [] ≡ variable (record { name = name; value = value })
unfolding variable tuple commas
variable_is name value =
    ap (λ (t : List ℕ). 40 ∷ ((string name ++ 44 ∷ t) ++ 41 ∷ [])) (sym (append-nil (string value)))

variable_skips : Skips variable_end variable
unfolding variable_end
variable_skips =
    Skips-as (after 40 >=> string_end >=> further string_end >=> after 41) variable_spelled variable
    (λ z. record { name = z.0.0.1; value = z.0.1 }) (λ v. (((tt, v.name), v.value), tt))
    (λ z. variable_is z.0.0.1 z.0.1) (λ v. sym (variable_is v.name v.value))
    (Skips-then (after 40 >=> string_end >=> further string_end) (after 41) _ _
    (Skips-then (after 40 >=> string_end) (further string_end) _ _
    (Skips-then (after 40) string_end _ _ (Skips-byte 40) string_skips)
    (Skips-further string_end string string_skips))
    (Skips-byte 41))

pub variable_item : Item variable_end variable
unfolding variable tuple
variable_item = record { skips = variable_skips; opens = λ v rest. refl }

input_is : (path : List Written) (names : List (List Written))
    → ((40 ∷ []) ++ string path ++ (44 ∷ list (map string names))) ++ 41 ∷ []
    ≡ input (record { path = path; names = names })
unfolding input tuple commas
input_is path names =
    ap (λ (t : List ℕ). 40 ∷ ((string path ++ 44 ∷ t) ++ 41 ∷ [])) (sym (append-nil (list (map string names))))

abbrev InputParts : Type 0
InputParts = ((Unit {0} × List Written) × List (List Written)) × Unit {0}

abbrev input_spelled : InputParts → List ℕ
input_spelled z = ((40 ∷ []) ++ string z.0.0.1 ++ (44 ∷ list (map string z.0.1))) ++ 41 ∷ []

input_skips : Skips input_end input
unfolding input_end
input_skips =
    Skips-as (after 40 >=> string_end >=> further (list_end string_end) >=> after 41) input_spelled input
    (λ z. record { path = z.0.0.1; names = z.0.1 }) (λ i. (((tt, i.path), i.names), tt))
    (λ z. input_is z.0.0.1 z.0.1) (λ i. sym (input_is i.path i.names))
    (Skips-then (after 40 >=> string_end >=> further (list_end string_end)) (after 41) _ _
    (Skips-then (after 40 >=> string_end) (further (list_end string_end)) _ _
    (Skips-then (after 40) string_end _ _ (Skips-byte 40) string_skips)
    (Skips-further (list_end string_end) _ strings_skip))
    (Skips-byte 41))

pub input_item : Item input_end input
unfolding input tuple
input_item = record { skips = input_skips; opens = λ i rest. refl }
