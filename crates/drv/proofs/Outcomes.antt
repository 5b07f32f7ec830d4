-- The outcome of a text is its function's.
use Rattle.std.proofs.Common.{◌≡◌, ℕ, Bool, true, false, cond, not, List, [], ◌∷◌, get_or, Option, Some, None, Result}
use Rattle.std.proofs.Common.{Ok, Err, refl, sym, ap, subst, ◌∙◌}
use Rattle.std.specs.List.{list_any, AllByRecursion, IsDistinct}
use Rattle.std.specs.Str.{bytes_eq}
use Rattle.std.proofs.lemmas.Bool.{and_parts, and_from, not-true, not_from_false, both_ways, or_parts, or_from}
use Rattle.std.proofs.lemmas.Bool.{false_from_ne_true}
use Rattle.std.proofs.lemmas.Option.{same_Some}
use Rattle.std.proofs.lemmas.Slice.Eq.{bytes_eq-Decides}
use Rattle.std.proofs.lemmas.Map.Keys.{apart_from_distinct, IsDistinct-from_apart}
use Rattle.drv.specs.declared.error.DrvError.{DrvError}
use Rattle.drv.specs.declared.error.DrvError.TheVariants.{BadDerivation, DoubleOutput, Memory}
use Rattle.drv.specs.Derivation.{HaveOwnNames, recorded, Records, IsBad, SharesName}
use Rattle.drv.specs.Outcome.{IsOutcome, have_own_names, answered, outputs_of}
use Rattle.drv.specs.Reading.{listed}
use Rattle.drv.specs.Laws.{OneOutcome}
use Rattle.drv.proofs.Whole.{listed_again, listed_takes}

abbrev pub Named : Type 0
Named = List ℕ × Option (List ℕ)

abbrev pub same_name : Named → Named → Bool
same_name x y = bytes_eq x.0 y.0

-- no element passes
none_pass : (test : Named → Bool) (xs : List Named) → list_any test xs ≡ false → AllByRecursion (λ y. test y ≡ false) xs
none_pass test [] h = tt
none_pass test (x ∷ xs) h = let parts = or_parts (test x) (list_any test xs) h in (parts.0, none_pass test xs parts.1)

pass_none : (test : Named → Bool) (xs : List Named) → AllByRecursion (λ y. test y ≡ false) xs → list_any test xs ≡ false
pass_none test [] h = refl
pass_none test (x ∷ xs) h = or_from (test x) (list_any test xs) h.0 (pass_none test xs h.1)

pub distinct_if_own : (xs : List Named) → have_own_names xs ≡ true → IsDistinct same_name xs
unfolding have_own_names IsDistinct
distinct_if_own [] h = tt
distinct_if_own (x ∷ xs) h =
    let parts = and_parts (not (list_any (same_name x) xs)) (have_own_names xs) h in
    (none_pass (same_name x) xs (not-true (list_any (same_name x) xs) parts.0), distinct_if_own xs parts.1)

pub own_if_distinct : (xs : List Named) → IsDistinct same_name xs → have_own_names xs ≡ true
unfolding have_own_names IsDistinct
own_if_distinct [] h = refl
own_if_distinct (x ∷ xs) h =
    and_from (not (list_any (same_name x) xs)) (have_own_names xs)
    (not_from_false (list_any (same_name x) xs) (pass_none (same_name x) xs h.0)) (own_if_distinct xs h.1)

own_names : (xs : List Named) → have_own_names xs ≡ true → HaveOwnNames xs
own_names xs h i j d lt in_list same =
    both_ways (same_name (get_or xs i d) (get_or xs j d))
    (apart_from_distinct same_name xs i j d (distinct_if_own xs h) lt in_list)
    ((bytes_eq-Decides (get_or xs i d).0 (get_or xs j d).0).1 same)

names_own : (xs : List Named) → HaveOwnNames xs → have_own_names xs ≡ true
names_own xs h =
    own_if_distinct xs (IsDistinct-from_apart same_name xs (λ i j d lt in_list.
    false_from_ne_true (same_name (get_or xs i d) (get_or xs j d))
    (λ e. h i j d lt in_list ((bytes_eq-Decides (get_or xs i d).0 (get_or xs j d).0).0 e))))

abbrev Recorded : Type 0
Recorded = List (List ℕ × List ℕ)

done : Recorded → Result Recorded DrvError
done found = Ok found

fault : DrvError → Result Recorded DrvError
fault e = Err e

-- ---- from the relation to the function

to_found : (dir text : List ℕ) (found : Recorded) → Records dir text found → outputs_of dir text ≡ Ok found
unfolding outputs_of
to_found dir text found h =
    ap answered (listed_again dir text h.outputs h.of)
    ∙ ap (λ b. cond b (Ok (recorded h.outputs)) (Err DoubleOutput)) (names_own h.outputs h.own)
    ∙ ap (λ (r : Recorded). Ok r) (sym h.are)

to_shared : (dir text : List ℕ) → SharesName dir text → outputs_of dir text ≡ Err DoubleOutput
unfolding outputs_of
to_shared dir text h =
    let shared : have_own_names h.outputs ≡ false =
    false_from_ne_true (have_own_names h.outputs) (λ own. h.shared (own_names h.outputs own)) in
    ap answered (listed_again dir text h.outputs h.of)
    ∙ ap (λ b. cond b (Ok (recorded h.outputs)) (Err DoubleOutput)) shared

to_bad : (dir text : List ℕ) → IsBad dir text → outputs_of dir text ≡ Err BadDerivation
unfolding outputs_of
to_bad dir text h =
    ap answered (Rattle.drv.proofs.Texts.none_if (listed dir text) (λ all e. h all (listed_takes dir text all e)))

to_function : (dir text : List ℕ) (outcome : Result Recorded DrvError) → IsOutcome dir text outcome
    → outputs_of dir text ≡ outcome
to_function dir text (Ok found) h = to_found dir text found h
to_function dir text (Err BadDerivation) h = to_bad dir text h
to_function dir text (Err DoubleOutput) h = to_shared dir text h
to_function dir text (Err Memory) h = absurd h

-- ---- and back

outcome_from : (dir text : List ℕ) (read : Option (List Named)) → listed dir text ≡ read → (own : Bool)
    → ((all : List Named) → read ≡ Some all → have_own_names all ≡ own) → IsOutcome dir text (answered read)
outcome_from dir text None e own h =
    λ all has. let both : None ≡ Some all =
    sym e ∙ listed_again dir text all has in Rattle.std.proofs.lemmas.Option.none-some all both
outcome_from dir text (Some all) e true h =
    subst (λ b. IsOutcome dir text (cond b (Ok (recorded all)) (Err DoubleOutput))) (sym (h all refl))
    (record { outputs = all; of = listed_takes dir text all e; own = own_names all (h all refl); are = refl })
outcome_from dir text (Some all) e false h =
    subst (λ b. IsOutcome dir text (cond b (Ok (recorded all)) (Err DoubleOutput))) (sym (h all refl))
    (record {
      outputs = all;
      of = listed_takes dir text all e;
      shared = λ own. both_ways (have_own_names all) (h all refl) (names_own all own);
    })

own_of : Option (List Named) → Bool
own_of (Some all) = have_own_names all
own_of None = true

own_of_is : (read : Option (List Named)) (all : List Named) → read ≡ Some all → have_own_names all ≡ own_of read
unfolding own_of
own_of_is (Some xs) all e = ap have_own_names (sym (same_Some xs all e))
own_of_is None all e = absurd cc

pub outcome_is : (dir text : List ℕ) → IsOutcome dir text (outputs_of dir text)
unfolding outputs_of
outcome_is dir text =
    outcome_from dir text (listed dir text) refl (own_of (listed dir text)) (own_of_is (listed dir text))

pub one_outcome : OneOutcome
one_outcome =
    λ dir text outcome. (
      λ h. to_function dir text outcome h,
      λ e. subst (λ r. IsOutcome dir text r) e (outcome_is dir text),
    )
