-- A whole text: its outputs are listed if and only if it is that of a derivation with these outputs.
use Rattle.std.proofs.Common.{◌≡◌, ℕ, List, [], ◌∷◌, ◌++◌, map, Option, Some, refl, sym, ap, subst, ◌∙◌, append_assoc}
use Rattle.std.specs.Prelude.{codes}
use Rattle.std.specs.List.{AllZip}
use Rattle.std.proofs.lemmas.List.{append-nil}
use Rattle.drv.specs.Written.{Written, string}
use Rattle.drv.specs.Derivation.{Input, Variable, Derivation, commas, tuple, list, output, input, variable, derivation}
use Rattle.drv.specs.Derivation.{IsOutput, HasOutputs}
use Rattle.drv.specs.Reading.{◌>>=◌, after, ◌>=>◌, further, string_end, list_at, list_end, variable_end, input_end}
use Rattle.drv.specs.Reading.{output_at, after_derive, inputs_end, process_end, if_ended, listed}
use Rattle.drv.proofs.Steps.{bind_some, Skips, Skips-then, Skips-byte, Skips-further}
use Rattle.drv.proofs.Lists.{Reads-list, Skips-list}
use Rattle.drv.proofs.Strings.{string_skips}
use Rattle.drv.proofs.Parts.{strings_skip, variable_item, input_item}
use Rattle.drv.proofs.OneOutput.{outputs_read, outputs_open}

-- ---- the prefix

abbrev PrefixParts : Type 0
PrefixParts = (((((Unit {0} × Unit {0}) × Unit {0}) × Unit {0}) × Unit {0}) × Unit {0}) × Unit {0}

prefix_skips : Skips after_derive (λ (z : PrefixParts). codes "Derive(")
unfolding after_derive
prefix_skips =
    Skips-then (after 68 >=> after 101 >=> after 114 >=> after 105 >=> after 118 >=> after 101) (after 40) _ _
    (Skips-then (after 68 >=> after 101 >=> after 114 >=> after 105 >=> after 118) (after 101) _ _
    (Skips-then (after 68 >=> after 101 >=> after 114 >=> after 105) (after 118) _ _
    (Skips-then (after 68 >=> after 101 >=> after 114) (after 105) _ _
    (Skips-then (after 68 >=> after 101) (after 114) _ _
    (Skips-then (after 68) (after 101) _ _ (Skips-byte 68) (Skips-byte 101))
    (Skips-byte 114))
    (Skips-byte 105))
    (Skips-byte 118))
    (Skips-byte 101))
    (Skips-byte 40)

-- ---- after the outputs

abbrev Strings : Type 0
Strings = List (List Written)

abbrev strings_spelled : Strings → List ℕ
strings_spelled xs = list (map string xs)

abbrev inputs_spelled : List Input × Strings → List ℕ
inputs_spelled z = (44 ∷ list (map input z.0)) ++ 44 ∷ strings_spelled z.1

inputs_skip : Skips inputs_end inputs_spelled
unfolding inputs_end
inputs_skip =
    Skips-then (further (list_end input_end)) (further (list_end string_end)) _ _
    (Skips-further (list_end input_end) _ (Skips-list input_end input input_item.skips input_item.opens))
    (Skips-further (list_end string_end) _ strings_skip)

abbrev ProcessParts : Type 0
ProcessParts = (((List Written × List Written) × Strings) × List Variable) × Unit {0}

abbrev process_spelled : ProcessParts → List ℕ
process_spelled z =
    (((44 ∷ string z.0.0.0.0) ++ 44 ∷ string z.0.0.0.1) ++ 44 ∷ strings_spelled z.0.0.1
    ++ 44 ∷ list (map variable z.0.1)) ++ 41 ∷ []

process_skips : Skips process_end process_spelled
unfolding process_end
process_skips =
    Skips-then (further string_end >=> further string_end >=> further (list_end string_end) >=> further
    (list_end variable_end)) (after 41) _ _
    (Skips-then (further string_end >=> further string_end >=> further (list_end string_end))
    (further (list_end variable_end)) _ _
    (Skips-then (further string_end >=> further string_end) (further (list_end string_end)) _ _
    (Skips-then (further string_end) (further string_end) _ _ (Skips-further string_end string string_skips)
    (Skips-further string_end string string_skips))
    (Skips-further (list_end string_end) _ strings_skip))
    (Skips-further (list_end variable_end) _
    (Skips-list variable_end variable variable_item.skips variable_item.opens)))
    (Skips-byte 41)

-- ---- the whole text

parted : (l i s p b a e z : List ℕ)
    → l ++ (i ++ (s ++ (p ++ (b ++ (a ++ (e ++ [])))))) ++ z ≡ l ++ ((i ++ s) ++ (((p ++ b ++ a ++ e) ++ z) ++ []))
parted l i s p b a e z = simp (append_assoc, append-nil) refl

regroup : (l i s p b a e : List ℕ)
    → l ++ 44 ∷ (i ++ 44 ∷ (s ++ 44 ∷ (p ++ 44 ∷ (b ++ 44 ∷ (a ++ 44 ∷ (e ++ [])))))) ++ 41 ∷ []
    ≡ l ++ (((44 ∷ i) ++ 44 ∷ s) ++ (((((44 ∷ p) ++ 44 ∷ b) ++ 44 ∷ a ++ 44 ∷ e) ++ 41 ∷ []) ++ []))
regroup l i s p b a e = parted l (44 ∷ i) (44 ∷ s) (44 ∷ p) (44 ∷ b) (44 ∷ a) (44 ∷ e) (41 ∷ [])

whole_is : (d : Derivation) → derivation d
    ≡ codes "Derive(" ++ (list (map output d.outputs)
    ++ (inputs_spelled (d.inputs, d.sources)
    ++ (process_spelled ((((d.platform, d.builder), d.arguments), d.environment), tt) ++ [])))
unfolding derivation tuple commas
whole_is d =
    ap (λ (t : List ℕ). codes "Derive(" ++ t)
    (regroup (list (map output d.outputs)) (list (map input d.inputs)) (strings_spelled d.sources) (string d.platform)
    (string d.builder) (strings_spelled d.arguments) (list (map variable d.environment)))

abbrev Listed : Type 0
Listed = List (List ℕ × Option (List ℕ))

pub listed_again : (dir text : List ℕ) (all : Listed) → HasOutputs dir text all → listed dir text ≡ Some all
unfolding listed
listed_again dir text all h =
    let d = h.of in
    let process = process_spelled ((((d.platform, d.builder), d.arguments), d.environment), tt) in
    let inputs = inputs_spelled (d.inputs, d.sources) in
    let behind : Listed → Option (List ℕ) → Option Listed =
    λ xs o. o >>= λ t. process_end t >>= λ rest. if_ended xs rest in
    let outputs : Option (List ℕ) → Option Listed =
    λ o. o >>= λ t. list_at (output_at dir) t >>= λ xs. behind xs.0 (inputs_end xs.1) in
    let lists = Reads-list (output_at dir) output (IsOutput dir) (outputs_read dir) outputs_open in
    ap (λ (t : List ℕ). outputs (after_derive t)) (h.written ∙ whole_is d)
    ∙ ap outputs (prefix_skips.again ((((((tt, tt), tt), tt), tt), tt), tt)
    (list (map output d.outputs) ++ (inputs ++ (process ++ []))))
    ∙ ap (λ (o : Option (Listed × List ℕ)). o >>= λ xs. behind xs.0 (inputs_end xs.1))
    (lists.again d.outputs all (inputs ++ (process ++ [])) h.outputs_are)
    ∙ ap (behind all) (inputs_skip.again (d.inputs, d.sources) (process ++ []))
    ∙ ap (λ (o : Option (List ℕ)). o >>= λ rest. if_ended all rest)
    (process_skips.again ((((d.platform, d.builder), d.arguments), d.environment), tt) [])

ended : (xs all : Listed) (rest : List ℕ) → if_ended xs rest ≡ Some all → (rest ≡ []) × (xs ≡ all)
ended xs all [] e = (refl, Rattle.std.proofs.lemmas.Option.same_Some xs all e)
ended xs all (b ∷ rest) e = absurd cc

pub listed_takes : (dir text : List ℕ) (all : Listed) → listed dir text ≡ Some all → HasOutputs dir text all
unfolding listed
listed_takes dir text all e =
    let behind : Listed → List ℕ → Option Listed =
    λ xs t. inputs_end t >>= λ t. process_end t >>= λ rest. if_ended xs rest in
    let lists = Reads-list (output_at dir) output (IsOutput dir) (outputs_read dir) outputs_open in
    let a = bind_some (after_derive text) (λ t. list_at (output_at dir) t >>= λ xs. behind xs.0 xs.1) all e in
    let b = bind_some (list_at (output_at dir) a.0) (λ xs. behind xs.0 xs.1) all a.2 in
    let c = bind_some (inputs_end b.0.1) (λ t. process_end t >>= λ rest. if_ended b.0.0 rest) all b.2 in
    let g = bind_some (process_end c.0) (λ rest. if_ended b.0.0 rest) all c.2 in
    let end = ended b.0.0 all g.0 g.2 in
    let front = prefix_skips.takes text a.0 a.1 in
    let xs = lists.takes a.0 b.0.0 b.0.1 b.1 in
    let inputs = inputs_skip.takes b.0.1 c.0 c.1 in
    let process = process_skips.takes c.0 g.0 g.1 in
    let d : Derivation =
    record {
      outputs = xs.0;
      inputs = inputs.0.0;
      sources = inputs.0.1;
      platform = process.0.0.0.0.0;
      builder = process.0.0.0.0.1;
      arguments = process.0.0.0.1;
      environment = process.0.0.1;
    } in
    let tail : c.0 ≡ process_spelled process.0 ++ [] =
    process.1 ∙ ap (λ (r : List ℕ). process_spelled process.0 ++ r) end.0 in
    let mid : b.0.1 ≡ inputs_spelled inputs.0 ++ (process_spelled process.0 ++ []) =
    inputs.1 ∙ ap (λ (r : List ℕ). inputs_spelled inputs.0 ++ r) tail in
    let whole : text ≡ codes "Derive("
    ++ (list (map output xs.0) ++ (inputs_spelled inputs.0 ++ (process_spelled process.0 ++ []))) =
    front.1 ∙ ap (λ (r : List ℕ). codes "Derive(" ++ r) (xs.2 ∙ ap (λ (r : List ℕ). list (map output xs.0) ++ r) mid) in
    record {
      of = d;
      written = whole ∙ sym (whole_is d);
      outputs_are = subst (λ ys. AllZip (IsOutput dir) xs.0 ys) end.1 xs.1;
    }
