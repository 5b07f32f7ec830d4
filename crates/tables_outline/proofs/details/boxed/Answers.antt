use Rattle.std.proofs.Common.{◌≡◌, ℕ, List, [], map, Bool, true, not, eqb, length, Option, Some, None, is_some, refl}
use Rattle.std.proofs.Common.{sym, ap, ◌∙◌, string_bytes}
use Rattle.std.proofs.lemmas.Bool.{eqb-true, false≢true}
use Rattle.std.proofs.lemmas.List.{nil_from_length}
use Rattle.tables_outline.proofs.details.boxed.Goals as goal

-- an option that is tested to be none
none_is : {X : Type 0} (o : Option X) (b : Bool) → is_some o ≡ not b → b ≡ true → None ≡ o
none_is None b tested holds = refl
none_is (Some x) b tested holds = absurd (false≢true (sym (tested ∙ ap not holds)))

-- a list that is tested to be empty, by its length
nothing_is : {X : Type 0} (xs : List X) (n : ℕ) (b : Bool) → b ≡ eqb n 0 → b ≡ true → n ≡ length xs → [] ≡ xs
nothing_is xs n b tested holds len = sym (nil_from_length xs (sym len ∙ eqb-true n 0 (sym tested ∙ holds)))

pub returns-then-is_empty-2 : goal.returns-then-is_empty-2
returns-then-is_empty-2 c =
    let d = c.args.details in
    λ i. record {
      deriver = none_is d.deriver c.is_none.result c.is_none.ensures c.if-is_none.true i;
      ca = none_is d.ca c.is_none-then-is_none.result c.is_none-then-is_none.ensures c.if-is_none-2.true i;
      names =
          map string_bytes (nothing_is d.outputs.names.items d.outputs.names.len c.is_empty.result c.is_empty.ensures
          c.if-is_empty.true d.outputs.names.ok.0 i);
      outputs =
          nothing_is d.outputs.paths.items d.outputs.paths.len c.is_empty-then-is_empty.result
          c.is_empty-then-is_empty.ensures c.if-is_empty-2.true d.outputs.paths.ok.0 i;
    }
