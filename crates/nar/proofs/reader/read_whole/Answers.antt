use Rattle.std.proofs.Common.{◌∷◌, refl, sym, ◌∙◌, ap, [], arith, codes, length}
use Rattle.std.proofs.lemmas.Bool.{eqb-true, eqb-false}
use Rattle.std.proofs.lemmas.List.{nil_from_length}
use Rattle.nar.specs.Steps.{word, kind, start}
use Rattle.nar.proofs.Taking.{fault_then, fault_more, matched}
use Rattle.nar.proofs.Whole.{top_fault, top_reads, is_archive, trails_after}
use Rattle.nar.proofs.reader.read_whole.Goals as goal

pub returns-in_err-after : goal.returns-in_err-after
returns-in_err-after c = matched _ _ _ _ c.from_residual.ensures.1
    (top_fault c.args.input.now _ (λ i. omega (arith, c.type_inv.input i))
    (fault_more (word (codes "nix-archive-1")) (word (codes "(") ∷ word (codes "type") ∷ kind 1 ∷ []) _ _ _
    c.in_err-after.ensures.err))

pub returns-in_err-node : goal.returns-in_err-node
returns-in_err-node c = matched _ _ _ _ c.from_residual-in_err-node.ensures.1
    (top_fault c.args.input.now _ (λ i. omega (arith, c.type_inv.input i))
    (fault_then start (word (codes "(") ∷ word (codes "type") ∷ kind 1 ∷ []) _ _ (omega arith) c.in_ok-after.ensures.ok
    (λ κ. refl) c.in_err-node.ensures.err))

pub returns-then-not-is_empty : goal.returns-then-not-is_empty
returns-then-not-is_empty c =
    let some = eqb-false (length c.in_ok-node.end.rest.now) 0 (sym c.is_empty.ensures ∙ c.if-not-is_empty.true) in
    λ _. trails_after (λ i. omega (arith, c.type_inv.input i)) c.in_ok-node.ensures.ok
    (top_reads c.in_ok-after.ensures.ok c.in_ok-node.ensures.ok) (λ none. some (ap length none))

pub returns : goal.returns
returns c =
    let none =
    nil_from_length c.in_ok-node.end.rest.now (eqb-true _ 0 (sym c.is_empty.ensures ∙ c.if-not-is_empty.false)) in
    is_archive c.in_ok-node.ensures.ok (top_reads c.in_ok-after.ensures.ok c.in_ok-node.ensures.ok) none
