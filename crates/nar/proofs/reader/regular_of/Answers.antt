use Rattle.std.proofs.Common.{◌≡◌, ℕ, List, ◌∷◌, refl, sym, ◌∙◌, [], arith, true, false}
use Rattle.std.specs.Prelude.{codes}
use Rattle.nar.specs.declared.error.NarError.TheVariants.{BadTag}
use Rattle.nar.specs.Steps.{Symbol, word, any, file}
use Rattle.std.specs.Str.{bytes_eq}
use Rattle.nar.proofs.Grammar.{same_bytes}
use Rattle.nar.proofs.Trees.{tree-regular}
use Rattle.nar.proofs.Taking.{string_err, tag_err, reads_then, fault_then, fault_more, passed_on, tested}
use Rattle.nar.proofs.reader.regular_of.Goals as goal

abbrev End : List Symbol
End = word (codes ")") ∷ []

pub returns-in_err-word-clause-err : goal.returns-in_err-word-clause-err
returns-in_err-word-clause-err c =
    passed_on _ _ _ c.from_residual.ensures.1 (string_err file [] _ _ _ c.in_err-word.ensures.err)

pub returns-in_err-empty-clause-err : goal.returns-in_err-empty-clause-err
returns-in_err-empty-clause-err c =
    let r =
    tested (codes "executable") c.in_ok-word.ensures.ok
    (same_bytes _ (codes "executable") (sym c.eq.ensures ∙ c.if-eq.true)) in
    passed_on _ _ _ c.from_residual-in_err-empty.ensures.1
    (fault_then (file ∷ []) (word [] ∷ word (codes "contents") ∷ any ∷ End) _ _ (omega arith) r (λ κ. refl)
    (fault_more (word []) (word (codes "contents") ∷ any ∷ End) _ _ _ c.in_err-empty.ensures.err))

pub returns-in_err-named-clause-err : goal.returns-in_err-named-clause-err
returns-in_err-named-clause-err c =
    let r =
    tested (codes "executable") c.in_ok-word.ensures.ok
    (same_bytes _ (codes "executable") (sym c.eq.ensures ∙ c.if-eq.true)) in
    passed_on _ _ _ c.from_residual-in_err-named.ensures.1
    (fault_then (file ∷ []) (word (codes "contents") ∷ any ∷ End) _ _ (omega arith)
    (reads_then r c.in_ok-empty.ensures.ok) (λ κ. refl)
    (fault_more (word (codes "contents")) (any ∷ End) _ _ _ c.in_err-named.ensures.err))

pub returns-in_err-contents-clause-err : goal.returns-in_err-contents-clause-err
returns-in_err-contents-clause-err c =
    let r =
    tested (codes "executable") c.in_ok-word.ensures.ok
    (same_bytes _ (codes "executable") (sym c.eq.ensures ∙ c.if-eq.true)) in
    passed_on _ _ _ c.from_residual-in_err-contents.ensures.1
    (fault_then (file ∷ []) (any ∷ End) _ _ (omega arith)
    (reads_then (reads_then r c.in_ok-empty.ensures.ok) c.in_ok-named.ensures.ok) (λ κ. refl)
    c.in_err-contents.ensures.err)

pub returns-in_err-contents-2-clause-err : goal.returns-in_err-contents-2-clause-err
returns-in_err-contents-2-clause-err c =
    let r =
    tested (codes "contents") c.in_ok-word.ensures.ok
    (same_bytes _ (codes "contents") (sym c.eq-else-eq.ensures ∙ c.if-eq-2.true)) in
    passed_on _ _ _ c.from_residual-in_err-contents-2.ensures.1
    (fault_then (file ∷ []) (any ∷ End) _ _ (omega arith) r (λ κ. refl) c.in_err-contents-2.ensures.err)

pub returns-else-eq-2-clause-err : goal.returns-else-eq-2-clause-err
returns-else-eq-2-clause-err c =
    let s : List ℕ = c.in_ok-word.word.now in
    let a : bytes_eq s (codes "executable") ≡ false = sym c.eq.ensures ∙ c.if-eq.false in
    let b : bytes_eq s (codes "contents") ≡ false = sym c.eq-else-eq.ensures ∙ c.if-eq-2.false in
    tag_err file [] BadTag c.in_ok-word.ensures.ok (rw (a, b) refl)

pub returns-in_ok-contents-clause-ok : goal.returns-in_ok-contents-clause-ok
returns-in_ok-contents-clause-ok c = λ depth.
    let r =
    tested (codes "executable") c.in_ok-word.ensures.ok
    (same_bytes _ (codes "executable") (sym c.eq.ensures ∙ c.if-eq.true)) in
    let all =
    reads_then (reads_then (reads_then r c.in_ok-empty.ensures.ok) c.in_ok-named.ensures.ok)
    c.in_ok-contents.ensures.ok in
    rw (tree-regular true c.in_ok-contents.contents)
    (record { is_kind = refl; named = c.in_ok-contents.ensures.ok.are_bytes.0; parts = all })

pub returns-in_ok-contents-2-clause-ok : goal.returns-in_ok-contents-2-clause-ok
returns-in_ok-contents-2-clause-ok c = λ depth.
    let r =
    tested (codes "contents") c.in_ok-word.ensures.ok
    (same_bytes _ (codes "contents") (sym c.eq-else-eq.ensures ∙ c.if-eq-2.true)) in
    rw (tree-regular false c.in_ok-contents-2.contents)
    (record {
      is_kind = refl;
      named = c.in_ok-contents-2.ensures.ok.are_bytes.0;
      parts = reads_then r c.in_ok-contents-2.ensures.ok;
    })
