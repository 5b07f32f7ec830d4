use Rattle.std.proofs.Common.{◌≡◌, ◌+◌, ◌<◌, ◌≤◌, ℕ, List, refl, sym, ◌∙◌, [], arith, true, false, subst, ltb, codes}
use Rattle.std.specs.Str.{bytes_eq}
use Rattle.std.proofs.lemmas.Bool.{not-true, not-false, lt-ltb}
use Rattle.nar.specs.declared.error.NarError.TheVariants.{BadTag, TooDeep}
use Rattle.nar.specs.Archive.{node}
use Rattle.nar.specs.Steps.{node_word}
use Rattle.nar.specs.Reader.{ReadsString}
use Rattle.nar.proofs.Grammar.{same_bytes}
use Rattle.nar.proofs.Taking.{string_err, tag_err, read_part, passed_on}
use Rattle.nar.proofs.reader.node_word_of.Goals as goal

pub returns-in_err-word-clause-err : goal.returns-in_err-word-clause-err
returns-in_err-word-clause-err c =
    passed_on _ _ _ c.from_residual.ensures.1
    (string_err (node_word (c.args.depth + 1)) [] _ _ _ c.in_err-word.ensures.err)

pub returns-then-ne-clause-err : goal.returns-then-ne-clause-err
returns-then-ne-clause-err c =
    let no : bytes_eq c.in_ok-word.word.now (codes "node") ≡ false = not-true _ (sym c.ne.ensures ∙ c.if-ne.true) in
    tag_err (node_word (c.args.depth + 1)) [] BadTag c.in_ok-word.ensures.ok (rw no refl)

pub returns-then-depth-ge256-clause-err : goal.returns-then-depth-ge256-clause-err
returns-then-depth-ge256-clause-err c =
    let yes : bytes_eq c.in_ok-word.word.now (codes "node") ≡ true = not-false _ (sym c.ne.ensures ∙ c.if-ne.false) in
    let deep : ltb 256 (c.args.depth + 1) ≡ true = lt-ltb 256 (c.args.depth + 1) (omega arith) in
    tag_err (node_word (c.args.depth + 1)) [] TooDeep c.in_ok-word.ensures.ok (rw (yes, deep) refl)

pub returns-clause-ok : goal.returns-clause-ok
returns-clause-ok c =
    let is = same_bytes c.in_ok-word.word.now (codes "node") (not-false _ (sym c.ne.ensures ∙ c.if-ne.false)) in
    let under : c.args.depth < 256 = omega arith in
    let within : c.args.depth + 1 ≤ 256 = omega arith in (
      under,
      read_part (node (c.args.depth + 1)) within
          (subst (λ (s : List ℕ). ReadsString c.args.at.room c.args.at.rest.now s c.in_ok-word.after.room
          c.in_ok-word.after.rest.now) is c.in_ok-word.ensures.ok),
    )
