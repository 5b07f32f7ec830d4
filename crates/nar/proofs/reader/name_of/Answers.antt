use Rattle.std.proofs.Common.{◌≡◌, refl, sym, ◌∙◌, [], false, true}
use Rattle.std.specs.Option.{option_copied}
use Rattle.nar.specs.declared.error.NarError.TheVariants.{BadName, NotSorted}
use Rattle.nar.specs.Tree.{is_name, rises}
use Rattle.nar.specs.Archive.{name}
use Rattle.nar.specs.Steps.{entry_name}
use Rattle.nar.proofs.Taking.{string_err, tag_err, read_part, passed_on}
use Rattle.nar.proofs.reader.name_of.Goals as goal

pub returns-in_err-name-clause-err : goal.returns-in_err-name-clause-err
returns-in_err-name-clause-err c =
    passed_on _ _ _ c.from_residual.ensures.1
    (λ depth. string_err (entry_name depth (option_copied c.args.last)) [] _ _ _ c.in_err-name.ensures.err)

pub returns-then-not-is_name-clause-err : goal.returns-then-not-is_name-clause-err
returns-then-not-is_name-clause-err c = λ depth.
    let no : is_name c.in_ok-name.name.now ≡ false = sym c.is_name.ensures ∙ c.if-not-is_name.true in
    tag_err (entry_name depth (option_copied c.args.last)) [] BadName c.in_ok-name.ensures.ok (rw no refl)

pub returns-then-not-is_above-clause-err : goal.returns-then-not-is_above-clause-err
returns-then-not-is_above-clause-err c = λ depth.
    let yes : is_name c.in_ok-name.name.now ≡ true = sym c.is_name.ensures ∙ c.if-not-is_name.false in
    let no : rises (option_copied c.args.last) c.in_ok-name.name.now ≡ false =
    sym c.is_above.ensures ∙ c.if-not-is_above.true in
    tag_err (entry_name depth (option_copied c.args.last)) [] NotSorted c.in_ok-name.ensures.ok (rw (yes, no) refl)

pub returns-clause-ok : goal.returns-clause-ok
returns-clause-ok c = record {
  legal = sym c.is_name.ensures ∙ c.if-not-is_name.false;
  above = sym c.is_above.ensures ∙ c.if-not-is_above.false;
  parts = read_part (name c.in_ok-name.name.now) tt c.in_ok-name.ensures.ok;
}
