use Rattle.std.proofs.Common.{arith, sym, ap, ◌∙◌, subst}
use Rattle.std.specs.Prelude.{nat_le}
use Rattle.std.proofs.lemmas.Bool.{le-leb, leb-true, false≢true, false_from_ne_true}
use Rattle.model.specs.declared.refusal.Refusal.TheVariants.{TooLarge}
use Rattle.nar.specs.Tree.{IsBytes}
use Rattle.nar.specs.Archive.{IsWritable, limit}
use Rattle.model.specs.Adds.{text_archive_size}
use Rattle.model.specs.Tests.{unless}
use Rattle.store_adds.proofs.TextArchives.{writable, small_enough}
use Rattle.store_adds.proofs.archives.has_archive.Goals as goal

pub returns-then-not-is_writable-clause-reported : goal.returns-then-not-is_writable-clause-reported
returns-then-not-is_writable-clause-reported c =
    let contents = c.args.contents.now in
    let bytes : IsBytes contents = λ i. omega (arith, c.type_inv.contents i) in
    ap (λ b. unless b TooLarge) (false_from_ne_true (nat_le (text_archive_size contents) limit) (λ h.
    false≢true (sym c.if-not-is_writable.true
    ∙ c.is_writable.ensures.1 (subst IsWritable (sym c.plain-file.ensures)
    (writable contents bytes (leb-true _ _ h))))))

pub returns-clause-reported : goal.returns-clause-reported
returns-clause-reported c =
    let contents = c.args.contents.now in
    ap (λ b. unless b TooLarge) (le-leb _ _
    (small_enough contents (subst IsWritable c.plain-file.ensures
    (c.is_writable.ensures.0 c.if-not-is_writable.false))))

pub returns-clause-fits : goal.returns-clause-fits
returns-clause-fits c =
    small_enough c.args.contents.now
    (subst IsWritable c.plain-file.ensures (c.is_writable.ensures.0 c.if-not-is_writable.false))
