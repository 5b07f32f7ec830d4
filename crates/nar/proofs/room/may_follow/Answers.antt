use Rattle.std.proofs.Common.{◌≡◌, true, false, refl, sym, ◌∙◌, arith}
use Rattle.std.specs.Option.{option_copied}
use Rattle.nar.specs.Tree.{is_name, rises}
use Rattle.nar.specs.Room.{are_bytes}
use Rattle.nar.proofs.Fits.{bytes_tested}
use Rattle.nar.proofs.room.may_follow.Goals as goal

pub returns-then-not-is_name : goal.returns-then-not-is_name
returns-then-not-is_name c =
    let bytes : are_bytes c.args.name.now ≡ true =
    bytes_tested c.args.name.now (λ i. omega (arith, c.type_inv.name i)) in
    let no : is_name c.args.name.now ≡ false = sym c.is_name.ensures ∙ c.if-not-is_name.true in
    rw (bytes, no) refl

pub returns-then-not-is_above : goal.returns-then-not-is_above
returns-then-not-is_above c =
    let bytes : are_bytes c.args.name.now ≡ true =
    bytes_tested c.args.name.now (λ i. omega (arith, c.type_inv.name i)) in
    let yes : is_name c.args.name.now ≡ true = sym c.is_name.ensures ∙ c.if-not-is_name.false in
    let no : rises (option_copied c.args.last) c.args.name.now ≡ false =
    sym c.is_above.ensures ∙ c.if-not-is_above.true in
    rw (bytes, yes, no) refl

pub returns : goal.returns
returns c =
    let bytes : are_bytes c.args.name.now ≡ true =
    bytes_tested c.args.name.now (λ i. omega (arith, c.type_inv.name i)) in
    let yes : is_name c.args.name.now ≡ true = sym c.is_name.ensures ∙ c.if-not-is_name.false in
    let above : rises (option_copied c.args.last) c.args.name.now ≡ true =
    sym c.is_above.ensures ∙ c.if-not-is_above.false in
    rw (bytes, yes, above) refl
