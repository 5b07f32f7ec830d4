use Rattle.std.proofs.Common.{◌≡◌, true, false, ◌&&◌, ◌+◌, map, drop, string_bytes, sym, ap, subst, ◌∙◌}
use Rattle.std.specs.List.{list_all}
use Rattle.std.proofs.lemmas.Option.{same_Some}
use Rattle.tables_rows.specs.Entries.{reference_of}
use Rattle.tables_load_objects.specs.Known.{is_known, is_known_reference}
use Rattle.tables_load_objects.proofs.Each.{left_at}
use Rattle.tables_load_objects.proofs.Known.{and_no}
use Rattle.tables_load_objects.proofs.Truths.{and_so}
use Rattle.tables_load_objects.proofs.members.are_references.Goals as goal

pub returns-then-not-is_next_known : goal.returns-then-not-is_next_known
returns-then-not-is_next_known c =
    let paths = c.args.paths.now in
    let row = c.row-item.result in
    let rest = drop (c.rows.row-index + 1) c.args.rows.now in
    let split = left_at c.args.rows.now c.rows.row-index row c.rows-test.true c.row-item.is in
    let base : is_known paths (string_bytes row.base) ≡ false =
    ap (is_known paths) (sym c.as_str-base.ensures.value) ∙ sym c.is_next_known.ensures
    ∙ c.if-not-is_next_known.true in
    let one : is_known_reference paths (reference_of row) ≡ false =
    ap (λ b. b && is_known paths (string_bytes row.target)) base in
    sym (ap (λ b. b && list_all (is_known_reference paths) (map reference_of rest)) one)
    ∙ sym (ap (λ rows. list_all (is_known_reference paths) (map reference_of rows)) split)
    ∙ c.rows.invariant.decides

pub returns-then-not-is_known : goal.returns-then-not-is_known
returns-then-not-is_known c =
    let paths = c.args.paths.now in
    let row = c.row-item.result in
    let rest = drop (c.rows.row-index + 1) c.args.rows.now in
    let split = left_at c.args.rows.now c.rows.row-index row c.rows-test.true c.row-item.is in
    let target : is_known paths (string_bytes row.target) ≡ false =
    ap (is_known paths) (sym c.as_str.ensures.value) ∙ sym c.is_known.ensures ∙ c.if-not-is_known.true in
    let one : is_known_reference paths (reference_of row) ≡ false =
    and_no (is_known paths (string_bytes row.base)) (is_known paths (string_bytes row.target)) target in
    sym (ap (λ b. b && list_all (is_known_reference paths) (map reference_of rest)) one)
    ∙ sym (ap (λ rows. list_all (is_known_reference paths) (map reference_of rows)) split)
    ∙ c.rows.invariant.decides

pub rows-preserved : goal.rows-preserved
rows-preserved c =
    let paths = c.args.paths.now in
    let row = c.row-item.result in
    let rest = drop (c.rows.row-index + 1) c.args.rows.now in
    let split = left_at c.args.rows.now c.rows.row-index row c.rows-test.true c.row-item.is in
    let base : is_known paths (string_bytes row.base) ≡ true =
    ap (is_known paths) (sym c.as_str-base.ensures.value) ∙ sym c.is_next_known.ensures
    ∙ c.if-not-is_next_known.false in
    let target : is_known paths (string_bytes row.target) ≡ true =
    ap (is_known paths) (sym c.as_str.ensures.value) ∙ sym c.is_known.ensures ∙ c.if-not-is_known.false in
    let one : is_known_reference paths (reference_of row) ≡ true =
    and_so (is_known paths (string_bytes row.base)) (is_known paths (string_bytes row.target)) base target in
    record {
      decides =
          sym (ap (λ b. b && list_all (is_known_reference paths) (map reference_of rest)) one)
          ∙ sym (ap (λ rows. list_all (is_known_reference paths) (map reference_of rows)) split)
          ∙ c.rows.invariant.decides;
      last =
          λ at is. subst (λ p. is_known paths p ≡ true)
          (sym c.as_str-base.ensures.value ∙ same_Some c.as_str-base.result.now at is) base;
    }
