use Rattle.std.specs.Prelude.{◌≡◌, true, drop, map}
use Rattle.std.specs.List.{list_all}
use Rattle.std.specs.Option.{ForSome, option_copied}
use Rattle.tables_rows.specs.Entries.{numbered_in}
use Rattle.tables_load_objects.specs.Known.{is_known, is_known_piece}
use Rattle.tables_load_objects.proofs.members.are_owned.Given as goal

-- what is left decides, and the last base is known
abbrev pub invariant-rows : goal.invariant-rows
invariant-rows l = record {
  decides : list_all (is_known_piece l.paths) (map numbered_in (drop l.row-index l.rows))
      ≡ list_all (is_known_piece l.paths) (map numbered_in l.rows);
  last : ForSome (option_copied l.last) (λ base. is_known l.paths base ≡ true);
}
