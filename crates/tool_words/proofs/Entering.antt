-- The subcommand that `clap` found, as the definition has it.
use Rattle.std.proofs.Common.{◌≡◌, List, Option, Some, None, ap₂, sym}
use Rattle.std.specs.Prelude.{option_map, Box}
use Rattle.std.specs.Box.{box_value}
use Rattle.clap.specs.Matches.{found_of}
use Rattle.clap.specs.Walk.{Row, Text, rows_of}
use Rattle.clap.specs.Simple.{subcommand_rows}
use Rattle.clap.specs.declared.parser.matches.SubCommand.{SubCommand}
use Rattle.clap.specs.declared.parser.matches.ArgMatches.TheViews.{out-SubCommand}

module _ {Z : Type 0} where
  -- its name and its matches
  pub met : (sub : Option (Box SubCommand Z)) (name : Text) (rs : List Row)
      → Some name ≡ option_map (λ b. (out-SubCommand (box_value b)).name.now) sub
      → Some rs ≡ option_map (λ p. p.1) (subcommand_rows sub) → subcommand_rows sub ≡ Some (name, rs)
  met None name rs named found = let bad : Some name ≡ None = named in cc
  met (Some b) name rs named found =
      let x : Text = (out-SubCommand (box_value b)).name.now in
      let y : List Row = rows_of (found_of (out-SubCommand (box_value b)).matches) in
      let first : Some name ≡ Some x = named in
      let second : Some rs ≡ Some y = found in
      let name_is : name ≡ x = cc in
      let rows_are : rs ≡ y = cc in
      ap₂ (λ a b. Some (a, b)) (sym name_is) (sym rows_are)
