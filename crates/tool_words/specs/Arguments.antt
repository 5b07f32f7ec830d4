-- The arguments of the command line as `clap` gets them.
use Rattle.std.specs.Prelude.{◌≡◌, ℕ, pos, codes, Some, true, false}
use Rattle.clap.specs.Lexer.{usize_max}
use Rattle.clap.specs.Walk.{Rule, Text, rule_of}
use Rattle.clap.specs.Simple.{new_rule}
use Rattle.clap.specs.declared.builder.action.ArgAction.TheVariants.{SetTrue}
use Rattle.clap.specs.declared.builder.arg.Arg.{Arg}
use Rattle.clap.specs.declared.builder.value_parser.ValueParser.TheVariants.{Signed}

-- an option of one value, by its long name
abbrev pub option_named : Text → Rule
option_named name = record (new_rule name) { long = Some name; value_names = 1 }

-- an option of one number of 1 to `most`
abbrev pub number_option : Text → ℕ → Rule
number_option name most = record (option_named name) { parser = Some (Signed (pos 1) (pos most)) }

-- a flag, by its long name
abbrev pub flag_named : Text → Rule
flag_named name = record (new_rule name) { long = Some name; action = Some SetTrue }

-- a value that is required
abbrev pub required_argument : Text → Rule
required_argument id = record (new_rule id) { required = true; value_names = 1 }

-- a value that is optional
abbrev pub optional_argument : Text → Rule
optional_argument id = record (new_rule id) { value_names = 1 }

-- `[REF]..`
abbrev pub references_argument : Rule
references_argument = record (new_rule (codes "reference")) {
  value_names = 1;
  range = Some (record { start_inclusive = 0; end_inclusive = usize_max });
}

-- `PATH..`
abbrev pub paths_argument : Rule
paths_argument = record (new_rule (codes "path")) {
  required = true;
  value_names = 1;
  range = Some (record { start_inclusive = 1; end_inclusive = usize_max });
}

-- an argument as `clap` gets it by this rule, for its own command and none of the subcommands
pub record IsArgument (argument : Arg) (is : Rule) : Type 0 where
  pub rule : rule_of argument ≡ is
  pub local : argument.global ≡ false
