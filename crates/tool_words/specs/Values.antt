-- The values of arguments, by the matches that `clap` finds.
use Rattle.std.specs.Prelude.{ℕ, ◌&&◌, ◌^◌, Bool, false, if◌then◌else◌, nat_lt, List, [], codes, Option, Some, None}
use Rattle.std.specs.Prelude.{option_and_then, unwrap_or}
use Rattle.std.specs.Option.{option_map_or}
use Rattle.std.specs.Str.{bytes_eq}
use Rattle.std.specs.Str.Parse.{digits_value, without_leading_plus}
use Rattle.clap.specs.Matches.{found_of}
use Rattle.clap.specs.Walk.{Row, Text, rows_of, first_of, all_of, one_of}
use Rattle.paths.specs.Decimal.{is_digits}
use Rattle.clap.specs.declared.parser.matches.ArgMatches.{ArgMatches}

-- the matches of a command's own arguments
abbrev pub rows : ArgMatches → List Row
rows m = rows_of (found_of m)

-- the value of a required argument: `clap` finds a fault where it is missing
abbrev pub required : Text → List Row → Text
required id rs = unwrap_or (first_of id rs) []

-- all values of an argument
abbrev pub all_values : Text → List Row → List Text
all_values id rs = unwrap_or (all_of id rs) []

-- whether a flag is given
abbrev pub is_given : Text → List Row → Bool
is_given id rs = option_map_or (λ t. bytes_eq t (codes "true")) (first_of id rs) false

-- the number below `2 ^ k` that a text writes in decimal digits, after a plus or none
abbrev pub number_below : ℕ → Text → Option ℕ
number_below k text =
    let digits = without_leading_plus text in
    if is_digits digits && nat_lt (digits_value 10 digits) (2 ^ k) then Some (digits_value 10 digits) else None

-- the number of an argument whose bounds `clap` has tested
abbrev pub number : ℕ → Text → List Row → Option ℕ
number k id rs = option_and_then (number_below k) (one_of id rs)
