-- Numbers in decimal digits.
use Rattle.std.specs.Prelude.{ℕ, ◌==◌, ◌&&◌, ◌||◌, ◌^◌, Bool, not, if◌then◌else◌, nat_lt, nat_le, List, length}
use Rattle.std.specs.Prelude.{slice_index, Option, Some, None, unwrap_or}
use Rattle.std.specs.List.{list_all}
use Rattle.std.specs.Char.{digit_value}
use Rattle.std.specs.Str.Parse.{digits_value}

-- one or more decimal digits, and nothing else
abbrev pub is_digits : List ℕ → Bool
is_digits text = nat_lt 0 (length text) && list_all (λ c. nat_lt (digit_value c) 10) text

-- the digits don't begin with a 0, or are that one
abbrev pub has_no_leading_zero : List ℕ → Bool
has_no_leading_zero text = nat_lt (length text) 2 || not (slice_index text 0 == 48)

-- the number below 2^64 that a text writes in decimal digits, without a leading zero
abbrev pub decimal_of : List ℕ → Option ℕ
decimal_of text =
    if is_digits text && (has_no_leading_zero text && nat_lt (digits_value 10 text) (2 ^ 64))
    then Some (digits_value 10 text)
    else None

-- the number of a text that writes one up to `most`; 0 for any other text
abbrev pub number_up_to : ℕ → List ℕ → ℕ
number_up_to most text = let n = unwrap_or (decimal_of text) 0 in if nat_le n most then n else 0

-- the greatest number of a generation
abbrev pub max_generation : ℕ
max_generation = 9999

-- the greatest number of a session
abbrev pub max_session : ℕ
max_session = 4194304

-- the number of a generation that a text writes; 0, which no profile has, for any other text
abbrev pub generation_number : List ℕ → ℕ
generation_number text = number_up_to max_generation text

-- the number of a session that a text writes; 0, which is no session's, for any other text
abbrev pub session_number : List ℕ → ℕ
session_number text = number_up_to max_session text
