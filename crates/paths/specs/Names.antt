-- Plain names, store names and store directories.
use Rattle.std.specs.Prelude.{ℕ, ◌==◌, ◌&&◌, ◌||◌, nat_eq, nat_le, Bool, not, List, length, drop, slice_index, codes}
use Rattle.std.specs.List.{list_all, slice_split}
use Rattle.std.specs.List as lists
use Rattle.std.specs.Str.{bytes_eq}

-- an ASCII letter or digit
abbrev pub is_letter_or_digit : ℕ → Bool
is_letter_or_digit b = (nat_le 48 b && nat_le b 57) || (nat_le 65 b && nat_le b 90) || (nat_le 97 b && nat_le b 122)

-- a byte of a plain name: a letter, a digit, `_`, `.` or `-`
abbrev pub is_plain_byte : ℕ → Bool
is_plain_byte b = is_letter_or_digit b || (b == 95) || (b == 46) || (b == 45)

-- a plain name: 1 to 64 such bytes, the first not `-`
abbrev pub is_plain_name : List ℕ → Bool
is_plain_name text =
    nat_le 1 (length text) && nat_le (length text) 64 && not (slice_index text 0 == 45) && list_all is_plain_byte text

-- a byte of a store name: a letter, a digit, or one of `+ - . _ ? =`
abbrev pub is_store_byte : ℕ → Bool
is_store_byte b = is_letter_or_digit b || (b == 43) || (b == 45) || (b == 46) || (b == 95) || (b == 63) || (b == 61)

-- `.` or `..`
abbrev pub is_dots : List ℕ → Bool
is_dots text = bytes_eq text (codes ".") || bytes_eq text (codes "..")

-- the text begins with these bytes
abbrev pub begins : List ℕ → List ℕ → Bool
begins text prefix = lists.starts_with nat_eq text prefix

-- a store name: 1 to 211 such bytes, neither `.` nor `..`, and begun by neither `.-` nor `..-`
abbrev pub is_store_name : List ℕ → Bool
is_store_name text =
    nat_le 1 (length text) && nat_le (length text) 211 && list_all is_store_byte text
    && not (is_dots text) && not (begins text (codes ".-")) && not (begins text (codes "..-"))

-- a component of a store directory: one or more of the bytes of a store name, neither `.` nor `..`
abbrev pub is_component : List ℕ → Bool
is_component text = nat_le 1 (length text) && list_all is_store_byte text && not (is_dots text)

-- a store directory: at most 200 bytes, one or more times `/` and a component
abbrev pub is_store_dir : List ℕ → Bool
is_store_dir text =
    nat_le (length text) 200 && (slice_index text 0 == 47)
    && list_all is_component (slice_split (λ b. b == 47) (drop 1 text))
