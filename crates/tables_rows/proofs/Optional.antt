-- A text that may be missing, as it is given, kept and read.
use Rattle.std.proofs.Common.{◌≡◌, true, Some, None, Option, option_map, refl, ap, String, Global, string_bytes}
use Rattle.std.proofs.lemmas.Str.{IsUtf8-string_bytes}
use Rattle.sqlite_value.specs.declared.value.Value.{Value}
use Rattle.sqlite_rules.specs.Cast.{as_text}
use Rattle.sqlite.specs.Values.{bound_value}
use Rattle.tables_sql.specs.Contents.{is_text_or_null, text_if_any}
use Rattle.tables_sql.specs.Texts.{IsReadable}
use Rattle.tables_rows.specs.Entries.{ShowsOptional, text_or_null}

abbrev pub given : Option (String Global) → Value
given = text_or_null

-- it is kept as it was given
pub record IsKept (v : Value) : Type 0 where
  pub cast_is : as_text v ≡ v
  pub kind : is_text_or_null v ≡ true
  pub readable : IsReadable v

pub kept_given : (o : Option (String Global)) → IsKept (given o)
kept_given None = record { cast_is = refl; kind = refl; readable = tt }
kept_given (Some t) = record { cast_is = refl; kind = refl; readable = IsUtf8-string_bytes t }

pub bound_given : (o : Option (String Global)) → bound_value (given o) ≡ given o
bound_given None = refl
bound_given (Some t) = refl

pub read_given : (o : Option (String Global)) → text_if_any (given o) ≡ option_map string_bytes o
read_given None = refl
read_given (Some t) = refl

pub option_fits : (v : Value) (o : Option (String Global)) → ShowsOptional v o
    → (is_text_or_null v ≡ true) × (text_if_any v ≡ option_map string_bytes o)
option_fits v None h = (ap is_text_or_null h, ap text_if_any h)
option_fits v (Some s) h = (ap is_text_or_null h.1, ap text_if_any h.1)
