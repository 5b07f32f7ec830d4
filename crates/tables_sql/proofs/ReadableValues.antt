-- The text of a value is UTF-8, by the kind of the value.
use Rattle.std.proofs.Common.{◌≡◌, true}
use Rattle.std.specs.Prelude.{IsUtf8, IfSome}
use Rattle.sqlite_value.specs.declared.value.Value.{Value}
use Rattle.sqlite_value.specs.declared.value.Value.TheVariants.{Null, Int, Real, Text, Blob}
use Rattle.sqlite_value.specs.Order.{bytes}
use Rattle.sqlite_trees.specs.View.{is_int}
use Rattle.tables_sql.specs.Contents.{is_text, is_blob, is_text_or_null, text_if_any}
use Rattle.tables_sql.specs.Texts.{IsReadable}

pub utf8_of : (v : Value) → is_text v ≡ true → IsReadable v → IsUtf8 (bytes v)
utf8_of Null h k = absurd cc
utf8_of (Int n) h k = absurd cc
utf8_of (Real x) h k = absurd cc
utf8_of (Text t) h k = k
utf8_of (Blob b) h k = absurd cc

pub readable_of : (v : Value) → is_text v ≡ true → IsUtf8 (bytes v) → IsReadable v
readable_of Null h k = tt
readable_of (Int n) h k = tt
readable_of (Real x) h k = tt
readable_of (Text t) h k = k
readable_of (Blob b) h k = tt

pub readable_int : (v : Value) → is_int v ≡ true → IsReadable v
readable_int Null h = tt
readable_int (Int n) h = tt
readable_int (Real x) h = tt
readable_int (Text t) h = absurd cc
readable_int (Blob b) h = tt

pub blob_readable : (v : Value) → is_blob v ≡ true → IsReadable v
blob_readable Null h = tt
blob_readable (Int n) h = tt
blob_readable (Real x) h = tt
blob_readable (Text t) h = absurd cc
blob_readable (Blob b) h = tt

pub utf8_if : (v : Value) → is_text_or_null v ≡ true → IsReadable v → IfSome (text_if_any v) IsUtf8
utf8_if Null h k = tt
utf8_if (Int n) h k = tt
utf8_if (Real x) h k = tt
utf8_if (Text t) h k = k
utf8_if (Blob b) h k = tt

pub readable_if : (v : Value) → IfSome (text_if_any v) IsUtf8 → IsReadable v
readable_if Null h = tt
readable_if (Int n) h = tt
readable_if (Real x) h = tt
readable_if (Text t) h = h
readable_if (Blob b) h = tt
