-- Keys from one to another.
use Rattle.std.specs.Prelude.{Bool, ◌&&◌}
use Rattle.std.specs.Ordering.{is_ge, is_le}
use Rattle.tables_sql.specs.Contents.{Bytes, texts_cmp}

-- a text is the first of the range, the last of it, or between them
abbrev pub is_between : Bytes → Bytes → Bytes → Bool
is_between first last k = is_ge (texts_cmp k first) && is_le (texts_cmp k last)
