-- What a summary in memory means.
use Rattle.std.specs.Prelude.{◌≡◌, length, IsTrue}
use Rattle.std.specs.List.{zip}
use Rattle.std.specs.FinMap as finite
use Rattle.paths.specs.Root.{bytes_cmp, set_of}
use Rattle.tables_outline.specs.Details.{details_of}
use Rattle.tables_outline.specs.Outline.{Outlined, rise}
use Rattle.tables_outline.specs.declared.summary.Summary.TheInside.{Inside}

-- the outline of an object: its references as a set, its outputs as a map
abbrev pub summary_view : Inside → Outlined
summary_view s = record {
  size = s.size;
  hash = s.hash;
  references = set_of bytes_cmp s.references.items;
  deriver = (details_of s.details).deriver;
  ca = (details_of s.details).ca;
  outputs = finite.from_entries (zip (details_of s.details).names (details_of s.details).outputs);
}

-- references and names rise, and each name has a path
pub record IsOrdered (s : Inside) : Type 0 where
  pub references : IsTrue (rise s.references.items)
  pub names : IsTrue (rise (details_of s.details).names)
  pub paths : length (details_of s.details).outputs ≡ length (details_of s.details).names
