-- The details of a summary, as its contracts see them.
use Rattle.std.proofs.Common.{◌≡◌, sym}
use Rattle.std.specs.FinMap as finite
use Rattle.tables_outline.specs.Details.{details_of}
use Rattle.tables_outline.specs.Summary.{summary_view, IsOrdered}
use Rattle.tables_outline.specs.declared.summary.Summary.TheInside.{Inside}
use Rattle.tables_outline.proofs.Ordered.{names_listed, paths_listed}

module _ (s : Inside) (ordered : IsOrdered s) where
  -- names are the keys of the outputs
  pub names_are : (details_of s.details).names ≡ finite.keys (summary_view s).outputs
  names_are = sym (names_listed (details_of s.details).names (details_of s.details).outputs ordered.names ordered.paths)

  -- paths are the values of the outputs
  pub paths_are : (details_of s.details).outputs ≡ finite.values (summary_view s).outputs
  paths_are = sym (paths_listed (details_of s.details).names (details_of s.details).outputs ordered.names ordered.paths)
