use Rattle.std.proofs.Common.{List, ℕ, inl, inr, subst}
use Rattle.std.specs.Prelude.{IfOk, IfErr}
use Rattle.sqlite_wal.specs.Files.{image_at}
use Rattle.tables.specs.Opened.{IsUnopened, Opens}
use Rattle.tool.proofs.Openings.{does_file, refuses_file}
use Rattle.tool.proofs.stores.in_file.Goals as goal

pub returns : goal.returns
returns g c = record {
  given = record {
    answer = λ d is. (
      does_file g.F.Start _ c.args.config d _ c.open-opened.result
          (subst (λ (dir : List ℕ). IfOk c.open-opened.result (λ t. Opens (image_at g.F.Start) dir t))
          c.store_dir.ensures c.open-opened.ensures.opens)
          (subst (λ (dir : List ℕ). IfErr c.open-opened.result (λ e. IsUnopened (image_at g.F.Start) dir e))
          c.store_dir.ensures c.open-opened.ensures.cause)
          (c.over_files.ensures.given.answer d is),
      λ none.
          refuses_file g.F.Start _ c.args.config d _ c.open-opened.result
          (elim none [ inl memory ↦ c.open-opened.ensures.memory memory | inr uri ↦ c.open-opened.ensures.uri uri ])
          (c.over_files.ensures.given.answer d is),
    );
    reads = c.over_files.ensures.given.reads;
  };
  same = c.over_files.ensures.same;
}
