use Rattle.std.proofs.Common.{[], ◌∷◌, List, String, Global, sym, ap, ◌∙◌}
use Rattle.std.specs.Prelude.{map, string_bytes}
use Rattle.std.specs.List.{list_all}
use Rattle.paths.specs.Root.{is_runtime_label}
use Rattle.model.specs.World.{Path}
use Rattle.tables_outline.specs.Maps.{labelled_bytes}
use Rattle.model.specs.declared.refusal.Refusal.TheVariants.{BadLabel}
use Rattle.model.specs.Tests.{first_failing, unless}
use Rattle.store_roots.proofs.RuntimePairs.{labels_mapped, valid_by_outline}
use Rattle.store_roots.proofs.runtime.prepare_runtime.Goals as goal

pub returns-then-not-are_runtime_labels-clause-given : goal.returns-then-not-are_runtime_labels-clause-given
returns-then-not-are_runtime_labels-clause-given c s w is =
    ap (λ b. first_failing (unless b BadLabel ∷ []))
    (labels_mapped c.args.pairs.items
    ∙ ap (λ (ps : List (String Global × Path)). list_all
    (λ (p : String Global × Path). is_runtime_label (string_bytes p.0)) ps) (sym c.deref.ensures.value)
    ∙ sym c.are_runtime_labels.ensures ∙ c.if-not-are_runtime_labels.true)

pub returns-clause-given : goal.returns-clause-given
returns-clause-given c s w is = (
  ap (λ b. first_failing (unless b BadLabel ∷ []))
      (labels_mapped c.args.pairs.items
      ∙ ap (λ (ps : List (String Global × Path)). list_all
      (λ (p : String Global × Path). is_runtime_label (string_bytes p.0)) ps) (sym c.deref.ensures.value)
      ∙ sym c.are_runtime_labels.ensures ∙ c.if-not-are_runtime_labels.false),
  c.in_ok-valid.ensures ∙ valid_by_outline c.args.outline.now w is (map labelled_bytes c.args.pairs.items),
)
