use Rattle.std.proofs.Common.{refl, sym, ◌∙◌}
use Rattle.std.proofs.lemmas.Bool.{both_ways}
use Rattle.tables_load_objects.proofs.each_object.is_cut_by.Goals as goal

pub returns-then-not-has_pieces : goal.returns-then-not-has_pieces
returns-then-not-has_pieces c =
    (λ _ yes. absurd (both_ways _ (sym c.has_pieces.ensures ∙ c.if-not-has_pieces.true) yes), λ _. refl)

pub returns : goal.returns
returns c = (
  λ cut _. c.is_cut.ensures.0 cut,
  λ cut. c.is_cut.ensures.1 (cut (sym c.has_pieces.ensures ∙ c.if-not-has_pieces.false)),
)
