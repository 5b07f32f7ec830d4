use Rattle.std.proofs.Common.{ℕ, List, sym, ap, ◌∙◌}
use Rattle.live.specs.Graph.{same}
use Rattle.model.specs.declared.refusal.Refusal.TheVariants.{NarHashMismatch}
use Rattle.model.specs.Tests.{unless}
use Rattle.store_adds.proofs.delivered.Delivered.has_digest.Goals as goal

pub returns-then-not-is_same : goal.returns-then-not-is_same
returns-then-not-is_same c =
    let s = c.args.self.now in
    ap (λ b. unless b NarHashMismatch)
    (ap (λ (h : List ℕ). same h s.nar_hash) (sym c.requires) ∙ sym c.is_same.ensures ∙ c.if-not-is_same.true)

pub returns : goal.returns
returns c =
    let s = c.args.self.now in
    ap (λ b. unless b NarHashMismatch)
    (ap (λ (h : List ℕ). same h s.nar_hash) (sym c.requires) ∙ sym c.is_same.ensures ∙ c.if-not-is_same.false)
