use Rattle.std.proofs.Common.{◌≡◌, ℕ, Bool, List, Some, sym, ap, ◌∙◌}
use Rattle.paths.specs.ContentAddress.{ContentAddress, verifies}
use Rattle.model.specs.Adds.{added_import}
use Rattle.model.specs.Request.{Imported}
use Rattle.model.specs.declared.refusal.Refusal.TheVariants.{CaMismatch}
use Rattle.model.specs.Tests.{is_verified, unless}
use Rattle.store_adds.specs.Delivered.{delivered_view}
use Rattle.store_adds.proofs.Addresses.{verifies-set}
use Rattle.store_adds.proofs.delivered.Delivered.is_verified.Goals as goal

-- the test of an address that there is
with_address : (dir : List ℕ) (i : Imported) (ca : ContentAddress) (b : Bool) → i.ca ≡ Some ca
    → verifies ca dir i.path i.refs i.nar ≡ b
    → unless (is_verified dir i.path (added_import dir i).object i.ca) CaMismatch ≡ unless b CaMismatch
with_address dir i ca b is fits =
    ap (λ a. unless (is_verified dir i.path (added_import dir i).object a) CaMismatch) is
    ∙ ap (λ v. unless v CaMismatch) (verifies-set ca dir i.path i.refs i.nar ∙ fits)

pub returns-then-not-branch : goal.returns-then-not-branch
returns-then-not-branch c =
    with_address c.args.dir.now (delivered_view c.args.self.now) c.in-Some.ca _ c.in-Some.is
    (sym (c.in_ok-fits.ensures c.requires) ∙ c.if-not-branch.true)

pub returns : goal.returns
returns c =
    with_address c.args.dir.now (delivered_view c.args.self.now) c.in-Some.ca _ c.in-Some.is
    (sym (c.in_ok-fits.ensures c.requires) ∙ c.if-not-branch.false)
