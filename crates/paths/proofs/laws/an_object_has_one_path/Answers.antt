use Rattle.std.proofs.Common.{subst, sym}
use Rattle.paths.specs.Path.{InPathOrder}
use Rattle.paths.proofs.PathOrder.{in_path_order-is, in_path_order-fits}
use Rattle.paths.proofs.Made.{one-path}
use Rattle.paths.proofs.laws.an_object_has_one_path.Goals as goal

pub returns-clause-order : goal.returns-clause-order
returns-clause-order c =
    λ refs ordered. (
      λ h. sym (in_path_order-is refs ordered h),
      λ e. subst (InPathOrder refs) (sym e) (in_path_order-fits refs),
    )

pub returns-clause-path : goal.returns-clause-path
returns-clause-path c = one-path
