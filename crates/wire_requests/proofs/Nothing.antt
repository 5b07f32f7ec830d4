-- Why a message asks nothing, where the fault of its body is passed on.
use Rattle.std.proofs.Common.{◌≡◌, ℕ, false, List, Result, Ok, Err, IsErrAnd, sym, subst}
use Rattle.model.specs.Request as asked
use Rattle.store_types.specs.declared.requests.Request.{Request}
use Rattle.wire_bodies.specs.declared.error.BodyError.{BodyError}
use Rattle.wire_bodies.specs.declared.error.BodyError.TheVariants.{BadBodyHead, Memory}
use Rattle.wire_requests.specs.declared.error.AskError.{AskError}
use Rattle.wire_requests.specs.declared.kind.Kind.{Kind}
use Rattle.wire_requests.specs.Asks.{Asks, has_bad_path}
use Rattle.wire_requests.specs.Faults.{body_fault}
use Rattle.wire_requests.specs.Reads.{AsksNothing, Makes, Reads}

pub reads_nothing : {A : Type 0} (dir : List ℕ) (kind : Kind) (target body : List ℕ) (r : Result A BodyError)
    (fault : BodyError) (s : Result Request AskError)
    → IsErrAnd s (λ e. e ≡ body_fault fault) → r ≡ Err fault → has_bad_path kind target ≡ false
    → (r ≡ Err BadBodyHead → (q : asked.Request) → Asks dir kind target body q → ⊥) → Reads dir kind target body s
reads_nothing dir kind target body r fault (Ok q) is was path none = absurd is
reads_nothing dir kind target body r fault (Err e) is was path none =
    subst (AsksNothing dir kind target body) (sym is) (by fault was)
  where
    by : (f : BodyError) → r ≡ Err f → AsksNothing dir kind target body (body_fault f)
    by BadBodyHead was = (path, none was)
    by Memory was = tt

pub makes_nothing : {A : Type 0} (dir : List ℕ) (kind : Kind) (target body : List ℕ) (r : Result A BodyError)
    (fault : BodyError) (s : Result Request AskError)
    → IsErrAnd s (λ e. e ≡ body_fault fault) → r ≡ Err fault → has_bad_path kind target ≡ false
    → (r ≡ Err BadBodyHead → (q : asked.Request) → Asks dir kind target body q → ⊥) → Makes dir kind target body s
makes_nothing dir kind target body r fault (Ok q) is was path none = absurd is
makes_nothing dir kind target body r fault (Err e) is was path none =
    reads_nothing dir kind target body r fault (Err e) is was path none
