-- Requests that a target says whole.
use Rattle.std.proofs.Common.{◌≡◌, ◌∙◌, ℕ, Bool, List, true, false, Some, None, Result, Ok, Err, refl, sym, ap}
use Rattle.std.proofs.Common.{subst, is_some}
use Rattle.model.specs.Request as asked
use Rattle.wire_requests.specs.declared.kind.Kind.{Kind}
use Rattle.wire_requests.specs.declared.kind.Kind.TheVariants as kinds
use Rattle.wire_requests.specs.declared.error.AskError.{AskError}
use Rattle.wire_requests.specs.declared.error.AskError.TheVariants.{BadPath, BadBodyHead, Memory}
use Rattle.store_types.specs.declared.requests.Request.{Request}
use Rattle.store_types.specs.View.{request_view}
use Rattle.wire_requests.specs.Asks.{is_blank, by_target, Asks, has_bad_path}
use Rattle.wire_requests.specs.Parameters.{AreParameters}
use Rattle.wire_requests.specs.Reads.{Reads, ReadsTarget}
use Rattle.wire_requests.specs.declared.parameters.Parameters.{Parameters}

-- what is read by the parameters of a kind, where the kind is known
pub of_kind : (dir target body : List ℕ) (p : Parameters) (r : Result Request AskError) {kind known : Kind}
    → kind ≡ known → AreParameters kind target p
    → (AreParameters known target p → Reads dir known target body r) → Reads dir kind target body r
of_kind dir target body p r is are reads =
    subst (λ k. Reads dir k target body r) (sym is) (reads (subst (λ k. AreParameters k target p) is are))

-- no body says nothing and something
never_both : {blank : Bool} → blank ≡ true → blank ≡ false → ⊥
never_both says denies = let no : true ≡ false = sym says ∙ denies in absurd cc

-- a kind that asks what its target says
by_shape : (dir : List ℕ) (kind : Kind) (target body : List ℕ) (blank : Bool) (r : Result Request AskError)
    → is_blank body ≡ blank
    → ((q : asked.Request) → (is_blank body ≡ true) × (by_target kind target ≡ Some q) → Asks dir kind target body q)
    → ((q : asked.Request) → Asks dir kind target body q → (is_blank body ≡ true) × (by_target kind target ≡ Some q))
    → has_bad_path kind target ≡ false → ReadsTarget kind target blank r → Reads dir kind target body r
by_shape dir kind target body blank (Ok q) says present back good is = present (request_view q) (says ∙ is.0, is.1)
by_shape dir kind target body blank (Err BadPath) says present back good is = absurd is
by_shape dir kind target body blank (Err BadBodyHead) says present back good is =
    (good, λ q w. never_both (sym says ∙ (back q w).0) is.0)
by_shape dir kind target body blank (Err Memory) says present back good is = tt

-- a kind of which a target doesn't say all: nothing but `Memory` is answered
by_no_target : (dir : List ℕ) (kind : Kind) (target body : List ℕ) (blank : Bool) (r : Result Request AskError)
    → by_target kind target ≡ None → ReadsTarget kind target blank r → Reads dir kind target body r
by_no_target dir kind target body blank (Ok q) none is =
    let no : None ≡ Some (request_view q) = sym none ∙ is.1 in absurd cc
by_no_target dir kind target body blank (Err BadPath) none is = absurd is
by_no_target dir kind target body blank (Err BadBodyHead) none is =
    let no : false ≡ true = ap is_some (sym none) ∙ is.1 in absurd cc
by_no_target dir kind target body blank (Err Memory) none is = tt

-- each kind that names no path in its target
pub bare_reads : (dir : List ℕ) (kind : Kind) (target body : List ℕ) (blank : Bool) (r : Result Request AskError)
    → is_blank body ≡ blank → ReadsTarget kind target blank r → Reads dir kind target body r
bare_reads dir kinds.AddText target body blank r says is =
    by_no_target dir kinds.AddText target body blank r refl is
bare_reads dir kinds.AddSource target body blank r says is =
    by_no_target dir kinds.AddSource target body blank r refl is
bare_reads dir kinds.Import target body blank r says is =
    by_no_target dir kinds.Import target body blank r refl is
bare_reads dir kinds.SetPermanent target body blank r says is =
    by_no_target dir kinds.SetPermanent target body blank r refl is
bare_reads dir kinds.SetUserRoot target body blank r says is =
    by_no_target dir kinds.SetUserRoot target body blank r refl is
bare_reads dir kinds.SetProfile target body blank r says is =
    by_no_target dir kinds.SetProfile target body blank r refl is
bare_reads dir kinds.AddTemp target body blank r says is =
    by_no_target dir kinds.AddTemp target body blank r refl is
bare_reads dir kinds.ReplaceRuntime target body blank r says is =
    by_no_target dir kinds.ReplaceRuntime target body blank r refl is
bare_reads dir kinds.Collect target body blank r says is =
    by_no_target dir kinds.Collect target body blank r refl is
bare_reads dir kinds.Delete target body blank r says is =
    by_no_target dir kinds.Delete target body blank r refl is
bare_reads dir kinds.Info target body blank r says is =
    by_no_target dir kinds.Info target body blank r refl is
bare_reads dir kinds.Nar target body blank r says is =
    by_no_target dir kinds.Nar target body blank r refl is
bare_reads dir kinds.Ls target body blank r says is =
    by_no_target dir kinds.Ls target body blank r refl is
bare_reads dir kinds.RootsOf target body blank r says is =
    by_no_target dir kinds.RootsOf target body blank r refl is
bare_reads dir kinds.List target body blank r says is =
    by_shape dir kinds.List target body blank r says (λ q w. w) (λ q w. w) refl is
bare_reads dir kinds.ListRoots target body blank r says is =
    by_shape dir kinds.ListRoots target body blank r says (λ q w. w) (λ q w. w) refl is
bare_reads dir kinds.Live target body blank r says is =
    by_shape dir kinds.Live target body blank r says (λ q w. w) (λ q w. w) refl is
bare_reads dir kinds.Dead target body blank r says is =
    by_shape dir kinds.Dead target body blank r says (λ q w. w) (λ q w. w) refl is
bare_reads dir kinds.Report target body blank r says is =
    by_shape dir kinds.Report target body blank r says (λ q w. w) (λ q w. w) refl is
bare_reads dir kinds.DropPermanent target body blank r says is =
    by_shape dir kinds.DropPermanent target body blank r says (λ q w. w) (λ q w. w) refl is
bare_reads dir kinds.DropUserRoot target body blank r says is =
    by_shape dir kinds.DropUserRoot target body blank r says (λ q w. w) (λ q w. w) refl is
bare_reads dir kinds.Rollback target body blank r says is =
    by_shape dir kinds.Rollback target body blank r says (λ q w. w) (λ q w. w) refl is
bare_reads dir kinds.Switch target body blank r says is =
    by_shape dir kinds.Switch target body blank r says (λ q w. w) (λ q w. w) refl is
bare_reads dir kinds.DeleteGeneration target body blank r says is =
    by_shape dir kinds.DeleteGeneration target body blank r says (λ q w. w) (λ q w. w) refl is
bare_reads dir kinds.EndSession target body blank r says is =
    by_shape dir kinds.EndSession target body blank r says (λ q w. w) (λ q w. w) refl is
