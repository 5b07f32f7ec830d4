-- What a message asks: by the kind that its route and its method stand for, its target and its body.
use Rattle.std.specs.Prelude.{◌≡◌, ℕ, Bool, true, false, not, List, [], ◌∷◌, Option, Some, None}
use Rattle.std.specs.Str.{bytes_eq}
use Rattle.paths.specs.Decimal.{generation_number, session_number}
use Rattle.paths.specs.StorePath.{is_base_name}
use Rattle.model.specs.World.{Path, Pair}
use Rattle.model.specs.Request.{Request, add_text, add_source, import_object, info, nar, ls, list, list_live, list_dead}
use Rattle.model.specs.Request.{list_roots, list_roots_of, set_permanent, drop_permanent, set_user_root, drop_user_root}
use Rattle.model.specs.Request.{set_profile, rollback, switch, delete_generation, replace_runtime, add_temp}
use Rattle.model.specs.Request.{end_session, collect, delete, report}
use Rattle.wire_requests.specs.Parts.{path, user, name, number, session}
use Rattle.wire_requests.specs.Table.{at_info, at_nar, at_ls, at_roots_of, at_permanent, at_user_root, at_profile}
use Rattle.wire_requests.specs.Table.{at_rollback, at_switch, at_generation, at_temp}
use Rattle.wire_requests.specs.declared.kind.Kind.{Kind}
use Rattle.wire_requests.specs.declared.kind.Kind.TheVariants as kinds
use Rattle.wire_bodies.specs.Lines.{spelled}
use Rattle.wire_bodies.specs.Bodies.{IsNamedBody, IsImportBody, Says, IsPath, IsRuntime, IsCollect, IsDelete}
use Rattle.wire_bodies.specs.declared.heads.NamedHead.{NamedHead}
use Rattle.wire_bodies.specs.declared.heads.DeleteHead.{DeleteHead}
use Rattle.wire_bodies.specs.declared.import.ImportHead.{ImportHead}
use Rattle.wire_bodies.specs.declared.collect.CollectHead.{CollectHead}
use Rattle.wire_requests.specs.View.{imported, flag}

-- a body that says nothing: it is empty, or the empty line alone
abbrev pub is_blank : List ℕ → Bool
is_blank body = bytes_eq (spelled body) (10 ∷ [])

-- The request that the parameters of a target make without a body. Each kind is named, so that none has such a request
-- because it was forgotten.
abbrev pub by_names : Kind → List ℕ → Option Request
by_names kinds.DropPermanent target = Some (drop_permanent (name at_permanent target))
by_names kinds.DropUserRoot target = Some (drop_user_root (user at_user_root target) (name at_user_root target))
by_names kinds.Rollback target = Some (rollback (user at_rollback target) (name at_rollback target))
by_names kinds.Switch target =
    Some (switch (user at_switch target) (name at_switch target) (generation_number (number at_switch target)))
by_names kinds.DeleteGeneration target =
    Some (delete_generation (user at_generation target) (name at_generation target)
    (generation_number (number at_generation target)))
by_names kinds.EndSession target = Some (end_session (user at_temp target) (session_number (session at_temp target)))
by_names kinds.AddText target = None
by_names kinds.AddSource target = None
by_names kinds.Import target = None
by_names kinds.Info target = None
by_names kinds.Nar target = None
by_names kinds.Ls target = None
by_names kinds.RootsOf target = None
by_names kinds.List target = None
by_names kinds.ListRoots target = None
by_names kinds.Live target = None
by_names kinds.Dead target = None
by_names kinds.Report target = None
by_names kinds.SetPermanent target = None
by_names kinds.SetUserRoot target = None
by_names kinds.SetProfile target = None
by_names kinds.AddTemp target = None
by_names kinds.ReplaceRuntime target = None
by_names kinds.Collect target = None
by_names kinds.Delete target = None

-- the request of a kind without a body, with parameters or none
abbrev pub by_target : Kind → List ℕ → Option Request
by_target kinds.List target = Some list
by_target kinds.ListRoots target = Some list_roots
by_target kinds.Live target = Some list_live
by_target kinds.Dead target = Some list_dead
by_target kinds.Report target = Some report
by_target kind target = by_names kind target

-- a base name in the target, and nothing in the body
abbrev pub OnPath : List ℕ → List ℕ → (Path → Request) → Request → Type 0
OnPath base body on q = (is_base_name base ≡ true) × (is_blank body ≡ true) × (q ≡ on base)

-- a path in the body
abbrev pub Naming : List ℕ → List ℕ → (Path → Request) → Request → Type 0
Naming dir body with_path q = (p : Path) × Says (IsPath dir) body p × (q ≡ with_path p)

-- A message over a store directory, whose route and method stand for this kind, with this target and this body, asks
-- this.
abbrev pub Asks : List ℕ → Kind → List ℕ → List ℕ → Request → Type 0
Asks dir kinds.AddText target body q =
    (head : NamedHead) × (contents : List ℕ) × IsNamedBody dir body head contents
    × (q ≡ add_text head.name head.references.items contents)
Asks dir kinds.AddSource target body q =
    (head : NamedHead) × (b : List ℕ) × IsNamedBody dir body head b × (q ≡ add_source head.name head.references.items b)
Asks dir kinds.Import target body q =
    (head : ImportHead) × (b : List ℕ) × IsImportBody dir body head b × (q ≡ import_object (imported head b))
Asks dir kinds.Info target body q = OnPath (path at_info target) body (λ p. info p) q
Asks dir kinds.Nar target body q = OnPath (path at_nar target) body (λ p. nar p) q
Asks dir kinds.Ls target body q = OnPath (path at_ls target) body (λ p. ls p) q
Asks dir kinds.RootsOf target body q = OnPath (path at_roots_of target) body (λ p. list_roots_of p) q
Asks dir kinds.SetPermanent target body q = Naming dir body (λ p. set_permanent (name at_permanent target) p) q
Asks dir kinds.SetUserRoot target body q =
    Naming dir body (λ p. set_user_root (user at_user_root target) (name at_user_root target) p) q
Asks dir kinds.SetProfile target body q =
    Naming dir body (λ p. set_profile (user at_profile target) (name at_profile target) p) q
Asks dir kinds.AddTemp target body q =
    Naming dir body (λ p. add_temp (user at_temp target) (session_number (session at_temp target)) p) q
Asks dir kinds.ReplaceRuntime target body q =
    (named : List Pair) × Says (IsRuntime dir) body named × (q ≡ replace_runtime named)
Asks dir kinds.Collect target body q =
    (head : CollectHead) × Says IsCollect body head × (q ≡ collect (flag head.ignore_liveness) head.max_freed)
Asks dir kinds.Delete target body q =
    (head : DeleteHead) × Says (IsDelete dir) body head × (q ≡ delete head.paths.items (flag head.ignore_liveness))
Asks dir kind target body q = (is_blank body ≡ true) × (by_target kind target ≡ Some q)

-- The target should name a path, and doesn't.
abbrev pub has_bad_path : Kind → List ℕ → Bool
has_bad_path kinds.Info target = not (is_base_name (path at_info target))
has_bad_path kinds.Nar target = not (is_base_name (path at_nar target))
has_bad_path kinds.Ls target = not (is_base_name (path at_ls target))
has_bad_path kinds.RootsOf target = not (is_base_name (path at_roots_of target))
has_bad_path kinds.AddText target = false
has_bad_path kinds.AddSource target = false
has_bad_path kinds.Import target = false
has_bad_path kinds.List target = false
has_bad_path kinds.ListRoots target = false
has_bad_path kinds.Live target = false
has_bad_path kinds.Dead target = false
has_bad_path kinds.Report target = false
has_bad_path kinds.SetPermanent target = false
has_bad_path kinds.DropPermanent target = false
has_bad_path kinds.SetUserRoot target = false
has_bad_path kinds.DropUserRoot target = false
has_bad_path kinds.SetProfile target = false
has_bad_path kinds.Rollback target = false
has_bad_path kinds.Switch target = false
has_bad_path kinds.DeleteGeneration target = false
has_bad_path kinds.AddTemp target = false
has_bad_path kinds.EndSession target = false
has_bad_path kinds.ReplaceRuntime target = false
has_bad_path kinds.Collect target = false
has_bad_path kinds.Delete target = false
