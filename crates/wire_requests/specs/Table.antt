-- The one table of routes; and of each kind of request the form of its body, and the parameters of its route.
use Rattle.std.specs.Prelude.{◌≡◌, ⊤, ℕ, List, [], ◌∷◌, Option, Some, None, codes, cond, map, string_bytes}
use Rattle.wire_requests.specs.Parts.{path, user, name, number, session}
use Rattle.wire_requests.specs.declared.kind.Form.{Form}
use Rattle.wire_requests.specs.declared.kind.Form.TheVariants.{Bare, Whole, Parted}
use Rattle.wire_requests.specs.declared.kind.Kind.{Kind}
use Rattle.wire_requests.specs.declared.kind.Kind.TheVariants as kinds
use Rattle.wire_requests.specs.declared.parameters.Parameters.{Parameters}
use Rattle.wire_requests.specs.declared.requests.Requests.{Requests}
use Rattle.wire_requests.specs.declared.requests.Requests.TheVariants.{Get, Post, Delete, PostOrDelete}
use Rattle.wire_requests.specs.Patterns.{fits, pattern_in}

-- the texts of routes with parameters, whose names are in braces
abbrev pub at_info : List ℕ
at_info = codes "/info/{path}"

abbrev pub at_nar : List ℕ
at_nar = codes "/nar/{path}"

abbrev pub at_ls : List ℕ
at_ls = codes "/ls/{path}"

abbrev pub at_roots_of : List ℕ
at_roots_of = codes "/roots-of/{path}"

abbrev pub at_permanent : List ℕ
at_permanent = codes "/root/permanent/{name}"

abbrev pub at_user_root : List ℕ
at_user_root = codes "/root/user/{user}/{name}"

abbrev pub at_profile : List ℕ
at_profile = codes "/profile/{user}/{name}"

abbrev pub at_rollback : List ℕ
at_rollback = codes "/rollback/{user}/{name}"

abbrev pub at_switch : List ℕ
at_switch = codes "/switch/{user}/{name}/{n}"

abbrev pub at_generation : List ℕ
at_generation = codes "/generation/{user}/{name}/{n}"

abbrev pub at_temp : List ℕ
at_temp = codes "/temp/{user}/{s}"

-- the text of each route with its requests
unfoldable pub routes : List (List ℕ × Requests)
routes =
    (codes "/text", Post kinds.AddText)
    ∷ (codes "/source", Post kinds.AddSource)
    ∷ (codes "/import", Post kinds.Import)
    ∷ (at_info, Get kinds.Info)
    ∷ (at_nar, Get kinds.Nar)
    ∷ (at_ls, Get kinds.Ls)
    ∷ (at_roots_of, Get kinds.RootsOf)
    ∷ (codes "/paths", Get kinds.List)
    ∷ (codes "/roots", Get kinds.ListRoots)
    ∷ (codes "/live", Get kinds.Live)
    ∷ (codes "/dead", Get kinds.Dead)
    ∷ (codes "/report", Get kinds.Report)
    ∷ (at_permanent, PostOrDelete kinds.SetPermanent kinds.DropPermanent)
    ∷ (at_user_root, PostOrDelete kinds.SetUserRoot kinds.DropUserRoot)
    ∷ (at_profile, Post kinds.SetProfile)
    ∷ (at_rollback, Post kinds.Rollback)
    ∷ (at_switch, Post kinds.Switch)
    ∷ (at_generation, Delete kinds.DeleteGeneration)
    ∷ (at_temp, PostOrDelete kinds.AddTemp kinds.EndSession)
    ∷ (codes "/runtime", Post kinds.ReplaceRuntime)
    ∷ (codes "/collect", Post kinds.Collect)
    ∷ (codes "/delete", Post kinds.Delete)
    ∷ []

-- the routes with the pattern of each text
unfoldable pub table : List (List ℕ × Requests)
table = map (λ row. (pattern_in row.0, row.1)) routes

-- the requests of the first of these routes whose pattern fits a target
abbrev pub first_fit : List ℕ → List (List ℕ × Requests) → Option Requests
first_fit target [] = None
first_fit target (row ∷ rows) = cond (fits row.0 target) (Some row.1) (first_fit target rows)

-- the requests of the route of a target, whose pattern alone fits it
abbrev pub requests_of : List ℕ → Option Requests
requests_of target = first_fit target table

-- ---- of each kind

-- what a request of a kind has in its body: nothing; lines, or lines and a text; or lines and an archive
abbrev pub form_of : Kind → Form
form_of kinds.AddText = Whole
form_of kinds.AddSource = Parted
form_of kinds.Import = Parted
form_of kinds.Info = Bare
form_of kinds.Nar = Bare
form_of kinds.Ls = Bare
form_of kinds.RootsOf = Bare
form_of kinds.List = Bare
form_of kinds.ListRoots = Bare
form_of kinds.Live = Bare
form_of kinds.Dead = Bare
form_of kinds.Report = Bare
form_of kinds.SetPermanent = Whole
form_of kinds.DropPermanent = Bare
form_of kinds.SetUserRoot = Whole
form_of kinds.DropUserRoot = Bare
form_of kinds.SetProfile = Whole
form_of kinds.Rollback = Bare
form_of kinds.Switch = Bare
form_of kinds.DeleteGeneration = Bare
form_of kinds.AddTemp = Whole
form_of kinds.EndSession = Bare
form_of kinds.ReplaceRuntime = Whole
form_of kinds.Collect = Whole
form_of kinds.Delete = Whole

-- an owner and a name, in the text of a route
abbrev pub AreOwned : List ℕ → List ℕ → Parameters → Type 0
AreOwned text target p = (string_bytes p.user ≡ user text target) × (string_bytes p.name ≡ name text target)

-- the parameters of the route of a kind are what the target has in place of them
abbrev pub AreParameters : Kind → List ℕ → Parameters → Type 0
AreParameters kinds.Info target p = string_bytes p.path ≡ path at_info target
AreParameters kinds.Nar target p = string_bytes p.path ≡ path at_nar target
AreParameters kinds.Ls target p = string_bytes p.path ≡ path at_ls target
AreParameters kinds.RootsOf target p = string_bytes p.path ≡ path at_roots_of target
AreParameters kinds.SetPermanent target p = string_bytes p.name ≡ name at_permanent target
AreParameters kinds.DropPermanent target p = string_bytes p.name ≡ name at_permanent target
AreParameters kinds.SetUserRoot target p = AreOwned at_user_root target p
AreParameters kinds.DropUserRoot target p = AreOwned at_user_root target p
AreParameters kinds.SetProfile target p = AreOwned at_profile target p
AreParameters kinds.Rollback target p = AreOwned at_rollback target p
AreParameters kinds.Switch target p = AreOwned at_switch target p × (string_bytes p.number ≡ number at_switch target)
AreParameters kinds.DeleteGeneration target p =
    AreOwned at_generation target p × (string_bytes p.number ≡ number at_generation target)
AreParameters kinds.AddTemp target p =
    (string_bytes p.user ≡ user at_temp target) × (string_bytes p.session ≡ session at_temp target)
AreParameters kinds.EndSession target p =
    (string_bytes p.user ≡ user at_temp target) × (string_bytes p.session ≡ session at_temp target)
AreParameters _ target p = ⊤
