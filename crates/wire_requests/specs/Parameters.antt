-- The parameters of a target, as they are held until the body has arrived.
use Rattle.std.specs.Prelude.{◌≡◌, ℕ, List, [], codes, string_bytes, unwrap_or}
use Rattle.matchit.specs.Params.{walk, named}
use Rattle.matchit.specs.declared.params.Params.{Params}
pub use Rattle.wire_requests.specs.Table.{AreOwned, AreParameters}
use Rattle.wire_requests.specs.declared.parameters.Parameters.{Parameters}
use Rattle.wire_requests.specs.declared.requests.Requests.{Requests}
use Rattle.wire_requests.specs.declared.requests.Requests.TheVariants.{Get, Post, Delete, PostOrDelete}

-- parameters fit each kind of a route
abbrev pub AreParametersOf : Requests → List ℕ → Parameters → Type 0
AreParametersOf (Get kind) target p = AreParameters kind target p
AreParametersOf (Post kind) target p = AreParameters kind target p
AreParametersOf (Delete kind) target p = AreParameters kind target p
AreParametersOf (PostOrDelete kind other) target p = AreParameters kind target p × AreParameters other target p

-- ---- inside the crate

-- each name of a route with the part of a target that it matched
abbrev pub pairs_of : Params → List (List ℕ × List ℕ)
pairs_of p = walk p.pattern.now p.text.now p.path.now p.names.now 0 0

-- each parameter is what has its name
abbrev pub AreNamed : List (List ℕ × List ℕ) → Parameters → Type 0
AreNamed pairs p =
    (string_bytes p.path ≡ unwrap_or (named (codes "path") pairs) [])
    × (string_bytes p.user ≡ unwrap_or (named (codes "user") pairs) [])
    × (string_bytes p.name ≡ unwrap_or (named (codes "name") pairs) [])
    × (string_bytes p.number ≡ unwrap_or (named (codes "n") pairs) [])
    × (string_bytes p.session ≡ unwrap_or (named (codes "s") pairs) [])
