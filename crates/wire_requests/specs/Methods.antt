-- Methods, as the bytes of their words, and the requests that they stand for on a route.
use Rattle.std.specs.Prelude.{ℕ, List, [], ◌∷◌, Option, Some, None, codes, cond, is_some, filter}
use Rattle.std.specs.List.{join_by}
use Rattle.std.specs.Str.{bytes_eq}
use Rattle.wire_requests.specs.declared.kind.Kind.{Kind}
use Rattle.wire_requests.specs.declared.requests.Requests.{Requests}
use Rattle.wire_requests.specs.declared.requests.Requests.TheVariants.{Get, Post, Delete, PostOrDelete}

-- a kind where the method is that of the word
abbrev pub kind_where : List ℕ → List ℕ → Kind → Option Kind
kind_where method word kind = cond (bytes_eq method word) (Some kind) None

-- the request that a method means on a route, letter by letter
abbrev pub kind_of : Requests → List ℕ → Option Kind
kind_of (Get kind) method = kind_where method (codes "GET") kind
kind_of (Post kind) method = kind_where method (codes "POST") kind
kind_of (Delete kind) method = kind_where method (codes "DELETE") kind
kind_of (PostOrDelete kind other) method =
    cond (bytes_eq method (codes "POST")) (Some kind) (kind_where method (codes "DELETE") other)

-- the methods that routes have, in the order in which a reply lists them
abbrev pub methods : List (List ℕ)
methods = codes "GET" ∷ codes "POST" ∷ codes "DELETE" ∷ []

-- the methods of a route, each once, with a comma and a space between
abbrev pub allowed : Requests → List ℕ
allowed route = join_by (λ m. m) (codes ", ") (filter (λ m. is_some (kind_of route m)) methods)
