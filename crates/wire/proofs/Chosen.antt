-- A request that a method stands for has the parameters of its route.
use Rattle.std.proofs.Common.{◌≡◌, ℕ, List, Option, Some, None, Bool, true, false, cond, subst}
use Rattle.std.specs.Prelude.{codes}
use Rattle.std.specs.Str.{bytes_eq}
use Rattle.wire_requests.specs.Methods.{kind_of}
use Rattle.wire_requests.specs.Parameters.{AreParameters, AreParametersOf}
use Rattle.wire_requests.specs.declared.kind.Kind.{Kind}
use Rattle.wire_requests.specs.declared.parameters.Parameters.{Parameters}
use Rattle.wire_requests.specs.declared.requests.Requests.{Requests}
use Rattle.wire_requests.specs.declared.requests.Requests.TheVariants.{Get, Post, Delete, PostOrDelete}

module _ (method target : List ℕ) (p : Parameters) (kind : Kind) where
  of_kind : (k : Kind) → Some kind ≡ Some k → AreParameters k target p → AreParameters kind target p
  of_kind k e are = let same : k ≡ kind = cc in subst (λ k. AreParameters k target p) same are

  of_word : (v : Bool) (k : Kind) → Some kind ≡ cond v (Some k) None → AreParameters k target p
      → AreParameters kind target p
  of_word true k e are = of_kind k e are
  of_word false k e are = let h : Some kind ≡ None = e in cc

  of_either : (v : Bool) (k : Kind) (rest : Option Kind) → Some kind ≡ cond v (Some k) rest
      → AreParameters k target p × (Some kind ≡ rest → AreParameters kind target p)
      → AreParameters kind target p
  of_either true k rest e are = of_kind k e are.0
  of_either false k rest e are = are.1 e

  pub chosen : (requests : Requests) → Some kind ≡ kind_of requests method → AreParametersOf requests target p
      → AreParameters kind target p
  chosen (Get k) e are = of_word (bytes_eq method (codes "GET")) k e are
  chosen (Post k) e are = of_word (bytes_eq method (codes "POST")) k e are
  chosen (Delete k) e are = of_word (bytes_eq method (codes "DELETE")) k e are
  chosen (PostOrDelete k other) e are =
      of_either (bytes_eq method (codes "POST")) k _ e
      (are.0, λ rest. of_word (bytes_eq method (codes "DELETE")) other rest are.1)
