-- The methods of routes are words that need no memory.
use Rattle.std.proofs.Common.{◌≡◌, ℕ, ◌≤◌, List, length, Bool, true, false, cond, Some, None, refl, sym, ap, ◌∙◌, subst}
use Rattle.std.proofs.Common.{lit≤, lit<}
use Rattle.std.specs.Prelude.{codes}
use Rattle.std.specs.Str.{bytes_eq}
use Rattle.std.proofs.lemmas.Slice.Eq.{bytes_eq-Decides}
use Rattle.http_header.specs.Token.{IsToken, is_token_byte}
use Rattle.http_header.proofs.TokenLemmas.{AllPass-from_test}
use Rattle.wire_requests.specs.declared.requests.Requests.{Requests}
use Rattle.wire_requests.specs.declared.requests.Requests.TheVariants.{Get, Post, Delete, PostOrDelete}
use Rattle.wire_requests.specs.Methods.{kind_of}

token_get : IsToken (codes "GET")
unfolding is_token_byte
token_get = (lit< tt, AllPass-from_test is_token_byte (codes "GET") refl)

token_post : IsToken (codes "POST")
unfolding is_token_byte
token_post = (lit< tt, AllPass-from_test is_token_byte (codes "POST") refl)

token_delete : IsToken (codes "DELETE")
unfolding is_token_byte
token_delete = (lit< tt, AllPass-from_test is_token_byte (codes "DELETE") refl)

module _ (method : List ℕ) (none : IsToken method → length method ≤ 15 → ⊥) where
  differs : (word : List ℕ) → IsToken word → length word ≤ 15 → bytes_eq method word ≡ false
  differs word token short = by (bytes_eq method word) refl
    where
      by : (v : Bool) → bytes_eq method word ≡ v → v ≡ false
      by false e = refl
      by true e =
          let same : method ≡ word = (bytes_eq-Decides method word).0 e in
          absurd (none (subst IsToken (sym same) token) (subst (λ m. length m ≤ 15) (sym same) short))

  is_get : bytes_eq method (codes "GET") ≡ false
  is_get = differs (codes "GET") token_get (lit≤ tt)

  is_post : bytes_eq method (codes "POST") ≡ false
  is_post = differs (codes "POST") token_post (lit≤ tt)

  is_delete : bytes_eq method (codes "DELETE") ≡ false
  is_delete = differs (codes "DELETE") token_delete (lit≤ tt)

  -- so what isn't such a word has no request on any route
  pub no_kind : (route : Requests) → None ≡ kind_of route method
  no_kind (Get kind) = sym (ap (λ v. cond v (Some kind) None) is_get)
  no_kind (Post kind) = sym (ap (λ v. cond v (Some kind) None) is_post)
  no_kind (Delete kind) = sym (ap (λ v. cond v (Some kind) None) is_delete)
  no_kind (PostOrDelete kind other) =
      sym (ap (λ v. cond v (Some kind) (cond (bytes_eq method (codes "DELETE")) (Some other) None)) is_post
      ∙ ap (λ v. cond v (Some other) None) is_delete)
