-- Bodies that have to say nothing.
use Rattle.std.proofs.Common.{◌≡◌, ◌==◌, ◌&&◌, ℕ, List, [], ◌∷◌, Bool, true, false, cond, refl}
use Rattle.wire_requests.specs.Asks.{is_blank}
use Rattle.wire_requests.specs.Kept.{allows, blank_of}
use Rattle.wire_requests.specs.declared.blank.Blank.TheVariants.{LineFeed, More}

allows_byte : (v : Bool) → (v && true) ≡ allows (cond v LineFeed More)
allows_byte true = refl
allows_byte false = refl

never : (v : Bool) → (v && false) ≡ false
never true = refl
never false = refl

-- what has come says nothing if the body is blank
pub blank_allows : (body : List ℕ) → is_blank body ≡ allows (blank_of body)
blank_allows [] = refl
blank_allows (b ∷ []) = allows_byte (b == 10)
blank_allows (b ∷ c ∷ body) = never (b == 10)
