-- When an address verifies: over the set of references where it does over their list.
use Rattle.std.proofs.Common.{◌≡◌, ℕ, List, ◌&&◌, Some, None, Option, refl, ap}
use Rattle.std.specs.Prelude.{codes}
use Rattle.std.specs.Str.{bytes_eq}
use Rattle.std.specs.FinMap as finite
use Rattle.sha2.specs.Sha256.{sha256}
use Rattle.nar.specs.Outcome.{outcome_of}
use Rattle.paths.specs.declared.content_address.Method.{Method}
use Rattle.paths.specs.declared.content_address.Method.TheVariants.{Text, Source}
use Rattle.paths.specs.Root.{bytes_cmp, set_of}
use Rattle.paths.specs.StorePath.{name_of}
use Rattle.paths.specs.ContentAddress.{ContentAddress, plain_contents, is_made_of, text_verifies, method_verifies}
use Rattle.paths.specs.ContentAddress.{verifies}
use Rattle.model.proofs.SoundAdds.{same_path}

abbrev Path : Type 0
Path = List ℕ

abbrev as_set : List Path → List Path
as_set refs = finite.keys (set_of bytes_cmp refs)

module _ (digest dir path : List ℕ) (refs : List Path) where
  same_made : (kind inner : List ℕ)
      → is_made_of kind digest inner dir path (as_set refs) ≡ is_made_of kind digest inner dir path refs
  same_made kind inner =
      ap (λ p. bytes_eq digest inner && bytes_eq path p) (same_path kind dir (name_of path) refs inner)

  same_text : (contents : Option (List ℕ))
      → text_verifies digest dir path (as_set refs) contents ≡ text_verifies digest dir path refs contents
  same_text None = refl
  same_text (Some contents) = same_made (codes "text") (sha256 contents)

  same_method : (m : Method) (nar : List ℕ)
      → method_verifies m digest dir path (as_set refs) nar ≡ method_verifies m digest dir path refs nar
  same_method Text nar = same_text (plain_contents (outcome_of nar))
  same_method Source nar = same_made (codes "source") (sha256 nar)

pub verifies-set : (ca : ContentAddress) (dir path : List ℕ) (refs : List Path) (nar : List ℕ)
    → verifies ca dir path (finite.keys (set_of bytes_cmp refs)) nar ≡ verifies ca dir path refs nar
verifies-set ca dir path refs nar = same_method ca.digest dir path refs ca.method nar
