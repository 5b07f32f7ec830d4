-- What is found of an archive, and the test of a content address by it.
use Rattle.std.specs.Prelude.{◌≡◌, ℕ, Bool, false, List, length, codes, Option, Some, None}
use Rattle.sha2.specs.Sha256.{sha256}
use Rattle.nar.specs.Outcome.{outcome_of}
use Rattle.paths.specs.declared.content_address.Method.{Method}
use Rattle.paths.specs.declared.content_address.Method.TheVariants.{Text, Source}
use Rattle.paths.specs.declared.facts.Facts.{Facts}
use Rattle.paths.specs.ContentAddress.{ContentAddress, plain_contents, is_made_of}

-- SHA-256 of the contents, if there are any
abbrev pub hash_of : Option (List ℕ) → Option (List ℕ)
hash_of None = None
hash_of (Some contents) = Some (sha256 contents)

-- what is found of an archive, or of any other bytes
abbrev pub facts_of : List ℕ → Facts
facts_of nar =
    record { nar_hash = sha256 nar; nar_size = length nar; plain = hash_of (plain_contents (outcome_of nar)) }

-- What an address of this method asks for is found of an archive: of a text's the digest of the contents, of a source's
-- that of the archive.
abbrev pub HasFactsFor : Method → List ℕ → Facts → Type 0
HasFactsFor Text nar facts = facts.plain ≡ hash_of (plain_contents (outcome_of nar))
HasFactsFor Source nar facts = facts.nar_hash ≡ sha256 nar

abbrev pub text_verifies_by : List ℕ → List ℕ → List ℕ → List (List ℕ) → Option (List ℕ) → Bool
text_verifies_by digest dir path refs None = false
text_verifies_by digest dir path refs (Some inner) = is_made_of (codes "text") digest inner dir path refs

abbrev pub method_verifies_by : Method → List ℕ → List ℕ → List ℕ → List (List ℕ) → Facts → Bool
method_verifies_by Text digest dir path refs facts = text_verifies_by digest dir path refs facts.plain
method_verifies_by Source digest dir path refs facts = is_made_of (codes "source") digest facts.nar_hash dir path refs

-- whether the address is that of the object with this path, these references and an archive of which this was found
abbrev pub verifies_by : ContentAddress → List ℕ → List ℕ → List (List ℕ) → Facts → Bool
verifies_by ca dir path refs facts = method_verifies_by ca.method ca.digest dir path refs facts
