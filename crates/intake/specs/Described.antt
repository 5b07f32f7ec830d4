-- What is found of an archive that has come.
use Rattle.std.specs.Prelude.{◌≡◌, ℕ, List, None, IfSome}
use Rattle.sha2.specs.Sha256.{sha256}
use Rattle.nar.specs.Tree.{IsBytes}
use Rattle.nar.specs.Outcome.{outcome_of}
use Rattle.paths.specs.declared.content_address.Method.{Method}
use Rattle.paths.specs.declared.content_address.Method.TheVariants.{Text, Source}
use Rattle.paths.specs.declared.facts.Facts.{Facts}
use Rattle.paths.specs.Facts.{facts_of}
use Rattle.intake.specs.declared.arrival.Arrived.{Arrived}
use Rattle.intake.specs.Arrival.{fault_of}
use Rattle.intake.specs.Contents.{contents_so_far}

-- the digests and the fault of an archive that has come are those of its bytes
pub record DescribesBytes (a : Arrived) : Type 0 where
  pub bytes : IsBytes a.pieces
  pub hash : a.nar_hash ≡ sha256 a.pieces
  pub contents : IfSome a.contents_hash (λ h. h ≡ sha256 (contents_so_far a.pieces))
  pub fault : a.fault ≡ fault_of (outcome_of a.pieces)

-- what is found of an archive for an address of this method: contents are hashed for that of a text alone
abbrev pub facts_for : Method → List ℕ → Facts
facts_for Text nar = facts_of nar
facts_for Source nar = record (facts_of nar) { plain = None }
