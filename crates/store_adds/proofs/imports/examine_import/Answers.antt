use Rattle.std.proofs.Common.{◌≡◌, ℕ, List, None, sym, ap, ◌∙◌}
use Rattle.std.specs.Prelude.{length, nat_le}
use Rattle.model.specs.Objects.{most_references}
use Rattle.sha2.specs.Sha256.{sha256}
use Rattle.live.specs.Graph.{same}
use Rattle.live.proofs.Reach.{same_is}
use Rattle.model.specs.declared.refusal.Refusal.TheVariants.{MissingReference, NarHashMismatch, TooManyReferences}
use Rattle.model.proofs.Passed.{met}
use Rattle.model.specs.Tests.{is_complete, unless}
use Rattle.store_adds.specs.Delivered.{delivered_view}
use Rattle.store_promises.proofs.Passing.{pass}
use Rattle.store_adds.proofs.imports.examine_import.Goals as goal

pub returns-clause-reported : goal.returns-clause-reported
returns-clause-reported c w is =
    let i = delivered_view c.args.import.now in
    let few : unless (nat_le (length i.refs) most_references) TooManyReferences ≡ None =
    ap (λ (r : List (List ℕ)). unless (nat_le (length r) most_references) TooManyReferences) (sym c.deref.ensures.value)
    ∙ c.in_ok-are_few.ensures in
    let present : unless (is_complete w i.path i.refs) MissingReference ≡ None =
    ap (λ (r : List (List ℕ)). unless (is_complete w i.path r) MissingReference) (sym c.deref-2.ensures.value)
    ∙ c.in_ok-are_valid.ensures w is in (
      pass _ _ few ∙ pass _ _ c.in_ok-is_archive.ensures ∙ pass _ _ c.in_ok-has_digest.ensures
          ∙ pass _ _ c.in_ok-refers_to_others.ensures ∙ pass _ _ c.in_ok-is_verified.ensures
          ∙ pass _ _ c.in_ok-outputs.ensures.0 ∙ pass _ _ present,
      c.in_ok-outputs.ensures.1,
    )

pub returns-clause-formed : goal.returns-clause-formed
returns-clause-formed c = record {
  path = c.has_base_names.ensures.path;
  deriver = c.has_base_names.ensures.deriver;
  nar = c.requires.bytes;
}

pub returns-clause-hash : goal.returns-clause-hash
returns-clause-hash c =
    let i = delivered_view c.args.import.now in
    sym (same_is (sha256 i.nar) i.nar_hash
    (met (same (sha256 i.nar) i.nar_hash) NarHashMismatch c.in_ok-has_digest.ensures))
