-- What only reports changes nothing, and a listing is that of the object's tree.
use Rattle.std.proofs.Common.{◌≡◌, [], Some, None, Option, refl, ap, ◌∙◌, IsTrue}
use Rattle.std.specs.Prelude.{is_some, codes}
use Rattle.std.specs.FinMap as finite
use Rattle.std.proofs.lemmas.Bool.{false≢true}
use Rattle.nar.specs.Tree.{Tree}
use Rattle.nar.specs.Archive.{IsArchive}
use Rattle.nar.specs.Listing.{listing}
use Rattle.nar.specs.Outcome.{outcome_of}
use Rattle.policy.specs.Settings.{Settings}
use Rattle.model.specs.World.{Object, World, has}
use Rattle.tables_world.proofs.Recorded.{archive_is_read}
use Rattle.model.specs.Request.{Request, info, nar, ls, list, list_live, list_dead, list_roots, list_roots_of, report}
use Rattle.model.specs.Reply.{listing_of, done, denied, refused, failed}
use Rattle.model.specs.Answers.{archive_at, listing_at}
use Rattle.model.specs.Effects.{effect}
use Rattle.laws.specs.ReadOnly.{OnlyReads, ReadingChangesNothing, ListingsAreTheObjects}
use Rattle.model.proofs.Passed.{met, passed}

-- ---- nothing changes

unchanged : (s : Settings) (w : World) (q : Request) → OnlyReads q → effect s w q ≡ w
unchanged s w (info p) h = refl
unchanged s w (nar p) h = refl
unchanged s w (ls p) h = refl
unchanged s w list h = refl
unchanged s w list_live h = refl
unchanged s w list_dead h = refl
unchanged s w list_roots h = refl
unchanged s w (list_roots_of p) h = refl
unchanged s w report h = refl
unchanged s w _ h = absurd h

pub reporting_changes_nothing : ReadingChangesNothing
reporting_changes_nothing s w c q (done a) new step h = step.3 ∙ unchanged s w q h
reporting_changes_nothing s w c q (denied rule root) new step h = step.2
reporting_changes_nothing s w c q (refused r) new step h = step.2
reporting_changes_nothing s w c q (failed f) new step h = step.1

-- ---- listings

pub listings_are_the_objects : ListingsAreTheObjects
listings_are_the_objects s w c p a new sound h = by (finite.get w.objects p) refl (met (has w p) _ (passed _ [] h.1).0)
  where
    by : (o : Option Object) → finite.get w.objects p ≡ o → IsTrue (is_some o)
        → (x : Object) × (t : Tree) × (finite.get w.objects p ≡ Some x) × IsArchive t x.nar
        × (a ≡ listing_of (listing (codes ".") t))
    by None e v = absurd (false≢true v)
    by (Some o) e v =
        let is = sound.objects p o e in (
          o,
          is.tree,
          e,
          is.archive,
          h.2 ∙ ap (λ x. listing_of (listing_at (outcome_of (archive_at x)))) e
              ∙ ap (λ r. listing_of (listing_at r)) (archive_is_read is.tree o.nar is.archive),
        )
