-- What each request needs of the disk.
use Rattle.std.proofs.Common.{◌≡◌, true, false, refl, IsTrue}
use Rattle.std.proofs.lemmas.Bool.{both_ways}
use Rattle.model.specs.Disk.{reads_disk, touches_disk, puts_rows}
use Rattle.model.specs.Request.{Request, add_text, add_source, import_object, info, nar, ls, list, list_live, list_dead}
use Rattle.model.specs.Request.{list_roots, list_roots_of, set_permanent, drop_permanent, set_user_root, drop_user_root}
use Rattle.model.specs.Request.{set_profile, rollback, switch, delete_generation, replace_runtime, add_temp}
use Rattle.model.specs.Request.{end_session, collect, delete, report}
use Rattle.laws.specs.ReadOnly.{OnlyReads}
use Rattle.laws.specs.DiskUse.{AsksForArchive, OnlyDeletes, UsesDisk, DiskIsUsedForAReason}

-- a request that is answered from memory
by_memory : (q : Request) → OnlyReads q → reads_disk q ≡ false → touches_disk q ≡ false → puts_rows q ≡ false
    → UsesDisk q
by_memory q only reads touches puts = record {
  memory = λ _ _. touches;
  archives = λ x. absurd (both_ways (reads_disk q) reads x);
  others = λ none. absurd (none only);
  puts = λ x. absurd (both_ways (puts_rows q) puts x);
}

-- one for an archive
by_disk : (q : Request) → OnlyReads q → AsksForArchive q → puts_rows q ≡ false → UsesDisk q
by_disk q only asks puts = record {
  memory = λ _ none. absurd (none asks);
  archives = λ _. asks;
  others = λ none. absurd (none only);
  puts = λ x. absurd (both_ways (puts_rows q) puts x);
}

-- one that changes something
changing : (q : Request) → (OnlyReads q → ⊥) → reads_disk q ≡ false → touches_disk q ≡ true
    → (IsTrue (puts_rows q) → (OnlyReads q → ⊥) × (OnlyDeletes q → ⊥)) → UsesDisk q
changing q none reads touches puts = record {
  memory = λ only _. absurd (none only);
  archives = λ x. absurd (both_ways (reads_disk q) reads x);
  others = λ _. touches;
  puts = puts;
}

pub uses_disk : DiskIsUsedForAReason
uses_disk (add_text name refs contents) =
    changing (add_text name refs contents) (λ h. h) refl refl (λ x. ((λ h. h), (λ h. h)))
uses_disk (add_source name refs b) = changing (add_source name refs b) (λ h. h) refl refl (λ x. ((λ h. h), (λ h. h)))
uses_disk (import_object i) = changing (import_object i) (λ h. h) refl refl (λ x. ((λ h. h), (λ h. h)))
uses_disk (info p) = by_memory (info p) tt refl refl refl
uses_disk (nar p) = by_disk (nar p) tt tt refl
uses_disk (ls p) = by_disk (ls p) tt tt refl
uses_disk list = by_memory list tt refl refl refl
uses_disk list_live = by_memory list_live tt refl refl refl
uses_disk list_dead = by_memory list_dead tt refl refl refl
uses_disk list_roots = by_memory list_roots tt refl refl refl
uses_disk (list_roots_of p) = by_memory (list_roots_of p) tt refl refl refl
uses_disk (set_permanent name p) = changing (set_permanent name p) (λ h. h) refl refl (λ x. ((λ h. h), (λ h. h)))
uses_disk (drop_permanent name) =
    changing (drop_permanent name) (λ h. h) refl refl (λ x. absurd (both_ways (puts_rows (drop_permanent name)) refl x))
uses_disk (set_user_root owner name p) =
    changing (set_user_root owner name p) (λ h. h) refl refl (λ x. ((λ h. h), (λ h. h)))
uses_disk (drop_user_root owner name) =
    changing (drop_user_root owner name) (λ h. h) refl refl
    (λ x. absurd (both_ways (puts_rows (drop_user_root owner name)) refl x))
uses_disk (set_profile owner name p) =
    changing (set_profile owner name p) (λ h. h) refl refl (λ x. ((λ h. h), (λ h. h)))
uses_disk (rollback owner name) = changing (rollback owner name) (λ h. h) refl refl (λ x. ((λ h. h), (λ h. h)))
uses_disk (switch owner name n) = changing (switch owner name n) (λ h. h) refl refl (λ x. ((λ h. h), (λ h. h)))
uses_disk (delete_generation owner name n) =
    changing (delete_generation owner name n) (λ h. h) refl refl
    (λ x. absurd (both_ways (puts_rows (delete_generation owner name n)) refl x))
uses_disk (replace_runtime pairs) = changing (replace_runtime pairs) (λ h. h) refl refl (λ x. ((λ h. h), (λ h. h)))
uses_disk (add_temp owner session p) =
    changing (add_temp owner session p) (λ h. h) refl refl (λ x. ((λ h. h), (λ h. h)))
uses_disk (end_session owner session) =
    changing (end_session owner session) (λ h. h) refl refl
    (λ x. absurd (both_ways (puts_rows (end_session owner session)) refl x))
uses_disk (collect ignores limit) =
    changing (collect ignores limit) (λ h. h) refl refl
    (λ x. absurd (both_ways (puts_rows (collect ignores limit)) refl x))
uses_disk (delete named ignores) =
    changing (delete named ignores) (λ h. h) refl refl
    (λ x. absurd (both_ways (puts_rows (delete named ignores)) refl x))
uses_disk report = by_memory report tt refl refl refl
