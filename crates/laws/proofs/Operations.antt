-- Which requests are plain.
use Rattle.std.proofs.Common.{◌≡◌, ◌⊎◌, inl, inr}
use Rattle.model.specs.Request.{add_text, add_source, import_object, info, nar, ls, list, list_live, list_dead}
use Rattle.model.specs.Request.{list_roots, list_roots_of, set_permanent, drop_permanent, set_user_root, drop_user_root}
use Rattle.model.specs.Request.{set_profile, rollback, switch, delete_generation, replace_runtime, add_temp}
use Rattle.model.specs.Request.{end_session, collect, delete, report}
use Rattle.laws.specs.ReadOnly.{OnlyReads}
use Rattle.laws.specs.Operations.{AddsByContents, ReadsAndAddsAlonePlain, PlainRequestsOnlyAdd}
use Rattle.laws.proofs.ObjectListings.{reporting_changes_nothing}

pub reads_and_adds : ReadsAndAddsAlonePlain
reads_and_adds (add_text name refs contents) e = inr tt
reads_and_adds (add_source name refs b) e = inr tt
reads_and_adds (import_object i) e = absurd (let is = e in cc)
reads_and_adds (info p) e = inl tt
reads_and_adds (nar p) e = inl tt
reads_and_adds (ls p) e = inl tt
reads_and_adds list e = inl tt
reads_and_adds list_live e = inl tt
reads_and_adds list_dead e = inl tt
reads_and_adds list_roots e = inl tt
reads_and_adds (list_roots_of p) e = inl tt
reads_and_adds (set_permanent name p) e = absurd (let is = e in cc)
reads_and_adds (drop_permanent name) e = absurd (let is = e in cc)
reads_and_adds (set_user_root owner name p) e = absurd (let is = e in cc)
reads_and_adds (drop_user_root owner name) e = absurd (let is = e in cc)
reads_and_adds (set_profile owner name p) e = absurd (let is = e in cc)
reads_and_adds (rollback owner name) e = absurd (let is = e in cc)
reads_and_adds (switch owner name n) e = absurd (let is = e in cc)
reads_and_adds (delete_generation owner name n) e = absurd (let is = e in cc)
reads_and_adds (replace_runtime pairs) e = absurd (let is = e in cc)
reads_and_adds (add_temp owner session p) e = absurd (let is = e in cc)
reads_and_adds (end_session owner session) e = absurd (let is = e in cc)
reads_and_adds (collect ignores limit) e = absurd (let is = e in cc)
reads_and_adds (delete named ignores) e = absurd (let is = e in cc)
reads_and_adds report e = inl tt

pub plain_only_add : PlainRequestsOnlyAdd
plain_only_add s w c q reply new step e = by (reads_and_adds q e)
  where
    by : OnlyReads q ⊎ AddsByContents q → (new ≡ w) ⊎ AddsByContents q
    by (inl reads) = inl (reporting_changes_nothing s w c q reply new step reads)
    by (inr adds) = inr adds
