-- What the values of the program stand for.
use Rattle.std.specs.Prelude.{map, option_map, string_bytes}
use Rattle.policy.specs.Caller.{Caller}
use Rattle.model.specs.Request as asked
use Rattle.model.specs.Reply as replied
use Rattle.tables_outline.specs.Maps.{labelled_bytes}
use Rattle.intake.specs.Arrival.{bytes_in}
use Rattle.tables_sql.specs.declared.failure.Failed.{Failed}
use Rattle.tables_sql.specs.declared.failure.Failed.TheVariants.{Memory, Size, Disk}
use Rattle.store_types.specs.declared.requests.Imported.{Imported}
use Rattle.store_types.specs.declared.requests.Request.{Request}
use Rattle.store_types.specs.declared.requests.Request.TheVariants.{AddText, Info as InfoOf, Nar, Ls, List as ListAll}
use Rattle.store_types.specs.declared.requests.Request.TheVariants.{Live, Dead, ListRoots, RootsOf, Report}
use Rattle.store_types.specs.declared.requests.Request.TheVariants.{SetPermanent, DropPermanent, SetUserRoot}
use Rattle.store_types.specs.declared.requests.Request.TheVariants.{DropUserRoot, Rollback, Switch, DeleteGeneration}
use Rattle.store_types.specs.declared.requests.Request.TheVariants.{SetProfile, AddTemp, EndSession, ReplaceRuntime}
use Rattle.store_types.specs.declared.requests.Request.TheVariants.{AddSource, Import, Collect, Delete}
use Rattle.store_types.specs.declared.replies.Info.{Info}
use Rattle.store_types.specs.declared.replies.Usage.{Usage}
use Rattle.store_types.specs.declared.replies.Answer.{Answer}
use Rattle.store_types.specs.declared.replies.Answer.TheVariants.{Path, Record, Archive, Listing, Paths, Roots, Changed}
use Rattle.store_types.specs.declared.replies.Answer.TheVariants.{Generation, RuntimeCount, TemporaryCount, Freed}
use Rattle.store_types.specs.declared.replies.Answer.TheVariants.{Usage as UsageOf}
use Rattle.store_types.specs.declared.replies.Reply.{Reply}
use Rattle.store_types.specs.declared.replies.Reply.TheVariants.{Done, Denied, Refused, Failed as failing}

-- what is passed with its path; without bytes if its intake is spent (`Spent`)
abbrev pub import_view : Imported → asked.Imported
import_view i =
    record {
      path = i.path;
      nar_hash = i.nar_hash;
      refs = i.refs.items;
      deriver = i.deriver;
      ca = i.ca;
      nar = bytes_in i.nar;
    }

abbrev pub request_view : Request → asked.Request
request_view (AddText name refs contents) = asked.add_text name refs.items contents.items
request_view (InfoOf p) = asked.info p
request_view (Nar p) = asked.nar p
request_view (Ls p) = asked.ls p
request_view ListAll = asked.list
request_view Live = asked.list_live
request_view Dead = asked.list_dead
request_view ListRoots = asked.list_roots
request_view (RootsOf p) = asked.list_roots_of p
request_view Report = asked.report
request_view (SetPermanent name p) = asked.set_permanent (string_bytes name) p
request_view (DropPermanent name) = asked.drop_permanent (string_bytes name)
request_view (SetUserRoot owner name p) = asked.set_user_root (string_bytes owner) (string_bytes name) p
request_view (DropUserRoot owner name) = asked.drop_user_root (string_bytes owner) (string_bytes name)
request_view (Rollback owner name) = asked.rollback (string_bytes owner) (string_bytes name)
request_view (Switch owner name n) = asked.switch (string_bytes owner) (string_bytes name) n
request_view (DeleteGeneration owner name n) = asked.delete_generation (string_bytes owner) (string_bytes name) n
request_view (SetProfile owner name p) = asked.set_profile (string_bytes owner) (string_bytes name) p
request_view (AddTemp owner session p) = asked.add_temp (string_bytes owner) session p
request_view (EndSession owner session) = asked.end_session (string_bytes owner) session
request_view (ReplaceRuntime pairs) = asked.replace_runtime (map labelled_bytes pairs.items)
request_view (AddSource name refs nar) = asked.add_source name refs.items (bytes_in nar)
request_view (Import p hash refs deriver ca nar) =
    asked.import_object
    (record { path = p; nar_hash = hash; refs = refs.items; deriver = deriver; ca = ca; nar = bytes_in nar })
request_view (Collect ignores limit) = asked.collect ignores limit
request_view (Delete named ignores) = asked.delete named.items ignores

-- a caller's request
abbrev pub call_view : Caller × Request → Caller × asked.Request
call_view call = (call.0, request_view call.1)

-- the record of an object
abbrev pub info_view : Info → replied.Info
info_view i =
    record {
      path = i.path;
      hash = i.hash;
      size = i.size;
      references = i.references.items;
      deriver = i.deriver;
      ca = i.ca;
    }

-- a number of paths and the sum of their bytes
abbrev pub usage_view : Usage → replied.Usage
usage_view u = record { paths = u.paths; bytes = u.bytes }

abbrev pub answer_view : Answer → replied.Answer
answer_view (Path p) = replied.path p
answer_view (Record i) = replied.record_of (info_view i)
answer_view (Archive b) = replied.archive_of b
answer_view (Listing text) = replied.listing_of (string_bytes text)
answer_view (Paths ps) = replied.paths ps.items
answer_view (Roots rs) = replied.roots (map labelled_bytes rs.items)
answer_view Changed = replied.changed
answer_view (Generation n) = replied.generation n
answer_view (RuntimeCount n) = replied.runtime_count n
answer_view (TemporaryCount n) = replied.temporary_count n
answer_view (Freed ps n) = replied.freed ps.items n
answer_view (UsageOf live dead total) = replied.usage (usage_view live) (usage_view dead) (usage_view total)

-- what a call ran out of, or what failed
abbrev pub failure_view : Failed → replied.Failed
failure_view Memory = replied.memory
failure_view Size = replied.size
failure_view Disk = replied.disk

abbrev pub reply_view : Reply → replied.Reply
reply_view (Done a) = replied.done (answer_view a)
reply_view (Denied rule root) = replied.denied rule (option_map labelled_bytes root)
reply_view (Refused r) = replied.refused r
reply_view (failing f) = replied.failed (failure_view f)
