-- A profile that is set to a path, in other words.
use Rattle.std.proofs.Common.{◌≡◌, Result, Ok, Err, sym, ap, subst}
use Rattle.std.specs.Prelude.{OnOk}
use Rattle.std.specs.FinMap as finite
use Rattle.sqlite_trees.specs.declared.store.Store.{Ghosts}
use Rattle.sqlite.specs.State.{Survives}
use Rattle.sqlite.specs.Held.{state}
use Rattle.model.specs.World.{World, Path, Pair, Profile}
use Rattle.model.specs.Profiles.{set_to}
use Rattle.model.specs.Sound.{IsSound}
use Rattle.tables_outline.specs.Outline.{OutlineValue, profile_of}
use Rattle.tables_writes.specs.Entries.{with_profile_by}
use Rattle.tables_writes.specs.Writes.{CommitsChange}
use Rattle.tables_writes.specs.TablesValue.{TablesValue, HasWorld, LeavesWorld}

on_ok_as : {A E P Q : Type 0} (r : Result A E) → (P → Q) → OnOk r P → OnOk r Q
on_ok_as (Ok v) f h = f h
on_ok_as (Err e) f h = h

-- a change that is this one of the profile as it is
module _ {S : Type 0} (g : Ghosts S) (old : TablesValue S) (owned : Pair) (t : Path) (next : Profile → Profile)
    (same : next (profile_of old.outline owned) ≡ set_to (profile_of old.outline owned) t) where
  abbrev given : World → World
  given = with_profile_by owned next

  abbrev wanted : World → World
  wanted = with_profile_by owned (λ p. set_to p t)

  same_at : (w : World) → HasWorld g old w → given w ≡ wanted w
  same_at w reported =
      ap (λ (p : Profile). record w { profiles = finite.insert w.profiles owned p })
      (subst (λ (o : OutlineValue). next (profile_of o owned) ≡ set_to (profile_of o owned) t) (sym reported.outline)
      same)

  pub set_sound : ((w : World) → HasWorld g old w → IsSound old.dir (wanted w)) → (w : World) → HasWorld g old w
      → IsSound old.dir (given w)
  set_sound sound w reported = subst (IsSound old.dir) (sym (same_at w reported)) (sound w reported)

  pub set_commits : {A E : Type 0} (r : Result A E) (new : TablesValue S) → CommitsChange g old new r given
      → CommitsChange g old new r wanted
  set_commits r new h = record {
    dir = h.dir;
    done = on_ok_as r (λ k w reported. subst (HasWorld g new) (same_at w reported) (k w reported)) h.done;
    others = h.others;
    failed = h.failed;
    shown = h.shown;
    durable = h.durable;
    was_open = h.was_open;
    survives =
        λ w reported. subst (λ (x : World). Survives (state g old.connection) (state g new.connection)
        (λ db. LeavesWorld old.dir (state g old.connection).now db x)) (same_at w reported) (h.survives w reported);
  }
