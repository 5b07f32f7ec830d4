-- What a write or its failure leaves of the tables.
use Rattle.std.proofs.Common.{◌≡◌, ℕ, false, List, refl, sym, ap, subst, ◌∙◌, inl, inr, IsTrue, arith, Result, Ok, Err}
use Rattle.sqlite_trees.specs.declared.store.Store.{Ghosts}
use Rattle.sqlite_trees.specs.Tree.{Trees}
use Rattle.sqlite.specs.Effect.{Database}
use Rattle.sqlite.specs.State.{State, HasCleanDisk, Survives}
use Rattle.sqlite.specs.Held.{Held, state}
use Rattle.tables_sql.specs.Contents.{Contents, contents_of}
use Rattle.tables_sql.specs.Calls.{IsWhole, KeepsShown, LeavesRows}
use Rattle.tables_sql.proofs.Steps.{ready_after}
use Rattle.tables_sql.specs.declared.failure.Failed.{Failed}
use Rattle.model.specs.World.{World}
use Rattle.model.specs.Sound.{IsSound}
use Rattle.tables_world.specs.Worlds.{IsSoundContents, world_in}
use Rattle.tables_outline.specs.Outline.{OutlineValue, outline_of}
use Rattle.tables_rows.specs.Reasons.{Rows, IsReason}
use Rattle.tables_writes.specs.Writes.{CommitsRows, CommitsChange, StaysSound}
use Rattle.tables_writes.specs.TablesValue.{TablesValue, AreOutlined, Agrees, HasWorld, IsWritten, LeavesWorld}
use Rattle.tables_writes.specs.Others.{KeepsOthers}

-- a change of rows makes this of the world that they show, and keeps them sound where that is
pub record Follows (dir : List ℕ) (f : Contents → Contents) (F : World → World) (c : Contents) : Type 0 where
  pub world : world_in (f c) ≡ F (world_in c)
  pub sound : IsSound dir (F (world_in c)) → IsSoundContents dir (f c)

-- the disk was clean before, if it is after
pub clean_before : (a b : State) (P : Trees → Type 0) → Survives a b P → HasCleanDisk b → HasCleanDisk a
clean_before a b P h clean = omega (arith, h.clean, clean)

module _ {S : Type 0} (g : Ghosts S) where
  -- the world of the rows is reported
  pub rows_reported : (k : TablesValue S) → Agrees g k → HasCleanDisk (state g k.connection)
      → IsTrue (state g k.connection).is_open → HasWorld g k (world_in (contents_of (state g k.connection).now))
  rows_reported k a clean is_open =
      let it = a.rows clean is_open in
      record { outline = it.same; rows = λ _ _. refl; sound = it.sound.world }

  -- ---- a write: of a connection and an outline that agree, as callers see them

  module _ (k now : TablesValue S) (view : k ≡ now) (conn : Held S) (outline : OutlineValue) (f : Contents → Contents)
      (F : World → World) (G : OutlineValue → OutlineValue)
      (law : (w : World) → outline_of (F w) ≡ G (outline_of w))
      (follows : HasCleanDisk (state g k.connection) → IsTrue (state g k.connection).is_open
      → Follows k.dir f F (contents_of (state g k.connection).now))
      (agrees : Agrees g k)
      (sound : (w : World) → HasWorld g now w → IsSound now.dir (F w))
    where
      sound_then : (w : World) → HasWorld g k w → IsSound k.dir (F w)
      sound_then = subst (λ (n : TablesValue S). (w : World) → HasWorld g n w → IsSound n.dir (F w)) (sym view) sound

      module _ (P : Trees → Type 0) (survives : Survives (state g k.connection) (state g conn) P)
          (written : HasCleanDisk (state g conn) → IsWritten (state g k.connection) (state g conn) f)
          (is : outline ≡ G k.outline) where
        outlined_after : HasCleanDisk (state g conn) → AreOutlined (state g conn) k.dir outline
        outlined_after clean =
            let it = written clean in
            let was = clean_before _ _ P survives clean in
            let old = agrees.rows was it.was_open in
            let by = follows was it.was_open in
            let c = contents_of (state g k.connection).now in
            let rows : IsSoundContents k.dir (f c) =
            by.sound (sound_then (world_in c) (rows_reported k agrees was it.was_open)) in
            record {
              ready = it.ready;
              whole = it.whole;
              sound = subst (IsSoundContents k.dir) (sym it.contents) rows;
              same =
                  ap (λ (x : Contents). outline_of (world_in x)) it.contents ∙ ap outline_of by.world ∙ law (world_in c)
                  ∙ ap G old.same ∙ sym is;
            }

        pub agrees_done : conn.in_transaction ≡ false
            → Agrees g (record { connection = conn; dir = k.dir; outline = outline })
        agrees_done idle = record { idle = idle; rows = λ clean _. outlined_after clean }

        reported_after : (w : World) → HasWorld g k w
            → HasWorld g (record { connection = conn; dir = k.dir; outline = outline }) (F w)
        reported_after w t = record {
          outline = law w ∙ ap G t.outline ∙ sym is;
          rows = λ clean _.
              let it = written clean in
              let was = clean_before _ _ P survives clean in
              ap world_in it.contents ∙ (follows was it.was_open).world ∙ ap F (t.rows was it.was_open);
          sound = sound_then w t;
        }

        pub reported_done : (w : World) → HasWorld g now w
            → HasWorld g (record { connection = conn; dir = k.dir; outline = outline }) (F w)
        reported_done =
            subst (λ (n : TablesValue S). (w : World) → HasWorld g n w
            → HasWorld g (record { connection = conn; dir = k.dir; outline = outline }) (F w)) view reported_after

      -- what a crash leaves of it
      module _ (survives : Survives (state g k.connection) (state g conn)
          (λ db. IsTrue (state g k.connection).is_open
          × LeavesRows (state g k.connection).now db (f (contents_of (state g k.connection).now)))) where
        leaves : (w : World) → HasWorld g k w → HasCleanDisk (state g conn) → IsTrue (state g k.connection).is_open
            → (db : Trees) → LeavesRows (state g k.connection).now db (f (contents_of (state g k.connection).now))
            → LeavesWorld k.dir (state g k.connection).now db (F w)
        leaves w t clean is_open db l =
            let was = clean_before _ _ _ survives clean in
            let by = follows was is_open in
            let c = contents_of (state g k.connection).now in
            record {
              sound =
                  subst (IsSoundContents k.dir) (sym l.rows.of_store)
                  (by.sound (sound_then (world_in c) (rows_reported k agrees was is_open)));
              world = ap world_in l.rows.of_store ∙ by.world ∙ ap F (t.rows was is_open);
              others =
                  record {
                    schema = refl;
                    listed = l.listed;
                    foreign_rows = l.rows.foreign_rows;
                    frozen = l.rows.frozen;
                  };
            }

        survives_as : (w : World) → HasWorld g k w
            → Survives (state g k.connection) (state g conn)
            (λ db. LeavesWorld k.dir (state g k.connection).now db (F w))
        survives_as w t = record {
          clean = survives.clean;
          shield = survives.shield;
          counts = survives.counts;
          limit = survives.limit;
          closes = survives.closes;
          crash =
              λ clean db left. elim (survives.crash clean db left) [
                | inl was ↦ inl was
                | inr l ↦ inr (leaves w t clean l.0 db l.1)
              ];
        }

        pub survives_reported : (w : World) → HasWorld g now w
            → Survives (state g now.connection) (state g conn)
            (λ db. LeavesWorld now.dir (state g now.connection).now db (F w))
        survives_reported =
            subst (λ (n : TablesValue S). (w : World) → HasWorld g n w
            → Survives (state g n.connection) (state g conn)
            (λ db. LeavesWorld n.dir (state g n.connection).now db (F w))) view survives_as

  -- ---- a write that failed

  module _ (k now : TablesValue S) (view : k ≡ now) (conn : Held S) (outline : OutlineValue)
      (agrees : Agrees g k)
      (P : Trees → Type 0) (survives : Survives (state g k.connection) (state g conn) P)
      (kept : HasCleanDisk (state g conn) → KeepsShown (state g k.connection) (state g conn))
      (is : outline ≡ k.outline)
    where
      pub agrees_failed : conn.in_transaction ≡ false
          → Agrees g (record { connection = conn; dir = k.dir; outline = outline })
      agrees_failed idle = record {
        idle = idle;
        rows = λ clean is_open.
            let it = kept clean in
            let old = agrees.rows (clean_before _ _ P survives clean) (it.was_open is_open) in
            let same : contents_of (state g k.connection).now ≡ contents_of (state g conn).now =
            ap contents_of (sym (it.now is_open)) in
            record {
              ready = ready_after (state g k.connection) (state g conn) (λ _. old.ready) it is_open;
              whole = subst IsWhole (sym (it.now is_open)) old.whole;
              sound = subst (IsSoundContents k.dir) same old.sound;
              same = ap (λ (x : Contents). outline_of (world_in x)) (sym same) ∙ old.same ∙ sym is;
            };
      }

      reported_still : (w : World) → HasWorld g k w
          → HasWorld g (record { connection = conn; dir = k.dir; outline = outline }) w
      reported_still w t = record {
        outline = t.outline ∙ sym is;
        rows = λ clean is_open.
            let it = kept clean in
            ap (λ (d : Database). world_in (contents_of d)) (it.now is_open)
            ∙ t.rows (clean_before _ _ P survives clean) (it.was_open is_open);
        sound = t.sound;
      }

      pub reported_failed : (w : World) → HasWorld g now w
          → HasWorld g (record { connection = conn; dir = k.dir; outline = outline }) w
      reported_failed =
          subst (λ (n : TablesValue S). (w : World) → HasWorld g n w
          → HasWorld g (record { connection = conn; dir = k.dir; outline = outline }) w) view reported_still

  -- ---- a write as a whole: what it makes of the rows, of the world and of the outline

  pub record IsWrite (k now : TablesValue S) (f : Contents → Contents) (F : World → World)
      (G : OutlineValue → OutlineValue) : Type 0 where
    pub view : k ≡ now
    pub law : (w : World) → outline_of (F w) ≡ G (outline_of w)
    pub follows : HasCleanDisk (state g k.connection) → IsTrue (state g k.connection).is_open
        → Follows k.dir f F (contents_of (state g k.connection).now)
    pub agrees : Agrees g k
    pub sound : StaysSound g now F

  module _ {k now : TablesValue S} {f : Contents → Contents} {F : World → World} {G : OutlineValue → OutlineValue}
      (w : IsWrite k now f F G) (conn : Held S) (outline : OutlineValue) where
    abbrev after : TablesValue S
    after = record { connection = conn; dir = k.dir; outline = outline }

    same_dir : k.dir ≡ now.dir
    same_dir = ap (λ (n : TablesValue S). n.dir) w.view

    module _ {T E : Type 0} (u : T) (rows : CommitsRows g {T = T} {E = E} k.connection conn (Ok u) f)
        (is : outline ≡ G k.outline) where
      pub write_agrees : Agrees g after
      write_agrees =
          agrees_done k now w.view conn outline f F G w.law w.follows w.agrees w.sound _ rows.survives rows.done is
          rows.idle

      pub write_commits : {U D : Type 0} (v : U) → CommitsChange g {T = U} {E = D} now after (Ok v) F
      write_commits v = record {
        dir = same_dir;
        done =
            reported_done k now w.view conn outline f F G w.law w.follows w.agrees w.sound _ rows.survives rows.done is;
        others =
            subst (λ (n : TablesValue S). HasCleanDisk (state g conn)
            → KeepsOthers (state g n.connection).now (state g conn).now) w.view rows.others;
        failed = tt;
        shown = λ _. tt;
        durable = rows.durable;
        was_open =
            subst (λ (n : TablesValue S). HasCleanDisk (state g conn)
            → IsTrue (state g n.connection).is_open × IsTrue (state g conn).is_open) w.view rows.was_open;
        survives = survives_reported k now w.view conn outline f F G w.law w.follows w.agrees w.sound rows.survives;
      }

    -- where it failed the outline is as before
    module _ {T E : Type 0} (e : E) (rows : CommitsRows g {T = T} {E = E} k.connection conn (Err e) f)
        (is : outline ≡ k.outline) where
      pub failure_agrees : Agrees g after
      failure_agrees = agrees_failed k now w.view conn outline w.agrees _ rows.survives rows.failed is rows.idle

      pub write_fails : {U D : Type 0} (d : D) → CommitsChange g {T = U} {E = D} now after (Err d) F
      write_fails d = record {
        dir = same_dir;
        done = tt;
        others = λ _. tt;
        failed = reported_failed k now w.view conn outline w.agrees _ rows.survives rows.failed is;
        shown =
            subst (λ (n : TablesValue S). HasCleanDisk (state g conn)
            → KeepsShown (state g n.connection) (state g conn)) w.view rows.failed;
        durable = tt;
        was_open = λ _. tt;
        survives = survives_reported k now w.view conn outline f F G w.law w.follows w.agrees w.sound rows.survives;
      }

  -- a change in other words
  pub rows_as : {T E : Type 0} {a b : Held S} {r : Result T E} (f h : Contents → Contents) → f ≡ h
      → CommitsRows g a b r f → CommitsRows g a b r h
  rows_as {a = a} {b = b} {r = r} f h = subst (λ (k : Contents → Contents). CommitsRows g a b r k)

  -- why it failed, as callers see it
  pub failure_seen : {k now : TablesValue S} (conn : Held S) (rows : Rows) (e : Failed) → k ≡ now
      → (HasCleanDisk (state g conn) → IsReason rows (state g k.connection) (state g conn) e)
      → HasCleanDisk (state g conn) → IsReason rows (state g now.connection) (state g conn) e
  failure_seen conn rows e =
      subst (λ (n : TablesValue S). HasCleanDisk (state g conn) → IsReason rows (state g n.connection) (state g conn) e)
