-- What a call on a described table promises, by what its one statement gave. The disk is clean after the call, and so
-- it was before.
use Rattle.std.proofs.Common.{◌≡◌, ℕ, List, Bool, IsTrue, true, ◌⊎◌, Ok, Result, IfOk, Vec, Global, map, length, None}
use Rattle.std.proofs.Common.{arith, not, sym, subst, ◌∙◌}
use Rattle.std.specs.Prelude.{IfErr, OnOk, IsSome}
use Rattle.std.specs.Ordering.{is_lt}
use Rattle.std.specs.FinMap as finite
use Rattle.std.specs.List.{AllByRecursion, AllAdjacentBelow}
use Rattle.sqlite_value.specs.Order.{Row}
use Rattle.sqlite_schema.specs.declared.schema.Table.{Table}
use Rattle.sqlite.specs.Effect.{Database}
use Rattle.sqlite.specs.State.{State, HasCleanDisk, Survives, ExecutesInside, IsUnchanged}
use Rattle.tables_sql.specs.declared.failure.Failed.{Failed}
use Rattle.tables_sql.specs.declared.failure.Failed.TheVariants.{Memory, Disk}
use Rattle.tables_sql.specs.Calls.{IsReady, IsUnderWay, Changes, KeepsShown, HasFurther}
use Rattle.tables_sql.specs.Contents.{contents_of}
use Rattle.tables_sql.specs.Texts.{IsReadable}
use Rattle.tables_sql.specs.Failures.{FailsFor, FailsToInsert, IsQueryFailure, IsDeletionFailure, IsAdditionFailure}
use Rattle.tables_sql.specs.Queries.{HasBegunWith}
use Rattle.tables_sql.specs.Rowids.{NumbersOn}
use Rattle.tables_sql.specs.Reading.{IsAmiss}
use Rattle.tables_sql.proofs.Rising.{select_fails}
use Rattle.tables_sql.proofs.Scans.{on_ok}
use Rattle.tables_sql.proofs.Sizes.{addition_failed}
use Rattle.tables_sql.proofs.Statements.{Selects}
use Rattle.tables_sql.proofs.Steps.{ready_after}
use Rattle.tables_sql.proofs.WriteFailures.{removal_failed}
use Rattle.tables_sql.proofs.Alike.{made, all_made}
use Rattle.tables_sql.proofs.Description.{Description, Addition, Removal, Part, PartReading, Reading, Selection, form}
use Rattle.tables_sql.proofs.Description.{adds, adds_number, adds_not, removes, removes_number, removes_not, selects}
use Rattle.tables_sql.proofs.Description.{selects_not, never_amiss, reported_as, with_all, keys_of}

pub early : {old new : State} → Survives old new (λ _. ⊥) → HasCleanDisk new → HasCleanDisk old
early {old} {new} survives clean = omega (arith, survives.clean, clean)

-- the connection was ready, and the table as its description asks
abbrev pub WasReady : State → Type 0
WasReady old = HasCleanDisk old → IsTrue old.is_open → IsReady old

abbrev pub WasOwn : {K X : Type 0} → Description K X → State → Type 0
WasOwn d old = HasCleanDisk old → IsTrue old.is_open → d.IsOwn old.now

-- ---- reading

-- the keys of what was read rise
abbrev pub Rises : {K X Y T : Type 0} → Description K X → (T → K × Y) → Result (Vec T Global) Failed → Type 0
Rises d item r =
    IfOk r (λ all. AllAdjacentBelow (λ x y. true ≡ is_lt (d.order (item x).0 (item y).0)) all.items (length all.items))

-- what is amiss with the rows that were shown: one can't be read, or their keys don't rise
abbrev pub Amiss : {K X Y T : Type 0} → Description K X → (Row → T → Type 0) → (T → K × Y) → (Row → Type 0) → List Row
    → Type 0
Amiss d ShowsItem item IsLegible = IsAmiss IsLegible ShowsItem (λ x y. is_lt (d.order (item x).0 (item y).0))

-- why there is no answer
abbrev pub IsReadFailure : State → State → List ℕ → Row → (List Row → Type 0) → Failed → Type 0
IsReadFailure old new text params Bad f =
    IsQueryFailure text params old new f
    ⊎ ((rows : List Row) × HasBegunWith text params old new rows × ((f ≡ Memory) ⊎ ((f ≡ Disk) × Bad rows)))

module _ {K X Y T : Type 0} {d : Description K X} {p : Part d Y} {ShowsItem : Row → T → Type 0} {item : T → K × Y}
    {IsLegible : Row → Type 0}
    {q : PartReading d p ShowsItem item IsLegible} {old new : State} {text : List ℕ} {params : Row} where
  -- what a read of some of the keys, or of all, answers of the part that it shows
  pub reads_part : {test : K → Bool} → Selection d q text params test → Survives old new (λ _. ⊥) → WasReady old
      → WasOwn d old → HasCleanDisk new
      → (r : Result (Vec T Global) Failed) → Selects ShowsItem old new text params r → Rises d item r
      → IfOk r (λ all. IsUnchanged old new
      × (map item all.items ≡ map (made d.order p.of)
      (finite.entries (finite.retain_keys (d.of (contents_of old.now)) test))))
  reads_part s survives ready own clean =
      selects d q old new s (ready (early survives clean)) (own (early survives clean))

  pub reads_all_parts : Selection d q text params (λ _. true) → Survives old new (λ _. ⊥) → WasReady old → WasOwn d old
      → HasCleanDisk new
      → (r : Result (Vec T Global) Failed) → Selects ShowsItem old new text params r → Rises d item r
      → IfOk r (λ all. IsUnchanged old new
      × (map item all.items ≡ map (made d.order p.of) (finite.entries (d.of (contents_of old.now)))))
  reads_all_parts s survives ready own clean r got up =
      reported_as r _ item item _ _ (λ ts is. is ∙ with_all d (d.of (contents_of old.now)) p.of)
      (reads_part s survives ready own clean r got up)

  -- of the keys alone
  pub reads_keys : Selection d q text params (λ _. true) → Survives old new (λ _. ⊥) → WasReady old → WasOwn d old
      → HasCleanDisk new
      → (r : Result (Vec T Global) Failed) → Selects ShowsItem old new text params r → Rises d item r
      → IfOk r (λ all. IsUnchanged old new
      × (map (λ t. (item t).0) all.items ≡ finite.keys (d.of (contents_of old.now))))
  reads_keys s survives ready own clean r got up =
      reported_as r _ item (λ t. (item t).0) _ _ (keys_of d (d.of (contents_of old.now)) p.of item)
      (reads_all_parts s survives ready own clean r got up)

  -- why it fails
  pub fails_to_read : {test : K → Bool} → Selection d q text params test → Survives old new (λ _. ⊥) → WasReady old
      → WasOwn d old → HasCleanDisk new
      → (r : Result (Vec T Global) Failed)
      → IfErr r (IsReadFailure old new text params (Amiss d ShowsItem item IsLegible)) → IfErr r (FailsFor old new)
  fails_to_read s survives ready own clean r =
      let before = early survives clean in
      select_fails r old new text params _
      (selects_not d q old new s (λ up. d.within old.now (ready before up).of_store (own before up)))
      (never_amiss d q old new s (ready before) (own before))

-- of entries as they are
module _ {K X T : Type 0} {d : Description K X} {ShowsItem : Row → T → Type 0} {item : T → K × X}
    {IsLegible : Row → Type 0}
    {q : Reading d ShowsItem item IsLegible} {old new : State} {text : List ℕ} {params : Row} where
  pub reads : {test : K → Bool} → Selection d q text params test → Survives old new (λ _. ⊥) → WasReady old
      → WasOwn d old → HasCleanDisk new
      → (r : Result (Vec T Global) Failed) → Selects ShowsItem old new text params r → Rises d item r
      → IfOk r (λ all. IsUnchanged old new
      × (map item all.items ≡ finite.entries (finite.retain_keys (d.of (contents_of old.now)) test)))
  reads s survives ready own clean r got up =
      reported_as r _ item item _ _ (λ ts is. is ∙ all_made d.order _) (reads_part s survives ready own clean r got up)

  pub reads_all : Selection d q text params (λ _. true) → Survives old new (λ _. ⊥) → WasReady old → WasOwn d old
      → HasCleanDisk new
      → (r : Result (Vec T Global) Failed) → Selects ShowsItem old new text params r → Rises d item r
      → IfOk r (λ all. IsUnchanged old new × (map item all.items ≡ finite.entries (d.of (contents_of old.now))))
  reads_all s survives ready own clean r got up =
      reported_as r _ item item _ _ (λ ts is. is ∙ all_made d.order _)
      (reads_all_parts s survives ready own clean r got up)

-- what a connection shows stays, so it is ready as before
module _ {old new : State} (survives : Survives old new (λ _. ⊥)) (ready : WasReady old)
    (same : HasCleanDisk new → (IsTrue old.is_open → old.now ≡ old.committed) → KeepsShown old new)
    (clean : HasCleanDisk new) where
  pub shows_same : KeepsShown old new
  shows_same = same clean (λ up. (ready (early survives clean) up).settled)

  pub still_ready : IsTrue new.is_open → IsReady new
  still_ready = ready_after old new (ready (early survives clean)) shows_same

  pub still_exists : (t : Table) → (HasCleanDisk old → IsTrue old.is_open → HasFurther old.now t) → IsTrue new.is_open
      → HasFurther new.now t
  still_exists t exists up =
      subst (λ (db : Database). HasFurther db t) (sym (shows_same.now up))
      (exists (early survives clean) (shows_same.was_open up))

-- ---- one entry more

module _ {K X : Type 0} {d : Description K X} {old new : State} {text : List ℕ} {params values : Row} {k : K} {x : X}
    (a : Addition d text params values k x)
    (survives : Survives old new (λ _. ⊥)) (under : HasCleanDisk old → IsUnderWay old) (own : WasOwn d old)
    (clean : HasCleanDisk new) where
  abbrev Ran : Result (Unit {0}) Failed → Type 0
  Ran r = OnOk r ((count : ℕ) × ExecutesInside 0 text params old new (Ok count))

  pub puts : (r : Result (Unit {0}) Failed) → AllByRecursion IsReadable values → Ran r
      → OnOk r (Changes old new (λ c. d.put c (finite.insert (d.of c) k x)))
  puts r texts =
      on_ok r _ _ (λ ran. (adds d old new (under (early survives clean)) (own (early survives clean)) a ran.0 texts
      ran.1).1)

  pub puts_new : (r : Result (Unit {0}) Failed) → AllByRecursion IsReadable values → Ran r
      → OnOk r (finite.get (d.of (contents_of old.now)) k ≡ None)
  puts_new r texts =
      on_ok r _ _ (λ ran. (adds d old new (under (early survives clean)) (own (early survives clean)) a ran.0 texts
      ran.1).0)

  pub puts_number : (r : Result (Unit {0}) Failed) → Ran r → OnOk r (NumbersOn 1 old.now new.now)
  puts_number r =
      on_ok r _ _ (λ ran. adds_number d old new (under (early survives clean)) (own (early survives clean)) a ran.0
      ran.1)

  pub fails_to_put : (r : Result (Unit {0}) Failed) → IfErr r (IsAdditionFailure text params old new)
      → IfErr r (FailsToInsert (form d) values (IsSome (finite.get (d.of (contents_of old.now)) k)) old new)
  fails_to_put r cause =
      addition_failed r old new _ _ _ _ cause
      (λ e h. adds_not d old new (under (early survives clean)) (own (early survives clean)) a e h)

-- ---- those of a part of the keys gone

module _ {K X : Type 0} {d : Description K X} {old new : State} {text : List ℕ} {params : Row} {test : K → Bool}
    (r : Removal d text params test)
    (survives : Survives old new (λ _. ⊥)) (under : HasCleanDisk old → IsUnderWay old) (own : WasOwn d old)
    (clean : HasCleanDisk new) where
  pub takes : (result : Result (Unit {0}) Failed)
      → OnOk result ((count : ℕ) × ExecutesInside 0 text params old new (Ok count))
      → OnOk result (Changes old new (λ c. d.put c (finite.retain_keys (d.of c) (λ k. not (test k)))))
  takes result =
      on_ok result _ _ (λ ran. removes d old new (under (early survives clean)) (own (early survives clean)) r ran.0
      ran.1)

  pub takes_number : (result : Result (Unit {0}) Failed)
      → OnOk result ((count : ℕ) × ExecutesInside 0 text params old new (Ok count))
      → OnOk result (NumbersOn 0 old.now new.now)
  takes_number result =
      on_ok result _ _ (λ ran. removes_number d old new (under (early survives clean)) (own (early survives clean)) r
      ran.0 ran.1)

  pub fails_to_take : (result : Result (Unit {0}) Failed) → IfErr result (IsDeletionFailure text params old new)
      → IfErr result (FailsFor old new)
  fails_to_take result cause =
      removal_failed result old new _ _ cause
      (λ e h. removes_not d old new (under (early survives clean)) (own (early survives clean)) r e h)
