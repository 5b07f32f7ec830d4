-- Reads inside a transaction. What a query shows of a connection is the same as if all had been committed, so what is
-- proved of a connection that is ready holds inside a transaction too.
use Rattle.std.proofs.Common.{◌≡◌, ◌⊎◌, inl, inr, ℕ, ◌+◌, ◌<◌, ◌∷◌, ◌++◌, ◌∙◌, take, drop, get_or, List, [], Bool}
use Rattle.std.proofs.Common.{IsTrue, None, Ok, Err, Result, IfOk, Vec, Global, map, length, refl, sym, ap, subst}
use Rattle.std.proofs.Common.{append-nil}
use Rattle.std.specs.Prelude.{IfErr, OnErr, IsSome}
use Rattle.std.proofs.lemmas.List.{take_more, take-append-drop}
use Rattle.std.specs.List.{AllZip}
use Rattle.std.specs.FinMap as finite
use Rattle.sqlite_value.specs.Order.{Row}
use Rattle.sqlite_sql.proofs.ProgramLemmas.{computes_weaker}
use Rattle.sqlite_schema.specs.declared.command.Returning.{Returning}
use Rattle.sqlite_schema.specs.declared.command.Command.{Command}
use Rattle.sqlite_schema.specs.declared.command.Command.TheVariants.{Select, Rows}
use Rattle.sqlite_schema.specs.Program.{lets_of}
use Rattle.sqlite_resolve.specs.declared.compiled.Compiled.{Compiled}
use Rattle.sqlite.specs.Clock.{timed}
use Rattle.sqlite.specs.declared.error.Error.{Error}
use Rattle.sqlite.specs.Effect.{Database, Reads, ReadsFirst}
use Rattle.sqlite.specs.Listing.{understood}
use Rattle.sqlite.specs.State.{State, HasCleanDisk, Survives, Shown, ShowsRows, Begins, IsUnchanged, IsStatement}
use Rattle.sqlite.specs.State.{IsTooLate, FailsToQuery}
use Rattle.tables_sql.specs.declared.failure.Failed.{Failed}
use Rattle.tables_sql.specs.declared.failure.Failed.TheVariants.{Memory, Disk}
use Rattle.tables_sql.specs.Contents.{contents_of}
use Rattle.tables_sql.specs.Queries.{IsSelect, HasBegunWith, IsAnswered}
use Rattle.tables_sql.specs.Failures.{IsQueryFailure, FailsFor}
use Rattle.tables_sql.specs.Calls.{IsReady, IsUnderWay}
use Rattle.tables_sql.proofs.ReadFailures.{understood_read}
use Rattle.tables_sql.proofs.Rising.{select_fails}
use Rattle.tables_sql.proofs.Statements.{Selects}
use Rattle.tables_sql.proofs.Alike.{all_made}
use Rattle.tables_sql.proofs.Description.{Description, Reading, Selection, selects, selects_not, never_amiss}
use Rattle.tables_rows.proofs.Clauses.{WasOwn, Rises, Amiss, IsReadFailure, early}

-- ---- a list, up to one of its items

pub prefix_more : {X : Type 0} (xs : List X) (i : ℕ) (x : X) → i < length xs → x ≡ get_or xs i x
    → xs ≡ (take i xs ++ x ∷ []) ++ drop (i + 1) xs
prefix_more xs i x h is =
    sym (take-append-drop (i + 1) xs)
    ∙ ap (λ l. l ++ drop (i + 1) xs) (take_more xs i x h ∙ ap (λ y. take i xs ++ y ∷ []) (sym is))

-- ---- what a SELECT shows, whose answer is known whole

-- each prefix of an answer begins it
prefix_read : (command : Command) (db : Database) (params : Row) (rows tail : List Row)
    → Reads command db params (rows ++ tail) → ReadsFirst command db params rows
prefix_read (Select q names) db params rows tail h =
    (h.typed, computes_weaker db.trees params (lets_of q) [] _ _ (λ all sure. (tail, sure)) h.answer)
prefix_read (Rows values width names) db params rows tail h = (tail, h)
prefix_read _ db params rows tail h = absurd h

module _ (text : List ℕ) (params : Row) (reads : IsSelect text) where
  silent : (s : State) (c : Compiled) → understood s.now.schema text ≡ Ok c → c.returning ≡ None
  silent s c is = understood_read reads.0 reads.1 reads.2 reads.3 reads.4 text reads.5 s.now.schema c is

  -- an answer begins with each prefix of its rows, and nothing changed
  pub begun : (old new : State) (front back : List Row) → Shown text params old new (front ++ back)
      → HasBegunWith text params old new front
  unfolding Shown Begins
  begun old new front back h =
      let none = silent old h.0 h.1.is in
      let full = timed params h.0.formats h.1.now in
      let it = subst (ShowsRows old new text h.0 full (front ++ back)) none h.2 in
      ((h.0, h.1, none, it.0, it.1, prefix_read h.0.command it.0 full front back it.2), it.3)

  pub answered : (old new : State) (rows : List Row) → Shown text params old new rows
      → IsAnswered text params old new rows
  answered old new rows h = (h, begun old new rows [] (subst (Shown text params old new) (sym (append-nil rows)) h))

  -- a query is never one of the writes that come too late
  pub never_late : (old new : State) (e : Error) → FailsToQuery text params old new e ⊎ IsTooLate text params old new e
      → FailsToQuery text params old new e
  never_late old new e (inl h) = h
  never_late old new e (inr h) =
      absurd (let none : IsSome {T = Returning} None = subst IsSome (silent old h.0 h.1.is) h.2 in cc)

  -- the entries that an answer shows, or why there are none
  pub shown_all : {T : Type 0} (ShowsItem : Row → T → Type 0) (old new : State) (rows : List Row)
      (r : Result (Vec T Global) Failed) → Shown text params old new rows
      → IfOk r (λ all. AllZip ShowsItem rows all.items)
      → IfOk r (λ all. (x : List Row) × IsAnswered text params old new x × AllZip ShowsItem x all.items)
  shown_all ShowsItem old new rows (Ok all) shown h = (rows, answered old new rows shown, h)
  shown_all ShowsItem old new rows (Err f) shown h = tt

  pub amiss_some : {T : Type 0} (Amiss : List Row → Type 0) (old new : State) (rows : List Row) (r : Result T Failed)
      → Shown text params old new rows
      → IfErr r (λ f. (front : List Row) × (back : List Row) × (rows ≡ front ++ back)
      × ((f ≡ Memory) ⊎ ((f ≡ Disk) × Amiss front)))
      → IfErr r (λ f. IsQueryFailure text params old new f
      ⊎ ((x : List Row) × HasBegunWith text params old new x × ((f ≡ Memory) ⊎ ((f ≡ Disk) × Amiss x))))
  amiss_some Amiss old new rows (Ok x) shown h = tt
  amiss_some Amiss old new rows (Err f) shown h =
      inr (h.0, begun old new h.0 h.1 (subst (Shown text params old new) h.2 shown), h.3)

pub always : {T E : Type 0} (r : Result T E) (P : Type 0) → P → OnErr r P
always (Ok x) P h = tt
always (Err e) P h = h

-- ---- as if all had been committed

abbrev pub settled : State → State
settled s = record s { committed = s.now }

module _ (text : List ℕ) (params : Row) (reads : IsSelect text) (old new : State) where
  unchanged_alike : IsUnchanged old new → IsUnchanged (settled old) (settled new)
  unchanged_alike h = (
    record {
      was_open = h.0.was_open;
      is_open = h.0.is_open;
      now_is = h.0.now_is;
      committed_is = h.0.now_is;
      mode = h.0.mode;
    },
    record { changes = h.1.changes; last_rowid = h.1.last_rowid },
    h.2,
  )

  statement : (c : Compiled) → IsStatement old text params c → IsStatement (settled old) text params c
  statement c it = record { is = it.is; whole = it.whole; given = it.given; now = it.now }

  begun_alike : (rows : List Row) → HasBegunWith text params old new rows
      → HasBegunWith text params (settled old) (settled new) rows
  unfolding Begins statement
  begun_alike rows h = ((h.0.0, statement h.0.0 h.0.1, h.0.2, h.0.3, h.0.4, h.0.5), unchanged_alike h.1)

  shown_alike : (rows : List Row) → Shown text params old new rows → Shown text params (settled old) (settled new) rows
  unfolding Shown statement
  shown_alike rows h =
      let none = silent text params reads old h.0 h.1.is in
      let full = timed params h.0.formats h.1.now in
      let it = subst (ShowsRows old new text h.0 full rows) none h.2 in
      let kept : ShowsRows (settled old) (settled new) text h.0 full rows None =
      (it.0, it.1, it.2, unchanged_alike it.3) in
      (h.0, statement h.0 h.1, subst (ShowsRows (settled old) (settled new) text h.0 full rows) (sym none) kept)

  selects_alike : {T : Type 0} (ShowsItem : Row → T → Type 0) (r : Result (Vec T Global) Failed)
      → Selects ShowsItem old new text params r → Selects ShowsItem (settled old) (settled new) text params r
  selects_alike ShowsItem (Err f) h = tt
  selects_alike ShowsItem (Ok all) h = (h.0, (shown_alike h.0 h.1.0, begun_alike h.0 h.1.1), h.2)

-- ---- what is read of a described table

module _ {K X T : Type 0} {d : Description K X} {ShowsItem : Row → T → Type 0} {item : T → K × X}
    {IsLegible : Row → Type 0}
    {q : Reading d ShowsItem item IsLegible} {old new : State} {text : List ℕ} {params : Row} {test : K → Bool}
    (s : Selection d q text params test)
    (survives : Survives old new (λ _. ⊥)) (under : HasCleanDisk old → IsUnderWay old) (own : WasOwn d old)
    (clean : HasCleanDisk new) where
  ready : IsTrue old.is_open → IsReady (settled old)
  ready up = record { of_store = (under (early survives clean)).of_store up; settled = refl }

  -- the entries of this part of the keys, in order
  pub selects_within : (r : Result (Vec T Global) Failed) → Selects ShowsItem old new text params r → Rises d item r
      → IfOk r (λ all. IsUnchanged old new
      × (map item all.items ≡ finite.entries (finite.retain_keys (d.of (contents_of old.now)) test)))
  selects_within (Err f) got up = tt
  selects_within (Ok all) got up =
      let read =
      selects d q (settled old) (settled new) s ready (own (early survives clean)) (Ok all)
      (selects_alike text params s.reads old new ShowsItem (Ok all) got) up in
      (got.1.1.1, read.1 ∙ all_made d.order _)

  -- why they aren't read
  pub fails_within : (r : Result (Vec T Global) Failed)
      → IfErr r (IsReadFailure old new text params (Amiss d ShowsItem item IsLegible)) → IfErr r (FailsFor old new)
  fails_within r =
      let before = early survives clean in
      select_fails r old new text params _
      (selects_not d q old new s (λ up. d.within old.now ((under before).of_store up) (own before up)))
      (λ rows begun. never_amiss d q (settled old) (settled new) s ready (own before) rows
      (begun_alike text params s.reads old new rows begun))
