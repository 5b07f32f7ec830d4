-- Why a write of the store's own fails inside a transaction: only the store, and what may refuse this one command.
use Rattle.std.proofs.Common.{◌≡◌, ◌≢◌, ◌⊎◌, inl, inr, ℕ, List, [], Bool, true, false, Result, Ok, Err, Some, None}
use Rattle.std.proofs.Common.{Option, length, append-nil, ◌||◌, sym, ap, subst, ◌∙◌, refl, IsTrue}
use Rattle.std.specs.Prelude.{MatchBool, ◌≤◌, IfErr, IsSome}
use Rattle.std.proofs.lemmas.Bool.{both_ways, leb-true}
use Rattle.sqlite_value.specs.Order.{Row}
use Rattle.sqlite_schema.specs.declared.schema.Column.{Column}
use Rattle.sqlite_schema.specs.declared.command.Command.{Command}
use Rattle.sqlite_schema.specs.declared.command.Command.TheVariants.{Insert, Delete, CreateTable}
use Rattle.sqlite_resolve.specs.declared.compiled.Compiled.{Compiled}
use Rattle.sqlite_resolve.specs.declared.error.CompileError.{CompileError}
use Rattle.sqlite.specs.declared.error.Error.{Error}
use Rattle.sqlite.specs.declared.error.Error.TheVariants.{ExecuteReturnedResults}
use Rattle.sqlite.specs.Effect.{is_query}
use Rattle.sqlite.specs.Clock.{timed}
use Rattle.sqlite.specs.Does.{Does}
use Rattle.sqlite.specs.Listing.{understood}
use Rattle.sqlite.specs.State.{State, IsUnchanged, IsNotRun, IsNoStatement, IsMisplaced, IsStatement, ExecutesIn}
use Rattle.sqlite.specs.State.{ExecutesInside, RunsCommand, EndsScope, Escapes, is_pragma, shows_rows, mode_of, text_of}
use Rattle.tables_sql.specs.declared.failure.Failed.{Failed}
use Rattle.tables_sql.specs.declared.failure.Failed.TheVariants.{Memory, Size, Disk}
use Rattle.tables_schema.specs.Forms.{strict}
use Rattle.tables_schema.specs.Intact.{IsIntact, tree_named}
use Rattle.tables_sql.specs.Failures.{failure_of, FailsWith, IsDeletionFailure, without_size}
use Rattle.tables_sql.proofs.Means.{IsMeant}
use Rattle.tables_sql.proofs.ReadFailures.{store_failed}
use Rattle.tables_sql.proofs.Statements.{Compiles}

-- what is known of a text that is one write: it shows no row and reads no clock
pub record IsWrite (old : State) (text : List ℕ) (params : Row) (command : Command) : Type 0 where
  pub compiled : Compiled
  pub is : understood old.now.schema text ≡ Ok compiled
  pub command_is : compiled.command ≡ command
  pub silent : compiled.returning ≡ None
  pub bare : compiled.formats ≡ []
  pub whole : length text ≤ compiled.tail
  pub given : length params ≡ length compiled.names

-- so much is known of a text by what it means
abbrev pub is_write : (old : State) (text : List ℕ) (params : Row) (command : Command) {count : ℕ}
    → length params ≡ count → IsMeant old.now.schema text count command → IsWrite old text params command
is_write old text params command given c =
    record {
      compiled = c.0;
      is = c.1.0;
      command_is = c.2;
      silent = c.3;
      bare = c.4;
      whole = leb-true _ _ c.5;
      given = given ∙ sym c.6;
    }

-- the command changes the rows of one table, or makes one
abbrev pub changes : Command → Bool
changes (Insert at from) = true
changes (Delete at q) = true
changes CreateTable = true
changes _ = false

-- how it may stop: at a row that is too large, or refused with an error that is reported as the disk's
abbrev pub MayStop : (large refused : Type 0) → Option Error → Type 0
MayStop large refused None = large
MayStop large refused (Some e) = (failure_of e ≡ Disk) × refused

-- what a shut connection answers says nothing of its cause
abbrev pub OrShut : State → Type 0 → Type 0
OrShut s large = large ⊎ (s.is_open ≡ false)

is_other : (command other : Command) → changes command ≡ true → changes other ≡ false → command ≢ other
is_other command other writes quiet same = absurd (let e = sym writes ∙ ap changes same ∙ quiet in cc)

no_misplaced : (s : State) (command : Command) (e : Error) → changes command ≡ true → IsMisplaced s command e → ⊥
no_misplaced s command e writes (inl (is, inl h)) = is_other command _ writes refl h.0
no_misplaced s command e writes (inl (is, inr (inl c, h))) = is_other command _ writes refl c
no_misplaced s command e writes (inl (is, inr (inr c, h))) = is_other command _ writes refl c
no_misplaced s command e writes (inr (is, name, inl c, h)) = is_other command _ writes refl c
no_misplaced s command e writes (inr (is, name, inr c, h)) = is_other command _ writes refl c

stays_inside : (s : State) (command : Command) → changes command ≡ true → Escapes 0 s command → ⊥
stays_inside s command writes (inl (inl c)) = is_other command _ writes refl c
stays_inside s command writes (inl (inr c)) = is_other command _ writes refl c
stays_inside s command writes (inr (name, inl c, h)) = is_other command _ writes refl c
stays_inside s command writes (inr (name, inr c, h)) = is_other command _ writes refl c

shows_none : (c : Compiled) → changes c.command ≡ true → c.returning ≡ None → shows_rows false c ≡ false
shows_none c writes silent = rw silent (quiet c.command writes)
  where
    quiet : (command : Command) → changes command ≡ true → (is_query command || (is_pragma command || false)) ≡ false
    quiet (Insert at from) h = refl
    quiet (Delete at q) h = refl
    quiet CreateTable h = refl
    quiet _ h = absurd (let e = h in cc)

-- ---- the call was refused

refuses : (old new : State) (large refused : Type 0) (e : Error) → IsUnchanged old new → (failure_of e ≡ Disk) × refused
    → FailsWith old new large refused (failure_of e)
refuses old new large refused e same h = subst (FailsWith old new large refused) (sym h.0) (inr (h.1, same))

module _ (old new : State) (text : List ℕ) (params : Row) (command : Command) (writes : changes command ≡ true)
    (large refused : Type 0)
    (known : IsTrue old.is_open → IsWrite old text params command)
    (stops : (live : IsTrue old.is_open) (st : List ℕ) → st ≡ text_of text (known live).compiled → (stop : Option Error)
    → Does old.step_limit (mode_of old) params old.now st None command (Err stop)
    → MayStop large refused stop) where
  same_compiled : (live : IsTrue old.is_open) (c : Compiled) → understood old.now.schema text ≡ Ok c
      → (known live).compiled ≡ c
  same_compiled live c is = let e : ◌≡◌ {A = Result Compiled CompileError} (Ok (known live).compiled) (Ok c) =
      sym (known live).is ∙ is in cc

  a_statement : (e : Error) → IsTrue old.is_open → IsNoStatement old text params e → ⊥
  a_statement e live (inl h) = absurd (let e = sym (known live).is ∙ h.1 in cc)
  a_statement e live (inr (c, is, inl h)) =
      h.0 (subst (λ (k : Compiled). length text ≤ k.tail) (same_compiled live c is) (known live).whole)
  a_statement e live (inr (c, is, inr (inl h))) =
      h.0 (subst (λ (k : Compiled). length params ≡ length k.names) (same_compiled live c is) (known live).given)
  a_statement e live (inr (c, is, inr (inr h))) =
      h.0 (subst (λ (k : Compiled). k.formats ≡ []) (same_compiled live c is) (known live).bare)

  does_as : (live : IsTrue old.is_open) (c : Compiled) (it : IsStatement old text params c) (stop : Option Error)
      → Does old.step_limit (mode_of old) (timed params c.formats it.now) old.now (text_of text c) c.returning c.command
      (Err stop) → MayStop large refused stop
  does_as live c it stop h =
      let same = same_compiled live c it.is in
      let silent : c.returning ≡ None = subst (λ (k : Compiled). k.returning ≡ None) same (known live).silent in
      let bare : c.formats ≡ [] = subst (λ (k : Compiled). k.formats ≡ []) same (known live).bare in
      let is : c.command ≡ command = subst (λ (k : Compiled). k.command ≡ command) same (known live).command_is in
      stops live (text_of text c) (ap (text_of text) (sym same)) stop (rw (silent, is, bare, append-nil params) at h)

  runs : (e : Error) (c : Compiled) (it : IsStatement old text params c)
      → RunsCommand old new text c (timed params c.formats it.now) (Err e)
      → FailsWith old new (OrShut old large) refused (failure_of e)
  runs e c it (inl (inl h, same)) =
      let live = same.0.was_open in
      absurd (no_misplaced old command e writes
      (subst (λ k. IsMisplaced old k e)
      (subst (λ (k : Compiled). k.command ≡ command) (same_compiled live c it.is) (known live).command_is) h))
  runs e c it (inl (inr h, same)) =
      refuses old new (OrShut old large) refused e same (does_as same.0.was_open c it (Some e) h.1)
  runs e c it (inr h) = store_failed old new (OrShut old large) refused _ (λ big. go old.is_open refl big) e h
    where
      go : (b : Bool) → old.is_open ≡ b
          → Does old.step_limit (mode_of old) (timed params c.formats it.now) old.now (text_of text c) c.returning
          c.command (Err None) → OrShut old large
      go true live big = inl (does_as live c it None big)
      go false shut big = inr shut

  idle : (e : Error) (c : Compiled) (it : IsStatement old text params c) (b : Bool) → shows_rows false c ≡ b
      → MatchBool b (◌≡◌ {A = Result ℕ Error} (Err e) (Err ExecuteReturnedResults) × IsUnchanged old new)
      (RunsCommand old new text c (timed params c.formats it.now) (Err e))
      → FailsWith old new (OrShut old large) refused (failure_of e)
  idle e c it false shows h = runs e c it h
  idle e c it true shows h =
      let live = h.1.0.was_open in
      let quiet : shows_rows false c ≡ false =
      subst (λ (k : Compiled). shows_rows false k ≡ false) (same_compiled live c it.is)
      (shows_none (known live).compiled (ap changes (known live).command_is ∙ writes) (known live).silent) in
      absurd (let e = sym shows ∙ quiet in cc)

  -- a write fails as its command stops, or for the store
  pub write_fails : (e : Error) → ExecutesInside 0 text params old new (Err e)
      → FailsWith old new (OrShut old large) refused (failure_of e)
  unfolding ExecutesIn IsNotRun EndsScope
  write_fails e (inl (inl (inl h), k)) = absurd (a_statement e h.1.0.was_open h.0)
  write_fails e (inl (inl (inr h), k)) = store_failed old new (OrShut old large) refused ⊥ (λ no. absurd no) e h
  write_fails e (inl (inr h, k)) = idle e h.0 h.1 (shows_rows false h.0) refl h.2
  write_fails e (inr h) =
      let live = h.2.0.was_open in
      let it = h.0 in
      absurd (stays_inside old command writes
      (subst (Escapes 0 old) (subst (λ (k : Compiled). k.command ≡ command) (same_compiled live it.0 it.1.is)
      (known live).command_is) it.2))

-- a write to a table of the store, wherever it is
pub our_write_fails : (name : List ℕ) (columns : List Column) (key : List ℕ) (old new : State)
    → (IsTrue old.is_open → IsIntact old.now.schema (strict name columns key))
    → (text : List ℕ) (count : ℕ) (params : Row) (command : ℕ → ℕ → Command)
    → ((at tree : ℕ) → changes (command at tree) ≡ true) → length params ≡ count
    → Compiles name columns key text count command
    → (large refused : Type 0)
    → (IsTrue old.is_open → (exists : IsIntact old.now.schema (strict name columns key)) (st : List ℕ)
    (stop : Option Error) → Does old.step_limit (mode_of old) params old.now st None
    (command exists.at (tree_named old.now.schema name)) (Err stop) → MayStop large refused stop)
    → (e : Error) → ExecutesInside 0 text params old new (Err e)
    → FailsWith old new (OrShut old large) refused (failure_of e)
our_write_fails name columns key old new existing text count params command writes given is large refused stops e h =
    go old.is_open refl
  where
    go : (b : Bool) → old.is_open ≡ b → FailsWith old new (OrShut old large) refused (failure_of e)
    go false shut =
        write_fails old new text params (command 0 0) (writes 0 0) large refused (λ up. absurd (both_ways _ shut up))
        (λ up st its stop does. absurd (both_ways _ shut up)) e h
    go true up =
        let exists = existing up in
        let tree = tree_named old.now.schema name in
        let c = is old.now.schema exists.at tree exists.known in
        write_fails old new text params (command exists.at tree) (writes exists.at tree) large refused
        (λ _. is_write old text params (command exists.at tree) given c) (λ _ st its. stops up exists st) e h

-- where more may be said of a failure, what was said still holds
pub fails_wider : (old new : State) (large wider refused more : Type 0) → (large → wider) → (refused → more)
    → (f : Failed) → FailsWith old new large refused f → FailsWith old new wider more f
fails_wider old new large wider refused more one two Memory h = h
fails_wider old new large wider refused more one two Size h = (one h.0, h.1)
fails_wider old new large wider refused more one two Disk (inl h) = inl h
fails_wider old new large wider refused more one two Disk (inr h) = inr (two h.0, h.1)

-- a size that only a shut connection can report may be reported as the disk
pub fails_unsized : (old new : State) (refused : Type 0) (f : Failed)
    → FailsWith old new (old.is_open ≡ false) refused f → FailsWith old new ⊥ refused (without_size f)
fails_unsized old new refused Memory h = h
fails_unsized old new refused Size h = inl (inr h.0, h.1)
fails_unsized old new refused Disk h = h

-- ---- what the calls answer

-- a delete that failed
pub removal_failed : {T : Type 0} (r : Result T Failed) (old new : State) (text : List ℕ) (params : Row)
    → IfErr r (IsDeletionFailure text params old new)
    → ((e : Error) → ExecutesInside 0 text params old new (Err e)
    → FailsWith old new (old.is_open ≡ false) (IsSome old.step_limit) (failure_of e))
    → IfErr r (FailsWith old new ⊥ (IsSome old.step_limit))
removal_failed (Ok x) old new text params h fails = tt
removal_failed (Err f) old new text params h fails =
    subst (FailsWith old new ⊥ (IsSome old.step_limit)) (sym h.1)
    (fails_unsized old new (IsSome old.step_limit) h.0
    (subst (FailsWith old new (old.is_open ≡ false) (IsSome old.step_limit)) (sym h.2.1) (fails h.2.0 h.2.2)))
