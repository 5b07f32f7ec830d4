-- What a query over one table shows, and how it leaves the tables.
use Rattle.std.proofs.Common.{◌≡◌, ◌⊎◌, inl, inr, ℕ, List, [], ◌∷◌, ◌++◌, map, flat_map, Bool, true, false, cond, Some}
use Rattle.std.proofs.Common.{None, Option, refl, sym, ap, subst, ◌∙◌, IsPermutation, Result, Ok, Err, OnOk}
use Rattle.std.specs.Prelude.{IfOk, IfErr, OnErr, IsErrAnd}
use Rattle.std.specs.List.{list_all}
use Rattle.std.proofs.lemmas.List.Sorted.{IsPermutation-sym}
use Rattle.sqlite_value.specs.Order.{Row}
use Rattle.sqlite_trees.specs.Tree.{Trees}
use Rattle.sqlite_trees.proofs.ListLemmas.{all-permutation}
use Rattle.sqlite_rules.specs.Lists.{Has}
use Rattle.sqlite_rules.proofs.ListLemmas.{all_has, all_from, has_right}
use Rattle.sqlite_rules.proofs.ProbeLemmas.{has_mapped, mapped_has}
use Rattle.sqlite_sql.specs.Term.{holds, eval_all}
use Rattle.sqlite_sql.specs.Group.{IsGrouped}
use Rattle.sqlite_sql.specs.Query.{Query, inner, end, IsAnswer, IsKept, output, page, Output, matches}
use Rattle.sqlite_schema.specs.declared.command.Returning.{Returning}
use Rattle.sqlite_resolve.specs.declared.compiled.Compiled.{Compiled}
use Rattle.sqlite.specs.declared.error.Error.{Error}
use Rattle.sqlite.specs.Listing.{understood}
use Rattle.sqlite.specs.State.{State, Shown, ShowsRows, IsUnchanged, IsRolledBack, FailsToQuery, FailsToShow, IsNotRun}
use Rattle.sqlite.specs.State.{IsTooLate, KeepsCommit}
use Rattle.sqlite.proofs.Callers.{IsPlain}

-- ---- a query over one table: each row of its answer shows a row that passes, and each such row is shown

abbrev pub shows : Query → Row → Row → Row
shows q params row = eval_all q.project (params ∷ row ∷ [])

-- a query that reads one table and has no group, DISTINCT or limit
pub record IsScan (q : Query) (tree : ℕ) : Type 0 where
  pub from : q.from ≡ inner tree end
  pub group : q.group ≡ None
  pub distinct : q.distinct ≡ false
  pub whole : (params : Row) (rows : List Row) → page q params rows ≡ rows

pub has_matched : {X Y : Type 0} (p : X → Bool) (f : X → Y) (xs : List X) (y : Y)
    → Has (flat_map (λ x. cond (p x) (f x ∷ []) []) xs) y → (x : X) × Has xs x × (p x ≡ true) × (y ≡ f x)
has_matched p f [] y h = absurd h
has_matched {X} {Y} p f (x ∷ xs) y h = go (p x) refl h (has_matched p f xs y)
  where
    go : (b : Bool) → p x ≡ b → Has (cond b (f x ∷ []) [] ++ flat_map (λ z. cond (p z) (f z ∷ []) []) xs) y
        → (Has (flat_map (λ z. cond (p z) (f z ∷ []) []) xs) y → (z : X) × Has xs z × (p z ≡ true) × (y ≡ f z))
        → (z : X) × Has (x ∷ xs) z × (p z ≡ true) × (y ≡ f z)
    go true is (inl same) later = (x, inl refl, is, same)
    go true is (inr present) later = let r = later present in (r.0, inr r.1, r.2, r.3)
    go false is present later = let r = later present in (r.0, inr r.1, r.2, r.3)

matched_has : {X Y : Type 0} (p : X → Bool) (f : X → Y) (xs : List X) (x : X) → Has xs x → p x ≡ true
    → Has (flat_map (λ z. cond (p z) (f z ∷ []) []) xs) (f x)
matched_has p f [] x h passes = absurd h
matched_has p f (z ∷ xs) x (inl same) passes = rw (← same, passes) (inl refl)
matched_has p f (z ∷ xs) x (inr later) passes =
    has_right (cond (p z) (f z ∷ []) []) (flat_map (λ w. cond (p w) (f w ∷ []) []) xs) (f x)
    (matched_has p f xs x later passes)

pub has_permuted : {X : Type 0} (xs ys : List X) (x : X) → IsPermutation xs ys → Has ys x → Has xs x
has_permuted xs ys x same =
    all_has (Has xs) ys x (all-permutation (Has xs) xs ys same (all_from (Has xs) xs (λ e h. h)))

module _ (q : Query) (tree : ℕ) (scan : IsScan q tree) (db : Trees) (params : Row) (rows : List Row)
    (answer : IsAnswer q db params rows) where
  test : Row → Bool
  test r = list_all (holds (params ∷ r ∷ [])) q.filter

  env : Row → List Row
  env r = params ∷ r ∷ []

  pub kept : answer.kept ≡ map (output q) (matches db q.filter (inner tree end) (params ∷ []))
  kept = subst (λ d. IsKept d q.collations (map (output q) answer.staged) answer.kept) scan.distinct answer.distinct
      ∙ ap (map (output q)) (subst (λ g. IsGrouped g params (matches db q.filter q.from (params ∷ [])) answer.staged)
      scan.group answer.grouped ∙ ap (λ j. matches db q.filter j (params ∷ [])) scan.from)

  pub listed : rows ≡ map (λ (o : Output). o.1) answer.ordered
  listed = answer.shown ∙ scan.whole params _

  pub scan_sound : (x : Row) → Has rows x
      → (r : Row) × Has (db tree) r × (list_all (holds (params ∷ r ∷ [])) q.filter ≡ true) × (x ≡ shows q params r)
  unfolding test env
  scan_sound x h =
      let o = has_mapped (λ (k : Output). k.1) answer.ordered x (subst (λ l. Has l x) listed h) in
      let e =
      has_mapped (output q) _ o.0 (subst (λ l. Has l o.0) kept
      (has_permuted answer.kept answer.ordered o.0 answer.same o.1)) in
      let r = has_matched test env (db tree) e.0 e.1 in
      (r.0, r.1, r.2, o.2 ∙ ap (λ (k : Output). k.1) (e.2 ∙ ap (output q) r.3))

  pub scan_complete : (r : Row) → Has (db tree) r → list_all (holds (params ∷ r ∷ [])) q.filter ≡ true
      → Has rows (shows q params r)
  unfolding test env
  scan_complete r h passes =
      let o = output q (env r) in
      let present =
      subst (λ l. Has l o) (sym kept)
      (mapped_has (output q) _ (env r) (matched_has test env (db tree) r h passes)) in
      subst (λ l. Has l (shows q params r)) (sym listed)
      (mapped_has (λ (k : Output). k.1) answer.ordered o
      (has_permuted answer.ordered answer.kept o (IsPermutation-sym _ _ answer.same) present))

-- ---- how a query leaves the tables

-- a plain query changes nothing
pub shown_same : (sql : List ℕ) (params : Row) (old new : State) (rows : List Row)
    → IsPlain (understood old.now.schema sql) → Shown sql params old new rows → IsUnchanged old new
unfolding Shown
shown_same sql params old new rows plain h =
    let none = (subst IsPlain h.1.is plain).0 in
    let it = subst (ShowsRows old new sql h.0 _ rows) none h.2 in
    it.3

pub unchanged_keeps : (old new : State) → IsUnchanged old new → KeepsCommit old new
unchanged_keeps old new h = record { was_open = λ _. h.0.was_open; committed = λ _. h.0.committed_is }

undone_keeps : (old new : State) → IsRolledBack old new → KeepsCommit old new
undone_keeps old new h = record { was_open = h.was_open; committed = λ is_open. (h.undone is_open).1 }

shows_failed : (old new : State) (sql : List ℕ) (c : Compiled) (params : Row) (e : Error) (what : Option Returning)
    → FailsToShow old new sql c params e what → KeepsCommit old new
shows_failed old new sql c params e None h = unchanged_keeps old new h.3
shows_failed old new sql c params e (Some what) (inl h) = unchanged_keeps old new h.1
shows_failed old new sql c params e (Some what) (inr h) = undone_keeps old new h.3

-- no query commits, and none opens a connection that was shut
pub failed_keeps : (sql : List ℕ) (params : Row) (old new : State) (e : Error)
    → FailsToQuery sql params old new e ⊎ IsTooLate sql params old new e → KeepsCommit old new
unfolding FailsToQuery IsNotRun
failed_keeps sql params old new e (inl (inl (inl h))) = unchanged_keeps old new h.1
failed_keeps sql params old new e (inl (inl (inr h))) = undone_keeps old new h.3
failed_keeps sql params old new e (inl (inr h)) = shows_failed old new sql h.0 _ e h.0.returning h.2
failed_keeps sql params old new e (inr h) = unchanged_keeps old new h.5

pub on_ok : {T E : Type 0} (r : Result T E) (P Q : Type 0) → (P → Q) → OnOk r P → OnOk r Q
on_ok (Ok x) P Q f h = f h
on_ok (Err e) P Q f h = tt

pub err_with : {T E : Type 0} (r : Result T E) (P Q : E → Type 0) → ((e : E) → P e → Q e) → IfErr r P → IfErr r Q
err_with (Ok x) P Q f h = tt
err_with (Err e) P Q f h = f e h

pub on_err_of : {T E : Type 0} (r : Result T E) (P : Type 0) → P → OnErr r P
on_err_of (Ok x) P h = tt
on_err_of (Err e) P h = h

pub ok_with : {T E : Type 0} (r : Result T E) (P Q : T → Type 0) → ((x : T) → P x → Q x) → IfOk r P → IfOk r Q
ok_with (Ok x) P Q f h = f x h
ok_with (Err e) P Q f h = tt

-- a call that failed
pub not_ok : {T E : Type 0} (r : Result T E) (Q : E → Type 0) (P : Type 0) → IsErrAnd r Q → OnOk r P
not_ok (Ok x) Q P h = absurd h
not_ok (Err e) Q P h = tt
