-- The store's tables are made one after another: what one text makes, what is there after N, and why the next fails.
use Rattle.std.proofs.Common.{◌≡◌, inl, inr, ◌<◌, ◌≤◌, ◌+◌, ℕ, zero, suc, List, [], ◌∷◌, ◌++◌, map, take, drop, length}
use Rattle.std.proofs.Common.{Ok, true, false, refl, sym, ap, subst, ◌∙◌, arith, IsTrue}
use Rattle.std.proofs.lemmas.List.{take_more, take_all, take-append-drop, map-append}
use Rattle.std.specs.Prelude.{get_or}
use Rattle.std.proofs.lemmas.Bool.{cases_Bool}
use Rattle.sqlite_schema.specs.declared.schema.Column.{Column}
use Rattle.sqlite_schema.specs.declared.schema.Table.{Table}
use Rattle.sqlite_trees.proofs.ListLemmas.{all_of}
use Rattle.sqlite.specs.State.{State, ExecutesInside}
use Rattle.tables_schema.specs.Forms.{strict, meta}
use Rattle.tables_schema.specs.StoreTables.{form}
use Rattle.tables_schema.specs.declared.store_table.StoreTable.{StoreTable}
use Rattle.tables_schema.specs.declared.store_table.StoreTable.TheVariants.{Meta}
use Rattle.tables_sql.specs.declared.failure.Failed.{Failed}
use Rattle.tables_sql.specs.declared.failure.Failed.TheVariants.{Memory, Size, Disk}
use Rattle.tables_sql.specs.Failures.{without_size, IsWriteFailure}
use Rattle.tables_sql.proofs.Lists.{one_left}
use Rattle.tables_sql.proofs.Truths.{and_so}
use Rattle.tables_make.specs.NewTables.{making_text, have_distinct_names, IsMaking, Makes, FailsToMakeThese}
use Rattle.tables_make.proofs.Creates.{makes_in, making_after, makes_then}
use Rattle.tables_make.proofs.MakingFailures.{create_fails}
use Rattle.tables_make.proofs.MakingTexts.{IsCreating, texts_are}
use Rattle.tables_make.proofs.MakingTogether.{part, fails_among}
use Rattle.tables_make.proofs.Placed.{table_of}

-- what is so of every table with columns and a key alone is so of the store
of_form : (P : Table → Type 0) → ((title : List ℕ) (cs : List Column) (key : List ℕ) → P (strict title cs key))
    → (t : StoreTable) → P (form t)
of_form P all Meta = all meta.name meta.columns meta.primary
of_form P all t = all (form t).name (form t).columns (form t).primary

-- ---- one table

pub one_made : (t : StoreTable) (old new : State) (count : ℕ) → IsMaking (form t ∷ []) old
    → ExecutesInside 0 (making_text t) [] old new (Ok count) → Makes (form t ∷ []) old new
one_made t old new count under ran =
    of_form (λ f. IsCreating (making_text t) f → IsMaking (f ∷ []) old → Makes (f ∷ []) old new)
    (λ title cs key it under. makes_in (making_text t) title cs key old new count
    (it.makes old.now.schema (under.free ran.1.was_open).0) (under.counted ran.1.was_open) under.mode ran.0) t
    (texts_are t) under

pub one_fails : (t : StoreTable) (old new : State) → IsMaking (form t ∷ []) old → (f : Failed)
    → (g : Failed) × (f ≡ without_size g) × IsWriteFailure (making_text t) [] old new g
    → FailsToMakeThese (form t ∷ []) ⊥ ⊥ old new f
one_fails t old new under f h =
    of_form (λ u. IsCreating (making_text t) u → IsMaking (u ∷ []) old → FailsToMakeThese (u ∷ []) ⊥ ⊥ old new f)
    (λ title cs key it under. create_fails (making_text t) title cs key it.accepted old new
    (λ up. it.makes old.now.schema (under.free up).0) (λ up. (under.free up).0) under.counted f h) t (texts_are t)
    under

-- ---- some of them

-- the first of those that are to be made
pub first_making : (t : Table) (rest : List Table) (s : State) → IsMaking (t ∷ rest) s → IsMaking (t ∷ []) s
first_making t rest s h =
    record { sound = h.sound; free = λ up. ((h.free up).0, tt); counted = h.counted; mode = h.mode }

-- N of them are there, and the rest can be made; no fault has shut the connection since
pub record AreMade (ts : List StoreTable) (n : ℕ) (a b : State) : Type 0 where
  pub made : IsTrue b.is_open → Makes (map form (take n ts)) a b
  pub shut : b.is_open ≡ false → (n ≡ 0) × (a.is_open ≡ false)
  pub rest : IsMaking (map form (drop n ts)) b

pub none_made : (ts : List StoreTable) (a : State) → IsMaking (map form ts) a → AreMade ts 0 a a
none_made ts a under = record {
  made =
      λ up. record {
        was_open = up;
        is_open = up;
        sound = under.sound up;
        schema = refl;
        kept = all_of (λ (t : Table). a.now.trees t.tree ≡ a.now.trees t.tree) (λ t. refl) a.now.schema.tables;
        empty = tt;
        frozen = λ sound.
            record { rows = λ tree is. refl; texts = λ row present foreign. present; version = refl };
        committed = refl;
        mode = under.mode;
      };
  shut = λ shut. (refl, shut);
  rest = under;
}

pub all_in_turn : (ts : List StoreTable) (n : ℕ) (a b : State) → n ≡ length ts → 0 < length ts → AreMade ts n a b
    → Makes (map form ts) a b
all_in_turn ts n a b end some it = elim (cases_Bool b.is_open) [
  | inl up ↦ subst (λ l. Makes (map form l) a b) (take_all n ts (omega (arith, end))) (it.made up)
  | inr shut ↦ absurd (let none = (it.shut shut).0 in omega (arith, none, end, some))
]

distinct_left : (n : ℕ) (ts : List StoreTable) → have_distinct_names (map form ts) ≡ true
    → have_distinct_names (map form (drop n ts)) ≡ true
distinct_left zero ts apart = apart
distinct_left (suc n) [] apart = refl
distinct_left (suc n) (t ∷ ts) apart = distinct_left n ts (and_so _ _ apart).1

parts_are : (ts : List StoreTable) → map table_of (map (λ t. part (form t)) ts) ≡ map form ts
parts_are [] = refl
parts_are (t ∷ ts) =
    ap (λ u. u ∷ map table_of (map (λ t. part (form t)) ts))
    (of_form (λ u. table_of (part u) ≡ u) (λ title cs key. refl) t) ∙ ap (λ l. form t ∷ l) (parts_are ts)

-- a connection that a fault had shut
fails_shut : (ts us : List Table) (a b c : State) → a.is_open ≡ false → (f : Failed) → FailsToMakeThese us ⊥ ⊥ b c f
    → FailsToMakeThese ts ⊥ ⊥ a c f
fails_shut ts us a b c shut Memory h = tt
fails_shut ts us a b c shut Size h = absurd h.0
fails_shut ts us a b c shut Disk h = inl (inr shut)

module _ (ts : List StoreTable) (n : ℕ) (low : n < length ts) (a b c : State) where
  abbrev next : StoreTable
  next = get_or ts n Meta

  pub next_making : AreMade ts n a b → IsMaking (form next ∷ []) b
  next_making it = first_making (form next) _ b (subst (λ l. IsMaking (map form l) b) (one_left ts n Meta low) it.rest)

  -- one more
  pub next_made : have_distinct_names (map form ts) ≡ true → AreMade ts n a b → Makes (form next ∷ []) b c
      → AreMade ts (n + 1) a c
  next_made apart it h =
      let left = one_left ts n Meta low in
      let clear : have_distinct_names (form next ∷ map form (drop (n + 1) ts)) ≡ true =
      subst (λ l. have_distinct_names (map form l) ≡ true) left (distinct_left n ts apart) in
      let under : IsMaking (form next ∷ map form (drop (n + 1) ts)) b =
      subst (λ l. IsMaking (map form l) b) left it.rest in
      let grown : map form (take (n + 1) ts) ≡ map form (take n ts) ++ form next ∷ [] =
      ap (map form) (take_more ts n Meta low) ∙ map-append form (take n ts) (next ∷ []) in
      record {
        made =
            λ up. subst (λ l. Makes l a c) (sym grown)
            (makes_then (map form (take n ts)) (form next ∷ []) a b c (it.made h.was_open) h);
        shut = λ shut. absurd (let no = sym h.is_open ∙ shut in cc);
        rest =
            of_form (λ u. have_distinct_names (u ∷ map form (drop (n + 1) ts)) ≡ true
            → IsMaking (u ∷ map form (drop (n + 1) ts)) b → Makes (u ∷ []) b c
            → IsMaking (map form (drop (n + 1) ts)) c)
            (λ title cs key clear under h. making_after title cs key (map form (drop (n + 1) ts)) b c clear under
            h.was_open h.sound h.schema h.mode) next clear under h;
      }

  -- or not
  pub next_fails : have_distinct_names (map form ts) ≡ true → AreMade ts n a b → a.faults ≤ b.faults → (f : Failed)
      → FailsToMakeThese (form next ∷ []) ⊥ ⊥ b c f → FailsToMakeThese (map form ts) ⊥ ⊥ a c f
  next_fails apart it rise f h =
      let rest = map form (drop (n + 1) ts) in
      let whole : map form (take n ts) ++ (form next ∷ rest) ≡ map form ts =
      ap (λ l. map form (take n ts) ++ map form l) (sym (one_left ts n Meta low))
      ∙ sym (map-append form (take n ts) (drop n ts)) ∙ ap (map form) (take-append-drop n ts) in
      let fs = map (λ (t : StoreTable). part (form t)) (take n ts) in
      let is = parts_are (take n ts) in
      elim (cases_Bool b.is_open) [
        | inl up ↦ subst (λ l. FailsToMakeThese l ⊥ ⊥ a c f) whole
            (subst (λ l. FailsToMakeThese (l ++ (form next ∷ rest)) ⊥ ⊥ a c f) is
            (fails_among ⊥ ⊥ a b c fs (form next ∷ []) rest
            (subst (λ l. have_distinct_names (l ++ (form next ∷ rest)) ≡ true) (sym is)
            (subst (λ l. have_distinct_names l ≡ true) (sym whole) apart))
            (subst (λ l. Makes l a b) (sym is) (it.made up)) rise f h))
        | inr shut ↦ fails_shut (map form ts) (form next ∷ []) a b c (it.shut shut).1 f h
      ]
