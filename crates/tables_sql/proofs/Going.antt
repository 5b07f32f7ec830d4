-- A loop of writes inside a transaction: what it makes of the contents is given by what is left to write.
use Rattle.std.proofs.Common.{◌≡◌, List, refl, sym, ap, ◌∙◌, IsTrue}
use Rattle.sqlite.specs.State.{State}
use Rattle.tables_sql.specs.Contents.{Contents, contents_of}
use Rattle.tables_sql.specs.Calls.{IsUnderWay, Changes}
use Rattle.tables_sql.proofs.Steps.{changes_then, changes_none, changes_to}

-- it goes on, and with what is left the contents will be what all makes of those at first
pub record Goes {X : Type 0} (change : List X → Contents → Contents) (all : List X) (first now : State)
    (left : List X) : Type 0 where
  pub changes : Changes first now (λ _. contents_of now.now)
  pub comes : change left (contents_of now.now) ≡ change all (contents_of first.now)

-- what a change makes is what there is then
forgotten : (a b : State) (f : Contents → Contents) → Changes a b f → Changes a b (λ _. contents_of b.now)
forgotten a b f h = changes_to a b f (λ _. contents_of b.now) refl h

-- nothing was written yet
pub goes_first : {X : Type 0} (change : List X → Contents → Contents) (all : List X) (s : State) → IsUnderWay s
    → IsTrue s.is_open → Goes change all s s all
goes_first change all s under is_open =
    record { changes = forgotten s s (λ c. c) (changes_none s under is_open); comes = refl }

-- one more was
pub goes_next : {X : Type 0} (change : List X → Contents → Contents) (all : List X) (first now next : State)
    (left rest : List X) (f : Contents → Contents)
    → Goes change all first now left → Changes now next f
    → (change left (contents_of now.now) ≡ change rest (f (contents_of now.now))) → Goes change all first next rest
goes_next change all first now next left rest f h k same = record {
  changes =
      forgotten first next (λ x. f (contents_of now.now))
      (changes_then first now next (λ _. contents_of now.now) f h.changes k);
  comes = ap (change rest) k.contents ∙ sym same ∙ h.comes;
}

-- all was
pub goes_done : {X : Type 0} (change : List X → Contents → Contents) (all : List X) (first now : State) (left : List X)
    → change left (contents_of now.now) ≡ contents_of now.now → Goes change all first now left
    → Changes first now (change all)
goes_done change all first now left none h =
    changes_to first now (λ _. contents_of now.now) (change all) (sym none ∙ h.comes) h.changes
