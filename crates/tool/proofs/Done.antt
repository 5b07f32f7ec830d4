-- What some work does with a store is done.
use Rattle.std.proofs.Common.{◌≡◌, Option, Some, None, option_map, subst, refl}
use Rattle.sqlite_trees.specs.declared.store.Store.{Ghosts}
use Rattle.policy.specs.Caller.{Caller}
use Rattle.report.specs.Outputs.{Console}
use Rattle.store.specs.View.{StoreView}
use Rattle.tool.specs.Requests.{Ask}
use Rattle.tool.specs.Works.{DoesAt, DoesOver, DoesWork, OnStore, calls}
use Rattle.tool.proofs.Called.{asked_in}

-- what a caller asks is done
called : (c : Caller) (o : Option Ask) (P : OnStore → Type 0) → ((ask : Ask) → o ≡ Some ask → P (calls c ask))
    → (d : OnStore) → option_map (calls c) o ≡ Some d → P d
called c None P each d is = let no : ◌≡◌ {A = Option OnStore} None (Some d) = is in cc
called c (Some ask) P each d is =
    let both : ◌≡◌ {A = Option OnStore} (Some (calls c ask)) (Some d) = is in
    let same : calls c ask ≡ d = cc in
    subst P same (each ask refl)

-- what a caller asks of a store is done, and so leads from each of its worlds to one of the store then
pub called_at : {S : Type 0} (g : Ghosts S) (c : Caller) (o : Option Ask) (console : Console) (old new : StoreView S)
    → ((ask : Ask) → o ≡ Some ask → DoesOver g (calls c ask) console old new)
    → DoesWork (option_map (calls c) o) (λ d shown. DoesAt g d shown old new) console
called_at g c o console old new over =
    called c o (λ d. DoesAt g d console old new)
    (λ ask is. (
      over ask is,
      λ world reported. asked_in g c console.written old new world reported ask old.settings.store_dir console.input
          (over ask is),
    ))

-- the one thing to do is done
pub only : (made d : OnStore) (P : OnStore → Type 0) → Some made ≡ Some d → P made → P d
only made d P is h = let same : made ≡ d = cc in subst P same h
