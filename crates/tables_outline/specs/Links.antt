-- Links between paths, turned round, and what they are of.
use Rattle.std.specs.Prelude.{◌≡◌, ℕ, zero, suc, ◌<◌, Bool, false, true, ◌&&◌, ◌||◌, not, if◌then◌else◌, List, [], ◌++◌}
use Rattle.std.specs.Prelude.{length, map, replicate, Option, Some, None, is_some}
use Rattle.std.specs.List.{range_with_len}
use Rattle.live.specs.Graph.{Path, Links, holds, listed, same}
use Rattle.live.specs.Numbering.{place_of}
use Rattle.live.specs.Places.{Entries}
use Rattle.live.specs.Sources.{times_among}
use Rattle.tables_outline.specs.LinkLists.{flag_at, has, list_at}

-- the paths by their numbers, which of them are objects', and for each number those of the objects that point to it
pub record LinksValue : Type 0 where
  pub names : List Path
  pub held : List Bool
  pub references : List (List ℕ)
  pub outputs : List (List ℕ)
  pub derivers : List (List ℕ)

-- no paths
abbrev pub no_links : LinksValue
no_links = record { names = []; held = []; references = []; outputs = []; derivers = [] }

abbrev pub lists_both : List (List ℕ) → Option ℕ → Option ℕ → Bool
lists_both lists None source = false
lists_both lists (Some target) None = false
lists_both lists (Some target) (Some source) = has lists target source

-- whether a path is listed as a source of another
abbrev pub is_linked : List Path → List (List ℕ) → Path → Path → Bool
is_linked names lists source target = lists_both lists (place_of names target) (place_of names source)

abbrev pub flag_of : List Bool → Option ℕ → Bool
flag_of flags None = false
flag_of flags (Some i) = flag_at flags i

-- whether a path is an object's
abbrev pub is_held : LinksValue → Path → Bool
is_held l p = flag_of l.held (place_of l.names p)

-- ---- inside

-- what is listed is below a number
pub record AreInside (count : ℕ) (lists : List (List ℕ)) : Type 0 where
  pub each : (i x : ℕ) → has lists i x ≡ true → (i < count) × (x < count)

-- all that is listed has a path
pub record AreSound (l : LinksValue) : Type 0 where
  pub held : (i : ℕ) → flag_at l.held i ≡ true → i < length l.names
  pub references : AreInside (length l.names) l.references
  pub outputs : AreInside (length l.names) l.outputs
  pub derivers : AreInside (length l.names) l.derivers

-- ---- changes

-- more names: each path keeps its number, and a new one has a new number
pub record AreMore (old new : List Path) : Type 0 where
  pub kept : (p : Path) (i : ℕ) → place_of old p ≡ Some i → place_of new p ≡ Some i
  pub fresh : (p : Path) (i : ℕ) → place_of old p ≡ None → place_of new p ≡ Some i → i < length old → ⊥
  pub count : (i : ℕ) → i < length old → i < length new

-- a source is one of the names, and so is all that is listed
pub record IsReady (names : List Path) (lists : List (List ℕ)) (number : ℕ) : Type 0 where
  pub inside : AreInside (length names) lists
  pub source : number < length names

-- a source is linked to targets, which may get numbers by it
pub record AreLinked (names names_after : List Path) (lists lists_after : List (List ℕ)) (source : ℕ)
    (targets : List Path) : Type 0 where
  pub more : AreMore names names_after
  pub inside : AreInside (length names_after) lists_after
  pub linked : (s : Path) → place_of names s ≡ Some source → (p q : Path) → is_linked names_after lists_after p q
      ≡ (is_linked names lists p q || (same p s && holds targets q))

-- a source is no longer linked to targets
pub record AreUnlinked (names : List Path) (lists lists_after : List (List ℕ)) (source : ℕ) (targets : List Path)
    : Type 0 where
  pub fewer : (i x : ℕ) → has lists_after i x ≡ true → has lists i x ≡ true
  pub linked : (s : Path) → place_of names s ≡ Some source → (p q : Path) → is_linked names lists_after p q
      ≡ (is_linked names lists p q && not (same p s && holds targets q))

-- paths lose their flags
pub record AreCleared (names : List Path) (flags flags_after : List Bool) (paths : List Path) : Type 0 where
  pub fewer : (i : ℕ) → flag_at flags_after i ≡ true → flag_at flags i ≡ true
  pub cleared : (p : Path) → flag_of flags_after (place_of names p)
      ≡ (flag_of flags (place_of names p) && not (holds paths p))

-- an object was added
pub record IsAdded (old new : LinksValue) (path : Path) (links : Links) : Type 0 where
  pub held : (p : Path) → is_held new p ≡ (is_held old p || same p path)
  pub references : (p q : Path) → is_linked new.names new.references p q
      ≡ (is_linked old.names old.references p q || (same p path && holds links.references q))
  pub outputs : (p q : Path) → is_linked new.names new.outputs p q
      ≡ (is_linked old.names old.outputs p q || (same p path && holds links.outputs q))
  pub derivers : (p q : Path) → is_linked new.names new.derivers p q
      ≡ (is_linked old.names old.derivers p q || (same p path && holds (listed links.deriver) q))

-- an object was removed
pub record IsRemoved (old new : LinksValue) (path : Path) (links : Links) : Type 0 where
  pub held : (p : Path) → is_held new p ≡ (is_held old p && not (same p path))
  pub references : (p q : Path) → is_linked new.names new.references p q
      ≡ (is_linked old.names old.references p q && not (same p path && holds links.references q))
  pub outputs : (p q : Path) → is_linked new.names new.outputs p q
      ≡ (is_linked old.names old.outputs p q && not (same p path && holds links.outputs q))
  pub derivers : (p q : Path) → is_linked new.names new.derivers p q
      ≡ (is_linked old.names old.derivers p q && not (same p path && holds (listed links.deriver) q))

-- objects were removed, with all of which they are the source
pub record AreRemoved (old new : LinksValue) (paths : List Path) : Type 0 where
  pub held : (p : Path) → is_held new p ≡ (is_held old p && not (holds paths p))
  pub references : (p q : Path) → is_linked new.names new.references p q
      ≡ (is_linked old.names old.references p q && is_held new p)
  pub outputs : (p q : Path) → is_linked new.names new.outputs p q
      ≡ (is_linked old.names old.outputs p q && is_held new p)
  pub derivers : (p q : Path) → is_linked new.names new.derivers p q
      ≡ (is_linked old.names old.derivers p q && is_held new p)

-- ---- what they are of

-- what an object points to, and nothing where there is no object
abbrev pub links_found : Option Links → Links
links_found None = record { references = []; outputs = []; deriver = None }
links_found (Some l) = l

-- the links of objects, turned round: a path is held if it is an object's, and linked as its object says
pub record AreLinksOf (object : Path → Option Links) (l : LinksValue) : Type 0 where
  pub held : (p : Path) → is_held l p ≡ is_some (object p)
  pub references : (p q : Path) → is_linked l.names l.references p q ≡ holds (links_found (object p)).references q
  pub outputs : (p q : Path) → is_linked l.names l.outputs p q ≡ holds (links_found (object p)).outputs q
  pub derivers : (p q : Path) → is_linked l.names l.derivers p q ≡ holds (listed (links_found (object p)).deriver) q

-- ---- as `live` reads them

-- the sources of a number; one that is no object's has none
abbrev pub sources_of : List Bool → List (List ℕ) → ℕ → List ℕ
sources_of held lists i = if flag_at held i then list_at lists i else []

-- the numbers below a number to which a source is linked, each as often as it is listed
abbrev pub targets_below : List Bool → List (List ℕ) → ℕ → ℕ → List ℕ
targets_below held lists source zero = []
targets_below held lists source (suc i) =
    targets_below held lists source i ++ replicate (times_among (sources_of held lists i) source) i

abbrev pub entries_of : LinksValue → ℕ → Entries
entries_of l i = record {
  references = targets_below l.held l.references i (length l.names);
  outputs = targets_below l.held l.outputs i (length l.names);
  deriver = targets_below l.held l.derivers i (length l.names);
}

-- what each object points to, by numbers
abbrev pub all_entries : LinksValue → List Entries
all_entries l = map (entries_of l) (range_with_len 0 (length l.names))
