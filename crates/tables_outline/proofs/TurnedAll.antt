-- Links of all objects, as a loop makes them.
use Rattle.std.proofs.Common.{◌≡◌, List, [], ◌∷◌, ◌++◌, map, Bool, true, false, cond, Some, None, Option, option_map}
use Rattle.std.proofs.Common.{refl, sym, ap, ◌∙◌, subst, append_assoc, append-nil}
use Rattle.std.specs.Ordering.{eq_by_cmp}
use Rattle.std.specs.List.{AllByRecursion}
use Rattle.std.specs.List.Sorted.{IsStrictlySortedBy}
use Rattle.std.specs.Map.{keys_of}
use Rattle.std.specs.FinMap as finite
use Rattle.std.specs.FinMap.Entries.{find as find_entry}
use Rattle.std.specs.declared.cmp.Ordering.TheVariants.{Less}
use Rattle.std.proofs.lemmas.Bool.{false_from_ne_true}
use Rattle.paths.specs.Root.{bytes_cmp}
use Rattle.live.specs.Graph.{Links, same}
use Rattle.live.proofs.Members.{not_below_itself}
use Rattle.model.specs.World.{Path}
use Rattle.tables_outline.specs.Links.{AreLinksOf, IsAdded, LinksValue, no_links}
use Rattle.tables_outline.specs.Outline.{Outlined}
use Rattle.tables_outline.specs.Turned.{links_in, links_of, objects_in}
use Rattle.tables_outline.proofs.Orders.{bytes_total, bytes_antisymmetric}
use Rattle.tables_outline.proofs.Puts.{tied_is}
use Rattle.tables_outline.proofs.Trees.{seen_same}
use Rattle.tables_outline.proofs.TurnedObjects.{added_links, as_links, with_links}

abbrev Entries : Type 0
Entries = List (Path × Outlined)

-- what the objects of entries point to
abbrev links_among : Entries → Path → Option Links
links_among es p = option_map links_in (find_entry bytes_cmp p es)

-- the links of the entries before those that are left
pub record AreTurnedSo (es rest : Entries) (links : LinksValue) : Type 0 where
  pub before : Entries
  pub split : before ++ rest ≡ es
  pub are : AreLinksOf (links_among before) links

pub turned_none : (es : Entries) → AreTurnedSo es es no_links
turned_none es = record {
  before = [];
  split = refl;
  are = record { held = λ p. refl; references = λ p q. refl; outputs = λ p q. refl; derivers = λ p q. refl };
}

-- ---- one more

module _ (k : Path) (v : Outlined) where
  below_last : (x : Path) (es rest : Entries)
      → AllByRecursion (λ y. bytes_cmp x y ≡ Less) (keys_of (es ++ (k, v) ∷ rest)) → bytes_cmp x k ≡ Less
  below_last x [] rest h = h.0
  below_last x (e ∷ es) rest h = below_last x es rest h.1

  not_before : (es rest : Entries) → IsStrictlySortedBy bytes_cmp (keys_of (es ++ (k, v) ∷ rest))
      → find_entry bytes_cmp k es ≡ None
  unfolding IsStrictlySortedBy
  not_before [] rest h = refl
  not_before (e ∷ es) rest h =
      let less : bytes_cmp e.0 k ≡ Less = below_last e.0 es rest h.0 in
      let other : eq_by_cmp bytes_cmp k e.0 ≡ false =
      false_from_ne_true (eq_by_cmp bytes_cmp k e.0)
      (λ t. not_below_itself bytes_total k
      (subst (λ x. bytes_cmp x k ≡ Less) (sym (tied_is bytes_antisymmetric k e.0 t)) less)) in
      ap (λ b. cond b (Some e.1) (find_entry bytes_cmp k es)) other ∙ not_before es rest h.1

  find_push : (es : Entries) (p : Path) → find_entry bytes_cmp k es ≡ None
      → find_entry bytes_cmp p (es ++ (k, v) ∷ []) ≡ cond (same p k) (Some v) (find_entry bytes_cmp p es)
  find_push es p none = by (same p k) refl
    where
      last : (es : Entries) (p : Path) → same p k ≡ true → find_entry bytes_cmp p es ≡ None
          → find_entry bytes_cmp p (es ++ (k, v) ∷ []) ≡ Some v
      last [] p t e = ap (λ b. cond b (Some v) None) t
      last (d ∷ es) p t e = step (same p d.0) refl e (last es p t)
        where
          step : (b : Bool) → same p d.0 ≡ b → cond b (Some d.1) (find_entry bytes_cmp p es) ≡ None
              → (find_entry bytes_cmp p es ≡ None → find_entry bytes_cmp p (es ++ (k, v) ∷ []) ≡ Some v)
              → cond b (Some d.1) (find_entry bytes_cmp p (es ++ (k, v) ∷ [])) ≡ Some v
          step true f g later = cc
          step false f g later = later g

      others : (es : Entries) (p : Path) → same p k ≡ false
          → find_entry bytes_cmp p (es ++ (k, v) ∷ []) ≡ find_entry bytes_cmp p es
      others [] p t = ap (λ b. cond b (Some v) None) t
      others (d ∷ es) p t = ap (cond (same p d.0) (Some d.1)) (others es p t)

      by : (b : Bool) → same p k ≡ b
          → find_entry bytes_cmp p (es ++ (k, v) ∷ []) ≡ cond (same p k) (Some v) (find_entry bytes_cmp p es)
      by true t =
          last es p t (ap (λ x. find_entry bytes_cmp x es) (tied_is bytes_antisymmetric p k t) ∙ none)
          ∙ sym (ap (λ b. cond b (Some v) (find_entry bytes_cmp p es)) t)
      by false t = others es p t ∙ sym (ap (λ b. cond b (Some v) (find_entry bytes_cmp p es)) t)

  mapped : (b : Bool) (o : Option Outlined)
      → option_map links_in (cond b (Some v) o) ≡ cond b (Some (links_in v)) (option_map links_in o)
  mapped true o = refl
  mapped false o = refl

  pub turned_more : (es rest after : Entries) (old new : LinksValue) → IsStrictlySortedBy bytes_cmp (keys_of es)
      → rest ≡ (k, v) ∷ after → AreTurnedSo es rest old → IsAdded old new k (links_in v) → AreTurnedSo es after new
  turned_more es rest after old new sorted first so added = record {
    before = so.before ++ (k, v) ∷ [];
    split = append_assoc so.before ((k, v) ∷ []) after ∙ whole;
    are = as_links (with_links k (links_in v) (links_among so.before)) (links_among (so.before ++ (k, v) ∷ [])) new
        (λ p. sym (ap (option_map links_in) (find_push so.before p none)
        ∙ mapped (same p k) (find_entry bytes_cmp p so.before)))
        (added_links (links_among so.before) k (links_in v) (ap (option_map links_in) none) old new so.are added);
  }
    where
      whole : so.before ++ ((k, v) ∷ after) ≡ es
      whole = ap (λ r. so.before ++ r) (sym first) ∙ so.split

      none : find_entry bytes_cmp k so.before ≡ None
      none = not_before so.before after (subst (λ xs. IsStrictlySortedBy bytes_cmp (keys_of xs)) (sym whole) sorted)

-- ---- all

pub turned_all : (es rest : Entries) (links : LinksValue) → rest ≡ [] → AreTurnedSo es rest links
    → AreLinksOf (links_of (objects_in es)) links
turned_all es rest links none so =
    as_links (links_among so.before) (links_of (objects_in es)) links
    (λ p. ap (links_among_at p) (sym (append-nil so.before) ∙ ap (λ r. so.before ++ r) (sym none) ∙ so.split)
    ∙ sym (ap (option_map links_in)
    (finite.get-from_entries bytes_total
    (map (λ (e : Path × Outlined). let d : Path × Outlined = (e.0, e.1) in d) es) p
    ∙ ap (find_entry bytes_cmp p) (seen_same es))))
    so.are
  where
    links_among_at : Path → Entries → Option Links
    links_among_at p xs = links_among xs p
