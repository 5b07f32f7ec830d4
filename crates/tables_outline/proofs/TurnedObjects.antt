-- Links of objects, turned round, as the objects change.
use Rattle.std.proofs.Common.{◌≡◌, List, Bool, true, false, ◌&&◌, ◌||◌, not, cond, Some, None, Option}
use Rattle.std.proofs.Common.{option_map, is_some, Bor, refl, sym, ap, ◌∙◌, subst}
use Rattle.std.specs.Prelude.{IfOk, IfSome, Result, Ok, Err, if◌then◌else◌}
use Rattle.std.specs.Result.{result_ok}
use Rattle.std.specs.Option.{option_copied}
use Rattle.std.specs.FinMap as finite
use Rattle.paths.specs.Root.{bytes_cmp}
use Rattle.live.specs.Graph.{Links, holds, listed, same}
use Rattle.model.specs.World.{Path}
use Rattle.tables_outline.specs.Links.{AreLinksOf, AreRemoved, IsAdded, IsRemoved, LinksValue, is_held}
use Rattle.tables_outline.specs.Links.{links_found}
use Rattle.tables_outline.specs.Changes.{ChangesTo}
use Rattle.tables_outline.specs.Outline.{Outlined}
use Rattle.tables_outline.specs.Turned.{links_in, links_of}
use Rattle.tables_outline.proofs.Orders.{bytes_total, bytes_antisymmetric}
use Rattle.tables_outline.proofs.Puts.{get-kept, tied_is}

abbrev Objects : Type 0
Objects = finite.FinMap bytes_cmp Outlined

-- ---- the same links of the same objects

pub as_links : (object others : Path → Option Links) (l : LinksValue) → ((p : Path) → object p ≡ others p)
    → AreLinksOf object l → AreLinksOf others l
as_links object others l alike are = record {
  held = λ p. are.held p ∙ ap is_some (alike p);
  references = λ p q. are.references p q ∙ ap (λ o. holds (links_found o).references q) (alike p);
  outputs = λ p q. are.outputs p q ∙ ap (λ o. holds (links_found o).outputs q) (alike p);
  derivers = λ p q. are.derivers p q ∙ ap (λ o. holds (listed (links_found o).deriver) q) (alike p);
}

-- ---- an object more

-- what objects point to, where one is put at a path that had none
abbrev pub with_links : Path → Links → (Path → Option Links) → Path → Option Links
with_links path links object p = cond (same p path) (Some links) (object p)

module _ (object : Path → Option Links) (path : Path) (links : Links) (none : object path ≡ None) where
  absent : (p : Path) → same p path ≡ true → object p ≡ None
  absent p t = ap object (tied_is bytes_antisymmetric p path t) ∙ none

  module _ (kind : Links → List Path) (empty : (q : Path) → holds (kind (links_found None)) q ≡ false) where
    kind_added : (p q : Path) (b : Bool) → same p path ≡ b
        → (holds (kind (links_found (object p))) q || (b && holds (kind links) q))
        ≡ holds (kind (links_found (cond b (Some links) (object p)))) q
    kind_added p q true t =
        ap (λ (o : Option Links). holds (kind (links_found o)) q || holds (kind links) q) (absent p t)
        ∙ ap (λ b. b || holds (kind links) q) (empty q)
    kind_added p q false t = or_nothing (holds (kind (links_found (object p))) q)
      where
        or_nothing : (a : Bool) → (a || false) ≡ a
        or_nothing true = refl
        or_nothing false = refl

  held_added : (p : Path) (b : Bool) → same p path ≡ b
      → (is_some (object p) || b) ≡ is_some (cond b (Some links) (object p))
  held_added p true t = or_true (is_some (object p))
    where
      or_true : (a : Bool) → (a || true) ≡ true
      or_true true = refl
      or_true false = refl
  held_added p false t = or_nothing (is_some (object p))
    where
      or_nothing : (a : Bool) → (a || false) ≡ a
      or_nothing true = refl
      or_nothing false = refl

  pub added_links : (old new : LinksValue) → AreLinksOf object old → IsAdded old new path links
      → AreLinksOf (with_links path links object) new
  added_links old new are added = record {
    held = λ p. added.held p ∙ ap (λ b. b || same p path) (are.held p) ∙ held_added p (same p path) refl;
    references =
        λ p q. added.references p q ∙ ap (λ b. b || (same p path && holds links.references q)) (are.references p q)
        ∙ kind_added (λ l. l.references) (λ q. refl) p q (same p path) refl;
    outputs =
        λ p q. added.outputs p q ∙ ap (λ b. b || (same p path && holds links.outputs q)) (are.outputs p q)
        ∙ kind_added (λ l. l.outputs) (λ q. refl) p q (same p path) refl;
    derivers =
        λ p q. added.derivers p q ∙ ap (λ b. b || (same p path && holds (listed links.deriver) q)) (are.derivers p q)
        ∙ kind_added (λ l. listed l.deriver) (λ q. refl) p q (same p path) refl;
  }

mapped_cond : (b : Bool) (x : Outlined) (o : Option Outlined)
    → option_map links_in (cond b (Some x) o) ≡ cond b (Some (links_in x)) (option_map links_in o)
mapped_cond true x o = refl
mapped_cond false x o = refl

pub turned_inserted : (m : Objects) (path : Path) (x : Outlined) (old new : LinksValue)
    → finite.contains_key m path ≡ false → AreLinksOf (links_of m) old → IsAdded old new path (links_in x)
    → AreLinksOf (links_of (finite.insert m path x)) new
turned_inserted m path x old new absent are added =
    as_links (with_links path (links_in x) (links_of m)) (links_of (finite.insert m path x)) new
    (λ p. sym (ap (option_map links_in) (finite.get-insert bytes_total m path x p)
    ∙ mapped_cond (same p path) x (finite.get m p)))
    (added_links (links_of m) path (links_in x) (none_of (finite.get m path) absent) old new are added)
  where
    none_of : (o : Option Outlined) → is_some o ≡ false → option_map links_in o ≡ None
    none_of None e = refl
    none_of (Some y) e = cc

-- ---- an object less

module _ (object : Path → Option Links) (path : Path) (links : Links) (here : object path ≡ Some links) where
  present : (p : Path) → same p path ≡ true → object p ≡ Some links
  present p t = ap object (tied_is bytes_antisymmetric p path t) ∙ here

  not_both : (a : Bool) → (a && not a) ≡ false
  not_both true = refl
  not_both false = refl

  and_true : (a : Bool) → (a && true) ≡ a
  and_true true = refl
  and_true false = refl

  module _ (kind : Links → List Path) (empty : (q : Path) → holds (kind (links_found None)) q ≡ false) where
    kind_removed : (p q : Path) (b : Bool) → same p path ≡ b
        → (holds (kind (links_found (object p))) q && not (b && holds (kind links) q))
        ≡ holds (kind (links_found (cond b None (object p)))) q
    kind_removed p q true t =
        ap (λ (o : Option Links). holds (kind (links_found o)) q && not (holds (kind links) q)) (present p t)
        ∙ not_both (holds (kind links) q) ∙ sym (empty q)
    kind_removed p q false t = and_true (holds (kind (links_found (object p))) q)

  held_removed : (p : Path) (b : Bool) → same p path ≡ b
      → (is_some (object p) && not b) ≡ is_some (cond b None (object p))
  held_removed p true t = ap (λ (o : Option Links). is_some o && false) (present p t)
  held_removed p false t = and_true (is_some (object p))

  pub removed_links : (old new : LinksValue) → AreLinksOf object old → IsRemoved old new path links
      → AreLinksOf (λ p. cond (same p path) None (object p)) new
  removed_links old new are removed = record {
    held = λ p. removed.held p ∙ ap (λ b. b && not (same p path)) (are.held p) ∙ held_removed p (same p path) refl;
    references =
        λ p q. removed.references p q
        ∙ ap (λ b. b && not (same p path && holds links.references q)) (are.references p q)
        ∙ kind_removed (λ l. l.references) (λ q. refl) p q (same p path) refl;
    outputs =
        λ p q. removed.outputs p q ∙ ap (λ b. b && not (same p path && holds links.outputs q)) (are.outputs p q)
        ∙ kind_removed (λ l. l.outputs) (λ q. refl) p q (same p path) refl;
    derivers =
        λ p q. removed.derivers p q ∙ ap (λ b. b && not (same p path && holds (listed links.deriver) q))
        (are.derivers p q) ∙ kind_removed (λ l. listed l.deriver) (λ q. refl) p q (same p path) refl;
  }

mapped_none : (b : Bool) (o : Option Outlined)
    → option_map links_in (cond b None o) ≡ cond b None (option_map links_in o)
mapped_none true o = refl
mapped_none false o = refl

pub turned_removed : (m : Objects) (path : Path) (x : Outlined) (old new : LinksValue) → finite.get m path ≡ Some x
    → AreLinksOf (links_of m) old → IsRemoved old new path (links_in x)
    → AreLinksOf (links_of (finite.remove m path)) new
turned_removed m path x old new here are removed =
    as_links (λ p. cond (same p path) None (links_of m p)) (links_of (finite.remove m path)) new
    (λ p. sym (ap (option_map links_in) (finite.get-remove bytes_total m path p)
    ∙ mapped_none (same p path) (finite.get m p)))
    (removed_links (links_of m) path (links_in x) (ap (option_map links_in) here) old new are removed)

-- a path that has no object isn't removed
pub turned_unremoved : (m : Objects) (path : Path) (l : LinksValue) → finite.get m path ≡ None
    → AreLinksOf (links_of m) l → AreLinksOf (links_of (finite.remove m path)) l
turned_unremoved m path l none are =
    as_links (links_of m) (links_of (finite.remove m path)) l
    (λ p. sym (ap (option_map links_in) (finite.get-remove bytes_total m path p ∙ by p (same p path) refl))) are
  where
    by : (p : Path) (b : Bool) → same p path ≡ b → cond b None (finite.get m p) ≡ finite.get m p
    by p true t = sym (ap (finite.get m) (tied_is bytes_antisymmetric p path t) ∙ none)
    by p false t = refl

-- ---- many objects less

module _ (object : Path → Option Links) (paths : List Path) (old new : LinksValue) (are : AreLinksOf object old)
    (removed : AreRemoved old new paths) where
  abbrev after : Path → Option Links
  after p = if holds paths p then None else object p

  held_after : (p : Path) (b : Bool) → holds paths p ≡ b
      → (is_some (object p) && not b) ≡ is_some (if b then None else object p)
  held_after p true e = and_false (is_some (object p))
    where
      and_false : (a : Bool) → (a && false) ≡ false
      and_false true = refl
      and_false false = refl
  held_after p false e = and_true (is_some (object p))
    where
      and_true : (a : Bool) → (a && true) ≡ a
      and_true true = refl
      and_true false = refl

  held : (p : Path) → is_held new p ≡ is_some (after p)
  held p = removed.held p ∙ ap (λ b. b && not (holds paths p)) (are.held p) ∙ held_after p (holds paths p) refl

  module _ (kind : Links → List Path) (empty : (q : Path) → holds (kind (links_found None)) q ≡ false) where
    found_after : (o : Option Links) (q : Path) (b : Bool)
        → (holds (kind (links_found o)) q && is_some (if b then None else o))
        ≡ holds (kind (links_found (if b then None else o))) q
    found_after o q true = and_false (holds (kind (links_found o)) q) ∙ sym (empty q)
      where
        and_false : (a : Bool) → (a && false) ≡ false
        and_false true = refl
        and_false false = refl
    found_after None q false = ap (λ b. b && false) (empty q) ∙ sym (empty q)
    found_after (Some x) q false = and_true (holds (kind x) q)
      where
        and_true : (a : Bool) → (a && true) ≡ a
        and_true true = refl
        and_true false = refl

    kind_after : (p q : Path) → (holds (kind (links_found (object p))) q && is_held new p)
        ≡ holds (kind (links_found (after p))) q
    kind_after p q =
        ap (λ b. holds (kind (links_found (object p))) q && b) (held p) ∙ found_after (object p) q (holds paths p)

  pub links_after : AreLinksOf (λ p. if holds paths p then None else object p) new
  links_after = record {
    held = held;
    references =
        λ p q. removed.references p q ∙ ap (λ b. b && is_held new p) (are.references p q)
        ∙ kind_after (λ l. l.references) (λ q. refl) p q;
    outputs =
        λ p q. removed.outputs p q ∙ ap (λ b. b && is_held new p) (are.outputs p q)
        ∙ kind_after (λ l. l.outputs) (λ q. refl) p q;
    derivers =
        λ p q. removed.derivers p q ∙ ap (λ b. b && is_held new p) (are.derivers p q)
        ∙ kind_after (λ l. listed l.deriver) (λ q. refl) p q;
  }

pub turned_retained : (m : Objects) (paths : List Path) (l : LinksValue)
    → AreLinksOf (λ p. if holds paths p then None else links_of m p) l
    → AreLinksOf (links_of (finite.retain_keys m (λ p. not (holds paths p)))) l
turned_retained m paths l are =
    as_links (λ p. if holds paths p then None else links_of m p)
    (links_of (finite.retain_keys m (λ p. not (holds paths p)))) l
    (λ p. sym (ap (option_map links_in) (get-kept bytes_total bytes_antisymmetric m (λ p. not (holds paths p)) p)
    ∙ by (holds paths p) (finite.get m p))) are
  where
    by : (b : Bool) (o : Option Outlined)
        → option_map links_in (cond (not b) o None) ≡ (if b then None else option_map links_in o)
    by true o = refl
    by false o = refl

-- ---- what a reference refers to

pub if_copied : {X : Type 0} (P : X → Type 0) (r : Option (Bor X)) (o : Option X) → option_copied r ≡ o → IfSome o P
    → IfSome r (λ x. P x.now)
if_copied P None o e h = tt
if_copied P (Some b) o e h = subst (λ x. IfSome x P) (sym e) h

-- links that were made, if there was memory
pub ok_turned : {E : Type 0} (P : LinksValue → Type 0) (r : Result LinksValue E) → IfOk r P → IfSome (result_ok r) P
ok_turned P (Ok l) h = h
ok_turned P (Err e) h = tt

pub some_turned : (P : LinksValue → Type 0) (o : Option LinksValue) (l : LinksValue) → o ≡ Some l → IfSome o P → P l
some_turned P o l e h = subst (λ x. IfSome x P) e h

pub if_turned : (P Q : LinksValue → Type 0) (o : Option LinksValue) → ((l : LinksValue) → P l → Q l) → IfSome o P
    → IfSome o Q
if_turned P Q None more h = tt
if_turned P Q (Some l) more h = more l h

-- ---- a part that changes

pub changed : {V W T E : Type 0} (f : V → W) (old new after : V) (r : Result T E) → ChangesTo old new r after
    → ChangesTo (f old) (f new) r (f after)
changed f old new after (Ok x) c = record { done = ap f c.done; failed = tt }
changed f old new after (Err e) c = record { done = tt; failed = ap f c.failed }
