-- Objects that are added to links and removed from them.
use Rattle.std.proofs.Common.{◌≡◌, ℕ, ◌<◌, ◌==◌, Bool, true, false, ◌&&◌, ◌||◌, not, List, length, Option, Some, None}
use Rattle.std.proofs.Common.{refl, sym, ap, ◌∙◌, subst, inl, inr}
use Rattle.std.proofs.lemmas.Bool.{eqb-true, false_from_ne_true, or_cases}
use Rattle.live.specs.Graph.{Path, Links, holds, listed, same}
use Rattle.live.specs.Numbering.{place_of}
use Rattle.live.proofs.Reach.{same_is}
use Rattle.tables_outline.specs.Links.{AreCleared, AreLinked, AreMore, AreRemoved, AreSound, AreUnlinked, IsAdded}
use Rattle.tables_outline.specs.Links.{IsReady, IsRemoved, LinksValue, flag_of, is_held, is_linked, lists_both}
use Rattle.tables_outline.specs.LinkLists.{flag_at, has}
use Rattle.tables_outline.specs.LinkNames.{name_at, with_name}
use Rattle.tables_outline.proofs.Bools.{and_all, and_true}
use Rattle.tables_outline.proofs.Held.{fewer_kept, held_still, inside_fewer, inside_still, linked_kept, linked_still}
use Rattle.tables_outline.proofs.Named.{and_more_names, more_named, numbered, same_number}

-- ---- an object is added

module _ (old : LinksValue) (sound : AreSound old) (path : Path) (links : Links) (first second third last : List Path)
    (held : List Bool) (references outputs derivers : List (List ℕ)) (x : ℕ)
    (named : first ≡ with_name old.names path) (at : place_of first path ≡ Some x)
    (flagged : (i : ℕ) → flag_at held i ≡ (flag_at old.held i || i == x))
    (one : AreLinked first second old.references references x links.references)
    (two : AreLinked second third old.outputs outputs x links.outputs)
    (three : AreLinked third last old.derivers derivers x (listed links.deriver)) where
  abbrev pub new : LinksValue
  new = record { names = last; held = held; references = references; outputs = outputs; derivers = derivers }

  begun : AreMore old.names first
  begun = subst (λ n. AreMore old.names n) (sym named) (more_named old.names path)

  to_second : AreMore old.names second
  to_second = and_more_names old.names first second begun one.more

  to_third : AreMore old.names third
  to_third = and_more_names old.names second third to_second two.more

  after_first : AreMore first last
  after_first = and_more_names first second last one.more (and_more_names second third last two.more three.more)

  below : x < length first
  below = (numbered first path x at).0

  held_inside : (i : ℕ) → flag_at held i ≡ true → i < length first
  held_inside i e = elim (or_cases (flag_at old.held i) (i == x) (sym (flagged i) ∙ e)) as (λ _. i < length first) [
    | inl was ↦ begun.count i (sound.held i was)
    | inr is ↦ subst (λ j. j < length first) (sym (eqb-true i x is)) below
  ]

  pub added_sound : AreSound new
  added_sound = record {
    held = λ i e. after_first.count i (held_inside i e);
    references = inside_still second last references (and_more_names second third last two.more three.more) one.inside;
    outputs = inside_still third last outputs three.more two.inside;
    derivers = three.inside;
  }

  flag_more : (p : Path) (o : Option ℕ) → place_of first p ≡ o → flag_of held o ≡ (flag_of old.held o || same p path)
  flag_more p None e = sym (false_from_ne_true (same p path) (λ t. (
      let absent : None ≡ Some x = sym e ∙ ap (place_of first) (same_is p path t) ∙ at in
      cc)))
  flag_more p (Some i) e = flagged i ∙ ap (λ b. flag_at old.held i || b) (same_number first p path i x e at)

  pub is_added : IsAdded old new path links
  is_added = record {
    held = λ p. held_still first last held after_first held_inside p ∙ flag_more p (place_of first p) refl
        ∙ ap (λ b. b || same p path) (held_still old.names first old.held begun sound.held p);
    references =
        λ p q. linked_still second last references (and_more_names second third last two.more three.more) one.inside p q
        ∙ one.linked path at p q ∙ ap (λ b. b || (same p path && holds links.references q))
        (linked_still old.names first old.references begun sound.references p q);
    outputs = λ p q. linked_still third last outputs three.more two.inside p q
        ∙ two.linked path (one.more.kept path x at) p q
        ∙ ap (λ b. b || (same p path && holds links.outputs q))
        (linked_still old.names second old.outputs to_second sound.outputs p q);
    derivers = λ p q. three.linked path (two.more.kept path x (one.more.kept path x at)) p q
        ∙ ap (λ b. b || (same p path && holds (listed links.deriver) q))
        (linked_still old.names third old.derivers to_third sound.derivers p q);
  }

-- what the functions that link need
module _ (old : LinksValue) (sound : AreSound old) (path : Path) (first : List Path) (x : ℕ)
    (named : first ≡ with_name old.names path) (at : place_of first path ≡ Some x) where
  to_first : AreMore old.names first
  to_first = subst (λ n. AreMore old.names n) (sym named) (more_named old.names path)

  source : x < length first
  source = (numbered first path x at).0

  pub ready_first : IsReady first old.references x
  ready_first =
      record { inside = inside_still old.names first old.references to_first sound.references; source = source }

  module _ (second : List Path) (references : List (List ℕ)) (refs : List Path)
      (one : AreLinked first second old.references references x refs) where
    pub ready_second : IsReady second old.outputs x
    ready_second =
        record {
          inside = inside_still old.names second old.outputs
              (and_more_names old.names first second to_first one.more) sound.outputs;
          source = one.more.count x source;
        }

    module _ (third : List Path) (outputs : List (List ℕ)) (outs : List Path)
        (two : AreLinked second third old.outputs outputs x outs) where
      pub ready_last : IsReady third old.derivers x
      ready_last = record {
        inside =
            inside_still old.names third old.derivers
            (and_more_names old.names second third (and_more_names old.names first second to_first one.more) two.more)
            sound.derivers;
        source = two.more.count x (one.more.count x source);
      }

-- ---- an object is removed

module _ (old : LinksValue) (sound : AreSound old) (path : Path) (links : Links) where
  module _ (held : List Bool) (references outputs derivers : List (List ℕ)) (x : ℕ)
      (at : place_of old.names path ≡ Some x)
      (one : AreUnlinked old.names old.references references x links.references)
      (two : AreUnlinked old.names old.outputs outputs x links.outputs)
      (three : AreUnlinked old.names old.derivers derivers x (listed links.deriver))
      (cleared : (i : ℕ) → flag_at held i ≡ (flag_at old.held i && not (i == x))) where
    abbrev pub less : LinksValue
    less = record { names = old.names; held = held; references = references; outputs = outputs; derivers = derivers }

    flag_less : (p : Path) (o : Option ℕ) → place_of old.names p ≡ o
        → flag_of held o ≡ (flag_of old.held o && not (same p path))
    flag_less p None e = refl
    flag_less p (Some i) e = cleared i ∙ ap (λ b. flag_at old.held i && not b) (same_number old.names p path i x e at)

    pub is_removed : IsRemoved old less path links
    is_removed = record {
      held = λ p. flag_less p (place_of old.names p) refl;
      references = λ p q. one.linked path at p q;
      outputs = λ p q. two.linked path at p q;
      derivers = λ p q. three.linked path at p q;
    }

    pub removed_sound : AreSound less
    removed_sound = record {
      held = λ i e. sound.held i (and_true (flag_at old.held i) (not (i == x)) (sym (cleared i) ∙ e)).0;
      references = inside_fewer (length old.names) old.references references sound.references one.fewer;
      outputs = inside_fewer (length old.names) old.outputs outputs sound.outputs two.fewer;
      derivers = inside_fewer (length old.names) old.derivers derivers sound.derivers three.fewer;
    }

  -- a path that has no number is no object's, and the source of nothing
  module _ (none : place_of old.names path ≡ None) where
    unlinked : (lists : List (List ℕ)) (p q : Path) (b : Bool) → same p path ≡ b → (t : Bool)
        → is_linked old.names lists p q ≡ (is_linked old.names lists p q && not (b && t))
    unlinked lists p q false e t = sym (and_all (is_linked old.names lists p q) true refl)
    unlinked lists p q true e t =
        let absent : is_linked old.names lists p q ≡ false =
        ap (lists_both lists (place_of old.names q)) (ap (place_of old.names) (same_is p path e) ∙ none)
        ∙ no_source (place_of old.names q) in
        absent ∙ sym (ap (λ b. b && not t) absent)
      where
        no_source : (o : Option ℕ) → lists_both lists o None ≡ false
        no_source None = refl
        no_source (Some i) = refl

    unflagged : (p : Path) (b : Bool) → same p path ≡ b → is_held old p ≡ (is_held old p && not b)
    unflagged p false e = sym (and_all (is_held old p) true refl)
    unflagged p true e =
        let absent : is_held old p ≡ false =
        ap (flag_of old.held) (ap (place_of old.names) (same_is p path e) ∙ none) in
        absent ∙ sym (ap (λ b. b && not true) absent)

    pub nothing_removed : IsRemoved old old path links
    nothing_removed = record {
      held = λ p. unflagged p (same p path) refl;
      references = λ p q. unlinked old.references p q (same p path) refl (holds links.references q);
      outputs = λ p q. unlinked old.outputs p q (same p path) refl (holds links.outputs q);
      derivers = λ p q. unlinked old.derivers p q (same p path) refl (holds (listed links.deriver) q);
    }

-- ---- objects are removed

module _ (old : LinksValue) (sound : AreSound old) (paths : List Path) (held : List Bool)
    (references outputs derivers : List (List ℕ)) (cleared : AreCleared old.names old.held held paths)
    (one : (i x : ℕ) → has references i x ≡ (has old.references i x && flag_at held x))
    (two : (i x : ℕ) → has outputs i x ≡ (has old.outputs i x && flag_at held x))
    (three : (i x : ℕ) → has derivers i x ≡ (has old.derivers i x && flag_at held x)) where
  abbrev pub left : LinksValue
  left = record { names = old.names; held = held; references = references; outputs = outputs; derivers = derivers }

  pub are_removed : AreRemoved old left paths
  are_removed = record {
    held = cleared.cleared;
    references = λ p q. linked_kept old.names old.references references held one p q;
    outputs = λ p q. linked_kept old.names old.outputs outputs held two p q;
    derivers = λ p q. linked_kept old.names old.derivers derivers held three p q;
  }

  pub left_sound : AreSound left
  left_sound = record {
    held = λ i e. sound.held i (cleared.fewer i e);
    references =
        inside_fewer (length old.names) old.references references sound.references
        (fewer_kept old.references references held one);
    outputs =
        inside_fewer (length old.names) old.outputs outputs sound.outputs (fewer_kept old.outputs outputs held two);
    derivers =
        inside_fewer (length old.names) old.derivers derivers sound.derivers
        (fewer_kept old.derivers derivers held three);
  }

-- ---- an object is found

pub found_held : (l : LinksValue) (p : Path) (i : ℕ) → place_of l.names p ≡ Some i → flag_at l.held i ≡ true
    → (place_of l.names p ≡ Some i) × (is_held l p ≡ true) × (i < length l.names) × (name_at l.names i ≡ p)
found_held l p i at flag = (let it = numbered l.names p i at in (at, ap (flag_of l.held) at ∙ flag, it.0, it.1))
