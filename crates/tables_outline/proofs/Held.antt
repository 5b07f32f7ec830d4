-- Links of paths, as names and lists change.
use Rattle.std.proofs.Common.{◌≡◌, ℕ, ◌<◌, ◌==◌, Bool, true, false, ◌&&◌, ◌||◌, not, List, [], ◌∷◌, ◌++◌, length}
use Rattle.std.proofs.Common.{Option, Some, None, refl, sym, ap, ◌∙◌, subst, inl, inr}
use Rattle.std.proofs.lemmas.Bool.{eqb-true, false_from_ne_true, or_cases}
use Rattle.std.proofs.lemmas.List.Folds.{list_any-append}
use Rattle.live.specs.Graph.{Path, holds, same}
use Rattle.live.specs.Numbering.{place_of}
use Rattle.live.proofs.Reach.{same_is}
use Rattle.tables_outline.specs.Links.{AreCleared, AreInside, AreLinked, AreMore, AreUnlinked, IsReady, flag_of}
use Rattle.tables_outline.specs.Links.{is_linked, lists_both}
use Rattle.tables_outline.specs.LinkLists.{flag_at, has}
use Rattle.tables_outline.specs.LinkNames.{with_name}
use Rattle.tables_outline.proofs.Bools.{and_all, and_more, and_not_more, and_nothing, and_true, or_more, or_nothing}
use Rattle.tables_outline.proofs.Bools.{turn_and}
use Rattle.tables_outline.proofs.Named.{and_more_names, more_named, no_more, numbered, same_number}

-- ---- more names change nothing of what is linked

-- a number that a path had, or one that is new
abbrev Kept : ℕ → Option ℕ → Option ℕ → Type 0
Kept n None after = (i : ℕ) → after ≡ Some i → i < n → ⊥
Kept n (Some i) after = after ≡ Some i

kept_number : (a b : List Path) → AreMore a b → (p : Path) (o : Option ℕ) → place_of a p ≡ o
    → Kept (length a) o (place_of b p)
kept_number a b more p None e = λ i f l. more.fresh p i e f l
kept_number a b more p (Some i) e = more.kept p i e

kept_place : (a b : List Path) → AreMore a b → (p : Path) → Kept (length a) (place_of a p) (place_of b p)
kept_place a b more p = kept_number a b more p (place_of a p) refl

module _ (n : ℕ) (lists : List (List ℕ)) (inside : AreInside n lists) where
  -- what is beyond the numbers isn't listed
  beyond_target : (t s : ℕ) → (t < n → ⊥) → has lists t s ≡ false
  beyond_target t s past = false_from_ne_true (has lists t s) (λ e. past (inside.each t s e).0)

  beyond_source : (t s : ℕ) → (s < n → ⊥) → has lists t s ≡ false
  beyond_source t s past = false_from_ne_true (has lists t s) (λ e. past (inside.each t s e).1)

  new_target : (t' s' : Option ℕ) → Kept n None t' → lists_both lists t' s' ≡ false
  new_target None s' k = refl
  new_target (Some t) None k = refl
  new_target (Some t) (Some s) k = beyond_target t s (k t refl)

  new_source : (t : ℕ) (s' : Option ℕ) → Kept n None s' → lists_both lists (Some t) s' ≡ false
  new_source t None k = refl
  new_source t (Some s) k = beyond_source t s (k s refl)

  still : (t t' s s' : Option ℕ) → Kept n t t' → Kept n s s' → lists_both lists t' s' ≡ lists_both lists t s
  still None t' s s' k l = new_target t' s' k
  still (Some t) t' None s' k l = ap (λ o. lists_both lists o s') k ∙ new_source t s' l
  still (Some t) t' (Some s) s' k l = ap (λ o. lists_both lists o s') k ∙ ap (lists_both lists (Some t)) l

pub linked_still : (a b : List Path) (lists : List (List ℕ)) → AreMore a b → AreInside (length a) lists → (p q : Path)
    → is_linked b lists p q ≡ is_linked a lists p q
linked_still a b lists more inside p q =
    still (length a) lists inside (place_of a q) (place_of b q) (place_of a p) (place_of b p) (kept_place a b more q)
    (kept_place a b more p)

pub inside_still : (a b : List Path) (lists : List (List ℕ)) → AreMore a b → AreInside (length a) lists
    → AreInside (length b) lists
inside_still a b lists more inside =
    record { each = λ i x e. (let l = inside.each i x e in (more.count i l.0, more.count x l.1)) }

flag_still : (n : ℕ) (flags : List Bool) → ((i : ℕ) → flag_at flags i ≡ true → i < n) → (o o' : Option ℕ) → Kept n o o'
    → flag_of flags o' ≡ flag_of flags o
flag_still n flags inside None None k = refl
flag_still n flags inside None (Some i) k = false_from_ne_true (flag_at flags i) (λ e. k i refl (inside i e))
flag_still n flags inside (Some i) o' k = ap (flag_of flags) k

pub held_still : (a b : List Path) (flags : List Bool) → AreMore a b → ((i : ℕ) → flag_at flags i ≡ true → i < length a)
    → (p : Path) → flag_of flags (place_of b p) ≡ flag_of flags (place_of a p)
held_still a b flags more inside p =
    flag_still (length a) flags inside (place_of a p) (place_of b p) (kept_place a b more p)

-- a path that has no number is none of those that have one
other_path : (names : List Path) (p q : Path) (i : ℕ) → place_of names p ≡ None → place_of names q ≡ Some i
    → same p q ≡ false
other_path names p q i e f = false_from_ne_true (same p q) (λ t. (
    let absent : None ≡ Some i = sym e ∙ ap (place_of names) (same_is p q t) ∙ f in
    cc))

-- ---- one link more

module _ (names : List Path) (lists lists_after : List (List ℕ)) (s t : Path) (x b : ℕ)
    (at_s : place_of names s ≡ Some x) (at_t : place_of names t ≡ Some b) where
  module _ (pushed : (i y : ℕ) → has lists_after i y ≡ (has lists i y || (i == b && y == x))) where
    one_more : (p q : Path) (o n : Option ℕ) → place_of names q ≡ o → place_of names p ≡ n
        → lists_both lists_after o n ≡ (lists_both lists o n || (same p s && (same q t || false)))
    one_more p q None n e f =
        sym (and_nothing (same p s) (same q t || false) (or_nothing (same q t) ∙ other_path names q t b e at_t))
    one_more p q (Some i) None e f = sym (ap (λ c. c && (same q t || false)) (other_path names p s x f at_s))
    one_more p q (Some i) (Some y) e f =
        pushed i y ∙ ap (λ c. has lists i y || c)
        (turn_and (i == b) (y == x) ∙ ap (λ c. c && i == b) (same_number names p s y x f at_s)
        ∙ ap (λ c. same p s && c) (same_number names q t i b e at_t ∙ sym (or_nothing (same q t))))

    pub linked_one : (p q : Path) → is_linked names lists_after p q
        ≡ (is_linked names lists p q || (same p s && holds (t ∷ []) q))
    linked_one p q = one_more p q (place_of names q) (place_of names p) refl refl

  module _ (forgotten : (i y : ℕ) → has lists_after i y ≡ (has lists i y && not (i == b && y == x))) where
    one_less : (p q : Path) (o n : Option ℕ) → place_of names q ≡ o → place_of names p ≡ n
        → lists_both lists_after o n ≡ (lists_both lists o n && not (same p s && (same q t || false)))
    one_less p q None n e f = refl
    one_less p q (Some i) None e f = refl
    one_less p q (Some i) (Some y) e f =
        forgotten i y ∙ ap (λ c. has lists i y && not c)
        (turn_and (i == b) (y == x) ∙ ap (λ c. c && i == b) (same_number names p s y x f at_s)
        ∙ ap (λ c. same p s && c) (same_number names q t i b e at_t ∙ sym (or_nothing (same q t))))

    pub unlinked_one : (p q : Path)
        → is_linked names lists_after p q ≡ (is_linked names lists p q && not (same p s && holds (t ∷ []) q))
    unlinked_one p q = one_less p q (place_of names q) (place_of names p) refl refl

pub inside_more : (n b x : ℕ) (lists lists_after : List (List ℕ)) → AreInside n lists → b < n → x < n
    → ((i y : ℕ) → has lists_after i y ≡ (has lists i y || (i == b && y == x))) → AreInside n lists_after
inside_more n b x lists lists_after inside below source pushed = record {
  each =
      λ i y e. elim (or_cases (has lists i y) (i == b && y == x) (sym (pushed i y) ∙ e)) as (λ _. (i < n) × (y < n)) [
        | inl was ↦ inside.each i y was
        | inr new ↦ (
            let both = and_true (i == b) (y == x) new in (
              subst (λ j. j < n) (sym (eqb-true i b both.0)) below,
              subst (λ j. j < n) (sym (eqb-true y x both.1)) source,
            ))
      ];
}

-- a target gets a number if it has none, and the source is listed with it
pub link_one : (names : List Path) (lists lists_after : List (List ℕ)) (t : Path) (x b : ℕ) (after : List Path)
    → after ≡ with_name names t → AreInside (length names) lists → x < length names
    → place_of after t ≡ Some b → ((i y : ℕ) → has lists_after i y ≡ (has lists i y || (i == b && y == x)))
    → AreLinked names after lists lists_after x (t ∷ [])
link_one names lists lists_after t x b after is inside source at pushed =
    let more : AreMore names after = subst (λ n. AreMore names n) (sym is) (more_named names t) in
    record {
      more = more;
      inside =
          inside_more (length after) b x lists lists_after (inside_still names after lists more inside)
          (numbered after t b at).0 (more.count x source) pushed;
      linked = λ s e p q. linked_one after lists lists_after s t x b (more.kept s x e) at pushed p q
          ∙ ap (λ c. c || (same p s && holds (t ∷ []) q)) (linked_still names after lists more inside p q);
    }

-- the source stays ready
pub ready_still : (names after : List Path) (lists lists_after : List (List ℕ)) (x : ℕ) (ts : List Path)
    → IsReady names lists x → AreLinked names after lists lists_after x ts → IsReady after lists_after x
ready_still names after lists lists_after x ts ready linked =
    record { inside = linked.inside; source = linked.more.count x ready.source }

pub link_none : (names : List Path) (lists : List (List ℕ)) (x : ℕ) → AreInside (length names) lists
    → AreLinked names names lists lists x []
link_none names lists x inside = record {
  more = no_more names;
  inside = inside;
  linked =
      λ s e p q. sym (ap (λ c. is_linked names lists p q || c) (and_nothing (same p s) false refl)
      ∙ or_nothing (is_linked names lists p q));
}

-- links to some targets, and then to more
pub link_more : (a b c : List Path) (k l m : List (List ℕ)) (x : ℕ) (ts us : List Path) → AreLinked a b k l x ts
    → AreLinked b c l m x us → AreLinked a c k m x (ts ++ us)
link_more a b c k l m x ts us f g = record {
  more = and_more_names a b c f.more g.more;
  inside = g.inside;
  linked = λ s e p q. g.linked s (f.more.kept s x e) p q ∙ ap (λ y. y || (same p s && holds us q)) (f.linked s e p q)
      ∙ or_more (is_linked a k p q) (same p s) (holds ts q) (holds us q)
      ∙ ap (λ y. is_linked a k p q || (same p s && y)) (sym (list_any-append (same q) ts us));
}

-- ---- fewer links

pub unlink_one : (names : List Path) (lists lists_after : List (List ℕ)) (t : Path) (x b : ℕ)
    → place_of names t ≡ Some b → ((i y : ℕ) → has lists_after i y ≡ (has lists i y && not (i == b && y == x)))
    → AreUnlinked names lists lists_after x (t ∷ [])
unlink_one names lists lists_after t x b at forgotten = record {
  fewer = λ i y e. (and_true (has lists i y) (not (i == b && y == x)) (sym (forgotten i y) ∙ e)).0;
  linked = λ s e p q. unlinked_one names lists lists_after s t x b e at forgotten p q;
}

-- a target without a number has no links
pub unlink_unnamed : (names : List Path) (lists : List (List ℕ)) (t : Path) (x : ℕ) → place_of names t ≡ None
    → AreUnlinked names lists lists x (t ∷ [])
unlink_unnamed names lists t x none = record {
  fewer = λ i y e. e;
  linked = λ s e p q. by s p q (same q t) refl;
}
  where
    by : (s p q : Path) (b : Bool) → same q t ≡ b
        → is_linked names lists p q ≡ (is_linked names lists p q && not (same p s && (same q t || false)))
    by s p q false f =
        sym (ap (λ c. is_linked names lists p q && not (same p s && (c || false))) f
        ∙ ap (λ c. is_linked names lists p q && not c) (and_nothing (same p s) false refl)
        ∙ and_all (is_linked names lists p q) true refl)
    by s p q true f =
        let absent : is_linked names lists p q ≡ false =
        ap (λ o. lists_both lists o (place_of names p)) (ap (place_of names) (same_is q t f) ∙ none) in
        absent ∙ sym (ap (λ c. c && not (same p s && (same q t || false))) absent)

pub unlink_none : (names : List Path) (lists : List (List ℕ)) (x : ℕ) → AreUnlinked names lists lists x []
unlink_none names lists x = record {
  fewer = λ i y e. e;
  linked =
      λ s e p q. sym (ap (λ c. is_linked names lists p q && not c) (and_nothing (same p s) false refl)
      ∙ and_all (is_linked names lists p q) true refl);
}

pub unlink_more : (names : List Path) (k l m : List (List ℕ)) (x : ℕ) (ts us : List Path) → AreUnlinked names k l x ts
    → AreUnlinked names l m x us → AreUnlinked names k m x (ts ++ us)
unlink_more names k l m x ts us f g = record {
  fewer = λ i y e. f.fewer i y (g.fewer i y e);
  linked = λ s e p q. g.linked s e p q ∙ ap (λ y. y && not (same p s && holds us q)) (f.linked s e p q)
      ∙ and_more (is_linked names k p q) (same p s) (holds ts q) (holds us q)
      ∙ ap (λ y. is_linked names k p q && not (same p s && y)) (sym (list_any-append (same q) ts us));
}

-- ---- fewer flags

module _ (names : List Path) (flags flags_after : List Bool) (t : Path) (b : ℕ) (at : place_of names t ≡ Some b)
    (cleared : (i : ℕ) → flag_at flags_after i ≡ (flag_at flags i && not (i == b))) where
  one_cleared : (p : Path) (o : Option ℕ) → place_of names p ≡ o
      → flag_of flags_after o ≡ (flag_of flags o && not (same p t || false))
  one_cleared p None e = refl
  one_cleared p (Some i) e =
      cleared i ∙ ap (λ c. flag_at flags i && not c) (same_number names p t i b e at ∙ sym (or_nothing (same p t)))

  pub clear_one : AreCleared names flags flags_after (t ∷ [])
  clear_one = record {
    fewer = λ i e. (and_true (flag_at flags i) (not (i == b)) (sym (cleared i) ∙ e)).0;
    cleared = λ p. one_cleared p (place_of names p) refl;
  }

-- a path without a number has no flag
pub clear_unnamed : (names : List Path) (flags : List Bool) (t : Path) → place_of names t ≡ None
    → AreCleared names flags flags (t ∷ [])
clear_unnamed names flags t none = record {
  fewer = λ i e. e;
  cleared = λ p. by p (same p t) refl;
}
  where
    by : (p : Path) (b : Bool) → same p t ≡ b
        → flag_of flags (place_of names p) ≡ (flag_of flags (place_of names p) && not (same p t || false))
    by p false f =
        sym (ap (λ c. flag_of flags (place_of names p) && not (c || false)) f
        ∙ and_all (flag_of flags (place_of names p)) true refl)
    by p true f =
        let absent : flag_of flags (place_of names p) ≡ false =
        ap (flag_of flags) (ap (place_of names) (same_is p t f) ∙ none) in
        absent ∙ sym (ap (λ c. c && not (same p t || false)) absent)

pub clear_none : (names : List Path) (flags : List Bool) → AreCleared names flags flags []
clear_none names flags =
    record { fewer = λ i e. e; cleared = λ p. sym (and_all (flag_of flags (place_of names p)) true refl) }

pub clear_more : (names : List Path) (f g h : List Bool) (ts us : List Path) → AreCleared names f g ts
    → AreCleared names g h us → AreCleared names f h (ts ++ us)
clear_more names f g h ts us c d = record {
  fewer = λ i e. c.fewer i (d.fewer i e);
  cleared =
      λ p. d.cleared p ∙ ap (λ y. y && not (holds us p)) (c.cleared p)
      ∙ and_not_more (flag_of f (place_of names p)) (holds ts p) (holds us p)
      ∙ ap (λ y. flag_of f (place_of names p) && not y) (sym (list_any-append (same p) ts us));
}

-- ---- what has a flag stays

kept_links : (lists lists_after : List (List ℕ)) (flags : List Bool)
    → ((i x : ℕ) → has lists_after i x ≡ (has lists i x && flag_at flags x)) → (t s : Option ℕ)
    → lists_both lists_after t s ≡ (lists_both lists t s && flag_of flags s)
kept_links lists lists_after flags kept None s = refl
kept_links lists lists_after flags kept (Some t) None = refl
kept_links lists lists_after flags kept (Some t) (Some s) = kept t s

pub linked_kept : (names : List Path) (lists lists_after : List (List ℕ)) (flags : List Bool)
    → ((i x : ℕ) → has lists_after i x ≡ (has lists i x && flag_at flags x)) → (p q : Path)
    → is_linked names lists_after p q ≡ (is_linked names lists p q && flag_of flags (place_of names p))
linked_kept names lists lists_after flags kept p q =
    kept_links lists lists_after flags kept (place_of names q) (place_of names p)

pub inside_fewer : (n : ℕ) (lists lists_after : List (List ℕ)) → AreInside n lists
    → ((i x : ℕ) → has lists_after i x ≡ true → has lists i x ≡ true) → AreInside n lists_after
inside_fewer n lists lists_after inside fewer = record { each = λ i x e. inside.each i x (fewer i x e) }

pub fewer_kept : (lists lists_after : List (List ℕ)) (flags : List Bool)
    → ((i x : ℕ) → has lists_after i x ≡ (has lists i x && flag_at flags x)) → (i x : ℕ) → has lists_after i x ≡ true
    → has lists i x ≡ true
fewer_kept lists lists_after flags kept i x e = (and_true (has lists i x) (flag_at flags x) (sym (kept i x) ∙ e)).0
