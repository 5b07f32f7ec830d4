-- Reads and writes of a migration, one after another.
use Rattle.std.proofs.Common.{not, String, Global, ◌≡◌, ℕ, suc, ◌+◌, ◌<◌, ◌≤◌, List, [], ◌∷◌, Bool, true, false, cond}
use Rattle.std.proofs.Common.{Some, None, Option, length, drop, drop-cons, get_or, refl, sym, ap, ap₂, subst, ◌∙◌}
use Rattle.std.proofs.Common.{arith}
use Rattle.std.specs.Ordering.{eq_by_cmp}
use Rattle.std.specs.declared.cmp.Ordering.{Ordering}
use Rattle.std.specs.Cmp.{IsTotalOrder, Equal-is}
use Rattle.std.specs.FinMap as finite
use Rattle.std.proofs.lemmas.List.{take_all, length-drop}
use Rattle.sqlite.specs.State.{State}
use Rattle.tables_sql.specs.Contents.{Stored, Contents, contents_of, texts_cmp}
use Rattle.tables_sql.specs.Calls.{Changes}
use Rattle.tables_sql.proofs.Orders.{texts_total, texts_antisymmetric}
use Rattle.model.specs.World.{Path}
use Rattle.tables_world.specs.Pieces.{piece_size, row_part, pieces_by, further_pieces}
use Rattle.tables_make.specs.Cutting.{put_pieces, cut_row, cut_found, cut_object}
use Rattle.tables_rows.specs.Entries.{stored, stored_of, IsStored}
use Rattle.tables_rows.specs.declared.objects.Object.{Object}
use Rattle.tables_make.proofs.Cuts.{size, further, no_piece}

-- one change of these contents in other words
pub changes_at : (a b : State) (f g : Contents → Contents) → f (contents_of a.now) ≡ g (contents_of a.now)
    → Changes a b f → Changes a b g
changes_at a b f g same h = record {
  was_open = h.was_open;
  is_open = h.is_open;
  schema = h.schema;
  contents = h.contents ∙ same;
  foreign_rows = h.foreign_rows;
  unshown = h.unshown;
  of_store = h.of_store;
  further = h.further;
  committed = h.committed;
  mode = h.mode;
  marks = h.marks;
}

-- ---- what was there is deleted, and a value is put

module _ {K X : Type 0} {R : K → K → Ordering} (o : IsTotalOrder R) (same : finite.IsAntisymmetric R) where
  pub put_over : (m : finite.FinMap R X) (k : K) (v : X)
      → finite.insert (finite.retain_keys m (λ x. not (eq_by_cmp R x k))) k v ≡ finite.insert m k v
  put_over m k v =
      finite.same_map o same (finite.insert (finite.retain_keys m (λ x. not (eq_by_cmp R x k))) k v)
      (finite.insert m k v) (λ q.
      finite.get-insert o (finite.retain_keys m (λ x. not (eq_by_cmp R x k))) k v q
      ∙ ap (cond (eq_by_cmp R q k) (Some v))
      (finite.get-retain_keys m (λ x. not (eq_by_cmp R x k)) q
      (λ x e. ap (λ y. not (eq_by_cmp R y k)) (sym (same q x e))))
      ∙ by (eq_by_cmp R q k) (finite.get m q)
      ∙ sym (finite.get-insert o m k v q))
    where
      by : (b : Bool) (g : Option X) → cond b (Some v) (cond (not b) g None) ≡ cond b (Some v) g
      by true g = refl
      by false g = refl

-- ---- an object that isn't there, or needs no cutting

pub none_cut : (p : Path) (c : Contents) → finite.get c.objects p ≡ None → c ≡ cut_object p c
none_cut p c none = ap (λ o. cut_found p o c) (sym none)

put_same : (m : finite.FinMap texts_cmp Stored) (p : Path) (o : Stored) → finite.get m p ≡ Some o
    → m ≡ finite.insert m p o
put_same m p o is =
    finite.same_map texts_total texts_antisymmetric m (finite.insert m p o)
    (λ q. by q (eq_by_cmp texts_cmp q p) refl ∙ sym (finite.get-insert texts_total m p o q))
  where
    by : (q : Path) (b : Bool) → eq_by_cmp texts_cmp q p ≡ b → finite.get m q ≡ cond b (Some o) (finite.get m q)
    by q true t = ap (finite.get m) (texts_antisymmetric q p ((Equal-is (texts_cmp q p)).0 t)) ∙ is
    by q false t = refl

no_bytes : (xs : List ℕ) → length xs ≡ 0 → xs ≡ []
no_bytes [] h = refl
no_bytes (x ∷ xs) h = absurd (omega (arith, h))

short_pieces : (nar : List ℕ) → length nar ≤ 65536 → further_pieces nar ≡ []
short_pieces nar short =
    let none : length (drop piece_size nar) ≡ 0 = omega (arith, length-drop piece_size nar, size, short) in
    ap (pieces_by nar 1) (no_bytes (drop piece_size nar) none) ∙ no_piece nar 1

pub short_cut : (p : Path) (o : Stored) (c : Contents) → length o.nar ≤ 65536 → finite.get c.objects p ≡ Some o
    → c ≡ cut_object p c
short_cut p o c short is =
    let whole : row_part o.nar ≡ o.nar = take_all piece_size o.nar (omega (arith, size, short)) in
    let objects : c.objects ≡ finite.insert c.objects p (record o { nar = row_part o.nar }) =
    put_same c.objects p o is ∙ ap (λ (nar : List ℕ). finite.insert c.objects p (record o { nar = nar }))
    (sym whole) in
    let pieces = sym (ap (λ es. put_pieces p es c.pieces) (short_pieces o.nar short)) in
    (λ i. record c { objects = objects i; pieces = pieces i }) ∙ ap (λ x. cut_found p x c) (sym is)

-- an object's row is deleted, and is put again with the first part of its archive, before the pieces of the rest
pub written : (x : Contents) (base p front digest hash after nar : List ℕ) (deriver ca : Option (String Global))
    → base ≡ p → front ≡ row_part nar → digest ≡ hash → after ≡ drop piece_size nar
    → ◌≡◌ {A = Contents} (record x {
      objects =
          finite.insert (finite.retain_keys x.objects (λ k. not (eq_by_cmp texts_cmp k base))) base
          (stored front digest deriver ca);
      pieces = put_pieces base (pieces_by after 1 after) x.pieces;
    })
    (cut_row p (stored nar hash deriver ca) x)
written x base p front digest hash after nar deriver ca named first same rest =
    let over = put_over texts_total texts_antisymmetric x.objects base (stored front digest deriver ca) in
    let row : finite.insert x.objects base (stored front digest deriver ca)
    ≡ finite.insert x.objects p (stored (row_part nar) hash deriver ca) =
    λ i. finite.insert x.objects (named i) (stored (first i) (same i) deriver ca) in
    let objects = over ∙ row in
    let pieces = further nar after rest in
    λ i. record x { objects = objects i; pieces = put_pieces (named i) (pieces i) x.pieces }

-- an object that is cut
pub long_cut : (p q : Path) (o : Stored) (c : Contents) → q ≡ p → finite.get c.objects p ≡ Some o
    → cut_row q o c ≡ cut_object p c
long_cut p q o c same is = ap (λ k. cut_row k o c) same ∙ ap (λ x. cut_found p x c) (sym is)

-- the place in a list from which it is left
pub left_at : {A : Type 0} (xs : List A) (i : ℕ) (x : A) → i < length xs → x ≡ get_or xs i x
    → drop i xs ≡ x ∷ drop (i + 1) xs
left_at xs i x h is =
    let next : suc i ≡ i + 1 = omega arith in
    drop-cons xs i x h ∙ ap₂ (λ y n. y ∷ drop n xs) (sym is) next

pub none_left : {A : Type 0} (xs : List A) → drop (length xs) xs ≡ []
none_left [] = refl
none_left (x ∷ xs) = none_left xs

-- ---- what a read found

pub found_is : (m : finite.FinMap texts_cmp Stored) (p : Path) (o : Option Object) (x : Object) → o ≡ Some x
    → IsStored m p o → ((stored_of x).0 ≡ p) × (finite.get m p ≡ Some (stored_of x).1)
found_is m p o x is h = let P : Option Object → Type 0 = λ y. IsStored m p y in subst P is h

pub none_is : (m : finite.FinMap texts_cmp Stored) (p : Path) (o : Option Object) → o ≡ None → IsStored m p o
    → finite.get m p ≡ None
none_is m p o is h = let P : Option Object → Type 0 = λ y. IsStored m p y in subst P is h
