-- Which rows an outline shows of next to those of objects, and what is deleted with an object of which it says that
-- there are none.
use Rattle.std.proofs.Common.{◌≡◌, ◌<◌, ℕ, List, [], ◌∷◌, ◌++◌, map, length, length-append, arith, Bool, true, false}
use Rattle.std.proofs.Common.{not, cond, Some, None, Option, option_map, is_some, refl, sym, ap, ap₂, subst, ◌∙◌}
use Rattle.std.proofs.Common.{IsTrue}
use Rattle.std.specs.Prelude.{ℤ}
use Rattle.std.specs.declared.cmp.Ordering.{Ordering}
use Rattle.std.specs.Ordering.{int_cmp}
use Rattle.std.specs.Cmp.{IsTotalOrder}
use Rattle.std.specs.FinMap as finite
use Rattle.std.specs.FinMap.Entries.{find as find_entry}
use Rattle.std.proofs.Math.Dec.{eqb}
use Rattle.std.proofs.lemmas.Bool.{false≢true, eqb-true}
use Rattle.std.proofs.lemmas.List.{length-map}
use Rattle.std.proofs.lemmas.Option.{same_Some}
use Rattle.live.specs.Graph.{same}
use Rattle.tables_sql.proofs.Orders.{numbered_total, numbered_antisymmetric}
use Rattle.tables_sql.specs.Contents.{Contents, Stored}
use Rattle.model.specs.World.{Path}
use Rattle.tables_world.specs.Pieces.{piece_size, joined, IsCut}
use Rattle.tables_world.specs.Rows.{pieces_in, object_in}
use Rattle.tables_world.specs.Worlds.{IsSoundContents, rows_of, world_in}
use Rattle.tables_world.proofs.Reported.{get-reference, get-output, get-piece}
use Rattle.tables_outline.specs.Outline.{OutlineValue, Outlined, outlined, outline_of}
use Rattle.tables_outline.proofs.Orders.{bytes_total, bytes_antisymmetric, pair_total, pair_antisymmetric}
use Rattle.tables_outline.proofs.Puts.{tied_is, get-kept}
use Rattle.tables_outline.proofs.Reported.{get-reported}
use Rattle.tables_writes.specs.Rewritten.{Covers, without_object}

-- ---- of sound rows their outline shows

-- an archive with a further piece is longer than a row holds
longer : (row : List ℕ) (pieces : List (ℤ × List ℕ)) → IsCut row pieces → (n : ℤ)
    → is_some (find_entry int_cmp n pieces) ≡ true → piece_size < length (row ++ joined pieces)
longer row [] cut n present = absurd (false≢true present)
longer row (e ∷ es) cut n present =
    omega (arith, cut.0, cut.2, length-append row (e.1 ++ joined es), length-append e.1 (joined es))

some_of : {X : Type 0} (o : Option X) → is_some o ≡ true → (x : X) × (o ≡ Some x)
some_of None h = absurd (false≢true h)
some_of (Some x) h = (x, refl)

module _ (dir : List ℕ) (c : Contents) (outline : OutlineValue) (rows : IsSoundContents dir c)
    (same_outline : outline_of (world_in c) ≡ outline) where
  abbrev reported : Path → Stored → Outlined
  reported p s = outlined (object_in (rows_of c) p s)

  found : (p : Path) (s : Stored) → finite.get c.objects p ≡ Some s → finite.get outline.objects p ≡ Some (reported p s)
  found p s present =
      ap (λ (x : OutlineValue). finite.get x.objects p) (sym same_outline)
      ∙ get-reported bytes_total bytes_antisymmetric (λ _ x. outlined x) (world_in c).objects p
      ∙ ap (option_map outlined) (get-reported bytes_total bytes_antisymmetric (object_in (rows_of c)) c.objects p
      ∙ ap (option_map (object_in (rows_of c) p)) present)

  pub covered : Covers outline c
  covered = record {
    references = λ p r present. let it =
        some_of (finite.get c.objects p) (rows.references p r present) in
        (reported p it.0, found p it.0 it.1, ap is_some (get-reference c p r) ∙ present);
    outputs = λ p name present. let it =
        some_of (finite.get c.objects p) (rows.outputs p name present) in
        (reported p it.0, found p it.0 it.1, ap is_some (get-output c p name) ∙ present);
    pieces = λ p n present.
        let it = some_of (finite.get c.objects p) (rows.pieces p n present) in
        let listed = ap is_some (sym (finite.get-entries (pieces_in (rows_of c) p) n) ∙ get-piece c p n) ∙ present in (
          reported p it.0,
          found p it.0 it.1,
          longer it.0.nar (finite.entries (pieces_in (rows_of c) p)) (rows.cut refl p it.0 it.1) n listed,
        );
  }

-- ---- and it does of those that are left

still : {K X : Type 0} {R : K → K → Ordering} (o : IsTotalOrder R) (alike : finite.IsAntisymmetric R)
    (m : finite.FinMap R X) (keep : K → Bool) (q : K)
    → IsTrue (finite.contains_key (finite.retain_keys m keep) q) → IsTrue (finite.contains_key m q)
still o alike m keep q present = by (keep q) (finite.get m q) (ap is_some (sym (get-kept o alike m keep q)) ∙ present)
  where
    by : {X : Type 0} (b : Bool) (g : Option X) → is_some (cond b g None) ≡ true → is_some g ≡ true
    by true g h = h
    by false g h = absurd (false≢true h)

pub covers_less : (outline : OutlineValue) (p : Path) (c : Contents) → Covers outline c
    → Covers outline (without_object p c)
covers_less outline p c h = record {
  references =
      λ q r present. h.references q r
      (still pair_total pair_antisymmetric c.refs (λ k. not (same k.0 p)) (q, r) present);
  outputs =
      λ q name present. h.outputs q name
      (still pair_total pair_antisymmetric c.outs (λ k. not (same k.0 p)) (q, name) present);
  pieces =
      λ q n present. h.pieces q n (still numbered_total numbered_antisymmetric c.pieces (λ k. not (same k.0 p)) (q, n)
      present);
}

-- of an object that it has it shows in other contents too that hold the same of it
module _ (outline : OutlineValue) (c : Contents) (p base : Path) (object : Outlined) (h : Covers outline c)
    (at : Some object ≡ finite.get outline.objects p) (same_path : base ≡ p) (d : Contents) where
  this_one : (x : Outlined) → finite.get outline.objects p ≡ Some x → x ≡ object
  this_one x is = sym (same_Some object x (at ∙ is))

  pub references_reported : d.refs ≡ c.refs → (r : Path) → IsTrue (finite.contains_key d.refs (base, r))
      → IsTrue (finite.contains_key object.references r)
  references_reported alike r present =
      let it = h.references p r (sym (ap₂ (λ m (k : Path). finite.contains_key m (k, r)) alike same_path) ∙ present) in
      subst (λ (x : Outlined). IsTrue (finite.contains_key x.references r)) (this_one it.0 it.1) it.2

  pub outputs_reported : d.outs ≡ c.outs → (name : Path) → IsTrue (finite.contains_key d.outs (base, name))
      → IsTrue (finite.contains_key object.outputs name)
  outputs_reported alike name present =
      let it =
      h.outputs p name (sym (ap₂ (λ m (k : Path). finite.contains_key m (k, name)) alike same_path) ∙ present) in
      subst (λ (x : Outlined). IsTrue (finite.contains_key x.outputs name)) (this_one it.0 it.1) it.2

  pub pieces_reported : d.pieces ≡ c.pieces → (n : ℤ) → IsTrue (finite.contains_key d.pieces (base, n))
      → piece_size < object.size
  pieces_reported alike n present =
      let it = h.pieces p n (sym (ap₂ (λ m (k : Path). finite.contains_key m (k, n)) alike same_path) ∙ present) in
      subst (λ (x : Outlined). piece_size < x.size) (this_one it.0 it.1) it.2

-- ---- what is deleted where there is none

missing : {X : Type 0} (o : Option X) → (is_some o ≡ true → ⊥) → o ≡ None
missing None h = refl
missing (Some x) h = absurd (h refl)

module _ {L X : Type 0} {R : Path × L → Path × L → Ordering} (o : IsTotalOrder R) (alike : finite.IsAntisymmetric R)
    (m : finite.FinMap R X) (p : Path) (none : (l : L) → IsTrue (finite.contains_key m (p, l)) → ⊥) where
  pub nothing_removed : finite.retain_keys m (λ k. not (same k.0 p)) ≡ m
  nothing_removed =
      finite.same_map o alike _ _ (λ q. get-kept o alike m (λ k. not (same k.0 p)) q ∙ by q (same q.0 p) refl)
    where
      by : (q : Path × L) (b : Bool) → same q.0 p ≡ b → cond (not b) (finite.get m q) None ≡ finite.get m q
      by q true t =
          sym (ap (λ (x : Path). finite.get m (x, q.1)) (tied_is bytes_antisymmetric q.0 p t)
          ∙ missing (finite.get m (p, q.1)) (none q.1))
      by q false t = refl

pub no_references : (c : Contents) (p : Path) → ((r : Path) → IsTrue (finite.contains_key c.refs (p, r)) → ⊥)
    → record c { refs = finite.retain_keys c.refs (λ k. not (same k.0 p)) } ≡ c
no_references c p none = ap (λ m. record c { refs = m }) (nothing_removed pair_total pair_antisymmetric c.refs p none)

pub no_outputs : (c : Contents) (p : Path) → ((name : Path) → IsTrue (finite.contains_key c.outs (p, name)) → ⊥)
    → record c { outs = finite.retain_keys c.outs (λ k. not (same k.0 p)) } ≡ c
no_outputs c p none = ap (λ m. record c { outs = m }) (nothing_removed pair_total pair_antisymmetric c.outs p none)

pub no_pieces : (c : Contents) (p : Path) → ((n : ℤ) → IsTrue (finite.contains_key c.pieces (p, n)) → ⊥)
    → record c { pieces = finite.retain_keys c.pieces (λ k. not (same k.0 p)) } ≡ c
no_pieces c p none =
    ap (λ m. record c { pieces = m }) (nothing_removed numbered_total numbered_antisymmetric c.pieces p none)

none_in : {K X : Type 0} (R : K → K → Ordering) (q : K) (es : List (K × X)) → length es ≡ 0
    → is_some (find_entry R q es) ≡ true → ⊥
none_in R q [] none present = false≢true present
none_in R q (e ∷ es) none present = omega (arith, none)

-- a map of whose entries a list has one item each has no key, where the list is empty
pub keyless : {K X Y : Type 0} {R : K → K → Ordering} (m : finite.FinMap R X) (part : K × X → Y) (items : List Y)
    → items ≡ map part (finite.entries m) → true ≡ eqb (length items) 0 → (q : K) → IsTrue (finite.contains_key m q) → ⊥
keyless {R = R} m part items is none q present =
    none_in R q (finite.entries m)
    (sym (length-map (finite.entries m) part) ∙ ap length (sym is) ∙ eqb-true (length items) 0 (sym none))
    (ap is_some (sym (finite.get-entries m q)) ∙ present)

-- of a path that the outline hasn't, the row of its object is all that is deleted
pub single_removed : (outline : OutlineValue) (c : Contents) (p : Path) → Covers outline c
    → finite.get outline.objects p ≡ None
    → record c { objects = finite.retain_keys c.objects (λ k. not (same k p)) } ≡ without_object p c
single_removed outline c p h none = λ i. record c {
  objects = finite.retain_keys c.objects (λ k. not (same k p));
  refs =
      sym (nothing_removed pair_total pair_antisymmetric c.refs p
      (λ r present. let it = h.references p r present in absent it.0 it.1)) i;
  outs =
      sym (nothing_removed pair_total pair_antisymmetric c.outs p
      (λ name present. let it = h.outputs p name present in absent it.0 it.1)) i;
  pieces =
      sym (nothing_removed numbered_total numbered_antisymmetric c.pieces p
      (λ n present. let it = h.pieces p n present in absent it.0 it.1)) i;
}
  where
    absent : (x : Outlined) → finite.get outline.objects p ≡ Some x → ⊥
    absent x is = false≢true (ap is_some (sym none ∙ is))
