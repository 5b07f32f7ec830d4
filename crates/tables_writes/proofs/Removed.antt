-- What rows that go with some objects make of the world.
use Rattle.std.proofs.Common.{◌≡◌, ℕ, List, [], ◌∷◌, ◌++◌, Bool, true, false, not, cond, Some, None, Option, option_map}
use Rattle.std.proofs.Common.{is_some, refl, sym, ap, subst, ◌∙◌, IsTrue}
use Rattle.std.specs.Prelude.{ℤ}
use Rattle.std.specs.Cmp.{int_cmp_total}
use Rattle.std.specs.FinMap as finite
use Rattle.std.proofs.lemmas.Bool.{false≢true}
use Rattle.sha2.specs.Sha256.{sha256}
use Rattle.live.specs.Graph.{holds}
use Rattle.tables_sql.proofs.Orders.{numbered_total, numbered_antisymmetric}
use Rattle.tables_sql.specs.Contents.{Contents, Stored}
use Rattle.model.specs.World.{Path, Object, World}
use Rattle.model.specs.Sound.{IsSound}
use Rattle.tables_world.specs.Pieces.{joined, IsCut}
use Rattle.tables_world.specs.Rows.{references_in, outputs_in, pieces_in, archive_in, object_in, address_in}
use Rattle.tables_world.specs.Worlds.{IsSoundContents, rows_of, world_in}
use Rattle.tables_world.proofs.Reported.{get-reference, get-output, get-piece}
use Rattle.tables_outline.specs.Outline.{OutlineValue, outlined, outline_of}
use Rattle.tables_outline.proofs.Orders.{bytes_total, bytes_antisymmetric, pair_total, pair_antisymmetric}
use Rattle.tables_outline.proofs.Puts.{get-kept}
use Rattle.tables_outline.proofs.Reported.{get-reported}
use Rattle.tables_outline.proofs.Retained.{none_gone, one_more}
use Rattle.tables_writes.specs.Rewritten.{without_object, without_objects}
use Rattle.tables_writes.proofs.AfterWrites.{Follows}

-- ---- one after another

pub without_none : (c : Contents) → without_objects [] c ≡ c
without_none c = λ i. record c {
  objects = none_gone bytes_total bytes_antisymmetric (λ (k : Path). k) c.objects i;
  refs = none_gone pair_total pair_antisymmetric (λ (k : Path × Path). k.0) c.refs i;
  outs = none_gone pair_total pair_antisymmetric (λ (k : Path × Path). k.0) c.outs i;
  pieces = none_gone numbered_total numbered_antisymmetric (λ (k : Path × ℤ). k.0) c.pieces i;
}

pub without_next : (p : Path) (ps : List Path) (c : Contents)
    → without_objects ps (without_object p c) ≡ without_objects (p ∷ ps) c
without_next p ps c = λ i. record c {
  objects = one_more bytes_total bytes_antisymmetric (λ (k : Path). k) c.objects p ps i;
  refs = one_more pair_total pair_antisymmetric (λ (k : Path × Path). k.0) c.refs p ps i;
  outs = one_more pair_total pair_antisymmetric (λ (k : Path × Path). k.0) c.outs p ps i;
  pieces = one_more numbered_total numbered_antisymmetric (λ (k : Path × ℤ). k.0) c.pieces p ps i;
}

-- ---- of an outline

abbrev pub outline_without : List Path → OutlineValue → OutlineValue
outline_without ps o = record o { objects = finite.retain_keys o.objects (λ p. not (holds ps p)) }

-- ---- the world

abbrev pub world_without : List Path → World → World
world_without ps w = record w { objects = finite.retain_keys w.objects (λ p. not (holds ps p)) }

pub outline_follows : (ps : List Path) (w : World) → outline_of (world_without ps w) ≡ outline_without ps (outline_of w)
outline_follows ps w =
    ap (λ m. record (outline_of w) { objects = m }) (finite.same_map bytes_total bytes_antisymmetric _ _ (λ q.
    get-reported bytes_total bytes_antisymmetric (λ _ x. outlined x)
    (finite.retain_keys w.objects (λ p. not (holds ps p))) q
    ∙ ap (option_map outlined) (get-kept bytes_total bytes_antisymmetric w.objects (λ p. not (holds ps p)) q)
    ∙ by (holds ps q) (finite.get w.objects q)
    ∙ sym (get-kept bytes_total bytes_antisymmetric (outline_of w).objects (λ p. not (holds ps p)) q
    ∙ ap (λ g. cond (not (holds ps q)) g None)
    (get-reported bytes_total bytes_antisymmetric (λ _ x. outlined x) w.objects q))))
  where
    by : (b : Bool) (g : Option Object)
        → option_map outlined (cond (not b) g None) ≡ cond (not b) (option_map outlined g) None
    by true g = refl
    by false g = refl

module _ (dir : List ℕ) (ps : List Path) (c : Contents) (rows : IsSoundContents dir c) where
  -- ---- of a path that stays

  references_kept : (q : Path) → holds ps q ≡ false
      → references_in (rows_of (without_objects ps c)) q ≡ references_in (rows_of c) q
  references_kept q stays = finite.same_map bytes_total bytes_antisymmetric _ _ (λ r.
      get-reference (without_objects ps c) q r
      ∙ get-kept pair_total pair_antisymmetric c.refs (λ k. not (holds ps k.0)) (q, r)
      ∙ ap (λ b. cond (not b) (finite.get c.refs (q, r)) None) stays ∙ sym (get-reference c q r))

  outputs_kept : (q : Path) → holds ps q ≡ false
      → outputs_in (rows_of (without_objects ps c)) q ≡ outputs_in (rows_of c) q
  outputs_kept q stays = finite.same_map bytes_total bytes_antisymmetric _ _ (λ n.
      get-output (without_objects ps c) q n
      ∙ get-kept pair_total pair_antisymmetric c.outs (λ k. not (holds ps k.0)) (q, n)
      ∙ ap (λ b. cond (not b) (finite.get c.outs (q, n)) None) stays ∙ sym (get-output c q n))

  pieces_kept : (q : Path) → holds ps q ≡ false → pieces_in (rows_of (without_objects ps c)) q ≡ pieces_in (rows_of c) q
  pieces_kept q stays = finite.same_map int_cmp_total finite.int_cmp-IsAntisymmetric _ _ (λ n.
      get-piece (without_objects ps c) q n
      ∙ get-kept numbered_total numbered_antisymmetric c.pieces (λ k. not (holds ps k.0)) (q, n)
      ∙ ap (λ b. cond (not b) (finite.get c.pieces (q, n)) None) stays ∙ sym (get-piece c q n))

  archive_kept : (q : Path) → holds ps q ≡ false → (x : Stored)
      → archive_in (rows_of (without_objects ps c)) q x ≡ archive_in (rows_of c) q x
  archive_kept q stays x = ap (λ m. x.nar ++ joined (finite.entries m)) (pieces_kept q stays)

  object_kept : (q : Path) → holds ps q ≡ false → (x : Stored)
      → object_in (rows_of (without_objects ps c)) q x ≡ object_in (rows_of c) q x
  object_kept q stays x =
      λ i. record {
        nar = archive_kept q stays x i;
        references = references_kept q stays i;
        deriver = x.deriver;
        ca = address_in x.ca;
        outputs = outputs_kept q stays i;
      }

  objects_after : (world_in (without_objects ps c)).objects
      ≡ finite.retain_keys (world_in c).objects (λ p. not (holds ps p))
  objects_after = finite.same_map bytes_total bytes_antisymmetric _ _ (λ q.
      get-reported bytes_total bytes_antisymmetric (object_in (rows_of (without_objects ps c)))
      (finite.retain_keys c.objects (λ k. not (holds ps k))) q
      ∙ ap (option_map (object_in (rows_of (without_objects ps c)) q))
      (get-kept bytes_total bytes_antisymmetric c.objects (λ k. not (holds ps k)) q)
      ∙ by q (holds ps q) refl (finite.get c.objects q)
      ∙ sym (get-kept bytes_total bytes_antisymmetric (world_in c).objects (λ p. not (holds ps p)) q
      ∙ ap (λ g. cond (not (holds ps q)) g None)
      (get-reported bytes_total bytes_antisymmetric (object_in (rows_of c)) c.objects q)))
    where
      by : (q : Path) (b : Bool) → holds ps q ≡ b → (g : Option Stored)
          → option_map (object_in (rows_of (without_objects ps c)) q) (cond (not b) g None)
          ≡ cond (not b) (option_map (object_in (rows_of c) q) g) None
      by q true t g = refl
      by q false t None = refl
      by q false t (Some x) = ap Some (object_kept q t x)

  world_after : world_in (without_objects ps c) ≡ world_without ps (world_in c)
  world_after = ap (λ m. record (world_in c) { objects = m }) objects_after

  -- ---- the rows

  stored_was : (q : Path) (x : Stored) → finite.get (finite.retain_keys c.objects (λ k. not (holds ps k))) q ≡ Some x
      → (holds ps q ≡ false) × (finite.get c.objects q ≡ Some x)
  stored_was q x e =
      by (holds ps q) refl (sym (get-kept bytes_total bytes_antisymmetric c.objects (λ k. not (holds ps k)) q) ∙ e)
    where
      by : (b : Bool) → holds ps q ≡ b → cond (not b) (finite.get c.objects q) None ≡ Some x
          → (holds ps q ≡ false) × (finite.get c.objects q ≡ Some x)
      by true t h = absurd (false≢true (ap is_some h))
      by false t h = (t, h)

  -- a row of a path is there only where the path stays
  still_present : {X : Type 0} (q : Path) (g : Option X) → is_some (cond (not (holds ps q)) g None) ≡ true
      → (is_some g ≡ true → IsTrue (finite.contains_key c.objects q))
      → IsTrue (finite.contains_key (finite.retain_keys c.objects (λ k. not (holds ps k))) q)
  still_present q g present was =
      ap is_some (get-kept bytes_total bytes_antisymmetric c.objects (λ k. not (holds ps k)) q)
      ∙ by (holds ps q) present
    where
      by : (b : Bool) → is_some (cond (not b) g None) ≡ true
          → is_some (cond (not b) (finite.get c.objects q) None) ≡ true
      by true h = absurd (false≢true h)
      by false h = was h

  pub objects_follow : Follows dir (without_objects ps) (world_without ps) c
  objects_follow = record {
    world = world_after;
    sound = λ world. record {
      directory = rows.directory;
      settings_are = rows.settings_are;
      no_pieces = λ h. absurd (false≢true (sym h));
      no_temporary = rows.no_temporary;
      cut = λ h q x e. let was =
          stored_was q x e in subst (λ m. IsCut x.nar (finite.entries m)) (sym (pieces_kept q was.0))
          (rows.cut h q x was.1);
      address = λ q x text e. rows.address q x text (stored_was q x e).1;
      hash = λ q x e. let was = stored_was q x e in rows.hash q x was.1 ∙ ap sha256 (sym (archive_kept q was.0 x));
      pieces =
          λ q n present. still_present q (finite.get c.pieces (q, n))
          (ap is_some (sym (get-kept numbered_total numbered_antisymmetric c.pieces (λ k. not (holds ps k.0)) (q, n)))
          ∙ present) (rows.pieces q n);
      references =
          λ q r present. still_present q (finite.get c.refs (q, r))
          (ap is_some (sym (get-kept pair_total pair_antisymmetric c.refs (λ k. not (holds ps k.0)) (q, r))) ∙ present)
          (rows.references q r);
      outputs =
          λ q n present. still_present q (finite.get c.outs (q, n))
          (ap is_some (sym (get-kept pair_total pair_antisymmetric c.outs (λ k. not (holds ps k.0)) (q, n))) ∙ present)
          (rows.outputs q n);
      generations = rows.generations;
      numbers = rows.numbers;
      current = rows.current;
      sessions = rows.sessions;
      world = subst (IsSound dir) (sym world_after) world;
    };
  }
