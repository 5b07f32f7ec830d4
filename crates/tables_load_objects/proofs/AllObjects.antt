-- All objects, put one after another.
use Rattle.std.proofs.Common.{◌≡◌, List, [], ◌∷◌, Bool, true, false, ◌||◌, cond, Some, None, Option, option_map}
use Rattle.std.proofs.Common.{is_some, refl, sym, ap, ◌∙◌}
use Rattle.std.specs.List.{list_any}
use Rattle.std.specs.Ordering.{eq_by_cmp}
use Rattle.std.specs.FinMap as finite
use Rattle.paths.specs.Root.{bytes_cmp}
use Rattle.tables_sql.specs.Contents.{Contents, Stored}
use Rattle.model.specs.World.{Path, Object}
use Rattle.tables_world.specs.Rows.{object_in}
use Rattle.tables_world.specs.Worlds.{rows_of, world_in}
use Rattle.tables_world.proofs.Columns.{object_at}
use Rattle.tables_outline.specs.Outline.{Outlined, outlined, outline_of}
use Rattle.tables_outline.proofs.Orders.{bytes_total, bytes_antisymmetric}
use Rattle.tables_outline.proofs.Puts.{tied_is}
use Rattle.tables_outline.proofs.Reported.{get-reported}
use Rattle.tables_load_objects.specs.Loaded.{Objects, with_stored, with_object, with_objects}

module _ (c : Contents) where
  -- the outline of the object of a path
  abbrev here : Path → Option Outlined
  here q = option_map (λ (o : Stored). outlined (object_in (rows_of c) q o)) (finite.get c.objects q)

  abbrev either : Option Outlined → Option Outlined → Option Outlined
  either (Some x) g = Some x
  either None g = g

  put_one : (p : Path) (m : Objects) (q : Path)
      → finite.get (with_object c p m) q
      ≡ cond (eq_by_cmp bytes_cmp q p) (either (here q) (finite.get m q)) (finite.get m q)
  put_one p m q = by (finite.get c.objects p) refl (eq_by_cmp bytes_cmp q p) refl
    where
      by : (o : Option Stored) → finite.get c.objects p ≡ o → (b : Bool) → eq_by_cmp bytes_cmp q p ≡ b
          → finite.get (with_stored c p o m) q ≡ cond b (either (here q) (finite.get m q)) (finite.get m q)
      by None e true t =
          sym (ap (λ (g : Option Stored). either (option_map (λ (o : Stored). outlined (object_in (rows_of c) q o)) g)
          (finite.get m q)) (ap (finite.get c.objects) (tied_is bytes_antisymmetric q p t) ∙ e))
      by None e false t = refl
      by (Some o) e true t =
          finite.get-insert bytes_total m p (outlined (object_in (rows_of c) p o)) q
          ∙ ap (λ b. cond b (Some (outlined (object_in (rows_of c) p o))) (finite.get m q)) t
          ∙ ap (λ (r : Path). Some (outlined (object_in (rows_of c) r o))) (sym (tied_is bytes_antisymmetric q p t))
          ∙ sym (ap (λ (g : Option Stored). either (option_map (λ (o : Stored). outlined (object_in (rows_of c) q o)) g)
          (finite.get m q)) (ap (finite.get c.objects) (tied_is bytes_antisymmetric q p t) ∙ e))
      by (Some o) e false t =
          finite.get-insert bytes_total m p (outlined (object_in (rows_of c) p o)) q
          ∙ ap (λ b. cond b (Some (outlined (object_in (rows_of c) p o))) (finite.get m q)) t

  twice : (f g : Option Outlined) → either f (either f g) ≡ either f g
  twice (Some x) g = refl
  twice None g = refl

  put_several : (ps : List Path) (m : Objects) (q : Path)
      → finite.get (with_objects c ps m) q
      ≡ cond (list_any (eq_by_cmp bytes_cmp q) ps) (either (here q) (finite.get m q)) (finite.get m q)
  put_several [] m q = refl
  put_several (p ∷ ps) m q =
      put_several ps (with_object c p m) q
      ∙ ap (λ (g : Option Outlined). cond (list_any (eq_by_cmp bytes_cmp q) ps) (either (here q) g) g) (put_one p m q)
      ∙ by (eq_by_cmp bytes_cmp q p) (list_any (eq_by_cmp bytes_cmp q) ps)
    where
      by : (a b : Bool) → cond b (either (here q) (cond a (either (here q) (finite.get m q)) (finite.get m q)))
          (cond a (either (here q) (finite.get m q)) (finite.get m q))
          ≡ cond (a || b) (either (here q) (finite.get m q)) (finite.get m q)
      by true true = twice (here q) (finite.get m q)
      by true false = refl
      by false true = refl
      by false false = refl

  reported_here : (q : Path) → finite.get (outline_of (world_in c)).objects q ≡ here q
  reported_here q =
      get-reported bytes_total bytes_antisymmetric (λ (k : Path) (o : Object). outlined o) (world_in c).objects q
      ∙ ap (option_map outlined) (object_at (rows_of c) q)
      ∙ both (finite.get c.objects q)
    where
      both : (g : Option Stored) → option_map outlined (option_map (object_in (rows_of c) q) g)
          ≡ option_map (λ (o : Stored). outlined (object_in (rows_of c) q o)) g
      both None = refl
      both (Some o) = refl

  -- all objects are those of the world
  pub put_all_objects : with_objects c (finite.keys c.objects) finite.empty ≡ (outline_of (world_in c)).objects
  put_all_objects = finite.same_map bytes_total bytes_antisymmetric _ _ (λ q.
      put_several (finite.keys c.objects) finite.empty q
      ∙ ap (λ (g : Option Outlined). cond (list_any (eq_by_cmp bytes_cmp q) (finite.keys c.objects)) (either (here q) g)
      g) (finite.get-empty bytes_cmp q)
      ∙ ap (λ b. cond b (either (here q) None) None) (sym (finite.contains_key-keys c.objects q))
      ∙ by (finite.get c.objects q) q
      ∙ sym (reported_here q))
    where
      by : (g : Option Stored) (q : Path)
          → cond (is_some g) (either (option_map (λ (o : Stored). outlined (object_in (rows_of c) q o)) g) None) None
          ≡ option_map (λ (o : Stored). outlined (object_in (rows_of c) q o)) g
      by None q = refl
      by (Some o) q = refl

  -- and they have the paths of the rows
  pub has_here : (q : Path) → finite.contains_key (outline_of (world_in c)).objects q ≡ finite.contains_key c.objects q
  has_here q = ap is_some (reported_here q) ∙ by (finite.get c.objects q)
    where
      by : (g : Option Stored) → is_some (option_map (λ (o : Stored). outlined (object_in (rows_of c) q o)) g)
          ≡ is_some g
      by None = refl
      by (Some o) = refl
