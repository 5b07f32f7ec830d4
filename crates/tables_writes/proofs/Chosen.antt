-- Objects that are deleted by a list of their paths, or by a test: a caller that knows the test passes the list.
use Rattle.std.proofs.Common.{◌≡◌, List, [], ◌∷◌, Bool, true, false, ◌&&◌, ◌||◌, not, cond, Some, None, Option, is_some}
use Rattle.std.proofs.Common.{refl, sym, ap, ◌∙◌}
use Rattle.std.specs.List.{filter}
use Rattle.std.specs.FinMap as finite
use Rattle.std.proofs.lemmas.Bool.{false≢true}
use Rattle.paths.specs.Root.{bytes_cmp}
use Rattle.live.specs.Graph.{same, holds}
use Rattle.model.specs.World.{Path}
use Rattle.tables_outline.proofs.Orders.{bytes_total, bytes_antisymmetric}
use Rattle.tables_outline.proofs.Puts.{get-kept, tied_is}

-- a path is among those that pass if it is among all and passes
holds_chosen : (gone : Path → Bool) (ps : List Path) (q : Path) → holds (filter gone ps) q ≡ (holds ps q && gone q)
holds_chosen gone [] q = refl
holds_chosen gone (p ∷ ps) q = by (gone p) refl (same q p) refl (holds_chosen gone ps q)
  where
    by : (b : Bool) → gone p ≡ b → (s : Bool) → same q p ≡ s → holds (filter gone ps) q ≡ (holds ps q && gone q)
        → holds (cond b (p ∷ filter gone ps) (filter gone ps)) q ≡ ((s || holds ps q) && gone q)
    by true e true t later =
        ap (λ s. s || holds (filter gone ps) q) t ∙ sym (ap gone (tied_is bytes_antisymmetric q p t) ∙ e)
    by true e false t later = ap (λ s. s || holds (filter gone ps) q) t ∙ later
    by false e true t later =
        later ∙ both (holds ps q) (gone q) (ap gone (tied_is bytes_antisymmetric q p t) ∙ e)
        ∙ sym (ap gone (tied_is bytes_antisymmetric q p t) ∙ e)
      where
        both : (a b : Bool) → b ≡ false → (a && b) ≡ false
        both true b h = h
        both false b h = refl
    by false e false t later = later

module _ {X : Type 0} (m : finite.FinMap bytes_cmp X) (gone : Path → Bool) where
  -- without the keys of it that pass
  pub without_chosen : finite.retain_keys m (λ p. not (holds (filter gone (finite.keys m)) p))
      ≡ finite.retain_keys m (λ p. not (gone p))
  without_chosen = finite.same_map bytes_total bytes_antisymmetric _ _ (λ q.
      get-kept bytes_total bytes_antisymmetric m (λ p. not (holds (filter gone (finite.keys m)) p)) q
      ∙ ap (λ b. cond (not b) (finite.get m q) None) (holds_chosen gone (finite.keys m) q)
      ∙ by (finite.get m q) (gone q) (holds (finite.keys m) q) (finite.contains_key-keys m q)
      ∙ sym (get-kept bytes_total bytes_antisymmetric m (λ p. not (gone p)) q))
    where
      by : (g : Option X) (b h : Bool) → is_some g ≡ h → cond (not (h && b)) g None ≡ cond (not b) g None
      by None true true e = absurd (false≢true e)
      by None true false e = refl
      by None false true e = absurd (false≢true e)
      by None false false e = refl
      by (Some x) b true e = refl
      by (Some x) b false e = absurd (false≢true (sym e))

-- and so with those alone that pass
pub with_chosen : {X : Type 0} (m : finite.FinMap bytes_cmp X) (stays : Path → Bool)
    → finite.retain_keys m (λ p. not (holds (filter (λ p. not (stays p)) (finite.keys m)) p))
    ≡ finite.retain_keys m stays
with_chosen m stays = without_chosen m (λ p. not (stays p)) ∙ (λ i. finite.retain_keys m (λ p. twice (stays p) i))
  where
    twice : (b : Bool) → not (not b) ≡ b
    twice true = refl
    twice false = refl
