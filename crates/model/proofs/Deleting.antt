-- What a deletion leaves.
use Rattle.std.proofs.Common.{◌≡◌, List, [], ◌∷◌, ◌++◌, false, not, ◌||◌, Some, None, Option, option_map, refl, sym, ap}
use Rattle.std.proofs.Common.{◌∙◌, IsTrue, inl, inr}
use Rattle.std.specs.Prelude.{is_some}
use Rattle.std.specs.FinMap as finite
use Rattle.std.proofs.lemmas.Bool.{and_from, and_parts, or_cases, or_left, or_right, false≢true, not-true}
use Rattle.std.proofs.lemmas.Bool.{not_from_false, false_from_ne_true}
use Rattle.std.proofs.lemmas.List.{append-nil}
use Rattle.live.specs.Graph.{same, holds, references_only, kept_if_valid, is_valid, is_edge}
use Rattle.live.specs.Reach.{Reaches}
use Rattle.live.proofs.Reach.{goes_on}
use Rattle.live.proofs.Live.{closure_decided}
use Rattle.model.specs.World.{Path, Object, World, has}
use Rattle.model.specs.Reply.{done, denied, refused, failed}
use Rattle.model.specs.Liveness.{links_of, graph_of, is_deleted_with}
use Rattle.model.specs.Effects.{keeping}
use Rattle.model.specs.Collection.{LeavesNoReference}
use Rattle.model.proofs.Worlds.{get-graph, valid_is, kept_if, found_in}

pub reference_edge : (w : World) (p r : Path) (o : Object) → finite.get w.objects p ≡ Some o
    → IsTrue (finite.contains_key o.references r) → IsTrue (has w r) → IsTrue (is_edge references_only (graph_of w) p r)
reference_edge w p r o e c h =
    and_from (is_valid (graph_of w) r) _ (valid_is w r ∙ h)
    (ap (λ l. holds (kept_if_valid references_only l) r) (get-graph w p ∙ ap (option_map links_of) e)
    ∙ plain_list (finite.keys o.references) (sym (finite.contains_key-keys o.references r) ∙ c))
  where
    plain_list : (xs : List Path) → IsTrue (holds xs r) → IsTrue (holds (xs ++ [] ++ []) r)
    plain_list [] h = h
    plain_list (x ∷ xs) h =
        elim (or_cases (same r x) (holds xs r) h) as (λ _. IsTrue (same r x || holds (xs ++ [] ++ []) r)) [
          | inl e ↦ or_left (same r x) _ e
          | inr e ↦ or_right (same r x) _ (plain_list xs e)
        ]

-- an edge by references is one of the object's references
pub edge_reference : (w : World) (p r : Path) → IsTrue (is_edge references_only (graph_of w) p r)
    → (o : Object) × (finite.get w.objects p ≡ Some o) × IsTrue (finite.contains_key o.references r)
edge_reference w p r h =
    by (finite.get w.objects p) refl
    (sym (ap (λ l. holds (kept_if_valid references_only l) r) (get-graph w p))
    ∙ (and_parts (is_valid (graph_of w) r) (holds (kept_if_valid references_only (finite.get (graph_of w) p)) r)
    h).1)
  where
    by : (o : Option Object) → finite.get w.objects p ≡ o
        → IsTrue (holds (kept_if_valid references_only (option_map links_of o)) r)
        → (x : Object) × (finite.get w.objects p ≡ Some x) × IsTrue (finite.contains_key x.references r)
    by None e k = absurd (false≢true k)
    by (Some o) e k = (
      o,
      e,
      finite.contains_key-keys o.references r
          ∙ sym (ap (λ xs. holds xs r)
          (append-nil (finite.keys o.references ++ []) ∙ append-nil (finite.keys o.references))) ∙ k,
    )

-- a valid reference is reached by references
pub reference_reached : (w : World) (p r : Path) (o : Object) → finite.get w.objects p ≡ Some o
    → IsTrue (finite.contains_key o.references r) → IsTrue (has w r) → Reaches references_only (graph_of w) p r
reference_reached w p r o e c h =
    record { valid = valid_is w p ∙ ap is_some e; steps = r ∷ []; leads = (reference_edge w p r o e c h, refl) }

-- a reference of an object that is left is left
pub reference_left : (w : World) (named : List Path) (p : Path) (o : Object)
    → finite.get (keeping w (λ x. not (is_deleted_with w named x))).objects p ≡ Some o
    → (r : Path) → IsTrue (finite.contains_key o.references r) → IsTrue (has w r)
    → IsTrue (has (keeping w (λ x. not (is_deleted_with w named x))) r)
reference_left w named p o e r c valid =
    let was = found_in w.objects (λ x. not (is_deleted_with w named x)) p o e in
    let p_stays : is_deleted_with w named p ≡ false = not-true (is_deleted_with w named p) was.0 in
    let r_stays : is_deleted_with w named r ≡ false =
    false_from_ne_true (is_deleted_with w named r) (λ d. false≢true (sym p_stays ∙ deleted was.1 d)) in
    ap is_some (kept_if w.objects (λ x. not (is_deleted_with w named x)) r
    (not_from_false (is_deleted_with w named r) r_stays)) ∙ valid
  where
    deleted : finite.get w.objects p ≡ Some o → IsTrue (is_deleted_with w named r) → IsTrue (is_deleted_with w named p)
    deleted is d =
        let t = (closure_decided (graph_of w) named r).0 d in
        (closure_decided (graph_of w) named p).1
        (record {
          target = t.target;
          is_named = t.is_named;
          reaches = goes_on references_only (graph_of w) p r t.target (reference_reached w p r o is c valid)
              t.reaches;
        })

pub leaves_no_reference : LeavesNoReference
leaves_no_reference s w c named ignores (done a) new h d p o e r k valid =
    ap (λ (u : World). has u r) h.3
    ∙ reference_left w named p o (ap (λ (u : World). finite.get u.objects p) (sym h.3) ∙ e) r k valid
leaves_no_reference s w c named ignores (denied rule root) new h d p o e r k valid = absurd d
leaves_no_reference s w c named ignores (refused t) new h d p o e r k valid = absurd d
leaves_no_reference s w c named ignores (failed f) new h d p o e r k valid = absurd d
