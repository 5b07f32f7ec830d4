-- What settings keep.
use Rattle.std.proofs.Common.{◌≡◌, ℕ, List, [], ◌∷◌, Some, None, Option, option_map, refl, sym, ap, ◌∙◌, subst}
use Rattle.std.specs.Prelude.{is_some, Contains}
use Rattle.std.specs.Cmp.Lexicographic.{nat_list_cmp_total}
use Rattle.std.specs.FinMap as finite
use Rattle.std.proofs.lemmas.Bool.{false≢true}
use Rattle.std.proofs.lemmas.Option.{same_Some}
use Rattle.live.specs.Graph.{Links, IsEdge, reference, output, deriver}
use Rattle.live.specs.Reach.{Reaches}
use Rattle.live.proofs.Edges.{edge_decided}
use Rattle.live.proofs.Live.{live_decided}
use Rattle.live.proofs.Reach.{goes_on}
use Rattle.policy.specs.Settings.{Settings}
use Rattle.model.specs.World.{Path, Object, World, roots_of}
use Rattle.model.specs.Liveness.{links_of, graph_of, keep_of}
use Rattle.laws.specs.KeepSettings.{KeepsPath, EdgesAsSet, LivingKeep}
use Rattle.laws.specs.KeepSettings as kept
use Rattle.model.proofs.MapMembers.{bytes_antisymmetric, key_listed, listed_key, entry_listed, listed_entry}
use Rattle.model.proofs.Filtered.{in_mapped, from_mapped}
use Rattle.model.proofs.Worlds.{get-graph, valid_is, live_of, live_has}

-- the object whose links a path has
links_after : (o : Option Object) (l : Links) → option_map links_of o ≡ Some l
    → (x : Object) × (o ≡ Some x) × (links_of x ≡ l)
links_after None l e = absurd (false≢true (ap is_some e))
links_after (Some x) l e = (x, refl, same_Some (links_of x) l e)

module _ (s : Settings) (w : World) (q p : Path) where
  to_kept : IsEdge (keep_of s) (graph_of w) q p → KeepsPath s w q p
  to_kept (reference l e valid c) =
      let x = links_after (finite.get w.objects q) l (sym (get-graph w q) ∙ e) in
      kept.reference x.0 x.1 (sym (valid_is w p) ∙ valid)
      (listed_key nat_list_cmp_total x.0.references p (subst (λ (k : Links). Contains k.references p) (sym x.2) c))
  to_kept (output l e valid set c) =
      let x = links_after (finite.get w.objects q) l (sym (get-graph w q) ∙ e) in
      let at =
      from_mapped (λ (d : List ℕ × Path). d.1) (finite.entries x.0.outputs) p
      (subst (λ (k : Links). Contains k.outputs p) (sym x.2) c) in
      kept.output x.0 x.1 (sym (valid_is w p) ∙ valid) set at.0.0
      (listed_entry nat_list_cmp_total x.0.outputs at.0 at.1 ∙ ap Some at.2)
  to_kept (deriver l e valid set c) =
      let x = links_after (finite.get w.objects q) l (sym (get-graph w q) ∙ e) in
      kept.deriver x.0 x.1 (sym (valid_is w p) ∙ valid) set (ap (λ (k : Links). k.deriver) x.2 ∙ c)

  links_at : (o : Object) → finite.get w.objects q ≡ Some o → finite.get (graph_of w) q ≡ Some (links_of o)
  links_at o e = get-graph w q ∙ ap (option_map links_of) e

  from_kept : KeepsPath s w q p → IsEdge (keep_of s) (graph_of w) q p
  from_kept (kept.reference o e valid c) =
      reference (links_of o) (links_at o e) (valid_is w p ∙ valid) (key_listed bytes_antisymmetric o.references p c)
  from_kept (kept.output o e valid set name c) =
      output (links_of o) (links_at o e) (valid_is w p ∙ valid) set
      (in_mapped (λ (d : List ℕ × Path). d.1) (finite.entries o.outputs) (name, p)
      (entry_listed bytes_antisymmetric o.outputs name p c))
  from_kept (kept.deriver o e valid set c) = deriver (links_of o) (links_at o e) (valid_is w p ∙ valid) set c

pub edges_as_set : EdgesAsSet
edges_as_set s w q p = (to_kept s w q p, from_kept s w q p)

pub living_keep : LivingKeep
living_keep s w q p alive k =
    let edge = (edge_decided (keep_of s) (graph_of w) q p).1 (from_kept s w q p k) in
    let l = (live_decided (keep_of s) (graph_of w) (roots_of w) q).0 alive in
    let step : Reaches (keep_of s) (graph_of w) q p =
    record { valid = valid_is w q ∙ live_has s w q alive; steps = p ∷ []; leads = (edge, refl) } in
    live_of s w l.root p l.listed (goes_on (keep_of s) (graph_of w) l.root.target q p l.reaches step)
