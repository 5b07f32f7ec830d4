use Rattle.std.proofs.Common.{◌≡◌, is_some, sym, ap, ◌∙◌}
use Rattle.std.specs.Prelude.{Some}
use Rattle.std.specs.Ordering.{eq_by_cmp}
use Rattle.std.specs.Map.{lookup}
use Rattle.std.specs.Option.{option_copied_mut}
use Rattle.std.specs.FinMap as finite
use Rattle.model.specs.World.{Profile, pair_cmp}
use Rattle.model.specs.Profiles.{switched, without_generation}
use Rattle.tables_outline.specs.Maps.{pair_bytes, seen_map}
use Rattle.tables_outline.specs.View.{outline_view, profile_view}
use Rattle.tables_outline.specs.Outline.{OutlineValue, without_added}
use Rattle.tables_outline.proofs.Orders.{pair_total, pair_antisymmetric}
use Rattle.tables_outline.proofs.Trees.{removed}
use Rattle.tables_outline.proofs.ProfileEntries.{profile_is, profile_written, profile_missing}
use Rattle.tables_outline.proofs.outline.Outline.undo_generation.Goals as goal
use Rattle.tables_outline.proofs.outline.Outline.undo_generation.Goals.{in-Some-1, in-None-1}

pub returns-in-Some-get_mut : goal.returns-in-Some-get_mut
returns-in-Some-get_mut c =
    let es = c.self.inside.profiles.entries in
    let q = pair_bytes c.args.owned.now in
    ap (λ m. record (outline_view c.self.inside) { profiles = m })
    (profile_written es _ q c.in-Some-get_mut.profile.now c.undo.new.self _ c.in-Some-get_mut.ensures.value
    (c.get_mut.follows.holds c.undo.new.self).0
    (c.undo.ensures ∙ ap (λ (p : Profile). switched (without_generation p c.args.number) c.in-Some.current)
    (profile_is es q c.in-Some-get_mut.profile.now c.in-Some-get_mut.ensures.value)))
    ∙ ap (λ (o : OutlineValue). record o { profiles = without_added o q c.args.number (Some c.in-Some.current) })
    c.self.view_is
    ∙ ap (λ h. record c.args.self.now { profiles = without_added c.args.self.now q c.args.number h }) (sym c.in-Some.is)

pub returns-in_default : goal.returns-in_default
returns-in_default c =
    absurd (profile_missing c.self.inside.profiles.entries (pair_bytes c.args.owned.now)
    (ap option_copied_mut (sym c.in_default.is) ∙ c.get_mut.ensures.value)
    (ap (λ (o : OutlineValue). is_some (finite.get o.profiles (pair_bytes c.args.owned.now))) c.self.view_is
    ∙ c.requires))

pub returns-in-None : goal.returns-in-None
returns-in-None c =
    let q = pair_bytes c.args.owned.now in
    let gone : ◌≡◌ {A = OutlineValue}
    (record (outline_view c.self.inside) {
      profiles =
          seen_map pair_cmp pair_bytes profile_view c.remove-put.new.self.entries;
    })
    (record c.args.self.now { profiles = without_added c.args.self.now q c.args.number c.args.had }) =
    ap (λ m. record (outline_view c.self.inside) { profiles = m })
    (ap (seen_map pair_cmp pair_bytes profile_view) c.remove-put.ensures.entries
    ∙ removed pair_cmp pair_bytes profile_view pair_total pair_antisymmetric c.self.inside.profiles.entries q
    (ap (lookup (λ k. eq_by_cmp pair_cmp q (pair_bytes k))) (sym c.remove-put.ensures.entries)
    ∙ c.remove-put.ensures.updates.1))
    ∙ ap (λ (o : OutlineValue). record o { profiles = finite.remove o.profiles q }) c.self.view_is
    ∙ ap (λ h. record c.args.self.now { profiles = without_added c.args.self.now q c.args.number h })
    (sym c.in-None.is) in
    elim c.match-put.branch [ in-Some-1 w ↦ w.self-is ∙ gone | in-None-1 w ↦ w.self-is ∙ gone ]
