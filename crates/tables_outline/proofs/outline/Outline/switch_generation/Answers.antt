use Rattle.std.proofs.Common.{is_some, sym, ap, ◌∙◌}
use Rattle.std.specs.Option.{option_copied_mut}
use Rattle.std.specs.FinMap as finite
use Rattle.model.specs.World.{Profile}
use Rattle.model.specs.Profiles.{switched}
use Rattle.tables_outline.specs.Maps.{pair_bytes}
use Rattle.tables_outline.specs.View.{outline_view}
use Rattle.tables_outline.specs.Outline.{OutlineValue, with_profile, profile_of}
use Rattle.tables_outline.proofs.ProfileEntries.{profile_is, profile_written, profile_missing}
use Rattle.tables_outline.proofs.outline.Outline.switch_generation.Goals as goal

pub returns : goal.returns
returns c =
    let es = c.self.inside.profiles.entries in
    let q = pair_bytes c.args.owned.now in
    ap (λ m. record (outline_view c.self.inside) { profiles = m })
    (profile_written es _ q c.in-Some.profile.now
    (record { generations = c.in-Some.profile.now.generations; current = c.args.number }) _
    c.in-Some.ensures.value (c.get_mut.follows.holds
    (record { generations = c.in-Some.profile.now.generations; current = c.args.number })).0
    (ap (λ (p : Profile). switched p c.args.number) (profile_is es q c.in-Some.profile.now c.in-Some.ensures.value)))
    ∙ ap (λ (o : OutlineValue). with_profile o q (switched (profile_of o q) c.args.number)) c.self.view_is

pub returns-in_default : goal.returns-in_default
returns-in_default c =
    absurd (profile_missing c.self.inside.profiles.entries (pair_bytes c.args.owned.now)
    (ap option_copied_mut (sym c.in_default.is) ∙ c.get_mut.ensures.value)
    (ap (λ (o : OutlineValue). is_some (finite.get o.profiles (pair_bytes c.args.owned.now))) c.self.view_is
    ∙ c.requires))
