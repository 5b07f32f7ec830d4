use Rattle.std.proofs.Common.{is_some, sym, ap, ◌∙◌}
use Rattle.std.specs.Option.{option_copied_mut}
use Rattle.std.specs.FinMap as finite
use Rattle.model.specs.World.{Profile}
use Rattle.model.specs.Profiles.{without_generation}
use Rattle.tables_outline.specs.Maps.{pair_bytes}
use Rattle.tables_outline.specs.View.{outline_view}
use Rattle.tables_outline.specs.Outline.{OutlineValue, with_profile, profile_of}
use Rattle.tables_outline.proofs.ProfileEntries.{profile_is, profile_written, profile_missing}
use Rattle.tables_outline.proofs.outline.Outline.drop_generation.Goals as goal

pub returns : goal.returns
returns c =
    let es = c.self.inside.profiles.entries in
    let q = pair_bytes c.args.owned.now in
    ap (λ m. record (outline_view c.self.inside) { profiles = m })
    (profile_written es _ q c.in-Some.profile.now c.drop_generation.new.self _ c.in-Some.ensures.value
    (c.get_mut.follows.holds c.drop_generation.new.self).0
    (c.drop_generation.ensures ∙ ap (λ (p : Profile). without_generation p c.args.number)
    (profile_is es q c.in-Some.profile.now c.in-Some.ensures.value)))
    ∙ ap (λ (o : OutlineValue). with_profile o q (without_generation (profile_of o q) c.args.number)) c.self.view_is

pub returns-in_default : goal.returns-in_default
returns-in_default c =
    absurd (profile_missing c.self.inside.profiles.entries (pair_bytes c.args.owned.now)
    (ap option_copied_mut (sym c.in_default.is) ∙ c.get_mut.ensures.value)
    (ap (λ (o : OutlineValue). is_some (finite.get o.profiles (pair_bytes c.args.owned.now))) c.self.view_is
    ∙ c.requires))
