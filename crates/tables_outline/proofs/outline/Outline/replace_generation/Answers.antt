use Rattle.std.proofs.Common.{sym, ap, ◌∙◌}
use Rattle.std.specs.Option.{option_copied_mut}
use Rattle.model.specs.World.{Profile}
use Rattle.model.specs.Profiles.{has_generation, put_at}
use Rattle.tables_outline.specs.Maps.{pair_bytes}
use Rattle.tables_outline.specs.View.{outline_view}
use Rattle.tables_outline.specs.Outline.{OutlineValue, with_profile, profile_of}
use Rattle.tables_outline.proofs.ProfileEntries.{profile_is, profile_written, generation_missing}
use Rattle.tables_outline.proofs.outline.Outline.replace_generation.Goals as goal

pub replace-requires : goal.replace-requires
replace-requires c =
    let q = pair_bytes c.args.owned.now in
    ap (λ (p : Profile). has_generation p c.args.number)
    (profile_is c.self.inside.profiles.entries q c.in-Some.profile.now c.in-Some.ensures.value)
    ∙ ap (λ (o : OutlineValue). has_generation (profile_of o q) c.args.number) c.self.view_is ∙ c.requires

pub returns : goal.returns
returns c =
    let es = c.self.inside.profiles.entries in
    let q = pair_bytes c.args.owned.now in
    ap (λ m. record (outline_view c.self.inside) { profiles = m })
    (profile_written es _ q c.in-Some.profile.now c.replace.new.self _ c.in-Some.ensures.value
    (c.get_mut.follows.holds c.replace.new.self).0
    (c.replace.ensures ∙ ap (λ (p : Profile). put_at p c.args.number c.args.target)
    (profile_is es q c.in-Some.profile.now c.in-Some.ensures.value)))
    ∙ ap (λ (o : OutlineValue). with_profile o q (put_at (profile_of o q) c.args.number c.args.target)) c.self.view_is

pub returns-in_default : goal.returns-in_default
returns-in_default c =
    let q = pair_bytes c.args.owned.now in
    absurd (generation_missing c.self.inside.profiles.entries q c.args.number
    (ap option_copied_mut (sym c.in_default.is) ∙ c.get_mut.ensures.value)
    (ap (λ (o : OutlineValue). has_generation (profile_of o q) c.args.number) c.self.view_is ∙ c.requires))
