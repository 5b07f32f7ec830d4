use Rattle.std.proofs.Common.{is_some, sym, ap, ◌∙◌}
use Rattle.std.specs.Option.{option_copied_mut}
use Rattle.std.specs.FinMap as finite
use Rattle.model.specs.World.{Profile}
use Rattle.model.specs.Profiles.{put_at}
use Rattle.tables_outline.specs.Maps.{pair_bytes}
use Rattle.tables_outline.specs.View.{profile_view, outline_view}
use Rattle.tables_outline.specs.Outline.{OutlineValue, with_profile, profile_of}
use Rattle.tables_outline.proofs.Orders.{pair_total, pair_antisymmetric}
use Rattle.tables_outline.proofs.ProfileEntries.{profile_is, profile_written, profile_missing, profile_found}
use Rattle.tables_outline.proofs.Written.{insert_same, on_err, not_ok}
use Rattle.tables_outline.proofs.outline.Outline.put_more.Goals as goal

pub returns : goal.returns
returns c =
    let es = c.self.inside.profiles.entries in
    let q = pair_bytes c.args.owned.now in
    record {
      done =
          ap (λ m. record (outline_view c.self.inside) { profiles = m })
          (profile_written es _ q c.in-Some.profile.now c.put.new.self _ c.in-Some.ensures.value
          (c.get_mut.follows.holds c.put.new.self).0
          (c.in_ok-put.ensures.done ∙ ap (λ (p : Profile). put_at p c.args.number c.args.target)
          (profile_is es q c.in-Some.profile.now c.in-Some.ensures.value)))
          ∙ ap (λ (o : OutlineValue). with_profile o q (put_at (profile_of o q) c.args.number c.args.target))
          c.self.view_is;
      failed = tt;
    }

pub returns-in_err-put : goal.returns-in_err-put
returns-in_err-put c =
    let o = outline_view c.self.inside in
    let es = c.self.inside.profiles.entries in
    let q = pair_bytes c.args.owned.now in
    record {
      done = not_ok c.from_residual.result _ _ c.from_residual.ensures.1;
      failed =
          on_err c.from_residual.result
          (ap (λ m. record o { profiles = m })
          (profile_written es _ q c.in-Some.profile.now c.put.new.self (profile_view c.in-Some.profile.now)
          c.in-Some.ensures.value (c.get_mut.follows.holds c.put.new.self).0 c.in_err-put.ensures.failed
          ∙ insert_same pair_total pair_antisymmetric o.profiles q (profile_view c.in-Some.profile.now)
          (profile_found es q c.in-Some.profile.now c.in-Some.ensures.value))
          ∙ c.self.view_is);
    }

pub returns-in_default : goal.returns-in_default
returns-in_default c =
    absurd (profile_missing c.self.inside.profiles.entries (pair_bytes c.args.owned.now)
    (ap option_copied_mut (sym c.in_default.is) ∙ c.get_mut.ensures.value)
    (ap (λ (o : OutlineValue). is_some (finite.get o.profiles (pair_bytes c.args.owned.now))) c.self.view_is
    ∙ c.requires))
