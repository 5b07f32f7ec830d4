use Rattle.std.proofs.Common.{ℕ, List, sym, ap, ap₂, ◌∙◌, option_map}
use Rattle.std.specs.Cmp.Lexicographic.{texts_ties}
use Rattle.std.specs.Ordering.{eq_by_cmp}
use Rattle.std.specs.FinMap as finite
use Rattle.paths.specs.Root.{bytes_cmp}
use Rattle.model.specs.Profiles.{is_path}
use Rattle.tables_outline.specs.View.{profile_view}
use Rattle.tables_outline.proofs.ProfileEntries.{generation_at}
use Rattle.tables_outline.proofs.profiles.Profile.is_highest.Goals as goal

pub returns-in-Some : goal.returns-in-Some
returns-in-Some c =
    c.eq.ensures ∙ texts_ties c.as_str.result.now c.as_str-in-Some.result.now
    ∙ ap₂ (λ q t. eq_by_cmp bytes_cmp q t) c.as_str.ensures.value c.as_str-in-Some.ensures.value
    ∙ ap (λ o. is_path (option_map (λ (t : List ℕ). t) o) c.args.target.now) c.in-Some.ensures.value
    ∙ sym (ap (λ o. is_path o c.args.target.now)
    (ap (finite.get (profile_view c.args.self.now).generations) (sym c.highest.ensures)
    ∙ generation_at c.args.self.now.generations.entries c.highest.result))

pub returns-in-None : goal.returns-in-None
returns-in-None c =
    ap (λ o. is_path (option_map (λ (t : List ℕ). t) o) c.args.target.now) c.in-None.ensures.value
    ∙ sym (ap (λ o. is_path o c.args.target.now)
    (ap (finite.get (profile_view c.args.self.now).generations) (sym c.highest.ensures)
    ∙ generation_at c.args.self.now.generations.entries c.highest.result))
