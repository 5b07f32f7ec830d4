use Rattle.std.proofs.Common.{◌≡◌, None, is_some, ℕ, List, sym, ap, ◌∙◌}
use Rattle.std.specs.Option.{option_copied_mut}
use Rattle.std.specs.Ordering.{eq_by_cmp, nat_cmp}
use Rattle.std.specs.Cmp.{nat_cmp_total}
use Rattle.std.specs.Map.{lookup}
use Rattle.std.specs.FinMap as finite
use Rattle.std.proofs.lemmas.Bool.{false≢true}
use Rattle.tables_outline.specs.Maps.{seen_map}
use Rattle.tables_outline.proofs.Trees.{has_seen}
use Rattle.tables_outline.proofs.Written.{written}
use Rattle.tables_outline.proofs.profiles.Profile.replace.Goals as goal

pub returns : goal.returns
returns c =
    let es = c.args.self.now.generations.entries in
    ap (λ m. record { generations = m; current = c.args.number })
    (ap (seen_map nat_cmp (λ n. n) (λ (t : List ℕ). t)) (c.get_mut.follows.holds c.args.target).0
    ∙ written nat_cmp (λ n. n) (λ (t : List ℕ). t) nat_cmp_total finite.nat_cmp-IsAntisymmetric es c.args.number
    c.args.target (sym (ap is_some c.in-Some.ensures.value)))

pub returns-in_default : goal.returns-in_default
returns-in_default c =
    let es = c.args.self.now.generations.entries in
    let none : None ≡ lookup (λ (k : ℕ). eq_by_cmp nat_cmp c.args.number k) es =
    ap option_copied_mut (sym c.in_default.is) ∙ c.get_mut.ensures.value in
    absurd (false≢true (ap is_some none
    ∙ sym (has_seen nat_cmp (λ n. n) (λ (t : List ℕ). t) nat_cmp_total finite.nat_cmp-IsAntisymmetric es
    c.args.number) ∙ c.requires))
