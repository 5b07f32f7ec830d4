use Rattle.std.proofs.Common.{List, ℕ, not, sym, ap, subst, ◌∙◌, IsTrue, string_bytes}
use Rattle.std.specs.Prelude.{◌==◌}
use Rattle.std.specs.FinMap as finite
use Rattle.std.proofs.lemmas.Bool.{eqb-true, false_from_ne_true}
use Rattle.tables.specs.Sound.{IsSound}
use Rattle.tables.specs.Profiles.{has_profile, profile_at, without_generation}
use Rattle.tables.specs.Outline.{OutlineValue, profile_of}
use Rattle.tables.specs.Entries.{with_profile_by}
use Rattle.tables.proofs.SoundProfiles.{generation_deleted}
use Rattle.examples.proofs.changes.drop_older.Goals as goal

pub drop_generation-requires-clause-sound : goal.drop_generation-requires-clause-sound
drop_generation-requires-clause-sound g c w t =
    let dir = c.args.tables.now.dir in
    let n = c.args.number in
    let owner = string_bytes c.args.owned.now.0 in
    let name = string_bytes c.args.owned.now.1 in
    let present : IsTrue (has_profile w (owner, name)) =
    ap (λ (o : OutlineValue). finite.contains_key o.profiles (owner, name)) (t.outline ∙ sym c.outline.ensures)
    ∙ sym c.has_profile.ensures ∙ c.if-not-has_profile.false in
    let other : IsTrue (not ((profile_at w (owner, name)).current == n)) =
    ap (λ (o : OutlineValue). not ((profile_of o (owner, name)).current == n)) (t.outline ∙ sym c.outline-2.ensures)
    ∙ ap (λ (k : ℕ). not (k == n)) (sym c.current_generation.ensures)
    ∙ ap not (false_from_ne_true (c.current_generation.result == n)
    (λ e. c.if-current_generation-number.false (eqb-true c.current_generation.result n e))) in
    subst (λ (x : List ℕ). IsSound dir (with_profile_by (x, c.as_str-2.result.now) (λ p. without_generation p n) w))
    (sym c.as_str.ensures.value)
    (subst (λ (x : List ℕ). IsSound dir (with_profile_by (owner, x) (λ p. without_generation p n) w))
    (sym c.as_str-2.ensures.value) (generation_deleted dir w t.sound owner name n present other))
