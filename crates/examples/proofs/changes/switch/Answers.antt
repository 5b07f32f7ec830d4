use Rattle.std.proofs.Common.{List, ℕ, sym, ap, subst, ◌∙◌, IsTrue, string_bytes}
use Rattle.std.specs.FinMap as finite
use Rattle.tables.specs.Sound.{IsSound}
use Rattle.tables.specs.Profiles.{has_profile, has_generation, profile_at, switched}
use Rattle.tables.specs.Outline.{OutlineValue, profile_of}
use Rattle.tables.specs.Entries.{with_profile_by}
use Rattle.tables.proofs.SoundProfiles.{profile_switched}
use Rattle.examples.proofs.changes.switch.Goals as goal

pub switch_generation-requires-clause-sound : goal.switch_generation-requires-clause-sound
switch_generation-requires-clause-sound g c w t =
    let dir = c.args.tables.now.dir in
    let n = c.args.number in
    let owner = string_bytes c.args.owned.now.0 in
    let name = string_bytes c.args.owned.now.1 in
    let present : IsTrue (has_profile w (owner, name)) =
    ap (λ (o : OutlineValue). finite.contains_key o.profiles (owner, name)) (t.outline ∙ sym c.outline.ensures)
    ∙ sym c.has_profile.ensures ∙ c.if-not-has_profile.false in
    let there : IsTrue (has_generation (profile_at w (owner, name)) n) =
    ap (λ (o : OutlineValue). has_generation (profile_of o (owner, name)) n) (t.outline ∙ sym c.outline-2.ensures)
    ∙ sym c.has_generation.ensures ∙ c.if-not-has_generation.false in
    subst (λ (x : List ℕ). IsSound dir (with_profile_by (x, c.as_str-2.result.now) (λ p. switched p n) w))
    (sym c.as_str.ensures.value)
    (subst (λ (x : List ℕ). IsSound dir (with_profile_by (owner, x) (λ p. switched p n) w))
    (sym c.as_str-2.ensures.value) (profile_switched dir w t.sound owner name n present there))
