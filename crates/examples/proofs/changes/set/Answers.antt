use Rattle.std.proofs.Common.{List, ℕ, Bool, ◌&&◌, sym, ap, ap₂, subst, ◌∙◌, IsTrue, string_bytes}
use Rattle.std.specs.Prelude.{nat_le}
use Rattle.paths.specs.Names.{is_plain_name}
use Rattle.tables.specs.Sound.{IsSound}
use Rattle.tables.specs.Profiles.{number_for, profile_at, set_to}
use Rattle.paths.specs.Decimal.{max_generation}
use Rattle.tables.specs.Outline.{OutlineValue, profile_of}
use Rattle.tables.specs.Entries.{with_profile_by}
use Rattle.tables.proofs.SoundChanges.{valid_by_outline}
use Rattle.tables.proofs.SoundProfiles.{profile_set}
use Rattle.std.specs.FinMap as finite
use Rattle.examples.proofs.changes.set.Goals as goal

pub set_profile-requires-clause-number : goal.set_profile-requires-clause-number
set_profile-requires-clause-number g c =
    let owner = string_bytes c.args.owned.now.0 in
    let name = string_bytes c.args.owned.now.1 in
    c.in-Some.ensures.number ∙ ap (λ (o : OutlineValue). number_for (profile_of o (owner, name)) c.args.path.now)
    c.outline-2.ensures
    ∙ sym (ap₂ (λ (x y : List ℕ). number_for (profile_of c.args.tables.now.outline (x, y)) c.args.path.now)
    c.as_str-3.ensures.value c.as_str-4.ensures.value)

pub set_profile-requires-clause-sound : goal.set_profile-requires-clause-sound
set_profile-requires-clause-sound g c w t =
    let dir = c.args.tables.now.dir in
    let path = c.args.path.now in
    let owner = string_bytes c.args.owned.now.0 in
    let name = string_bytes c.args.owned.now.1 in
    let plain : IsTrue (is_plain_name owner && is_plain_name name) = ap₂ (λ (a b : Bool). a && b)
    (sym (ap is_plain_name c.as_str.ensures.value) ∙ sym c.is_plain_name.ensures ∙ c.if-not-is_plain_name.false)
    (sym (ap is_plain_name c.as_str-2.ensures.value) ∙ sym c.is_plain_name-2.ensures
    ∙ c.if-not-is_plain_name-2.false) in
    let valid =
    valid_by_outline g.S.Store c.args.tables.now w t path
    ∙ ap (λ (o : OutlineValue). finite.contains_key o.objects path) (sym c.outline.ensures) ∙ sym c.has.ensures
    ∙ c.if-not-has.false in
    let left : IsTrue (nat_le (number_for (profile_at w (owner, name)) path) max_generation) =
    ap (λ (o : OutlineValue). nat_le (number_for (profile_of o (owner, name)) path) max_generation)
    (t.outline ∙ sym c.outline-2.ensures) ∙ sym c.in-Some.ensures.fits in
    subst (λ (x : List ℕ). IsSound dir (with_profile_by (x, c.as_str-4.result.now) (λ p. set_to p path) w))
    (sym c.as_str-3.ensures.value)
    (subst (λ (x : List ℕ). IsSound dir (with_profile_by (owner, x) (λ p. set_to p path) w))
    (sym c.as_str-4.ensures.value) (profile_set dir w t.sound owner name path plain valid left))
