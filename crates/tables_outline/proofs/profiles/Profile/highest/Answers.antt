use Rattle.std.proofs.Common.{◌≡◌, ℕ, map, None, sym, ap, ◌∙◌}
use Rattle.std.specs.Prelude.{unwrap_or}
use Rattle.std.specs.List.{last_or}
use Rattle.std.specs.Map.{keys_of}
use Rattle.std.proofs.lemmas.List.{map-id}
use Rattle.std.proofs.lemmas.Iterator.{items_from_drains}
use Rattle.std.proofs.lemmas.Iterator.Consumers.{YieldsList-from_rest, YieldsList-from_copied}
use Rattle.tables_outline.proofs.ProfileEntries.{numbers_seen}
use Rattle.tables_outline.proofs.profiles.Profile.highest.Goals as goal

pub returns : goal.returns
returns c =
    let ran = c.last.ensures.ran in
    let es = c.args.self.now.generations.entries in
    let items : map (λ (x : ℕ). x) ran.0 ≡ keys_of es =
    items_from_drains ran.0 (ran.1.1.0, ran.1.1.1, λ _. (ran.1.0, ran.1.1.2))
    (YieldsList-from_copied (YieldsList-from_rest (keys_of es) cc)) in
    c.unwrap_or.ensures ∙ ap (λ o. unwrap_or o 0)
    (ran.2 ∙ ap (last_or None) (sym (map-id ran.0) ∙ items ∙ sym (numbers_seen es c.keys.ensures.ordered)))
