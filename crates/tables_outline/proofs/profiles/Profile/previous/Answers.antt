use Rattle.std.proofs.Common.{◌≡◌, ℕ, nat_lt, map, None, sym, ap, ◌∙◌, rules, tests}
use Rattle.std.specs.List.{filter, last_or}
use Rattle.std.specs.Map.{keys_of}
use Rattle.std.proofs.lemmas.List.{map-id}
use Rattle.std.proofs.lemmas.Iterator.{items_from_drains}
use Rattle.std.proofs.lemmas.Iterator.Consumers.{YieldsList-from_rest, YieldsList-from_copied, YieldsList-from_filter}
use Rattle.tables_outline.proofs.ProfileEntries.{numbers_seen}
use Rattle.tables_outline.proofs.profiles.Profile.previous.Goals as goal

pub returns : goal.returns
returns c =
    let ran = c.last.ensures.ran in
    let es = c.args.self.now.generations.entries in
    let below = λ (n : ℕ). nat_lt n c.args.self.now.current in
    let items : map (λ (x : ℕ). x) ran.0 ≡ filter below (keys_of es) =
    items_from_drains ran.0 (ran.1.1.0, ran.1.1.1, λ _. (ran.1.0, ran.1.1.2))
    (YieldsList-from_filter _ below (YieldsList-from_copied (YieldsList-from_rest (keys_of es) cc))
    c.filter.ensures.closure (λ x r q k. search (rules, tests))) in
    ran.2 ∙ ap (last_or None) (sym (map-id ran.0) ∙ items
    ∙ ap (filter below) (sym (numbers_seen es c.keys.ensures.ordered)))
