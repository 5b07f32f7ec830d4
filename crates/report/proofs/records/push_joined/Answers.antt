use Rattle.std.proofs.Common.{◌∷◌, ◌++◌, ◌-◌, drop, take, length, ap, sym, ◌∙◌, append_assoc}
use Rattle.std.specs.Prelude.{string_bytes}
use Rattle.std.specs.List.{flat_map}
use Rattle.std.proofs.lemmas.Result.{on_ok_weaker}
use Rattle.report.proofs.Joined.{joined_parts}
use Rattle.report.proofs.records.push_joined.Goals as goal

pub returns-in_ok-push_str-in-len1-up : goal.returns-in_ok-push_str-in-len1-up
returns-in_ok-push_str-in-len1-up c =
    let first = c.first-item.result in
    let text = string_bytes c.args.text.now in
    let further = flat_map (λ p. 32 ∷ p) (take (length c.args.paths.now - 1) (drop 1 c.args.paths.now)) in
    on_ok_weaker c.push_further.result (
    λ e. e
    ∙ ap (λ v. v ++ further) (c.in_ok-push_str-in-len1-up.ensures.bytes ∙ ap (λ v. text ++ v) c.as_str.ensures.value)
    ∙ append_assoc text first further
    ∙ ap (λ v. text ++ v) (sym (joined_parts first c.args.paths.now c.in-len1-up.len_at_least c.first-item.is))
    ) c.push_further.ensures
