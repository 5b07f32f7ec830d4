-- The keys of a table.
use Rattle.std.proofs.Common.{◌≡◌, ◌&&◌, List, [], ◌∷◌, String, Global, string_bytes, refl, ap}
use Rattle.std.specs.List.{list_all}
use Rattle.std.specs.Map.{keys_of}
use Rattle.toml.specs.View.{members_view}
use Rattle.toml.specs.declared.value.Value.{Value}
use Rattle.policy.specs.Toml.{has_only_keys, is_key}

-- one by one, as the map's iterator gives them
pub has_only_keys-view : (es : List (String Global × Value))
    → list_all (λ k. is_key (string_bytes k)) (keys_of es) ≡ has_only_keys (members_view es)
has_only_keys-view [] = refl
has_only_keys-view (e ∷ es) = ap (λ b. is_key (string_bytes e.0) && b) (has_only_keys-view es)
