-- How a proof distinguishes values of the settings: `impl Model` asks for it, and nothing else does.
use Rattle.std.specs.Prelude.{◌≡◌, ◌⊎◌, ℕ, Bool, List, refl}
use Rattle.std.proofs.Common.{inl, inr}
use Rattle.std.specs.Coded.{Coded, code_by, coded×, coded⊎, coded_ℕ, coded_bool, coded_list}
use Rattle.std.specs.FinMap.{code}
use base.Stored.{coded_unit}
use Rattle.policy.specs.Settings.{Entry, everyone, user, group, Users, Groups, Settings}

abbrev pub text_code : Coded (List ℕ)
text_code = coded_list coded_ℕ

abbrev pub users_code : Coded Users
users_code = code text_code coded_unit

abbrev pub groups_code : Coded Groups
groups_code = code text_code users_code

abbrev entry_parts : Entry → Unit {0} ⊎ (List ℕ ⊎ List ℕ)
entry_parts everyone = inl tt
entry_parts (user name) = inr (inl name)
entry_parts (group name) = inr (inr name)

abbrev entry_from : Unit {0} ⊎ (List ℕ ⊎ List ℕ) → Entry
entry_from (inl _) = everyone
entry_from (inr (inl name)) = user name
entry_from (inr (inr name)) = group name

pub entry_from-parts : (e : Entry) → entry_from (entry_parts e) ≡ e
entry_from-parts everyone = refl
entry_from-parts (user name) = refl
entry_from-parts (group name) = refl

abbrev pub entry_code : Coded Entry
entry_code =
    code_by (Unit {0} ⊎ (List ℕ ⊎ List ℕ))
    (coded⊎ coded_unit (coded⊎ text_code text_code)) entry_parts entry_from entry_from-parts

abbrev pub settings_code : Coded Settings
settings_code =
    code_by (List ℕ × (List Entry × (List Entry × (Bool × (Bool × Groups)))))
    (coded× text_code
    (coded× (coded_list entry_code)
    (coded× (coded_list entry_code) (coded× coded_bool (coded× coded_bool groups_code)))))
    (λ s. (s.store_dir, (s.allowed_users, (s.trusted_users, (s.keep_outputs, (s.keep_derivations, s.groups))))))
    (λ p. record {
      store_dir = p.0;
      allowed_users = p.1.0;
      trusted_users = p.1.1.0;
      keep_outputs = p.1.1.1.0;
      keep_derivations = p.1.1.1.1.0;
      groups = p.1.1.1.1.1;
    })
    (λ _. refl)
