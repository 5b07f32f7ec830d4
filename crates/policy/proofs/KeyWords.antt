-- The first key word that applies, one setting after another.
use Rattle.std.proofs.Common.{◌≡◌, Bool, true, false, cond, not, is_none, List, ℕ, Option, Some, None, Result, Ok, Err}
use Rattle.std.proofs.Common.{refl}
use Rattle.std.specs.List.{find}
use Rattle.toml.specs.Data.{Members}
use Rattle.policy.specs.Settings.{Entry, Groups, Settings}
use Rattle.policy.specs.Toml.{need, settings_of, has_only_keys, store_dir_in, allowed_users_in, trusted_users_in}
use Rattle.policy.specs.Toml.{keep_outputs_in, keep_derivations_in, groups_in}
use Rattle.policy.specs.Faults.{applies, key_words, key_word_in}
use Rattle.policy.specs.declared.error.KeyWord.{KeyWord}
use Rattle.policy.specs.declared.error.KeyWord.TheVariants.{Syntax, UnknownKey, StoreDir, AllowedUsers, TrustedUsers}
use Rattle.policy.specs.declared.error.KeyWord.TheVariants.{KeepOutputs, KeepDerivations, Groups as InGroups}

-- the settings that are there, or the first key word that applies
abbrev pub joined : Bool → Option (List ℕ) → Option (List Entry) → Option (List Entry) → Option Bool → Option Bool
    → Option Groups → Result Settings KeyWord
joined known d a t o k g = cond (not known) (Err UnknownKey)
    (need StoreDir d (λ dir. need AllowedUsers a (λ allowed. need TrustedUsers t (λ trusted.
    need KeepOutputs o (λ outputs. need KeepDerivations k (λ derivations. need InGroups g (λ groups.
    Ok (record {
      store_dir = dir;
      allowed_users = allowed;
      trusted_users = trusted;
      keep_outputs = outputs;
      keep_derivations = derivations;
      groups = groups;
    }))))))))

-- the first of seven tests
abbrev pub first_of : Bool → Option (List ℕ) → Option (List Entry) → Option (List Entry) → Option Bool → Option Bool
    → Option Groups → Option KeyWord
first_of known d a t o k g =
    cond (not known) (Some UnknownKey) (cond (is_none d) (Some StoreDir) (cond (is_none a) (Some AllowedUsers)
    (cond (is_none t) (Some TrustedUsers)
    (cond (is_none o) (Some KeepOutputs)
    (cond (is_none k) (Some KeepDerivations) (cond (is_none g) (Some InGroups) None))))))

key_word_in-joined : (known : Bool) (d : Option (List ℕ)) (a t : Option (List Entry)) (o k : Option Bool)
    (g : Option Groups)
    → key_word_in (joined known d a t o k g) ≡ first_of known d a t o k g
key_word_in-joined false d a t o k g = refl
key_word_in-joined true None a t o k g = refl
key_word_in-joined true (Some d) None t o k g = refl
key_word_in-joined true (Some d) (Some a) None o k g = refl
key_word_in-joined true (Some d) (Some a) (Some t) None k g = refl
key_word_in-joined true (Some d) (Some a) (Some t) (Some o) None g = refl
key_word_in-joined true (Some d) (Some a) (Some t) (Some o) (Some k) None = refl
key_word_in-joined true (Some d) (Some a) (Some t) (Some o) (Some k) (Some g) = refl

-- the same of a document, where there is one
pub first_that_applies : (document : Option Members)
    → key_word_in (need Syntax document settings_of) ≡ find (applies document) key_words
first_that_applies None = refl
first_that_applies (Some t) =
    key_word_in-joined (has_only_keys t) (store_dir_in t) (allowed_users_in t) (trusted_users_in t) (keep_outputs_in t)
    (keep_derivations_in t) (groups_in t)
