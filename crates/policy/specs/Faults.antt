-- What is wrong with a configuration: what each key word means, and the order in which they are looked for.
use Rattle.std.specs.Prelude.{◌≡◌, ℕ, Bool, true, false, not, is_none, List, [], ◌∷◌, Option, Some, None, Result, Ok}
use Rattle.std.specs.Prelude.{Err}
use Rattle.std.specs.List.{find}
use Rattle.toml.specs.Data.{Members}
use Rattle.policy.specs.Settings.{Settings}
use Rattle.policy.specs.Toml.{document_of, has_only_keys, store_dir_in, allowed_users_in, trusted_users_in}
use Rattle.policy.specs.Toml.{keep_outputs_in, keep_derivations_in, groups_in, config_of}
use Rattle.policy.specs.declared.error.KeyWord.{KeyWord}
use Rattle.policy.specs.declared.error.KeyWord.TheVariants.{Syntax, UnknownKey, StoreDir, AllowedUsers, TrustedUsers}
use Rattle.policy.specs.declared.error.KeyWord.TheVariants.{KeepOutputs, KeepDerivations, Groups}

-- whether a key word applies to a document, where the text is one
abbrev pub applies : Option Members → KeyWord → Bool
applies None word = true
applies (Some t) Syntax = false
applies (Some t) UnknownKey = not (has_only_keys t)
applies (Some t) StoreDir = is_none (store_dir_in t)
applies (Some t) AllowedUsers = is_none (allowed_users_in t)
applies (Some t) TrustedUsers = is_none (trusted_users_in t)
applies (Some t) KeepOutputs = is_none (keep_outputs_in t)
applies (Some t) KeepDerivations = is_none (keep_derivations_in t)
applies (Some t) Groups = is_none (groups_in t)

-- the key words in their order
abbrev pub key_words : List KeyWord
key_words = Syntax ∷ UnknownKey ∷ StoreDir ∷ AllowedUsers ∷ TrustedUsers ∷ KeepOutputs ∷ KeepDerivations ∷ Groups ∷ []

-- the key word of an outcome, if it has one
abbrev pub key_word_in : Result Settings KeyWord → Option KeyWord
key_word_in (Ok settings) = None
key_word_in (Err word) = Some word

-- a text has settings where no key word applies, and else the first that does
abbrev pub FirstThatApplies : Type 0
FirstThatApplies = (text : List ℕ) → key_word_in (config_of text) ≡ find (applies (document_of text)) key_words
