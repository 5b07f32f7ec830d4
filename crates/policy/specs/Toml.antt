-- What a configuration text says: a TOML document with six keys, each of its kind, each with a default.
use Rattle.std.specs.Prelude.{◌≡◌, ℕ, Bool, true, false, ◌&&◌, ◌||◌, ◌==◌, not, nat_le, if◌then◌else◌, List, [], ◌∷◌}
use Rattle.std.specs.Prelude.{length, drop, slice_index, codes, Option, Some, None, option_map, option_and_then, Result}
use Rattle.std.specs.Prelude.{Ok, Err}
use Rattle.std.specs.Str.{bytes_eq, is_utf8}
use Rattle.std.specs.FinMap.{empty, insert}
use Rattle.toml.specs.Data.{Data, as_str, as_bool, as_array, as_table, Items, no_items, item, Members, no_members}
use Rattle.toml.specs.Data.{member, get_member}
use Rattle.toml.specs.Parse.{parse_document}
use Rattle.paths.specs.Names.{is_plain_name, is_store_dir}
use Rattle.policy.specs.Settings.{Entry, everyone, user, group, Users, Groups, Settings}
use Rattle.policy.specs.declared.error.KeyWord.{KeyWord}
use Rattle.policy.specs.declared.error.KeyWord.TheVariants.{Syntax, UnknownKey, StoreDir, AllowedUsers, TrustedUsers}
use Rattle.policy.specs.declared.error.KeyWord.TheVariants.{KeepOutputs, KeepDerivations, Groups as InGroups}
use Rattle.policy.specs.declared.error.ConfigError.{ConfigError}
use Rattle.policy.specs.declared.error.ConfigError.TheVariants.{Bad, Memory}

-- the text, where it passes the test
abbrev pub only : (List ℕ → Bool) → List ℕ → Option (List ℕ)
only test text = if test text then Some text else None

-- the store directory that a value is
abbrev pub store_dir_of : Data → Option (List ℕ)
store_dir_of value = option_and_then (only is_store_dir) (as_str value)

-- the plain name that a value is
abbrev pub name_of : Data → Option (List ℕ)
name_of value = option_and_then (only is_plain_name) (as_str value)

-- the entry that a text is: `*`, `@` (64) and a plain name, or a plain name
abbrev pub entry_of_text : List ℕ → Option Entry
entry_of_text text =
    if bytes_eq text (codes "*") then Some everyone
    else if slice_index text 0 == 64 then option_map group (only is_plain_name (drop 1 text))
    else option_map user (only is_plain_name text)

-- the entry that a value is
abbrev pub entry_of : Data → Option Entry
entry_of value = option_and_then entry_of_text (as_str value)

-- a first entry before others, where all are there
abbrev pub before : Option Entry → Option (List Entry) → Option (List Entry)
before None rest = None
before (Some x) rest = option_map (λ xs. x ∷ xs) rest

-- the entries that the items are, in order, where each is one
abbrev pub each_entry : Items → Option (List Entry)
each_entry no_items = Some []
each_entry (item value rest) = before (entry_of value) (each_entry rest)

-- the entries that an array holds
abbrev pub entries_of : Data → Option (List Entry)
entries_of value = option_and_then each_entry (as_array value)

-- the users, and one for each item, where each is a plain name
abbrev pub with_users : Users → Items → Option Users
with_users users no_items = Some users
with_users users (item value rest) = option_and_then (λ name. with_users (insert users name tt) rest) (name_of value)

-- the set of the names that an array holds
abbrev pub users_of : Data → Option Users
users_of value = option_and_then (with_users empty) (as_array value)

-- the members that a group's name and value give: a plain name, and an array of plain names
abbrev pub group_of : List ℕ → Data → Option Users
group_of name value = if is_plain_name name then users_of value else None

-- the groups, and one for each pair of a table, where each gives one
abbrev pub with_groups : Groups → Members → Option Groups
with_groups groups no_members = Some groups
with_groups groups (member name value rest) =
    option_and_then (λ users. with_groups (insert groups name users) rest) (group_of name value)

-- the groups that a table holds
abbrev pub groups_of : Data → Option Groups
groups_of value = option_and_then (with_groups empty) (as_table value)

-- what the value at a key is, or the default where the key is absent
abbrev pub or_default : {A : Type 0} → (Data → Option A) → A → Option Data → Option A
or_default read default None = Some default
or_default read default (Some value) = read value

-- the setting of each key
abbrev pub store_dir_in : Members → Option (List ℕ)
store_dir_in t = or_default store_dir_of (codes "/nix/store") (get_member (codes "store-dir") t)

abbrev pub allowed_users_in : Members → Option (List Entry)
allowed_users_in t = or_default entries_of (everyone ∷ []) (get_member (codes "allowed-users") t)

abbrev pub trusted_users_in : Members → Option (List Entry)
trusted_users_in t = or_default entries_of (user (codes "root") ∷ []) (get_member (codes "trusted-users") t)

abbrev pub keep_outputs_in : Members → Option Bool
keep_outputs_in t = or_default as_bool false (get_member (codes "keep-outputs") t)

abbrev pub keep_derivations_in : Members → Option Bool
keep_derivations_in t = or_default as_bool true (get_member (codes "keep-derivations") t)

abbrev pub groups_in : Members → Option Groups
groups_in t = or_default groups_of empty (get_member (codes "groups") t)

-- whether a key is one of the configuration
abbrev pub is_key : List ℕ → Bool
is_key k = bytes_eq k (codes "store-dir") || bytes_eq k (codes "allowed-users") || bytes_eq k (codes "trusted-users")
    || bytes_eq k (codes "keep-outputs") || bytes_eq k (codes "keep-derivations") || bytes_eq k (codes "groups")

-- whether each key of a table is one of the configuration
abbrev pub has_only_keys : Members → Bool
has_only_keys no_members = true
has_only_keys (member k value rest) = is_key k && has_only_keys rest

-- continues with the value, or ends with the key word
abbrev pub need : {A B : Type 0} → KeyWord → Option A → (A → Result B KeyWord) → Result B KeyWord
need word None next = Err word
need word (Some x) next = next x

-- the settings of a document's table, or the first key word that applies
abbrev pub settings_of : Members → Result Settings KeyWord
settings_of t = if not (has_only_keys t) then Err UnknownKey else
    need StoreDir (store_dir_in t) (λ dir.
    need AllowedUsers (allowed_users_in t) (λ allowed.
    need TrustedUsers (trusted_users_in t) (λ trusted.
    need KeepOutputs (keep_outputs_in t) (λ outputs.
    need KeepDerivations (keep_derivations_in t) (λ derivations.
    need InGroups (groups_in t) (λ groups.
    Ok (record {
      store_dir = dir;
      allowed_users = allowed;
      trusted_users = trusted;
      keep_outputs = outputs;
      keep_derivations = derivations;
      groups = groups;
    })))))))

-- the document's table: a text of at most 1,048,576 bytes, all UTF-8, that is a TOML document
abbrev pub document_of : List ℕ → Option Members
document_of text = if nat_le (length text) 1048576 && is_utf8 text then parse_document text else None

-- the settings of a configuration text, or the first key word that applies
abbrev pub config_of : List ℕ → Result Settings KeyWord
config_of text = need Syntax (document_of text) settings_of

-- what an error says of a text: its key word is the first that applies; running out of memory says nothing
abbrev pub Explains : ConfigError → Result Settings KeyWord → Type 0
Explains (Bad word) outcome = outcome ≡ Err word
Explains Memory outcome = Unit {0}
