-- The words for key words, classes and rules.
use Rattle.std.specs.Prelude.{ℕ, List, codes}
use Rattle.policy.specs.declared.error.KeyWord.{KeyWord}
use Rattle.policy.specs.declared.error.KeyWord.TheVariants.{Syntax, UnknownKey, StoreDir, AllowedUsers, TrustedUsers}
use Rattle.policy.specs.declared.error.KeyWord.TheVariants.{KeepOutputs, KeepDerivations, Groups}
use Rattle.policy.specs.declared.kinds.Class.{Class}
use Rattle.policy.specs.declared.kinds.Class.TheVariants.{Stranger, Allowed, Trusted}
use Rattle.policy.specs.declared.kinds.Rule.{Rule}
use Rattle.policy.specs.declared.kinds.Rule.TheVariants.{Connect, TrustedImport, TrustedPermanentRoot}
use Rattle.policy.specs.declared.kinds.Rule.TheVariants.{TrustedRuntimeRoots, OwnRoot, NoIgnoreLiveness, Live}

-- the word for what is wrong with a configuration
abbrev pub key_word : KeyWord → List ℕ
key_word Syntax = codes "syntax"
key_word UnknownKey = codes "unknown-key"
key_word StoreDir = codes "store-dir"
key_word AllowedUsers = codes "allowed-users"
key_word TrustedUsers = codes "trusted-users"
key_word KeepOutputs = codes "keep-outputs"
key_word KeepDerivations = codes "keep-derivations"
key_word Groups = codes "groups"

-- the word for a class
abbrev pub class_word : Class → List ℕ
class_word Stranger = codes "stranger"
class_word Allowed = codes "allowed"
class_word Trusted = codes "trusted"

-- the word for a rule
abbrev pub rule_word : Rule → List ℕ
rule_word Connect = codes "connect"
rule_word TrustedImport = codes "trusted-import"
rule_word TrustedPermanentRoot = codes "trusted-permanent-root"
rule_word TrustedRuntimeRoots = codes "trusted-runtime-roots"
rule_word OwnRoot = codes "own-root"
rule_word NoIgnoreLiveness = codes "no-ignore-liveness"
rule_word Live = codes "live"
