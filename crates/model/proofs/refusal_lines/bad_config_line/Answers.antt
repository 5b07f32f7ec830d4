use Rattle.std.proofs.Common.{sym, ap}
use Rattle.std.specs.Fmt.{digits}
use Rattle.policy.specs.declared.error.KeyWord.{KeyWord}
use Rattle.model.specs.declared.refusal.Refusal.TheVariants.{BadConfig}
use Rattle.model.specs.Refusals.{refusal_line}
use Rattle.model.proofs.refusal_lines.bad_config_line.Goals as goal

pub returns-in-Syntax : goal.returns-in-Syntax
unfolding digits
returns-in-Syntax c = ap (λ (word : KeyWord). refusal_line (BadConfig word)) (sym c.in-Syntax.is)

pub returns-in-UnknownKey : goal.returns-in-UnknownKey
unfolding digits
returns-in-UnknownKey c = ap (λ (word : KeyWord). refusal_line (BadConfig word)) (sym c.in-UnknownKey.is)

pub returns-in-StoreDir : goal.returns-in-StoreDir
unfolding digits
returns-in-StoreDir c = ap (λ (word : KeyWord). refusal_line (BadConfig word)) (sym c.in-StoreDir.is)

pub returns-in-AllowedUsers : goal.returns-in-AllowedUsers
unfolding digits
returns-in-AllowedUsers c = ap (λ (word : KeyWord). refusal_line (BadConfig word)) (sym c.in-AllowedUsers.is)

pub returns-in-TrustedUsers : goal.returns-in-TrustedUsers
unfolding digits
returns-in-TrustedUsers c = ap (λ (word : KeyWord). refusal_line (BadConfig word)) (sym c.in-TrustedUsers.is)

pub returns-in-KeepOutputs : goal.returns-in-KeepOutputs
unfolding digits
returns-in-KeepOutputs c = ap (λ (word : KeyWord). refusal_line (BadConfig word)) (sym c.in-KeepOutputs.is)

pub returns-in-KeepDerivations : goal.returns-in-KeepDerivations
unfolding digits
returns-in-KeepDerivations c = ap (λ (word : KeyWord). refusal_line (BadConfig word)) (sym c.in-KeepDerivations.is)

pub returns-in-Groups : goal.returns-in-Groups
unfolding digits
returns-in-Groups c = ap (λ (word : KeyWord). refusal_line (BadConfig word)) (sym c.in-Groups.is)
