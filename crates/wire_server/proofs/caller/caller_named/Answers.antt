use Rattle.std.specs.Prelude.{option_map}
use Rattle.wire_server.proofs.PlainText.{no_name}
use Rattle.wire_server.proofs.caller.caller_named.Goals as goal

-- src/caller.rt:13:1
pub returns-in-Err-clause-bad : goal.returns-in-Err-clause-bad
returns-in-Err-clause-bad c =
    λ same. no_name c.args.user.now (option_map (λ g. g.now) c.args.group) c.in-Err.ensures.cases.0
