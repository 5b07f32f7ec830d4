use Rattle.tool_words.proofs.Defaults as defaults
use Rattle.tool_words.proofs.laws.arguments_have_defaults.Goals as goal

pub returns-clause-options : goal.returns-clause-options
returns-clause-options c = defaults.options

pub returns-clause-limit : goal.returns-clause-limit
returns-clause-limit c = defaults.collects_all

pub returns-clause-liveness : goal.returns-clause-liveness
returns-clause-liveness c = defaults.heeds

pub returns-clause-streams : goal.returns-clause-streams
returns-clause-streams c = defaults.streams

pub returns-clause-connections : goal.returns-clause-connections
returns-clause-connections c = defaults.one

pub returns-clause-roots : goal.returns-clause-roots
returns-clause-roots c = defaults.roots

pub returns-clause-owners : goal.returns-clause-owners
returns-clause-owners c = defaults.owners

pub returns-clause-references : goal.returns-clause-references
returns-clause-references c = defaults.references
