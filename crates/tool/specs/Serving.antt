-- What `serve` does: the store is served over HTTP.
use Rattle.std.specs.Prelude.{List, ℕ, Option}
use Rattle.std.specs.Io.KnownBytes.{Keeps}
use Rattle.sqlite_trees.specs.declared.store.Store.{Ghosts}
use Rattle.policy.specs.Settings.{Settings}
use Rattle.model.specs.World.{World}
use Rattle.report.specs.Outputs.{Console}
use Rattle.store.specs.View.{StoreView}
use Rattle.wire.specs.Ends.{ServesPort, ServesPortByWorlds, ServesStreams, ServesStreamsByWorlds}
use Rattle.wire.specs.Worlds.{AnswersFrom}
use Rattle.tool_words.specs.declared.line.ServeArguments.{ServeArguments}
use Rattle.tool_words.specs.declared.line.ServeArguments.TheVariants.{Streams, Port}

module _ {S : Type 0} (streams : Console → S → S → Type 0)
    (port : ℕ → Option (List ℕ) → Option (List ℕ) → S → S → ℕ → Type 0) where
  -- on the two streams; or on a port, and then nothing goes to the streams
  abbrev pub ServesBy : ServeArguments → Console → S → S → Type 0
  ServesBy Streams c old new = streams c old new
  ServesBy (Port number n) c old new =
      Keeps c.written.output.old c.written.output.new
      × port n c.written.errors.old c.written.errors.new old new c.written.status

-- A world is served: each message that makes a request is answered by a step, from the world that the previous one
-- left. The other world is that after the last message.
abbrev pub ServesWorld : Settings → ServeArguments → Console → World → World → Type 0
ServesWorld s = ServesBy (ServesStreams (AnswersFrom s)) (ServesPort (AnswersFrom s))

-- A store is served: each message that makes a request is answered by a call, from the store that the previous one
-- left. The other store is that after the last message. From each world of the store before, these calls are steps to
-- one of the store then, if the disk is clean.
abbrev pub ServesStore : {S : Type 0} → Ghosts S → ServeArguments → Console → StoreView S → StoreView S → Type 0
ServesStore g = ServesBy (ServesStreamsByWorlds g) (ServesPortByWorlds g)
