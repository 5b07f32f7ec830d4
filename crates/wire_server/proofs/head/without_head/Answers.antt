use Rattle.std.proofs.Common.{arith}
use Rattle.wire_server.proofs.Heads.{too_long}
use Rattle.wire_server.proofs.head.without_head.Goals as goal

-- src/head.rt:55:1
pub returns-else-buf-lt-MAX_HEAD : goal.returns-else-buf-lt-MAX_HEAD
returns-else-buf-lt-MAX_HEAD c = λ none. too_long c.args.buf.now none (omega arith)
