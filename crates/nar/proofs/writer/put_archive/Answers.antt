use Rattle.std.proofs.Common.{codes}
use Rattle.nar.specs.Archive.{other}
use Rattle.nar.proofs.Put.{on_ok, on_err, wrote, wrote_then, extends_of, extends_then}
use Rattle.nar.proofs.writer.put_archive.Goals as goal

pub returns : goal.returns
returns c =
    let first = wrote (other (codes "nix-archive-1")) c.in_ok-put_string.ensures.ok in
    record {
      ok = on_ok c.put_node.result (λ node. (wrote_then first node).is) (c.put_node.ensures.ok 1);
      err = on_err c.put_node.result (extends_then (extends_of first)) c.put_node.ensures.err;
    }
