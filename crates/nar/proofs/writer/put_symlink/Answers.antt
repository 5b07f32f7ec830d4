use Rattle.std.proofs.Common.{codes, ◌∷◌, []}
use Rattle.nar.specs.Archive.{other}
use Rattle.nar.proofs.Put.{on_ok, wrote_parts}
use Rattle.nar.proofs.writer.put_symlink.Goals as goal

pub returns : goal.returns
returns c = record {
  ok = λ depth.
      on_ok c.put_strings.result
      (wrote_parts (other (codes "(") ∷ other (codes "type") ∷ other (codes "symlink") ∷ other (codes "target")
      ∷ other c.args.target.now ∷ other (codes ")") ∷ [])) c.put_strings.ensures.ok;
  err = c.put_strings.ensures.err;
}
