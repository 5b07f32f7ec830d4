use Rattle.std.proofs.Common.{◌≡◌, true, false, codes, ◌∷◌, []}
use Rattle.nar.specs.Archive.{other}
use Rattle.nar.proofs.Put.{on_ok, wrote_parts}
use Rattle.nar.proofs.writer.put_file.Goals as goal

pub returns-then-executable : goal.returns-then-executable
returns-then-executable c = record {
  ok = λ depth.
      let is : c.args.executable ≡ true = c.if-executable.true in
      rw is (on_ok c.put_strings.result
      (wrote_parts (other (codes "(") ∷ other (codes "type") ∷ other (codes "regular") ∷ other (codes "executable")
      ∷ other [] ∷ other (codes "contents") ∷ other c.args.contents.now ∷ other (codes ")") ∷ []))
      c.put_strings.ensures.ok);
  err = c.put_strings.ensures.err;
}

pub returns-else-executable : goal.returns-else-executable
returns-else-executable c = record {
  ok = λ depth.
      let isnt : c.args.executable ≡ false = c.if-executable.false in
      rw isnt (on_ok c.put_strings-else-executable.result
      (wrote_parts (other (codes "(") ∷ other (codes "type") ∷ other (codes "regular") ∷ other (codes "contents")
      ∷ other c.args.contents.now ∷ other (codes ")") ∷ [])) c.put_strings-else-executable.ensures.ok);
  err = c.put_strings-else-executable.ensures.err;
}
