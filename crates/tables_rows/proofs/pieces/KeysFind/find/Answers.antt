use Rattle.tables_schema.specs.Forms.{piece}
use Rattle.tables_rows.proofs.PieceKeyLemmas.{keys}
use Rattle.tables_rows.proofs.Clauses.{reads_keys, fails_to_read}
use Rattle.tables_rows.proofs.pieces.KeysFind.find.Goals as goal

pub returns-clause-found : goal.returns-clause-found
returns-clause-found g c = record {
  frame = c.select.ensures.frame;
  reads =
      λ clean. reads_keys keys c.select.ensures.frame.survives c.requires.frame.ready c.requires.exists clean
      c.select.result (c.select.ensures.shown clean) (c.select.ensures.rises clean);
  cause =
      λ clean. fails_to_read keys c.select.ensures.frame.survives c.requires.frame.ready c.requires.exists clean
      c.select.result (c.select.ensures.cause clean);
}

pub returns-clause-exists : goal.returns-clause-exists
returns-clause-exists g c = c.select.ensures.further piece c.requires.exists
