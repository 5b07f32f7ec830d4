use Rattle.nar.proofs.Strings.{is_written}
use Rattle.nar.proofs.writer.put_string.Goals as goal

pub returns : goal.returns
returns c = record {
  ok =
      is_written c.args.out.now.items c.args.text.now _ _ _ _ c.to_le_bytes.ensures
      c.in_ok-extend_from_slice.ensures.items c.in_ok-extend_from_slice-2.ensures.items
      c.in_ok-extend_from_slice-3.ensures.items;
  err = tt;
}
