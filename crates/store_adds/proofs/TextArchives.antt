-- The archive of a text.
use Rattle.std.proofs.Common.{◌≡◌, ℕ, ◌≤◌, List, false, Ok, Result, ap, arith}
use Rattle.std.specs.Prelude.{if◌then◌else◌}
use Rattle.std.specs.FinMap as finite
use Rattle.nar.specs.Tree.{Tree, regular, IsBytes}
use Rattle.nar.specs.Archive.{IsWritable, limit}
use Rattle.nar.specs.declared.error.NarError.{NarError}
use Rattle.nar.proofs.Files.{length-file, file_is_read}
use Rattle.paths.specs.StorePath.{is_derivation}
use Rattle.model.specs.World.{Path}
use Rattle.model.specs.Objects.{tree_outputs, outputs_at}
use Rattle.model.specs.Adds.{text_archive, text_archive_size}

pub writable : (contents : List ℕ) → IsBytes contents → text_archive_size contents ≤ limit
    → IsWritable (regular false contents)
writable contents bytes small =
    record {
      legal = bytes;
      shallow = (tt, (tt, (tt, (tt, (tt, (tt, (tt, tt)))))));
      small = omega (arith, length-file contents, small);
    }

pub small_enough : (contents : List ℕ) → IsWritable (regular false contents) → text_archive_size contents ≤ limit
small_enough contents w = (let small = w.small in omega (arith, length-file contents, small))

-- the outputs of a text, by its archive
pub outputs_of_text : (dir : List ℕ) (p : Path) (contents : List ℕ) → IsBytes contents
    → text_archive_size contents ≤ limit
    → outputs_at dir p (text_archive contents)
    ≡ (if is_derivation p then tree_outputs {E = NarError} dir (Ok (regular false contents)) else finite.empty)
unfolding text_archive
outputs_of_text dir p contents bytes small =
    ap (λ (r : Result Tree NarError). if is_derivation p then tree_outputs dir r else finite.empty)
    (file_is_read contents bytes small)
