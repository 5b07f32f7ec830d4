use Rattle.std.proofs.Common.{◌≡◌, ◌+◌, ℕ, true, length, sym, ap, ◌∙◌}
use Rattle.nar.specs.String.{size_of}
use Rattle.nar.specs.Room.{are_bytes, less, file_size}
use Rattle.nar.specs.View.{tree_of}
use Rattle.nar.proofs.Trees.{tree-regular, tree-symlink}
use Rattle.nar.proofs.Fits.{bytes_tested, less_checked}
use Rattle.nar.proofs.room.+fitter.Goals as goal
use Rattle.nar.proofs.room.+fitter.Goals.{room_after_node-then-executable, room_after_node-else-executable}

pub room_after_node-returns-after-executable : goal.room_after_node-returns-after-executable
room_after_node-returns-after-executable t c =
    let contents = c.in-Regular.contents.now in
    let bytes : are_bytes contents ≡ true = bytes_tested contents c.size_of_string.ensures.bytes in
    let words : c.if-executable.words ≡ file_size c.in-Regular.executable =
    elim c.if-executable.branch [
      | room_after_node-then-executable w ↦ w.words-is ∙ sym (ap file_size w.if-executable.true)
      | room_after_node-else-executable w ↦ w.words-is ∙ sym (ap file_size w.if-executable.false)
    ] in
    let all : c.if-executable.words + c.size_of_string.result
    ≡ file_size c.in-Regular.executable + size_of (length contents) =
    ap (λ (k : ℕ). k + c.size_of_string.result) words
    ∙ ap (λ (k : ℕ). file_size c.in-Regular.executable + k) c.size_of_string.ensures.size in
    rw (ap tree_of c.in-Regular.is ∙ tree-regular c.in-Regular.executable c.in-Regular.contents, bytes)
    (less_checked c.checked_sub.result c.args.room (c.if-executable.words + c.size_of_string.result)
    c.checked_sub.ensures ∙ ap (less c.args.room) all)

pub room_after_node-returns-in-Symlink : goal.room_after_node-returns-in-Symlink
room_after_node-returns-in-Symlink t c =
    let target = c.in-Symlink.target.now in
    let bytes : are_bytes target ≡ true = bytes_tested target c.size_of_string-in-Symlink.ensures.bytes in
    rw (ap tree_of c.in-Symlink.is ∙ tree-symlink c.in-Symlink.target, bytes)
    (less_checked c.checked_sub-in-Symlink.result c.args.room (80 + c.size_of_string-in-Symlink.result)
    c.checked_sub-in-Symlink.ensures
    ∙ ap (λ (k : ℕ). less c.args.room (80 + k)) c.size_of_string-in-Symlink.ensures.size)
