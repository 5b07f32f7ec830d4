use Rattle.std.proofs.Common.{◌≡◌, ℕ, sym, ap, ◌∙◌, ◌∷◌, [], List, ◌+◌, ◌++◌, codes, take}
use Rattle.std.proofs.lemmas.List.{take_more}
use Rattle.nar.specs.declared.node.Entry.{Entry}
use Rattle.nar.specs.Archive.{Part, other, name, node}
use Rattle.nar.specs.View.{tree_of}
use Rattle.nar.proofs.Trees.{tree-regular, tree-symlink, tree-directory, pair-is}
use Rattle.nar.proofs.Directory.{entries_parts-push}
use Rattle.nar.proofs.Put.{wrote, wrote_parts, wrote_then, extends_then, extends_of, on_ok, on_err, on_err_of, not_ok}
use Rattle.nar.proofs.writer.+writer.Goals as goal

abbrev begun : List Part
begun = other (codes "(") ∷ other (codes "type") ∷ other (codes "directory") ∷ []

pub put_directory-returns : goal.put_directory-returns
put_directory-returns t c = record {
  ok = λ depth.
      on_ok c.put_string.result (λ e. wrote_then (wrote_parts begun c.in_ok-put_strings.ensures.ok)
      (wrote_then (c.in_ok-put_entries.ensures.ok depth) (wrote (other (codes ")")) e))) c.put_string.ensures.ok;
  err =
      on_err c.put_string.result (λ x. extends_then (extends_of (wrote_parts begun c.in_ok-put_strings.ensures.ok))
      (extends_then (extends_of (c.in_ok-put_entries.ensures.ok 1)) x)) c.put_string.ensures.err;
}

pub put_entries-returns-in_err-put_entry : goal.put_entries-returns-in_err-put_entry
put_entries-returns-in_err-put_entry t c = record {
  ok = λ depth. not_ok c.from_residual.result _ _ c.from_residual.ensures.1;
  err =
      on_err_of c.from_residual.result
      (extends_then (extends_of (c.loop-entry.invariant 1)) c.in_err-put_entry.ensures.err);
}

pub put_entries-loop-entry-preserved : goal.put_entries-loop-entry-preserved
put_entries-loop-entry-preserved t c = λ depth.
    let i = c.loop-entry.entry-index in
    let es = c.args.entries.now in
    let more : take (i + 1) es ≡ take i es ++ c.entry-item.result ∷ [] =
    take_more es i c.entry-item.result c.loop-entry-test.true
    ∙ ap (λ (e : Entry). take i es ++ e ∷ []) (sym c.entry-item.is) in
    rw (more, entries_parts-push depth (take i es) c.entry-item.result)
    (wrote_then (c.loop-entry.invariant depth) (c.in_ok-put_entry.ensures.ok depth))

pub put_entry-returns : goal.put_entry-returns
put_entry-returns t c =
    let head : ℕ → List Part =
    λ depth. other (codes "entry") ∷ other (codes "(") ∷ other (codes "name") ∷ name c.args.entry.now.name.now
    ∷ node (depth + 1) ∷ [] in
    record {
      ok = λ depth.
          rw (pair-is c.args.entry.now)
          (on_ok c.put_string.result (λ e. wrote_then (wrote_parts (head depth) c.in_ok-put_strings.ensures.ok)
          (wrote_then (c.in_ok-put_node.ensures.ok (depth + 1)) (wrote (other (codes ")")) e)))
          c.put_string.ensures.ok);
      err =
          on_err c.put_string.result (λ x. extends_then
          (extends_of (wrote_parts (head 0) c.in_ok-put_strings.ensures.ok))
          (extends_then (extends_of (c.in_ok-put_node.ensures.ok 1)) x)) c.put_string.ensures.err;
    }

pub put_node-returns-in-Regular : goal.put_node-returns-in-Regular
put_node-returns-in-Regular t c = record {
  ok =
      λ depth. rw (ap tree_of c.in-Regular.is ∙ tree-regular c.in-Regular.executable c.in-Regular.contents)
      (c.put_file.ensures.ok depth);
  err = c.put_file.ensures.err;
}

pub put_node-returns-in-Symlink : goal.put_node-returns-in-Symlink
put_node-returns-in-Symlink t c = record {
  ok = λ depth. rw (ap tree_of c.in-Symlink.is ∙ tree-symlink c.in-Symlink.target) (c.put_symlink.ensures.ok depth);
  err = c.put_symlink.ensures.err;
}

pub put_node-returns-in-Directory : goal.put_node-returns-in-Directory
put_node-returns-in-Directory t c = record {
  ok =
      λ depth. rw (ap tree_of c.in-Directory.is ∙ tree-directory c.in-Directory.entries)
      (rw c.deref.ensures.value at (c.put_directory.ensures.ok depth));
  err = c.put_directory.ensures.err;
}
