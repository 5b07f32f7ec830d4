use Rattle.std.proofs.Common.{◌≡◌, ◌+◌, ℕ, List, ◌∷◌, refl, sym, ◌∙◌, ap, [], arith, false, subst, codes, IsTrue}
use Rattle.std.proofs.Common.{Option, Some, None}
use Rattle.std.specs.Option.{option_copied}
use Rattle.std.specs.Str.{bytes_eq}
use Rattle.std.proofs.lemmas.Bool.{not-true, not-false}
use Rattle.nar.specs.declared.error.NarError.TheVariants.{BadTag}
use Rattle.nar.specs.Tree.{rises}
use Rattle.nar.specs.Steps.{Symbol, word, any, kind, file, entries, entry_name, node_word, after_name}
use Rattle.nar.specs.Reader.{FaultOf}
use Rattle.nar.specs.View.{trees_of, pair_of}
use Rattle.nar.proofs.Grammar.{same_bytes}
use Rattle.nar.proofs.Trees.{tree-directory, pair-roll, pair-name}
use Rattle.nar.proofs.Taking.{string_err, tag_err, tested, reads_then, fault_then, fault_more, fault_append, passed_on}
use Rattle.nar.proofs.Directory.{last_name, run_entries, run_to_entry, entries_parts-push, last_name-push}
use Rattle.nar.proofs.Directory.{AreLegal-push, run_name, run_word, run_node, node_read, string_shorter, parts_shorter}
use Rattle.nar.proofs.reader.+reader.Goals as goal

abbrev Open : List ℕ
Open = codes "("

-- ---- a node

abbrev NodeSymbols : ℕ → List Symbol
NodeSymbols d = word (codes "(") ∷ word (codes "type") ∷ kind d ∷ []

pub node_of-returns-in_err-typed-clause-err : goal.node_of-returns-in_err-typed-clause-err
node_of-returns-in_err-typed-clause-err t c = passed_on _ _ _ c.from_residual-in_err-typed.ensures.1
    (fault_then (NodeSymbols c.args.depth) (word (codes "type") ∷ kind c.args.depth ∷ []) _ _ (omega arith)
    c.in_ok-opened.ensures.ok (λ κ. refl)
    (fault_more (word (codes "type")) (kind c.args.depth ∷ []) _ _ _ c.in_err-typed.ensures.err))

pub node_of-returns-in_err-word-clause-err : goal.node_of-returns-in_err-word-clause-err
node_of-returns-in_err-word-clause-err t c = passed_on _ _ _ c.from_residual-in_err-word.ensures.1
    (fault_then (NodeSymbols c.args.depth) (kind c.args.depth ∷ []) _ _ (omega arith)
    (reads_then c.in_ok-opened.ensures.ok c.in_ok-typed.ensures.ok) (λ κ. refl)
    (string_err (kind c.args.depth) [] _ _ _ c.in_err-word.ensures.err))

pub node_of-returns-in_err-file-clause-err : goal.node_of-returns-in_err-file-clause-err
node_of-returns-in_err-file-clause-err t c =
    let r =
    reads_then (reads_then c.in_ok-opened.ensures.ok c.in_ok-typed.ensures.ok)
    (tested (codes "regular") c.in_ok-word.ensures.ok
    (same_bytes _ (codes "regular") (sym c.eq.ensures ∙ c.if-eq.true))) in
    passed_on _ _ _ c.from_residual-in_err-file.ensures.1
    (fault_then (NodeSymbols c.args.depth) (file ∷ []) _ _ (omega arith) r (λ κ. refl) c.in_err-file.ensures.err)

pub node_of-returns-then-eq-clause-ok : goal.node_of-returns-then-eq-clause-ok
node_of-returns-then-eq-clause-ok t c =
    let r =
    reads_then (reads_then c.in_ok-opened.ensures.ok c.in_ok-typed.ensures.ok)
    (tested (codes "regular") c.in_ok-word.ensures.ok
    (same_bytes _ (codes "regular") (sym c.eq.ensures ∙ c.if-eq.true))) in
    node_read (codes "regular") c.args.depth r (c.in_ok-file.ensures.ok c.args.depth)

pub node_of-returns-in_err-link-clause-err : goal.node_of-returns-in_err-link-clause-err
node_of-returns-in_err-link-clause-err t c =
    let r =
    reads_then (reads_then c.in_ok-opened.ensures.ok c.in_ok-typed.ensures.ok)
    (tested (codes "symlink") c.in_ok-word.ensures.ok
    (same_bytes _ (codes "symlink") (sym c.eq-2.ensures ∙ c.if-eq-2.true))) in
    passed_on _ _ _ c.from_residual-in_err-link.ensures.1
    (fault_then (NodeSymbols c.args.depth) (word (codes "target") ∷ any ∷ word (codes ")") ∷ []) _ _ (omega arith) r
    (λ κ. refl) c.in_err-link.ensures.err)

pub node_of-returns-then-eq-2-clause-ok : goal.node_of-returns-then-eq-2-clause-ok
node_of-returns-then-eq-2-clause-ok t c =
    let r =
    reads_then (reads_then c.in_ok-opened.ensures.ok c.in_ok-typed.ensures.ok)
    (tested (codes "symlink") c.in_ok-word.ensures.ok
    (same_bytes _ (codes "symlink") (sym c.eq-2.ensures ∙ c.if-eq-2.true))) in
    node_read (codes "symlink") c.args.depth r (c.in_ok-link.ensures.ok c.args.depth)

pub node_of-returns-in_err-folder-clause-err : goal.node_of-returns-in_err-folder-clause-err
node_of-returns-in_err-folder-clause-err t c =
    let r =
    reads_then (reads_then c.in_ok-opened.ensures.ok c.in_ok-typed.ensures.ok)
    (tested (codes "directory") c.in_ok-word.ensures.ok
    (same_bytes _ (codes "directory") (sym c.eq-3.ensures ∙ c.if-eq-3.true))) in
    passed_on _ _ _ c.from_residual-in_err-folder.ensures.1
    (fault_then (NodeSymbols c.args.depth) (entries c.args.depth None ∷ []) _ _ (omega arith) r (λ κ. refl)
    c.in_err-folder.ensures.err)

pub node_of-returns-then-eq-3-clause-ok : goal.node_of-returns-then-eq-3-clause-ok
node_of-returns-then-eq-3-clause-ok t c =
    let r =
    reads_then (reads_then c.in_ok-opened.ensures.ok c.in_ok-typed.ensures.ok)
    (tested (codes "directory") c.in_ok-word.ensures.ok
    (same_bytes _ (codes "directory") (sym c.eq-3.ensures ∙ c.if-eq-3.true))) in
    node_read (codes "directory") c.args.depth r c.in_ok-folder.ensures.ok

pub node_of-returns-clause-err : goal.node_of-returns-clause-err
node_of-returns-clause-err t c =
    let s : List ℕ = c.in_ok-word.word.now in
    let a : bytes_eq s (codes "regular") ≡ false = sym c.eq.ensures ∙ c.if-eq.false in
    let b : bytes_eq s (codes "symlink") ≡ false = sym c.eq-2.ensures ∙ c.if-eq-2.false in
    let d : bytes_eq s (codes "directory") ≡ false = sym c.eq-3.ensures ∙ c.if-eq-3.false in
    fault_then (NodeSymbols c.args.depth) (kind c.args.depth ∷ []) _ BadTag (omega arith)
    (reads_then c.in_ok-opened.ensures.ok c.in_ok-typed.ensures.ok) (λ κ. refl)
    (tag_err (kind c.args.depth) [] BadTag c.in_ok-word.ensures.ok (rw (a, b, d) refl))

-- ---- an entry

abbrev EntrySymbols : ℕ → Option (List ℕ) → List Symbol
EntrySymbols d last = word (codes "(") ∷ word (codes "name") ∷ entry_name d last ∷ []

pub entry_of-returns-in_err-worded-clause-err : goal.entry_of-returns-in_err-worded-clause-err
entry_of-returns-in_err-worded-clause-err t c =
    let last = option_copied c.args.last in
    passed_on _ _ _ c.from_residual-in_err-worded.ensures.1
    (fault_then (EntrySymbols c.args.depth last) (word (codes "name") ∷ entry_name c.args.depth last ∷ []) _ _
    (omega arith) c.in_ok-opened.ensures.ok (λ κ. refl)
    (fault_more (word (codes "name")) (entry_name c.args.depth last ∷ []) _ _ _ c.in_err-worded.ensures.err))

pub entry_of-returns-in_err-name-clause-err : goal.entry_of-returns-in_err-name-clause-err
entry_of-returns-in_err-name-clause-err t c =
    let last = option_copied c.args.last in
    passed_on _ _ _ c.from_residual-in_err-name.ensures.1
    (fault_then (EntrySymbols c.args.depth last) (entry_name c.args.depth last ∷ []) _ _ (omega arith)
    (reads_then c.in_ok-opened.ensures.ok c.in_ok-worded.ensures.ok) (λ κ. refl)
    (c.in_err-name.ensures.err c.args.depth))

pub entry_of-returns-in_err-noded-clause-err : goal.entry_of-returns-in_err-noded-clause-err
entry_of-returns-in_err-noded-clause-err t c =
    let d = c.args.depth in
    let last = option_copied c.args.last in
    let n : List ℕ = c.in_ok-name.name.now in
    let found = c.in_ok-name.ensures.ok in
    passed_on _ _ _ c.from_residual-in_err-noded.ensures.1
    (fault_then (EntrySymbols d last) (after_name d n) _ _ (omega arith)
    (reads_then (reads_then c.in_ok-opened.ensures.ok c.in_ok-worded.ensures.ok) found.parts)
    (λ κ. run_name d last n κ found.legal found.above)
    (fault_append (node_word (d + 1) ∷ [])
    (word (codes "(") ∷ word (codes "type") ∷ kind (d + 1) ∷ word (codes ")") ∷ entries d (Some n) ∷ []) _ _ _
    c.in_err-noded.ensures.err))

pub entry_of-returns-in_err-node-clause-err : goal.entry_of-returns-in_err-node-clause-err
entry_of-returns-in_err-node-clause-err t c =
    let d = c.args.depth in
    let last = option_copied c.args.last in
    let n : List ℕ = c.in_ok-name.name.now in
    let found = c.in_ok-name.ensures.ok in
    let r =
    reads_then (reads_then (reads_then c.in_ok-opened.ensures.ok c.in_ok-worded.ensures.ok) found.parts)
    c.in_ok-noded.ensures.ok.1 in
    passed_on _ _ _ c.from_residual-in_err-node.ensures.1
    (fault_then (EntrySymbols d last)
    (word (codes "(") ∷ word (codes "type") ∷ kind (d + 1) ∷ word (codes ")") ∷ entries d (Some n) ∷ []) _ _
    (omega arith) r (λ κ. run_word d last n κ found.legal found.above)
    (fault_append (word (codes "(") ∷ word (codes "type") ∷ kind (d + 1) ∷ [])
    (word (codes ")") ∷ entries d (Some n) ∷ []) _ _ _ c.in_err-node.ensures.err))

pub entry_of-returns-in_err-closed-clause-err : goal.entry_of-returns-in_err-closed-clause-err
entry_of-returns-in_err-closed-clause-err t c =
    let d = c.args.depth in
    let last = option_copied c.args.last in
    let n : List ℕ = c.in_ok-name.name.now in
    let found = c.in_ok-name.ensures.ok in
    let inner = c.in_ok-node.ensures.ok in
    let r =
    reads_then (reads_then (reads_then (reads_then c.in_ok-opened.ensures.ok c.in_ok-worded.ensures.ok) found.parts)
    c.in_ok-noded.ensures.ok.1) inner.parts in
    passed_on _ _ _ c.from_residual-in_err-closed.ensures.1
    (fault_then (EntrySymbols d last) (word (codes ")") ∷ entries d (Some n) ∷ []) _ _ (omega arith) r
    (λ κ. run_node d last n _ κ found.legal found.above inner.named)
    (fault_more (word (codes ")")) (entries d (Some n) ∷ []) _ _ _ c.in_err-closed.ensures.err))

pub entry_of-returns-clause-ok : goal.entry_of-returns-clause-ok
entry_of-returns-clause-ok t c =
    let found = c.in_ok-name.ensures.ok in
    let inner = c.in_ok-node.ensures.ok in
    let r =
    reads_then (reads_then (reads_then (reads_then c.in_ok-opened.ensures.ok c.in_ok-worded.ensures.ok) found.parts)
    c.in_ok-noded.ensures.ok.1) (reads_then inner.parts c.in_ok-closed.ensures.ok) in
    rw (pair-roll (record { name = c.in_ok-name.name; node = c.in_ok-node.node }))
    (record { legal = found.legal; above = found.above; named = inner.named; parts = r })

-- ---- a directory

pub directory_of-returns-in_err-word-clause-err : goal.directory_of-returns-in_err-word-clause-err
directory_of-returns-in_err-word-clause-err t c =
    let es = trees_of c.loop-list.list.items in
    let last = last_name None es in
    passed_on _ _ _ c.from_residual.ensures.1
    (fault_then (entries c.args.depth None ∷ []) (entries c.args.depth last ∷ []) _ _ (omega arith)
    c.loop-list.invariant.parts (λ κ. run_entries c.args.depth None es κ c.loop-list.invariant.named)
    (string_err (entries c.args.depth last) [] _ _ _ c.in_err-word.ensures.err))

pub directory_of-returns-then-eq-clause-ok : goal.directory_of-returns-then-eq-clause-ok
directory_of-returns-then-eq-clause-ok t c =
    let r = tested (codes ")") c.in_ok-word.ensures.ok (same_bytes _ (codes ")") (sym c.eq.ensures ∙ c.if-eq.true)) in
    rw (tree-directory c.loop-list.list)
    (record {
      is_kind = refl;
      named = c.loop-list.invariant.named;
      parts = reads_then c.loop-list.invariant.parts r;
    })

pub directory_of-returns-then-ne-clause-err : goal.directory_of-returns-then-ne-clause-err
directory_of-returns-then-ne-clause-err t c =
    let es = trees_of c.loop-list.list.items in
    let last = last_name None es in
    let s : List ℕ = c.in_ok-word.word.now in
    let a : bytes_eq s (codes ")") ≡ false = sym c.eq.ensures ∙ c.if-eq.false in
    let b : bytes_eq s (codes "entry") ≡ false = not-true _ (sym c.ne.ensures ∙ c.if-ne.true) in
    fault_then (entries c.args.depth None ∷ []) (entries c.args.depth last ∷ []) _ BadTag (omega arith)
    c.loop-list.invariant.parts (λ κ. run_entries c.args.depth None es κ c.loop-list.invariant.named)
    (tag_err (entries c.args.depth last) [] BadTag c.in_ok-word.ensures.ok (rw (a, b) refl))

pub directory_of-returns-in_err-entry-clause-err : goal.directory_of-returns-in_err-entry-clause-err
directory_of-returns-in_err-entry-clause-err t c =
    let d = c.args.depth in
    let es = trees_of c.loop-list.list.items in
    let last = last_name None es in
    let r =
    tested (codes "entry") c.in_ok-word.ensures.ok
    (same_bytes _ (codes "entry") (not-false _ (sym c.ne.ensures ∙ c.if-ne.false))) in
    let inner =
    subst (λ (v : Option (List ℕ)). FaultOf (EntrySymbols d v) c.in_ok-word.after.room c.in_ok-word.after.rest.now
    c.in_err-entry.field-0.0) c.loop-list.invariant.last c.in_err-entry.ensures.err in
    passed_on _ _ _ c.from_residual-in_err-entry.ensures.1
    (fault_then (entries d None ∷ []) (EntrySymbols d last) _ _ (omega arith) (reads_then c.loop-list.invariant.parts r)
    (λ κ. run_to_entry d es κ c.loop-list.invariant.named) inner)

pub directory_of-loop-list-smaller : goal.directory_of-loop-list-smaller
directory_of-loop-list-smaller t c =
    let a = string_shorter c.in_ok-word.ensures.ok in
    let b = parts_shorter c.in_ok-entry.ensures.ok.parts in
    omega arith

pub directory_of-loop-list-preserved : goal.directory_of-loop-list-preserved
directory_of-loop-list-preserved t c =
    let d = c.args.depth in
    let e = c.in_ok-entry.entry in
    let es = c.loop-list.list.items in
    let so_far = c.loop-list.invariant in
    let found = c.in_ok-entry.ensures.ok in
    let above = subst (λ (v : Option (List ℕ)). IsTrue (rises v (pair_of e).0)) so_far.last found.above in
    let r =
    tested (codes "entry") c.in_ok-word.ensures.ok
    (same_bytes _ (codes "entry") (not-false _ (sym c.ne.ensures ∙ c.if-ne.false))) in
    rw c.in_ok-push.ensures.items (record {
      named = AreLegal-push None es e so_far.named found.parts.are_bytes.1.1.0 found.legal above found.named;
      parts = rw (entries_parts-push d es e) (reads_then so_far.parts (reads_then r found.parts));
      last = sym (last_name-push None es e ∙ ap Some (pair-name e));
    })
