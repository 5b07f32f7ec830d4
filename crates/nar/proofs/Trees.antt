-- The tree of a node, variant by variant.
use Rattle.std.proofs.Common.{◌≡◌, ℕ, List, Bool, sym, ap, ◌∙◌}
use Rattle.std.specs.Borrow.{Bor}
use Rattle.std.specs.Global.{Vec}
use Rattle.nar.specs.declared.node.Node.{Node}
use Rattle.nar.specs.declared.node.Entry.{Entry, Entry-F}
use Rattle.nar.specs.declared.node.Node.TheOpen as open_
use Rattle.nar.specs.declared.node.Node.TheVariants.{Regular, Symlink, Directory, rolls-Regular, rolls-Symlink}
use Rattle.nar.specs.declared.node.Node.TheVariants.{rolls-Directory}
use Rattle.nar.specs.declared.node.Node.TheFolds.{fold-roll-Node, fold-roll-Entry, fold_out-Entry}
use Rattle.nar.specs.declared.node.Entry.{out-Entry, roll-Entry, outs-Entry'}
use Rattle.nar.specs.Tree.{Tree, regular, symlink, directory}
use Rattle.nar.specs.View.{tree_of, pair_of, trees_of, node_step, entry_step}

pub tree-regular : (x : Bool) (s : Bor (List ℕ)) → tree_of (Regular x s) ≡ regular x s.now
tree-regular x s =
    ap tree_of (sym (rolls-Regular x s)) ∙ fold-roll-Node Tree (List ℕ × Tree) node_step entry_step (open_.Regular x s)

pub tree-symlink : (s : Bor (List ℕ)) → tree_of (Symlink s) ≡ symlink s.now
tree-symlink s =
    ap tree_of (sym (rolls-Symlink s)) ∙ fold-roll-Node Tree (List ℕ × Tree) node_step entry_step (open_.Symlink s)

pub tree-directory : (v : Vec Entry) → tree_of (Directory v) ≡ directory (trees_of v.items)
tree-directory v =
    ap tree_of (sym (rolls-Directory v)) ∙ fold-roll-Node Tree (List ℕ × Tree) node_step entry_step (open_.Directory v)

pub pair-roll : (e : Entry-F Node Entry) → pair_of (roll-Entry e) ≡ (e.name.now, tree_of e.node)
pair-roll e = fold-roll-Entry Tree (List ℕ × Tree) node_step entry_step e

pub pair-out : (e : Entry) → pair_of e ≡ ((out-Entry e).name.now, tree_of (out-Entry e).node)
pair-out e = fold_out-Entry Tree (List ℕ × Tree) node_step entry_step e

pub pair-name : (e : Entry) → (pair_of e).0 ≡ e.name.now
pair-name e = ap (λ (p : List ℕ × Tree). p.0) (pair-out e) ∙ ap (λ (f : Entry-F Node Entry). f.name.now) (outs-Entry' e)

pub pair-is : (e : Entry) → pair_of e ≡ (e.name.now, tree_of e.node)
pair-is e = pair-out e ∙ ap (λ (f : Entry-F Node Entry). (f.name.now, tree_of f.node)) (outs-Entry' e)
