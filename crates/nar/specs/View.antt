-- The tree that a node is, without where it lies in memory.
use Rattle.std.specs.Prelude.{ℕ, List, [], ◌∷◌, map}
use Rattle.nar.specs.declared.node.Node.{Node}
use Rattle.nar.specs.declared.node.Entry.{Entry}
use Rattle.nar.specs.declared.node.Node.TheOpen.{Node-F, Regular, Symlink, Directory, Entry-F}
use Rattle.nar.specs.declared.node.Node.TheFolds.{fold-Node, fold-Entry}
use Rattle.nar.specs.Tree.{Tree, regular, symlink, directory, Entries, no_entries, entry}

-- the entries, one after the other
abbrev pub as_entries : List (List ℕ × Tree) → Entries
as_entries [] = no_entries
as_entries (e ∷ es) = entry e.0 e.1 (as_entries es)

-- one node, with the tree of each node inside it in its place
abbrev pub node_step : Node-F Tree (List ℕ × Tree) → Tree
node_step (Regular executable contents) = regular executable contents.now
node_step (Symlink target) = symlink target.now
node_step (Directory entries) = directory (as_entries entries.items)

abbrev pub entry_step : Entry-F Tree (List ℕ × Tree) → List ℕ × Tree
entry_step e = (e.name.now, e.node)

-- the tree that a node is, and the name and tree that an entry is
abbrev pub tree_of : Node → Tree
tree_of = fold-Node Tree (List ℕ × Tree) node_step entry_step

abbrev pub pair_of : Entry → List ℕ × Tree
pair_of = fold-Entry Tree (List ℕ × Tree) node_step entry_step

-- the entries of a directory
abbrev pub trees_of : List Entry → Entries
trees_of es = as_entries (map pair_of es)
