use Rattle.std.proofs.Common.{sym, ◌∙◌}
use Rattle.std.proofs.lemmas.List.{length-map}
use Rattle.books.specs.Meaning.{known}
use Rattle.avl.specs.Avl.{entries}
use Rattle.avl.proofs.Inorder.{size_entries}
use Rattle.tree.specs.States.{tree_at}
use Rattle.tree.proofs.Soundness.{stands_from_test}
use Rattle.tree.proofs.tree_books.TreeBook.count.Goals as goal

pub returns : goal.returns
returns g c =
    let tree = tree_at c.args.self.now.nodes.now c.args.self.now.state.root in
    c.from.ensures ∙ ((stands_from_test _ _ c.args.self.now.ok).held_is ∙ (size_entries tree ∙ sym (length-map (entries tree) known)))
