-- What is read back from node memory is what stands there.
use Rattle.std.proofs.Common.{◌≡◌, ℕ, zero, suc, ◌≤◌, List, [], ◌∷◌, length, refl, ap, ◌∙◌, arith, None}
use Rattle.avl.specs.Avl.{Avl, tip, fork, height}
use Rattle.tree.specs.Links.{Link}
use Rattle.tree.specs.declared.nodes.Node.{Node}
use Rattle.tree.specs.Standing.{link_of, Lies, Stands}
use Rattle.tree.specs.States.{read_node, read_tree, tree_at, read_link, read_free, free_at, Chain}

module _ {K : Type 0} (nodes : List (Node K)) where
  reads_below : (t : Avl K) (depth : ℕ) → Lies nodes t → height t ≤ depth → read_tree depth nodes (link_of t) ≡ t
  unfolding read_tree
  reads_below tip zero h low = refl
  reads_below tip (suc depth) h low = refl
  reads_below (fork i k v a b) zero h low = absurd (omega arith)
  reads_below (fork i k v a b) (suc depth) h low =
      let left = reads_below a depth h.1 (omega arith) in
      let right = reads_below b depth h.2 (omega arith) in
      ap (λ o. read_node i o (read_tree depth nodes)) h.0 ∙ (ap (λ l. fork i k v l (read_tree depth nodes (link_of b))) left ∙ ap (fork i k v a) right)

  pub reads_tree : (at : Link) (t : Avl K) → Stands nodes at t → height t ≤ 100 → tree_at nodes at ≡ t
  unfolding tree_at
  reads_tree at t s low = ap (read_tree 100 nodes) s.linked ∙ reads_below t 100 s.lies low

  reads_none : (most : ℕ) → read_free most nodes None ≡ []
  unfolding read_free
  reads_none zero = refl
  reads_none (suc most) = refl

  reads_on : (free : List ℕ) (most : ℕ) (at : Link) → Chain nodes at free → length free ≤ most → read_free most nodes at ≡ free
  unfolding read_free
  reads_on [] most at c few = ap (read_free most nodes) c ∙ reads_none most
  reads_on (i ∷ free) zero at c few = absurd (omega arith)
  reads_on (i ∷ free) (suc most) at c few =
      ap (read_free (suc most) nodes) c.0 ∙ (ap (λ o. read_link i o (read_free most nodes)) c.1.1.0 ∙ ap (λ l. i ∷ l) (reads_on free most c.1.0.left c.1.1.2 (omega arith)))

  pub reads_free : (at : Link) (free : List ℕ) → Chain nodes at free → length free ≤ length nodes → free_at nodes at ≡ free
  unfolding free_at
  reads_free at free c few = reads_on free (length nodes) at c few
