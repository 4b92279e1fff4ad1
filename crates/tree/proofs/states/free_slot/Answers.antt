use Rattle.std.proofs.Common.{refl, sym, ap, ◌∙◌}
use Rattle.std.specs.List.{slice_set}
use Rattle.std.proofs.lemmas.Option.{slice_get_read}
use Rattle.tree.specs.States.{free_node}
use Rattle.tree.specs.declared.nodes.Node.{Node}
use Rattle.tree.proofs.states.free_slot.Goals as goal

pub returns : goal.returns
returns g c = record {
  node = c.index-nodes-slot.result;
  was = slice_get_read c.args.nodes.now _ c.args.slot c.index-nodes-slot.result refl c.requires c.index-nodes-slot.is;
  is = ap (λ (n : Node _). slice_set c.args.nodes.now c.args.slot (record { entry = n.entry; left = c.args.next; right = n.right; height = n.height })) c.blank.ensures
      ∙ ap (λ (n : Node _). slice_set c.args.nodes.now c.args.slot (free_node n c.args.next)) (sym c.index-nodes-slot.is);
}
