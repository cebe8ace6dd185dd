use Rattle.std.proofs.Common.{subst, sym}
use Rattle.client_node.specs.Node.{IsNode}
use Rattle.client_node.proofs.Counts.{first_node}
use Rattle.client_node.proofs.client_node.ClientNode.new.Goals as goal

pub invariant_of-result : goal.invariant_of-result
invariant_of-result c = subst IsNode (sym c.in_ok-ends.ensures) (first_node c.args.id)
