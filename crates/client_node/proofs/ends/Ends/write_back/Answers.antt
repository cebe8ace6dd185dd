use Rattle.std.proofs.Common.{subst}
use Rattle.client_node.specs.Node.{NodeValue}
use Rattle.client_node.specs.Step.{Gives}
use Rattle.cluster_law.specs.declared.node.ClientInput.TheVariants.{WriteBack}
use Rattle.client_node.proofs.Turns.{gives_write_back}
use Rattle.client_node.proofs.ends.Ends.write_back.Goals as goal

pub returns-clause-gives : goal.returns-clause-gives
returns-clause-gives c = subst (λ (n : NodeValue). Gives n (WriteBack c.args.fd) c.in_ok-output.output) c.self.view_is (
    let made = c.in_ok-made.ensures in
    let sent = c.in_ok-output.ensures in
    gives_write_back _ c.args.fd c.write_back.new.self c.in_ok-made.made c.new.result c.in_ok-output.output made.state made.made c.new.ensures sent.sent sent.answer sent.entry)
