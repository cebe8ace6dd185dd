use Rattle.std.proofs.Common.{subst}
use Rattle.client_node.specs.Node.{NodeValue}
use Rattle.client_node.specs.Step.{Gives}
use Rattle.cluster_law.specs.declared.node.ClientInput.TheVariants.{Start}
use Rattle.client_node.proofs.Turns.{gives_start}
use Rattle.client_node.proofs.ends.Ends.start.Goals as goal

pub returns-clause-gives : goal.returns-clause-gives
returns-clause-gives c = subst (λ (n : NodeValue). Gives n (Start c.args.call) c.in_ok-output.output) c.self.view_is (
    let made = c.in_ok-made.ensures in
    let sent = c.in_ok-output.ensures in
    gives_start _ c.args.call c.start.new.self c.in_ok-made.made c.new.result c.in_ok-output.output made.state made.made c.new.ensures sent.sent sent.answer sent.entry)
