use Rattle.std.proofs.lemmas.Bool.{false≢true}
use Rattle.server_node.proofs.server_node.ServerNode.is_quiet.Goals as goal

pub returns-then-not-is_quiet_with : goal.returns-then-not-is_quiet_with
returns-then-not-is_quiet_with c = (
  (λ no. absurd (false≢true no)),
  (λ quiet. c.if-not-is_quiet_with.ensures.1 (quiet (record { 0 = c.loop-number.number }) c.loop-number-test.true)),
)
