use Rattle.std.proofs.Common.{◌<◌}
use Rattle.cal_base.specs.declared.identity.ClientId.{ClientId}
use Rattle.server_node.specs.Quiet.{IsQuietWith}
use Rattle.server_node.proofs.server_node.ServerNode.is_quiet.Given as goal

abbrev pub invariant-loop-number : goal.invariant-loop-number
invariant-loop-number l = (client : ClientId) → client.0 < l.number → IsQuietWith l.self client
