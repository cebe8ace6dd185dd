use Rattle.std.proofs.Common.{◌≡◌, length, take}
use Rattle.server_writes.proofs.Planning.{planned}
use Rattle.server_writes.proofs.counting.count_writes.Given as goal

abbrev pub invariant-loop-act : goal.invariant-loop-act
invariant-loop-act l = l.count ≡ length (planned (take l.act-index l.acts))
