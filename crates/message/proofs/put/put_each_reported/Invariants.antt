use Rattle.std.proofs.Common.{◌≡◌, ◌++◌, take}
use Rattle.std.specs.List.{flat_map}
use Rattle.message.specs.Spelling.{reported_bytes}
use Rattle.message.proofs.put.put_each_reported.Given as goal

abbrev pub invariant-loop-hold : goal.invariant-loop-hold
invariant-loop-hold l = l.out.items ≡ l.fn.out.items ++ flat_map reported_bytes (take l.hold-index l.holds)
