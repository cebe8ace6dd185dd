use Rattle.std.proofs.Common.{◌≡◌, take}
use Rattle.tree_law.specs.Path.{slashed}
use Rattle.message.proofs.names.slashed.Given as goal

abbrev pub invariant-loop-name : goal.invariant-loop-name
invariant-loop-name l = l.text.items ≡ slashed (take l.name-index l.names)
