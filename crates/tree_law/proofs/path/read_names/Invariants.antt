use Rattle.std.proofs.Common.{◌==◌, length}
use Rattle.std.specs.List.{slice_split}
use Rattle.tree_law.proofs.PathParts.{IsReadSoFar}
use Rattle.tree_law.proofs.path.read_names.Given as goal

abbrev pub invariant-loop-name : goal.invariant-loop-name
invariant-loop-name l = IsReadSoFar l.names (slice_split (λ byte. byte == 47) l.rest) (slice_split (λ byte. byte == 47) l.text)

abbrev pub decreases-loop-name : goal.decreases-loop-name
decreases-loop-name l = length l.rest
