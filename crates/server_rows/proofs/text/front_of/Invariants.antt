use Rattle.std.proofs.Common.{length}
use Rattle.server_rows.proofs.text.front_of.Given as goal

abbrev pub decreases-loop-front : goal.decreases-loop-front
decreases-loop-front l = length l.front
