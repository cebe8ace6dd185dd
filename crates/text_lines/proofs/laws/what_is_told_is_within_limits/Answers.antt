use Rattle.text_lines.proofs.Within.{line_within}
use Rattle.text_lines.proofs.laws.what_is_told_is_within_limits.Goals as goal

pub returns : goal.returns
returns c = line_within
