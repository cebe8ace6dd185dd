use Rattle.text_lines.proofs.Spelled.{line_is}
use Rattle.text_lines.proofs.laws.each_telling_has_its_line.Goals as goal

pub returns : goal.returns
returns c = line_is
