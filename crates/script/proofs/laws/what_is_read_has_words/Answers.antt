use Rattle.script.proofs.ReadLines.{call_good}
use Rattle.script.proofs.SpelledScript.{line_good}
use Rattle.script.proofs.laws.what_is_read_has_words.Goals as goal

pub returns-clause-call : goal.returns-clause-call
returns-clause-call c = call_good

pub returns-clause-line : goal.returns-clause-line
returns-clause-line c = line_good
