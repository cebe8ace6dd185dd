use Rattle.script.proofs.Spelled.{call_written, line_written, clients_written, window_written}
use Rattle.script.proofs.laws.each_line_has_its_words.Goals as goal

pub returns-clause-call : goal.returns-clause-call
returns-clause-call c = call_written

pub returns-clause-line : goal.returns-clause-line
returns-clause-line c = line_written

pub returns-clause-clients : goal.returns-clause-clients
returns-clause-clients c = clients_written

pub returns-clause-window : goal.returns-clause-window
returns-clause-window c = window_written
