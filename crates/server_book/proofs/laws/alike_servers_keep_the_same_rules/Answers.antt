use Rattle.server_book.proofs.Ending.{ends-keeps}
use Rattle.server_book.proofs.Keeping.{act-keeps, each-keeps}
use Rattle.server_book.proofs.laws.alike_servers_keep_the_same_rules.Goals as goal

pub returns-clause-act : goal.returns-clause-act
returns-clause-act c = act-keeps

pub returns-clause-all : goal.returns-clause-all
returns-clause-all c = λ o start other acts alike g. each-keeps o start other start other acts alike alike g

pub returns-clause-ends : goal.returns-clause-ends
returns-clause-ends c = ends-keeps
