use Rattle.server_book.proofs.Moving.{acts-all, acts-once, hears}
use Rattle.server_book.proofs.laws.alike_servers_go_on_alike.Goals as goal

pub returns-clause-hear : goal.returns-clause-hear
returns-clause-hear c = λ a b client message alike. hears a b alike client message

pub returns-clause-act : goal.returns-clause-act
returns-clause-act c = λ a b act alike. acts-once a b alike act

pub returns-clause-all : goal.returns-clause-all
returns-clause-all c = acts-all
