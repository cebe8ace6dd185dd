use Rattle.server_book.proofs.Bridging.{flushed, grants, purged, releases, takes}
use Rattle.server_book.proofs.bridges.parts_change_as_the_law.Goals as goal

pub returns-clause-takes : goal.returns-clause-takes
returns-clause-takes c = λ s law new client piece alike fits took. takes s law alike new client piece fits took

pub returns-clause-releases : goal.returns-clause-releases
returns-clause-releases c = λ s law new client release asked alike released answer. releases s law alike new client release asked released answer

pub returns-clause-grants : goal.returns-clause-grants
returns-clause-grants c = λ s law new lane number items alike granted. grants s law alike new lane number items granted

pub returns-clause-flushes : goal.returns-clause-flushes
returns-clause-flushes c = λ s law new client flush commit asked alike deed released answer. flushed s law alike new client flush commit asked deed released answer

pub returns-clause-purges : goal.returns-clause-purges
returns-clause-purges c = λ s law new client commit asked alike deed purge nothing. purged s law alike new client commit asked deed purge nothing
