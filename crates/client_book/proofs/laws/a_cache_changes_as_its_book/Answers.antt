use Rattle.client_book.proofs.Answering.{answers, done}
use Rattle.client_book.proofs.Stating.{lower, start, take_item}
use Rattle.client_book.proofs.laws.a_cache_changes_as_its_book.Goals as goal

pub returns-clause-starts : goal.returns-clause-starts
returns-clause-starts c = start

pub returns-clause-takes : goal.returns-clause-takes
returns-clause-takes c = take_item

pub returns-clause-lowers : goal.returns-clause-lowers
returns-clause-lowers c = lower

pub returns-clause-ends : goal.returns-clause-ends
returns-clause-ends c = done

pub returns-clause-answers : goal.returns-clause-answers
returns-clause-answers c = answers
