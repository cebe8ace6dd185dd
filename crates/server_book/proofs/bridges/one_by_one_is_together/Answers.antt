use Rattle.server_book.proofs.Bridging.{answers-first, answers-none, lowers-first, lowers-none}
use Rattle.server_book.proofs.bridges.one_by_one_is_together.Goals as goal

pub returns-clause-lowers_none : goal.returns-clause-lowers_none
returns-clause-lowers_none c = lowers-none

pub returns-clause-lowers_first : goal.returns-clause-lowers_first
returns-clause-lowers_first c = lowers-first

pub returns-clause-answers_none : goal.returns-clause-answers_none
returns-clause-answers_none c = answers-none

pub returns-clause-answers_first : goal.returns-clause-answers_first
returns-clause-answers_first c = answers-first
