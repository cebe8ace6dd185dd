use Rattle.client_book.proofs.Hearing.{flushes-end, items-taken, revokes, writes-back}
use Rattle.client_book.proofs.laws.a_cache_hears_as_its_book.Goals as goal

pub returns-clause-revokes : goal.returns-clause-revokes
returns-clause-revokes c = revokes

pub returns-clause-flushes : goal.returns-clause-flushes
returns-clause-flushes c = flushes-end

pub returns-clause-grants : goal.returns-clause-grants
returns-clause-grants c = items-taken

pub returns-clause-writes_back : goal.returns-clause-writes_back
returns-clause-writes_back c = writes-back
