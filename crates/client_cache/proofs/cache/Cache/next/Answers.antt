use Rattle.client_cache.proofs.NextLemmas.{next_answers, next_closes, next_flushes}
use Rattle.client_cache.proofs.cache.Cache.next.Goals as goal

pub returns-clause-answers : goal.returns-clause-answers
returns-clause-answers c = next_answers c.args.self.now c.args.call.now _ c.choose.ensures

pub returns-clause-closes : goal.returns-clause-closes
returns-clause-closes c = next_closes c.args.self.now c.args.call.now _ c.choose.ensures

pub returns-clause-flushes : goal.returns-clause-flushes
returns-clause-flushes c = next_flushes c.args.self.now c.args.call.now _ c.choose.ensures
