use Rattle.std.proofs.Common.{rules, subst, sym}
use Rattle.client_cache.specs.IsKnown.{IsKnown}
use Rattle.client_cache.specs.Known.{Known, first_known}
use Rattle.client_cache.proofs.KnownLemmas.{first_is}
use Rattle.client_cache.proofs.cache.Cache.new.Goals as goal

pub invariant_of-result : goal.invariant_of-result
unfolding first_known
invariant_of-result c = subst (λ (k : Known). IsKnown k) (search rules) first_is

pub returns-clause-known : goal.returns-clause-known
unfolding first_known
returns-clause-known c = subst (λ (k : Known). IsKnown k) (search rules) first_is
