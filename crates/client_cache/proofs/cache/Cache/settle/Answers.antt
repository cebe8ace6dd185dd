use Rattle.std.proofs.Common.{rules}
use Rattle.client_cache.specs.Known.{Known}
use Rattle.client_cache.proofs.KnownLemmas.{left_steps}
use Rattle.client_cache.proofs.cache.Cache.settle.Goals as goal

pub invariant_of-self : goal.invariant_of-self
invariant_of-self c =
    let known : Known = record { inodes = c.self.inside.inodes.items; table = c.self.inside.table.items; flushes = c.self.inside.flushes.items; last_flush = c.self.inside.last_flush } in
    left_steps known c.args.number c.args.left c.index_mut.result.now _ _ c.requires c.index_mut.ensures.value c.flushed.ensures c.drop_flush.ensures c.self.invariant
