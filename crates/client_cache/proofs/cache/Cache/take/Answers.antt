use Rattle.client_cache.specs.Known.{Known}
use Rattle.client_cache.proofs.KnownLemmas.{take_steps}
use Rattle.client_cache.proofs.cache.Cache.take.Goals as goal

pub invariant_of-self : goal.invariant_of-self
invariant_of-self c =
    let known : Known = record { inodes = c.self.inside.inodes.items; table = c.self.inside.table.items; flushes = c.self.inside.flushes.items; last_flush = c.self.inside.last_flush } in
    take_steps known c.args.item c.index_mut.result.now c.grant.new.self c.lesser.result _ c.requires.ino c.index_mut.ensures.value c.grant.ensures c.lesser.ensures c.raise_all.ensures c.requires.hold c.requires.content
    c.self.invariant
