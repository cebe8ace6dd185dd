use Rattle.std.proofs.Common.{rules}
use Rattle.client_cache.specs.Known.{Known}
use Rattle.client_cache.proofs.KnownLemmas.{put_changed}
use Rattle.client_cache.proofs.cache.Cache.truncate_file.Goals as goal

pub invariant_of-self : goal.invariant_of-self
invariant_of-self c =
    let known : Known = record { inodes = c.self.inside.inodes.items; table = c.self.inside.table.items; flushes = c.self.inside.flushes.items; last_flush = c.self.inside.last_flush } in
    put_changed known c.args.ino.0 c.index_mut.result.now c.truncate.new.self (search rules) c.index_mut.ensures.value c.truncate.ensures.cached c.self.invariant
