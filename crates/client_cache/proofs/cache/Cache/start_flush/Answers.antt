use Rattle.std.proofs.Common.{rules, ap, refl}
use Rattle.token_kind.specs.declared.flush.Flush.{Flush}
use Rattle.client_cache.specs.Known.{Known}
use Rattle.client_cache.proofs.KnownLemmas.{start_steps}
use Rattle.client_cache.proofs.cache.Cache.start_flush.Goals as goal

pub invariant_of-self-2 : goal.invariant_of-self-2
invariant_of-self-2 c =
    let known : Known = record { inodes = c.self.inside.inodes.items; table = c.self.inside.table.items; flushes = c.self.inside.flushes.items; last_flush = c.self.inside.last_flush } in
    start_steps known c.in_ok-flush.flush c.args.ino c.index_mut.result.now c.clean.new.self _ _ (ap (λ (f : Flush). f.ino) c.in_ok-flush.ensures.value) c.requires.ino c.index_mut.ensures.value c.clean.ensures (search rules) refl
    (ap (λ (f : Flush). f.number) c.in_ok-flush.ensures.value) (search rules) (search rules) c.in_ok-flush.ensures.grammar c.self.invariant
