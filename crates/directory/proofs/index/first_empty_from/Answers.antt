use Rattle.std.proofs.Common.{rules, arith}
use Rattle.directory.proofs.Order.{first_from}
use Rattle.directory.proofs.index.first_empty_from.Goals as goal

pub returns-then-is_none-clause-first : goal.returns-then-is_none-clause-first
returns-then-is_none-clause-first c =
    first_from c.args.slots.now c.loop-place.place c.loop-place.invariant.hint c.loop-place.invariant.within (λ h. search rules)

pub returns-clause-first : goal.returns-clause-first
returns-clause-first c =
    first_from c.args.slots.now c.loop-place.place c.loop-place.invariant.hint c.loop-place.invariant.within (λ h. absurd (omega arith))
