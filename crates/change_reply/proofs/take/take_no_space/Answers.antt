use Rattle.std.proofs.Common.{arith}
use Rattle.change_reply.proofs.ReplyLemmas.{gives, length_behind, no_space_of_two}
use Rattle.change_reply.proofs.take.take_no_space.Goals as goal

pub unwrap-needed-requires : goal.unwrap-needed-requires
unwrap-needed-requires c =
    let taken = rw c.unwrap-free.ensures at c.take_u16.ensures.taken in
    let behind = length_behind 2 c.unwrap-free.result c.args.from.now.now c.take_u16.new.from.now taken in
    gives c.take_u16-2.result (λ short. omega (arith, behind, c.if-from-lt4.false, c.take_u16-2.ensures.short.0 short))

pub returns-clause-ok : goal.returns-clause-ok
returns-clause-ok c =
    no_space_of_two _ _ _ _ _ (rw c.unwrap-free.ensures at c.take_u16.ensures.taken) (rw c.unwrap-needed.ensures at c.take_u16-2.ensures.taken) c.unwrap-free.type_inv c.unwrap-needed.type_inv
