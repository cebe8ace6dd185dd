use Rattle.std.proofs.Common.{arith}
use Rattle.client_node.proofs.Asking.{asks_by_byte, asks_by_count}
use Rattle.client_node.proofs.hearing.spells_ask.Goals as goal

pub returns-then-bytes-eq1 : goal.returns-then-bytes-eq1
returns-then-bytes-eq1 c = asks_by_byte c.args.bytes.now c.if-bytes-eq1.true (λ message is. c.one_spelling.ensures _ message (λ i. omega (arith, c.type_inv.bytes i)) is)

pub returns-else-bytes-eq1 : goal.returns-else-bytes-eq1
returns-else-bytes-eq1 c = asks_by_count c.args.bytes.now c.if-bytes-eq1.false (λ message is. c.one_spelling.ensures _ message (λ i. omega (arith, c.type_inv.bytes i)) is)
