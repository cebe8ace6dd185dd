use Rattle.std.proofs.Common.{◌≤◌, length, arith, rules}
use Rattle.token_table.proofs.Order.{length-writes}
use Rattle.token_table.proofs.token_table.TokenTable.writes.Goals as goal

pub returns-clause-limit : goal.returns-clause-limit
returns-clause-limit c = let most : length c.self.inside.map.writes ≤ 512 = length-writes c.self.inside.map c.self.invariant in search rules

pub overflow_cast-result : goal.overflow_cast-result
overflow_cast-result c = let most : length c.self.inside.map.writes ≤ 512 = length-writes c.self.inside.map c.self.invariant in omega arith
