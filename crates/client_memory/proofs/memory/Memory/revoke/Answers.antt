use Rattle.std.proofs.Common.{rules}
use Rattle.client_memory.proofs.Carried.{above-remembered}
use Rattle.client_memory.proofs.memory.Memory.revoke.Goals as goal

pub carry_out-requires-clause-asked : goal.carry_out-requires-clause-asked
carry_out-requires-clause-asked c = above-remembered c.args.self.now.known c.args.revoke.ino c.args.revoke.items c.from_vec.result (search rules) c.requires.revoke
