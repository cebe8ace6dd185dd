use Rattle.client_memory.proofs.Behind.{room-behind}
use Rattle.client_memory.proofs.memory.Memory.revoke_behind.Goals as goal

pub revoke_all-requires-clause-room : goal.revoke_all-requires-clause-room
revoke_all-requires-clause-room c =
    room-behind c.args.self.now c.take_behind.new.self c.args.ino c.in_ok-behind.behind.items c.in_ok-behind.ensures.state c.in_ok-behind.ensures.behind c.requires.room
