use Rattle.std.proofs.Common.{rules}
use Rattle.message.proofs.Front.{byte_is, byte_missing}
use Rattle.message.proofs.input.Input.byte.Goals as goal

pub returns-in-Ok : goal.returns-in-Ok
returns-in-Ok c = byte_is _ _ _ c.in-Ok.ensures.taken

pub returns-in-Err : goal.returns-in-Err
returns-in-Err c = byte_missing _ (search rules)
