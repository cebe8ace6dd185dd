use Rattle.std.proofs.Common.{rules}
use Rattle.message.proofs.Front.{bytes_are, bytes_missing}
use Rattle.message.proofs.input.Input.bytes.Goals as goal

pub returns-in-Ok-clause-read : goal.returns-in-Ok-clause-read
returns-in-Ok-clause-read c = bytes_are _ _ _ _ c.in-Ok.ensures.count c.in-Ok.ensures.taken

pub returns-in-Err-clause-read : goal.returns-in-Err-clause-read
returns-in-Err-clause-read c = bytes_missing _ _ (search rules)
