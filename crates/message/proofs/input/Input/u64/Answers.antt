use Rattle.std.proofs.Common.{rules}
use Rattle.message.proofs.Front.{number_is, number_missing}
use Rattle.message.proofs.input.Input.u64.Goals as goal

pub returns-in-Ok : goal.returns-in-Ok
returns-in-Ok c = number_is 8 _ _ _ (search rules) c.in-Ok.ensures.taken

pub returns-in-Err : goal.returns-in-Err
returns-in-Err c = number_missing 8 _ (search rules)
