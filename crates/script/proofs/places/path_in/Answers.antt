use Rattle.std.proofs.Common.{ap, Err}
use Rattle.script.proofs.PathWords.{is_read, is_refused}
use Rattle.script.proofs.places.path_in.Goals as goal

pub returns-in-Ok : goal.returns-in-Ok
returns-in-Ok c = is_read _ _ c.in-Ok.ensures.ok.0 c.in-Ok.ensures.ok.1

pub returns-in-Err-BadPath : goal.returns-in-Err-BadPath
returns-in-Err-BadPath c = is_refused _ (c.in-Err-BadPath.ensures.bad (ap Err c.in-Err-BadPath.field-0-is))
