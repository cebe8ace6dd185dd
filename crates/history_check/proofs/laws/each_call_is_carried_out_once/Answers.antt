use Rattle.history_check.proofs.Known.{known}
use Rattle.history_check.proofs.laws.each_call_is_carried_out_once.Goals as goal

pub returns : goal.returns
returns c = λ told history fit client number. (known told history fit client).each number
