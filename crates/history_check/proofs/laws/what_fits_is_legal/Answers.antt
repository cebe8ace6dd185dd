use Rattle.history_check.proofs.Legal as legal
use Rattle.history_check.proofs.laws.what_fits_is_legal.Goals as goal

pub returns : goal.returns
returns c = legal.what_fits_is_legal
