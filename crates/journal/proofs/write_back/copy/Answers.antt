use Rattle.journal.proofs.Copies.{copied}
use Rattle.journal.proofs.write_back.copy.Goals as goal

pub returns : goal.returns
returns g c = copied c.args.from c.args.home _ _ _ _ _ _ _ _ _ _ c.requires.own c.in_ok-read.ensures.reads.1 c.in_ok-read.ensures.same c.in_ok-read.ensures.later c.write_one.ensures
