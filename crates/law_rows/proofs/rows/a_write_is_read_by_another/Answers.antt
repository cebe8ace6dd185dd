use Rattle.law_rows.proofs.ForeignRead.{whole}
use Rattle.law_rows.proofs.rows.a_write_is_read_by_another.Goals as goal

pub returns : goal.returns
returns c = λ s h others created bytes. whole s h others created bytes
