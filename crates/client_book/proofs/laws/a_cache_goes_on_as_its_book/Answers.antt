use Rattle.client_book.proofs.Going.{goes}
use Rattle.client_book.proofs.laws.a_cache_goes_on_as_its_book.Goals as goal

pub returns : goal.returns
returns c = goes
