use Rattle.client_book.proofs.Covering.{covers}
use Rattle.client_book.proofs.laws.a_cache_covers_as_its_book.Goals as goal

pub returns : goal.returns
returns c = covers
