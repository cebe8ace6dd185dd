use Rattle.client_book.proofs.Saying.{keeps-law}
use Rattle.client_book.proofs.steps.a_client_keeps_the_law.Goals as goal

pub returns : goal.returns
returns c = keeps-law
