use Rattle.client_book.proofs.Stepping.{steps}
use Rattle.client_book.proofs.laws.a_client_steps_as_the_law.Goals as goal

pub returns : goal.returns
returns c = steps
