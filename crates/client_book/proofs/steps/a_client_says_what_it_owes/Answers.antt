use Rattle.client_book.proofs.Saying.{replies-spelled, says-spelled}
use Rattle.client_book.proofs.steps.a_client_says_what_it_owes.Goals as goal

pub returns-clause-says : goal.returns-clause-says
returns-clause-says c = says-spelled

pub returns-clause-replies : goal.returns-clause-replies
returns-clause-replies c = replies-spelled
