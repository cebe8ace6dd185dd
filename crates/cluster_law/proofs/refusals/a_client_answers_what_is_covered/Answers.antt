use Rattle.cluster_law.proofs.Answering.{own-answer}
use Rattle.cluster_law.proofs.refusals.a_client_answers_what_is_covered.Goals as goal

pub returns : goal.returns
returns c = λ before after client old turn answer entries call a outstanding untold. own-answer before after client old turn answer entries call a outstanding untold
