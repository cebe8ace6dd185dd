use Rattle.cluster_law.proofs.Answering.{covered-silent, one-request}
use Rattle.cluster_law.proofs.refusals.a_covered_call_needs_no_message.Goals as goal

pub returns-clause-covered : goal.returns-clause-covered
returns-clause-covered c = λ before after k call covered. covered-silent before after k call covered

pub returns-clause-one : goal.returns-clause-one
returns-clause-one c = λ sight k call request outstanding. one-request sight k call request outstanding
