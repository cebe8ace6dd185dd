use Rattle.server_draft.proofs.Writing.{all-written}
use Rattle.server_draft.proofs.draft.Draft.places.Goals as goal

pub returns-in_err-writes-clause-reached : goal.returns-in_err-writes-clause-reached
returns-in_err-writes-clause-reached c = λ view start. all-written view start c.args.self.now.acts

pub returns-clause-reached : goal.returns-clause-reached
returns-clause-reached c = λ view start. all-written view start c.args.self.now.acts
