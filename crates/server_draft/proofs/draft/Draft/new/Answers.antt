use Rattle.server_draft.proofs.Following.{begins}
use Rattle.server_draft.proofs.draft.Draft.new.Goals as goal

pub returns-clause-follows : goal.returns-clause-follows
returns-clause-follows c = λ view o start begin. begins view o start _ c.new.ensures begin
