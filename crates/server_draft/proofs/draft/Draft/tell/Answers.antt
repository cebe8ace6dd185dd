use Rattle.std.proofs.Common.{refl}
use Rattle.server_draft.specs.declared.act.Act.TheVariants.{Tells}
use Rattle.server_draft.proofs.Acting.{acts-one, told-by}
use Rattle.server_draft.proofs.Following.{tells}
use Rattle.server_draft.proofs.Counting.{counted-one}
use Rattle.server_draft.proofs.draft.Draft.tell.Goals as goal

pub returns-clause-acts : goal.returns-clause-acts
returns-clause-acts c = λ view. acts-one view c.args.self.now.acts c.tell.new.self (Tells c.args.client c.args.message) c.in_ok-tell.ensures.ok

pub returns-clause-told : goal.returns-clause-told
returns-clause-told c = λ view test is. told-by view c.args.self.now.acts c.tell.new.self c.args.client c.args.message test c.in_ok-tell.ensures.ok is

pub returns-clause-follows : goal.returns-clause-follows
returns-clause-follows c =
    tells c.args.self.now (record { desk = c.args.self.now.desk; image = c.args.self.now.image; acts = c.tell.new.self }) c.args.client c.args.message refl refl c.in_ok-tell.ensures.ok

pub returns-clause-count : goal.returns-clause-count
returns-clause-count c = λ to. counted-one c.args.self.now.acts c.tell.new.self (Tells c.args.client c.args.message) to c.in_ok-tell.ensures.ok
