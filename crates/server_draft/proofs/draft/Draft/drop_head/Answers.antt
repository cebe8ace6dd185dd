use Rattle.std.proofs.Common.{refl}
use Rattle.server_draft.specs.declared.act.Act.TheVariants.{Drops}
use Rattle.server_draft.proofs.Acting.{acts-one}
use Rattle.server_draft.proofs.Following.{drops}
use Rattle.server_draft.proofs.Counting.{counted-none}
use Rattle.server_draft.proofs.draft.Draft.drop_head.Goals as goal

pub returns-clause-acts : goal.returns-clause-acts
returns-clause-acts c = λ view. acts-one view c.args.self.now.acts c.drop_head-2.new.self Drops c.in_ok-drop_head.ensures.ok

pub returns-clause-follows : goal.returns-clause-follows
returns-clause-follows c =
    drops c.args.self.now (record { desk = c.drop_head.new.self; image = c.args.self.now.image; acts = c.drop_head-2.new.self }) c.drop_head.ensures.like refl c.in_ok-drop_head.ensures.ok

pub returns-clause-count : goal.returns-clause-count
returns-clause-count c = λ to. counted-none c.args.self.now.acts c.drop_head-2.new.self Drops to refl c.in_ok-drop_head.ensures.ok
