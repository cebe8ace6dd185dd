use Rattle.std.proofs.Common.{refl}
use Rattle.server_draft.specs.declared.act.Act.TheVariants.{Commits}
use Rattle.server_draft.proofs.Acting.{acts-one}
use Rattle.server_draft.proofs.Following.{commits}
use Rattle.server_draft.proofs.Counting.{counted-none}
use Rattle.server_draft.proofs.draft.Draft.commit.Goals as goal

pub returns-clause-acts : goal.returns-clause-acts
returns-clause-acts c = λ view. acts-one view c.args.self.now.acts c.commit.new.self (Commits c.args.commit) c.in_ok-commit.ensures.ok

pub returns-clause-follows : goal.returns-clause-follows
returns-clause-follows c =
    commits c.args.self.now (record { desk = c.args.self.now.desk; image = c.alter.new.image; acts = c.commit.new.self }) c.args.commit c.alter.ensures.kept refl c.alter.ensures.edited c.in_ok-commit.ensures.ok

pub returns-clause-count : goal.returns-clause-count
returns-clause-count c = λ to. counted-none c.args.self.now.acts c.commit.new.self (Commits c.args.commit) to refl c.in_ok-commit.ensures.ok
