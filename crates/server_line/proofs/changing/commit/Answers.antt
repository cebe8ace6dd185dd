use Rattle.std.proofs.Common.{refl}
use Rattle.server_draft.specs.declared.act.Deed.TheVariants.{Changes}
use Rattle.tree_law.specs.declared.request.Asked.TheVariants.{Change as Alters}
use Rattle.cluster_law.specs.ServerState.{as_request}
use Rattle.server_line.proofs.Committed.{commit-goes}
use Rattle.server_line.proofs.changing.commit.Goals as goal

pub returns-clause-goes : goal.returns-clause-goes
returns-clause-goes c = λ free.
    commit-goes c.args.draft.now c.args.client c.args.number c.args.call c.args.planned
    (record { deed = Changes (as_request c.args.client c.args.number (Alters c.args.call)) c.args.planned.plan.reply c.args.planned.plan.new_ino; lays = c.new.result; edit = c.args.planned.plan.edit; homes = c.args.planned.txn })
    c.requires.head c.requires.new c.requires.planned refl refl c.new.ensures refl free c.commit.new.self c.in_ok-commit.ensures.state c.in_ok-commit.ensures.acts c.in_ok-commit.ensures.follows
