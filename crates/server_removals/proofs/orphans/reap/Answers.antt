use Rattle.std.proofs.Common.{ap, refl, subst}
use Rattle.volume.specs.Volume.{Volume}
use Rattle.volume_edit.specs.Homes.{AreHomes}
use Rattle.server_draft.specs.Acts.{acts_of}
use Rattle.server_draft.specs.Draft.{reached}
use Rattle.server_draft.specs.declared.draft.Draft.{Draft}
use Rattle.server_removals.proofs.Counting.{freed-named}
use Rattle.server_removals.proofs.MakingFinal.{freed-space, frees-well}
use Rattle.server_removals.proofs.orphans.reap.Goals as goal

pub returns-clause-follows : goal.returns-clause-follows
returns-clause-follows c = λ view o start follows looks least unheld alone.
    let old = c.args.draft.now in
    let server = reached view start old in
    let plan = c.in_ok-edit.field-0 in
    let edit = c.in_ok-edit.ensures.edit in
    c.in_ok-commit.ensures.follows view o start old follows refl refl c.in_ok-edit.ensures.takes follows.like
    (freed-space server c.args.ino c.new.result plan.edit plan.txn edit follows.space)
    (frees-well o start server (acts_of view old.acts) c.args.ino c.new.result plan.edit plan.txn looks least unheld alone c.new.ensures edit
    (subst (λ (v : Volume). AreHomes v plan.edit plan.txn) follows.volume c.in_ok-edit.ensures.homes) follows.space)

pub returns-clause-names : goal.returns-clause-names
returns-clause-names c names =
    freed-named c.args.draft.now c.commit.new.self c.args.ino c.in_ok-edit.field-0.edit c.clients.ensures.volume c.requires.orphan (ap (λ (d : Draft). d.image) c.in_ok-commit.ensures.state) c.in_ok-edit.ensures.edit names
