use Rattle.std.proofs.Common.{ap, refl, subst, ◌∙◌}
use Rattle.volume.specs.Volume.{Volume}
use Rattle.volume_edit.specs.Homes.{AreHomes}
use Rattle.volume_plan.specs.Plans.{purge_of}
use Rattle.server_draft.specs.Acts.{acts_of}
use Rattle.server_draft.specs.Draft.{reached}
use Rattle.server_draft.specs.declared.draft.Draft.{Draft}
use Rattle.server_removals.proofs.Counting.{purged-named, requests-fewer}
use Rattle.server_removals.proofs.MakingFinal.{purged-space, purges-well}
use Rattle.server_removals.proofs.gone_clients.purge.Goals as goal

pub returns-clause-follows : goal.returns-clause-follows
returns-clause-follows c = λ view o start follows tick due alone.
    let old = c.args.draft.now in
    let server = reached view start old in
    let plan = c.in_ok-edit.field-0 in
    let edit = c.in_ok-edit.ensures.edit ∙ ap (λ (v : Volume). purge_of v c.args.client) follows.volume in
    c.in_ok-commit.ensures.follows view o start old follows refl refl c.in_ok-edit.ensures.takes (c.purge.ensures server follows.like)
    (purged-space server c.args.client c.new.result plan.edit plan.txn edit follows.space)
    (purges-well o start server (acts_of view old.acts) c.args.client c.new.result plan.edit plan.txn tick due alone c.new.ensures edit
    (subst (λ (v : Volume). AreHomes v plan.edit plan.txn) follows.volume c.in_ok-edit.ensures.homes) follows.space)

pub returns-clause-requests : goal.returns-clause-requests
returns-clause-requests c = requests-fewer c.args.draft.now c.commit.new.self c.purge.new.self c.args.client c.purge.ensures (ap (λ (d : Draft). d.desk) c.in_ok-commit.ensures.state)

pub returns-clause-names : goal.returns-clause-names
returns-clause-names c names =
    purged-named c.args.draft.now c.commit.new.self c.args.client c.in_ok-edit.field-0.edit (ap (λ (d : Draft). d.image) c.in_ok-commit.ensures.state) c.in_ok-edit.ensures.edit names
