use Rattle.std.proofs.Common.{refl, sym, ◌∙◌, ap}
use Rattle.cluster_law.specs.Asking.{is_whole}
use Rattle.server_draft.specs.Acts.{acts_of}
use Rattle.server_draft.specs.Draft.{reached}
use Rattle.server_reports.proofs.Putting.{admits-well}
use Rattle.server_reports.proofs.admitting.admit.Goals as goal

pub returns-in_ok-tell-clause-follows : goal.returns-in_ok-tell-clause-follows
returns-in_ok-tell-clause-follows c view o start follows new admitted first =
    let before = c.args.draft.now in
    let whole = ap is_whole (sym c.standing.ensures) ∙ sym c.is_whole.ensures ∙ c.if-is_whole.true in
    c.in_ok-tell.ensures.follows view o start before follows refl refl follows.like follows.space
    (admits-well view o start (reached view start before) (acts_of view before.acts) c.args.client follows.space (record { new = new; admitted = admitted; next = first whole }))
