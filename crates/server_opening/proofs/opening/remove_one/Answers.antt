use Rattle.std.proofs.Common.{sym, subst, ap, ◌∙◌, Option}
use Rattle.cal_base.specs.declared.identity.ClientId.{ClientId}
use Rattle.cluster_law.specs.Asking.{is_admit}
use Rattle.cluster_law.specs.Removing.{due}
use Rattle.cluster_law.specs.ServerRules.{Removes}
use Rattle.cluster_law.specs.ServerState.{ServerState}
use Rattle.server_draft.specs.Acts.{acts_of}
use Rattle.server_draft.specs.Draft.{reached}
use Rattle.cal_base.specs.Limits as limits
use Rattle.server_opening.proofs.Counting.{told-grows, told-nothing}
use Rattle.server_opening.proofs.Paying.{at-start, removed-none, told-none}
use Rattle.server_opening.specs.Ungranted.{is_grant}
use Rattle.server_opening.proofs.opening.remove_one.Goals as goal

pub returns-in_ok-purge-in-Some-clause-follows : goal.returns-in_ok-purge-in-Some-clause-follows
returns-in_ok-purge-in-Some-clause-follows c = λ view o start follows e is tick.
    c.in_ok-purge-in-Some.ensures.follows view o start follows tick
    (ap (λ (s : ServerState). due o.gone s) (at-start view start c.args.draft.now.acts e) ∙ (sym is ∙ c.in-Some.is))
    (removed-none view c.args.draft.now.acts e)

pub returns-in_ok-purge-in-Some-clause-removed : goal.returns-in_ok-purge-in-Some-clause-removed
returns-in_ok-purge-in-Some-clause-removed c = λ view o start follows e is.
    subst (λ (d : Option ClientId). Removes start (reached view start c.purge.new.draft) (acts_of view c.purge.new.draft.acts) d) (sym c.in-Some.is ∙ is) (c.in_ok-purge-in-Some.ensures.done view)

pub returns-in_ok-purge-in-Some-clause-nobody : goal.returns-in_ok-purge-in-Some-clause-nobody
returns-in_ok-purge-in-Some-clause-nobody c = λ view e client.
    c.in_ok-purge-in-Some.ensures.told view client is_admit ∙ told-none view client is_admit c.args.draft.now.acts e

pub returns-in_ok-deal_if_admitted-in-None-clause-follows : goal.returns-in_ok-deal_if_admitted-in-None-clause-follows
returns-in_ok-deal_if_admitted-in-None-clause-follows c = λ view o start follows e is tick.
    c.in_ok-deal_if_admitted-in-None.ensures.follows view o start follows e (sym is ∙ c.in-None.is) tick

pub returns-in_ok-deal_if_admitted-in-None-clause-removed : goal.returns-in_ok-deal_if_admitted-in-None-clause-removed
returns-in_ok-deal_if_admitted-in-None-clause-removed c = λ view o start follows e is.
    subst (λ (d : Option ClientId). Removes start (reached view start c.deal_if_admitted.new.draft) (acts_of view c.deal_if_admitted.new.draft.acts) d) (sym c.in-None.is ∙ is) (λ admitted. c.in_ok-deal_if_admitted-in-None.ensures.deals view o start follows e admitted)

pub returns-in_ok-purge-in-Some-clause-few : goal.returns-in_ok-purge-in-Some-clause-few
returns-in_ok-purge-in-Some-clause-few c to =
    let old = c.args.draft.now in
    let new = c.purge.new.draft in
    told-grows to limits.inodes old new (told-nothing to old new (c.in_ok-purge-in-Some.ensures.few to)) c.in_ok-purge-in-Some.ensures.requests

pub returns-in_ok-purge-in-Some-clause-ungranted : goal.returns-in_ok-purge-in-Some-clause-ungranted
returns-in_ok-purge-in-Some-clause-ungranted c = λ view e client.
    c.in_ok-purge-in-Some.ensures.told view client is_grant ∙ told-none view client is_grant c.args.draft.now.acts e
