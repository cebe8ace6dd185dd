use Rattle.std.proofs.Common.{sym, refl, ap, ◌∙◌, true≢false, is_none}
use Rattle.cluster_law.specs.Asking.{is_admit}
use Rattle.cluster_law.specs.Removing.{due}
use Rattle.cluster_law.specs.ServerState.{ServerState, is_admitted}
use Rattle.cal_base.specs.Limits as limits
use Rattle.server_opening.proofs.Counting.{as-many, told-grows}
use Rattle.server_opening.proofs.Paying.{at-start, law-missing, nobody-none, told-none, ungranted-none}
use Rattle.server_opening.specs.Ungranted.{is_grant}
use Rattle.server_opening.proofs.opening.deal_if_admitted.Goals as goal

pub returns-in_ok-deal_with_orphan-in-None-clause-follows : goal.returns-in_ok-deal_with_orphan-in-None-clause-follows
returns-in_ok-deal_with_orphan-in-None-clause-follows c = λ view o start follows e none tick.
    c.in_ok-deal_with_orphan-in-None.ensures.follows view o start follows tick
    (ap is_none (sym (law-missing view o start c.args.draft.now follows) ∙ (sym c.missing.ensures.missing ∙ c.in-None.is)))
    (ap (λ (s : ServerState). due o.gone s) (at-start view start c.args.draft.now.acts e) ∙ none) e

pub returns-in_ok-deal_with_orphan-in-None-clause-deals : goal.returns-in_ok-deal_with_orphan-in-None-clause-deals
returns-in_ok-deal_with_orphan-in-None-clause-deals c = λ view o start follows e admitted. c.in_ok-deal_with_orphan-in-None.ensures.deals view o start follows e

pub returns-in_ok-deal_with_orphan-in-None-clause-nobody : goal.returns-in_ok-deal_with_orphan-in-None-clause-nobody
returns-in_ok-deal_with_orphan-in-None-clause-nobody c = λ view e client.
    c.in_ok-deal_with_orphan-in-None.ensures.told view client is_admit (λ revoke. refl) ∙ told-none view client is_admit c.args.draft.now.acts e

pub returns-in-Some-clause-deals : goal.returns-in-Some-clause-deals
returns-in-Some-clause-deals c = λ view o start follows e admitted.
    absurd (true≢false (sym admitted ∙ (ap is_admitted (sym (at-start view start c.args.draft.now.acts e)) ∙ ap is_none (sym (law-missing view o start c.args.draft.now follows) ∙ (sym c.missing.ensures.missing ∙ c.in-Some.is)))))

pub returns-in-Some-clause-nobody : goal.returns-in-Some-clause-nobody
returns-in-Some-clause-nobody c = λ view e. nobody-none view c.args.draft.now.acts e

pub returns-in_ok-deal_with_orphan-in-None-clause-few : goal.returns-in_ok-deal_with_orphan-in-None-clause-few
returns-in_ok-deal_with_orphan-in-None-clause-few c to =
    let old = c.args.draft.now in
    let new = c.deal_with_orphan.new.draft in
    told-grows to limits.inodes old new (c.in_ok-deal_with_orphan-in-None.ensures.few to) (as-many old new c.in_ok-deal_with_orphan-in-None.ensures.requests)

pub returns-in_ok-deal_with_orphan-in-None-clause-ungranted : goal.returns-in_ok-deal_with_orphan-in-None-clause-ungranted
returns-in_ok-deal_with_orphan-in-None-clause-ungranted c = λ view e client.
    c.in_ok-deal_with_orphan-in-None.ensures.told view client is_grant (λ revoke. refl) ∙ told-none view client is_grant c.args.draft.now.acts e

pub returns-in-Some-clause-ungranted : goal.returns-in-Some-clause-ungranted
returns-in-Some-clause-ungranted c = λ view e. ungranted-none view c.args.draft.now.acts e
