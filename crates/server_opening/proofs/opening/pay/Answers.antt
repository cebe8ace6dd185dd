use Rattle.std.proofs.Common.{subst, sym, refl, ◌∙◌}
use Rattle.cluster_law.specs.Asking.{is_admit, is_wait}
use Rattle.rebuild.specs.Collecting.{missing_of}
use Rattle.server_draft.specs.Acts.{acts_of}
use Rattle.server_opening.proofs.Counting.{as-many, told-grows, waits-named, waits-requests}
use Rattle.server_opening.proofs.Paying.{nobody-none, nobody-waits, told-none, ungranted-none, ungranted-waits}
use Rattle.server_opening.specs.Owed.{IsOwedFor, IsPaid}
use Rattle.server_opening.specs.Ungranted.{is_grant}
use Rattle.server_opening.specs.declared.hearing.Owed.{Owed}
use Rattle.server_opening.proofs.opening.pay.Goals as goal

pub returns-in-Nothing-clause-nobody : goal.returns-in-Nothing-clause-nobody
returns-in-Nothing-clause-nobody c = λ view e. nobody-none view c.args.draft.now.acts e

pub returns-in_ok-answer_wait-in-Wait-clause-follows : goal.returns-in_ok-answer_wait-in-Wait-clause-follows
returns-in_ok-answer_wait-in-Wait-clause-follows c = λ view o start follows e owed.
    c.in_ok-answer_wait-in-Wait.ensures.follows view o start follows (subst (λ (w : Owed). IsOwedFor o.took c.args.client w) c.in-Wait.is owed) (told-none view c.args.client.0 is_wait c.args.draft.now.acts e)

pub returns-in_ok-answer_wait-in-Wait-clause-nobody : goal.returns-in_ok-answer_wait-in-Wait-clause-nobody
returns-in_ok-answer_wait-in-Wait-clause-nobody c = λ view e.
    nobody-waits view c.args.draft.now c.answer_wait.new.draft c.args.client c.in-Wait.number (missing_of c.args.draft.now.desk.collecting) c.in_ok-answer_wait-in-Wait.ensures.state e

pub returns-in_ok-take_flush-in-Flush-clause-follows : goal.returns-in_ok-take_flush-in-Flush-clause-follows
returns-in_ok-take_flush-in-Flush-clause-follows c = λ view o start follows e owed.
    c.in_ok-take_flush-in-Flush.ensures.follows view o start follows e (subst (λ (w : Owed). IsOwedFor o.took c.args.client w) c.in-Flush.is owed)

pub returns-in_ok-take_flush-in-Flush-clause-paid : goal.returns-in_ok-take_flush-in-Flush-clause-paid
returns-in_ok-take_flush-in-Flush-clause-paid c = λ view o start follows e.
    subst (λ (w : Owed). IsPaid c.args.draft.now.desk start c.args.client w (acts_of view c.take_flush.new.draft.acts)) (sym c.in-Flush.is) (λ used. c.in_ok-take_flush-in-Flush.ensures.told view o start follows e used)

pub returns-in_ok-take_flush-in-Flush-clause-nobody : goal.returns-in_ok-take_flush-in-Flush-clause-nobody
returns-in_ok-take_flush-in-Flush-clause-nobody c = λ view e client.
    c.in_ok-take_flush-in-Flush.ensures.acts.others view client is_admit (refl, tt) ∙ told-none view client is_admit c.args.draft.now.acts e

pub returns-in_ok-answer_wait-in-Wait-clause-few : goal.returns-in_ok-answer_wait-in-Wait-clause-few
returns-in_ok-answer_wait-in-Wait-clause-few c to =
    let old = c.args.draft.now in
    let new = c.answer_wait.new.draft in
    told-grows to 1 old new (c.in_ok-answer_wait-in-Wait.ensures.few to) (as-many old new (waits-requests old new c.args.client c.in-Wait.number (missing_of old.desk.collecting) c.in_ok-answer_wait-in-Wait.ensures.state))

pub returns-in_ok-answer_wait-in-Wait-clause-names : goal.returns-in_ok-answer_wait-in-Wait-clause-names
returns-in_ok-answer_wait-in-Wait-clause-names c names =
    waits-named c.args.draft.now c.answer_wait.new.draft c.args.client c.in-Wait.number (missing_of c.args.draft.now.desk.collecting) c.in_ok-answer_wait-in-Wait.ensures.state names

pub returns-in_ok-take_flush-in-Flush-clause-few : goal.returns-in_ok-take_flush-in-Flush-clause-few
returns-in_ok-take_flush-in-Flush-clause-few c to =
    let old = c.args.draft.now in
    let new = c.take_flush.new.draft in
    told-grows to 1 old new (c.in_ok-take_flush-in-Flush.ensures.few to) (as-many old new c.in_ok-take_flush-in-Flush.ensures.desk.requests)

pub returns-in-Nothing-clause-ungranted : goal.returns-in-Nothing-clause-ungranted
returns-in-Nothing-clause-ungranted c = λ view e. ungranted-none view c.args.draft.now.acts e

pub returns-in_ok-answer_wait-in-Wait-clause-ungranted : goal.returns-in_ok-answer_wait-in-Wait-clause-ungranted
returns-in_ok-answer_wait-in-Wait-clause-ungranted c = λ view e.
    ungranted-waits view c.args.draft.now c.answer_wait.new.draft c.args.client c.in-Wait.number (missing_of c.args.draft.now.desk.collecting) c.in_ok-answer_wait-in-Wait.ensures.state e

pub returns-in_ok-take_flush-in-Flush-clause-ungranted : goal.returns-in_ok-take_flush-in-Flush-clause-ungranted
returns-in_ok-take_flush-in-Flush-clause-ungranted c = λ view e client.
    c.in_ok-take_flush-in-Flush.ensures.acts.others view client is_grant (refl, tt) ∙ told-none view client is_grant c.args.draft.now.acts e
