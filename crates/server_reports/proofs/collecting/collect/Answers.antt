use Rattle.std.proofs.Common.{ap, sym, ◌∙◌}
use Rattle.rebuild.specs.Collecting.{next_of}
use Rattle.server_desk.specs.Desk.{DeskValue}
use Rattle.server_reports.proofs.Collects.{collected, collected-before, collected-missing, law-admitted, none-by, still-nobody}
use Rattle.server_reports.proofs.collecting.collect.Goals as goal
use Rattle.server_reports.proofs.collecting.collect.Goals.{else-not-was_admitted-via-then-not-was_admitted+else-is_none, else-not-was_admitted-via-else-not-was_admitted}

pub returns-in_ok-admit_clients-clause-follows : goal.returns-in_ok-admit_clients-clause-follows
returns-in_ok-admit_clients-clause-follows c view o start from was nobody =
    let asked = c.ask_clients.new.draft in
    let follows = c.in_ok-ask_clients.ensures.follows view o start from in
    c.in_ok-admit_clients.ensures.follows view o start follows (was ∙ c.if-not-was_admitted.true)
    (sym (law-admitted view o start asked follows) ∙ none-by c.missing.result asked c.is_none.result c.is_none.ensures c.missing.ensures.missing ∙ c.if-is_none.true)
    (still-nobody view c.args.draft.now.acts asked.acts c.in_ok-ask_clients.ensures.acts nobody)

pub returns-in_ok-admit_clients-clause-collected :
    goal.returns-in_ok-admit_clients-clause-collected
returns-in_ok-admit_clients-clause-collected c view o start from was nobody =
    let asked = c.ask_clients.new.draft in
    let follows = c.in_ok-ask_clients.ensures.follows view o start from in
    let admitted = sym (law-admitted view o start asked follows) ∙ none-by c.missing.result asked c.is_none.result c.is_none.ensures c.missing.ensures.missing ∙ c.if-is_none.true in
    let still = still-nobody view c.args.draft.now.acts asked.acts c.in_ok-ask_clients.ensures.acts nobody in
    let is-new = was ∙ c.if-not-was_admitted.true in
    collected view o start c.admit_clients.new.draft (c.in_ok-admit_clients.ensures.follows view o start follows is-new admitted still)
    (ap (λ (desk : DeskValue). next_of desk.collecting) c.in_ok-admit_clients.ensures.desk ∙ c.in_ok-ask_clients.ensures.asked)
    (λ _ _. c.in_ok-admit_clients.ensures.all view o start follows is-new admitted still)

pub returns-else-not-was_admitted-clause-follows :
    goal.returns-else-not-was_admitted-clause-follows
returns-else-not-was_admitted-clause-follows c view o start from was nobody = c.in_ok-ask_clients.ensures.follows view o start from

pub returns-else-not-was_admitted-clause-collected :
    goal.returns-else-not-was_admitted-clause-collected
returns-else-not-was_admitted-clause-collected c view o start from was nobody =
    let asked = c.ask_clients.new.draft in
    let follows = c.in_ok-ask_clients.ensures.follows view o start from in
    let end = c.in_ok-ask_clients.ensures.asked in
    elim c.else-not-was_admitted.branch [
      | else-not-was_admitted-via-then-not-was_admitted+else-is_none w ↦ collected-missing view o start asked follows end (none-by w.missing.result asked w.is_none.result w.is_none.ensures w.missing.ensures.missing ∙ w.if-is_none.false)
      | else-not-was_admitted-via-else-not-was_admitted w ↦ collected-before view o start asked follows end (was ∙ w.if-not-was_admitted.false)
    ]
