use Rattle.std.proofs.Common.{◌≡◌, ◌++◌, [], List, not, filter, if◌then◌else◌, refl, subst, ◌∙◌}
use Rattle.std.specs.List.{All}
use Rattle.revocation.specs.Waiting.{own_blockers}
use Rattle.token_table.specs.Blockers.{blockers_of}
use Rattle.token_table.specs.Table.{IsGrantable, Table}
use Rattle.cluster_law.specs.Blocking.{is_shown, needs_write}
use Rattle.token_kind.specs.declared.token.Token.{Token}
use Rattle.server_line.proofs.Gaps.{gap-askable, gap-is}
use Rattle.server_line.proofs.needing.gap_of.Goals as goal

pub returns-clause-gap : goal.returns-clause-gap
returns-clause-gap c =
    gap-is c.args.draft.now c.args.client c.args.want.now c.in_ok-needs.needs c.in_ok-lacking.lacking (record { to_ask = c.in_ok-to_ask.to_ask; own = c.put_own.new.out }) c.in_ok-blockers.blockers c.blocks_for-wanted.result
    c.table_of.ensures.is_table c.in_ok-needs.ensures.needed c.in_ok-needs.ensures.needs
    (c.in_ok-lacking.ensures ∙ λ i. filter (λ need. not (is_shown (c.table_of.ensures.table i) c.args.client need)) (c.as_slice.ensures i))
    (c.blocks_for-wanted.ensures ∙ λ i. if needs_write (c.as_slice-2.ensures i) then 16 else 0)
    (c.in_ok-to_ask.ensures.blockers ∙ λ i. blockers_of (c.table_of-2.ensures.table i) c.args.client (c.as_slice-3.ensures i))
    (subst (λ (ts : List Token). c.in_ok-to_ask.to_ask ≡ [] → All (IsGrantable c.args.draft.now.desk.collecting.table c.args.client) ts) c.as_slice-3.ensures
    (subst (λ (t : Table). c.in_ok-to_ask.to_ask ≡ [] → All (IsGrantable t c.args.client) c.as_slice-3.result.now) c.table_of-2.ensures.table c.in_ok-to_ask.ensures.grantable))
    (c.in_ok-put_own.ensures ∙ λ i. c.new-own.ensures i ++ own_blockers c.args.draft.now.desk.asked c.args.client (c.as_slice-4.ensures i))
    (record { lacking = c.in_ok-lacking.lacking; blockers = c.in_ok-blockers.blockers; wanted = c.blocks_for-wanted.result }) refl refl refl c.in_ok-blockers.ensures.all c.in_ok-blockers.ensures.own c.in_ok-blockers.ensures.some

pub returns-clause-askable : goal.returns-clause-askable
returns-clause-askable c =
    gap-askable c.args.draft.now c.args.client c.args.want.now c.in_ok-needs.needs c.in_ok-lacking.lacking (record { to_ask = c.in_ok-to_ask.to_ask; own = c.put_own.new.out }) c.in_ok-blockers.blockers c.blocks_for-wanted.result
    c.table_of.ensures.is_table c.in_ok-needs.ensures.needed c.in_ok-needs.ensures.needs
    (c.in_ok-lacking.ensures ∙ λ i. filter (λ need. not (is_shown (c.table_of.ensures.table i) c.args.client need)) (c.as_slice.ensures i))
    (c.blocks_for-wanted.ensures ∙ λ i. if needs_write (c.as_slice-2.ensures i) then 16 else 0)
    (c.in_ok-to_ask.ensures.blockers ∙ λ i. blockers_of (c.table_of-2.ensures.table i) c.args.client (c.as_slice-3.ensures i))
    (subst (λ (ts : List Token). c.in_ok-to_ask.to_ask ≡ [] → All (IsGrantable c.args.draft.now.desk.collecting.table c.args.client) ts) c.as_slice-3.ensures
    (subst (λ (t : Table). c.in_ok-to_ask.to_ask ≡ [] → All (IsGrantable t c.args.client) c.as_slice-3.result.now) c.table_of-2.ensures.table c.in_ok-to_ask.ensures.grantable))
    (c.in_ok-put_own.ensures ∙ λ i. c.new-own.ensures i ++ own_blockers c.args.draft.now.desk.asked c.args.client (c.as_slice-4.ensures i))
    c.in_ok-blockers.ensures.askable
