use Rattle.std.proofs.Common.{◌∙◌, []}
use Rattle.token_table.specs.Blockers.{touchers_of}
use Rattle.server_line.proofs.Changes.{change-askable, change-blocked}
use Rattle.server_line.proofs.changing.blockers_of.Goals as goal

pub returns-clause-blockers : goal.returns-clause-blockers
returns-clause-blockers c =
    change-blocked c.args.draft.now c.args.client c.args.number c.args.call.now c.args.planned.now c.requires.planned c.requires.new c.table_of.ensures.is_table (record { to_ask = c.in_ok-to_ask.to_ask; own = c.new-own.result }) c.in_ok-blockers.blockers
    (c.in_ok-to_ask.ensures ∙ λ i. touchers_of (c.table_of.ensures.table i) (c.as_slice.ensures i)) c.new-own.ensures (c.in_ok-blockers.ensures.all []) c.in_ok-blockers.ensures.own

pub returns-clause-askable : goal.returns-clause-askable
returns-clause-askable c =
    change-askable c.args.draft.now c.args.client c.args.number c.args.call.now c.args.planned.now c.requires.planned c.requires.new c.table_of.ensures.is_table (record { to_ask = c.in_ok-to_ask.to_ask; own = c.new-own.result }) c.in_ok-blockers.blockers
    (c.in_ok-to_ask.ensures ∙ λ i. touchers_of (c.table_of.ensures.table i) (c.as_slice.ensures i)) c.in_ok-blockers.ensures.askable
