use Rattle.std.proofs.Common.{ap, sym, ◌∙◌}
use Rattle.token_table.specs.Blockers.{touchers_of}
use Rattle.token_table.specs.Table.{Table}
use Rattle.server_draft.specs.Acts.{acts_of}
use Rattle.server_draft.specs.Draft.{reached}
use Rattle.server_removals.proofs.AskingBack.{asks-at-start, frees-at-start, nobody-holds, none-removed, touched}
use Rattle.server_removals.proofs.Counting.{left-named, none-few}
use Rattle.server_removals.proofs.orphans.free_or_ask.Goals as goal

pub returns-then-is_empty-clause-follows : goal.returns-then-is_empty-clause-follows
returns-then-is_empty-clause-follows c = λ view o start follows looks least none.
    let old = c.args.draft.now in
    let server = reached view start old in
    let are = c.in_ok-holders.ensures ∙ ap (λ (t : Table). touchers_of t (touched c.args.ino)) c.table.ensures in
    c.in_ok-reap.ensures.follows view o start follows looks least
    (nobody-holds old.desk server c.args.ino c.in_ok-holders.holders are (sym c.is_empty.ensures ∙ c.if-is_empty.true) follows.like) (none-removed view old.acts none)

pub returns-then-is_empty-clause-deals : goal.returns-then-is_empty-clause-deals
returns-then-is_empty-clause-deals c = λ view o start follows none.
    let old = c.args.draft.now in
    let new = c.reap.new.draft in
    let are = c.in_ok-holders.ensures ∙ ap (λ (t : Table). touchers_of t (touched c.args.ino)) c.table.ensures in
    frees-at-start view start old.acts (reached view start new) (acts_of view new.acts) old.desk c.args.ino c.in_ok-holders.holders are (sym c.is_empty.ensures ∙ c.if-is_empty.true) follows.like none
    (c.in_ok-reap.ensures.done view)

pub returns-clause-deals : goal.returns-clause-deals
returns-clause-deals c = λ view o start follows none.
    let old = c.args.draft.now in
    let new = c.ask.new.draft in
    let are = c.in_ok-holders.ensures ∙ ap (λ (t : Table). touchers_of t (touched c.args.ino)) c.table.ensures in
    asks-at-start view start old.acts (reached view start new) (acts_of view new.acts) old.desk c.args.ino c.in_ok-holders.holders are (sym c.is_empty.ensures ∙ c.if-is_empty.false) follows.like none
    (c.in_ok-ask.ensures.asks view o start follows)

pub returns-then-is_empty-clause-few : goal.returns-then-is_empty-clause-few
returns-then-is_empty-clause-few c to = none-few to c.args.draft.now.acts c.reap.new.draft.acts (c.in_ok-reap.ensures.few to)

pub returns-clause-names : goal.returns-clause-names
returns-clause-names c names = left-named c.args.draft.now c.ask.new.draft c.in_ok-ask.ensures.image names
