use Rattle.std.proofs.Common.{◌++◌, ap, ◌∙◌}
use Rattle.std.specs.Option.{option_to_list}
use Rattle.token_kind.specs.declared.token.Token.{Token}
use Rattle.token_table.specs.Table.{key_of}
use Rattle.revocation.specs.Waiting.{own_blocker, asked_at}
use Rattle.revocation.proofs.Walks.{gathers_behind}
use Rattle.revocation.proofs.line.Line.put_own.Goals as goal

pub loop-need-preserved : goal.loop-need-preserved
loop-need-preserved c =
    gathers_behind (λ (need : Token). own_blocker c.args.c need (asked_at c.args.self.now.asked (key_of c.args.c need.ino need.«class»))) c.args.needs.now c.loop-need.need-index _
    c.args.out.now c.loop-need.out c.put_item.new.list c.loop-need-test.true c.loop-need.invariant
    (c.in_ok-put_item.ensures ∙ ap (λ o. c.loop-need.out ++ option_to_list o) c.own_blocker.ensures)
