use Rattle.std.proofs.Common.{◌++◌, ap, ◌∙◌}
use Rattle.std.specs.Option.{option_to_list}
use Rattle.token_table.specs.Blockers.{blocker_of}
use Rattle.token_table.proofs.Lists.{gathers_none, gathers_client}
use Rattle.token_table.proofs.token_table.TokenTable.put_blockers.Goals as goal

pub loop-number-init : goal.loop-number-init
loop-number-init c = gathers_none (blocker_of c.args.self.now c.args.c c.args.need) c.args.out.now

pub loop-number-preserved : goal.loop-number-preserved
loop-number-preserved c =
    gathers_client (blocker_of c.args.self.now c.args.c c.args.need) c.loop-number.number c.args.out.now c.loop-number.out c.put_item.new.list c.loop-number.invariant
    (c.in_ok-put_item.ensures ∙ ap (λ o. c.loop-number.out ++ option_to_list o) c.blocker.ensures)
