use Rattle.std.proofs.Common.{ap, ◌∙◌, subst}
use Rattle.token_table.specs.Table.{Table}
use Rattle.token_table.specs.Series.{Same, table_of, with_holds, put_last}
use Rattle.token_table.proofs.hold_map.HoldMap.set_all.Goals as goal

pub returns-clause-ok : goal.returns-clause-ok
returns-clause-ok c =
    let begun = (λ j. table_of (c.in_ok-reserve.ensures.entries j) (c.in_ok-self-inside.ensures.order j)) ∙ ap (λ (t : Table). put_last t c.args.c) c.self.view_is in
    subst (λ (t : Table). Same (table_of c.set_each.new.holds.entries c.set_each.new.writes.items) (with_holds t c.args.c c.args.tokens.now)) begun c.set_each.ensures
