use Rattle.std.proofs.Common.{sym, subst}
use Rattle.std.specs.List.{All}
use Rattle.token_table.specs.Series.{with_holds}
use Rattle.token_table.specs.Table.{Table, IsGrantable}
use Rattle.token_table.proofs.Series.{same_keeps, with_holds_keeps}
use Rattle.token_table.proofs.token_table.TokenTable.grant_needs.Goals as goal

pub invariant_of-self-2 : goal.invariant_of-self-2
invariant_of-self-2 c =
    let t = c.self.inside.map in
    same_keeps c.set_needs.new.self (with_holds t c.args.c c.args.tokens.now) c.in_ok-set_needs.ensures.ok
    (with_holds_keeps t c.args.c c.args.tokens.now c.self.invariant
    (subst (λ (u : Table). All (IsGrantable u c.args.c) c.args.tokens.now) (sym c.self.view_is) c.requires.apart) c.requires.client c.requires.inodes c.requires.modes)
