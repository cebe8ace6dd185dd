use Rattle.std.proofs.Common.{sym, subst}
use Rattle.std.specs.List.{All}
use Rattle.token_table.specs.Series.{with_holds, put_last}
use Rattle.token_table.specs.Table.{Table, IsGrantable}
use Rattle.token_table.proofs.Series.{same_keeps, put_last_keeps, with_holds_keeps}
use Rattle.token_table.proofs.token_table.TokenTable.grant_all.Goals as goal

pub invariant_of-self-2 : goal.invariant_of-self-2
invariant_of-self-2 c =
    let t = c.self.inside.map in
    same_keeps c.set_all.new.self (with_holds (put_last t c.args.c) c.args.c c.args.tokens.now) c.in_ok-set_all.ensures.ok
    (with_holds_keeps (put_last t c.args.c) c.args.c c.args.tokens.now (put_last_keeps t c.args.c c.self.invariant)
    (subst (λ (u : Table). All (IsGrantable u c.args.c) c.args.tokens.now) (sym c.self.view_is) c.requires.apart) c.requires.client c.requires.inodes c.requires.modes)
