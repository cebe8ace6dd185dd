use Rattle.std.proofs.Common.{subst, IsTrue}
use Rattle.token_table.specs.Blockers.{IsOpened}
use Rattle.token_table.specs.Table.{Table}
use Rattle.token_table.proofs.Opened.{none_opened}
use Rattle.token_table.proofs.token_table.TokenTable.is_opened.Goals as goal

pub returns : goal.returns
returns c =
    let t = c.self.inside.map in
    subst (λ (u : Table). (IsTrue c.is_opened.result → IsOpened u c.args.ino) × (IsOpened u c.args.ino → IsTrue c.is_opened.result)) c.self.view_is
    (c.is_opened.ensures.yes, none_opened t c.self.invariant c.args.ino c.is_opened.result c.is_opened.ensures.no)
