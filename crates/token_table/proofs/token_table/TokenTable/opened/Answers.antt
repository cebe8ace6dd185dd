use Rattle.std.proofs.Common.{◌↔◌, subst}
use Rattle.std.specs.List.{Contains}
use Rattle.cal_base.specs.declared.identity.Ino.{Ino}
use Rattle.token_table.specs.Blockers.{IsOpened}
use Rattle.token_table.specs.Table.{Table}
use Rattle.token_table.proofs.Opened.{are_opened}
use Rattle.token_table.proofs.token_table.TokenTable.opened.Goals as goal

pub returns : goal.returns
returns c =
    let inos = c.in_ok-inos.inos in
    record { members = subst (λ (t : Table). (ino : Ino) → Contains inos ino ↔ IsOpened t ino) c.self.view_is (are_opened c.self.inside.map inos c.in_ok-inos.ensures.sound c.in_ok-inos.ensures.complete) }
