use Rattle.server_line.proofs.Giving.{fresh-item, held-item}
use Rattle.server_line.proofs.granting.item_for.Goals as goal

pub returns-then-is_held-clause-item : goal.returns-then-is_held-clause-item
returns-then-is_held-clause-item g c =
    held-item c.args.draft.now c.args.port.now.view (g.D.PortDisk.means c.args.disk.now) c.args.client c.args.token c.is_held.result c.requires.need c.requires.lacks c.is_held.ensures.table c.is_held.ensures.held c.if-is_held.true

pub returns-in-Ok-clause-item : goal.returns-in-Ok-clause-item
returns-in-Ok-clause-item g c =
    fresh-item c.args.draft.now c.args.port.now.view (g.D.PortDisk.means c.args.disk.now) c.args.client c.args.token c.in-Ok.content c.is_held.result c.requires.need c.is_held.ensures.held c.if-is_held.false
    c.in-Ok.ensures.content c.in-Ok.ensures.formed c.in-Ok.ensures.unread
