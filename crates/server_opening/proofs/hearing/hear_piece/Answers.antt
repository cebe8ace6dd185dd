use Rattle.std.proofs.Common.{sym, ◌∙◌, ap, subst}
use Rattle.message.specs.declared.message.Message.TheVariants.{Piece as PieceOf}
use Rattle.request_log.specs.declared.slot.Slot.{Slot}
use Rattle.token_table.specs.Table.{IsTable}
use Rattle.volume.specs.Volume.{Volume}
use Rattle.volume_edit.specs.Edit.{slot_at}
use Rattle.cluster_law.specs.ServerState.{uses}
use Rattle.server_opening.proofs.Used.{passes, unused}
use Rattle.server_opening.proofs.hearing.hear_piece.Goals as goal

pub returns-else-fits : goal.returns-else-fits
returns-else-fits c = λ server like e. passes c.args.desk.now server c.args.client (PieceOf c.args.piece.now)
    (unused c.fits.result (uses server c.args.client (PieceOf c.args.piece.now))
    (c.fits.ensures.used server (subst IsTable c.table.ensures c.held.ensures.table) like (ap (λ (v : Volume). (slot_at v.slots c.args.client.0).flush) (sym e) ∙ ap (λ (s : Slot). s.flush) (sym c.slot-slot.ensures.at)))
    c.if-fits.false)
    like
