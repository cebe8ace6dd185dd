use Rattle.server_desk.proofs.Liking.{reports}
use Rattle.server_desk.proofs.desk.Desk.take_piece.Goals as goal

pub returns-clause-like : goal.returns-clause-like
returns-clause-like c =
    reports c.self.inside.reports c.take_piece.new.self c.self.inside.line c.args.client c.args.piece.now c.args.slot.now.flush c.args.self.now c.self.view_is c.requires.fits
    c.in_ok-whole.ensures.ok
