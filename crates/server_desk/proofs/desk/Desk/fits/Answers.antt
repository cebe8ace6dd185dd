use Rattle.server_desk.proofs.Liking.{fits-where-law-uses}
use Rattle.server_desk.proofs.desk.Desk.fits.Goals as goal

pub returns-clause-used : goal.returns-clause-used
returns-clause-used c = fits-where-law-uses c.self.inside.reports c.self.inside.line c.args.client c.args.piece.now c.args.slot.now.flush c.fits.result c.fits.ensures c.args.self.now c.self.view_is
