use Rattle.server_book.proofs.Fitting.{fits-where-used}
use Rattle.server_book.proofs.bridges.a_piece_fits_where_it_is_used.Goals as goal

pub returns : goal.returns
returns c = fits-where-used
