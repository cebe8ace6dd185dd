use Rattle.client_book.proofs.Reporting.{reports-booked}
use Rattle.client_book.proofs.laws.a_cache_reports_its_book.Goals as goal

pub returns : goal.returns
returns c = reports-booked
