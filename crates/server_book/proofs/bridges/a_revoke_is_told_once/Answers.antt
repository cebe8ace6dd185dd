use Rattle.server_book.proofs.Turning.{told-once}
use Rattle.server_book.proofs.bridges.a_revoke_is_told_once.Goals as goal

pub returns : goal.returns
returns c = told-once
