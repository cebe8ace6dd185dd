use Rattle.server_book.proofs.Revoking.{asks}
use Rattle.server_book.proofs.bridges.revokes_ask_what_blocks.Goals as goal

pub returns : goal.returns
returns c = asks
