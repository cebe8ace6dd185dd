use Rattle.server_book.proofs.Orphans.{orphans-told}
use Rattle.server_book.proofs.bridges.an_orphan_is_asked_for_in_turn.Goals as goal

pub returns : goal.returns
returns c = orphans-told
