use Rattle.server_book.proofs.Heads.{head-told}
use Rattle.server_book.proofs.Resting.{rests}
use Rattle.server_book.proofs.bridges.what_blocks_is_asked_in_turn.Goals as goal

pub returns-clause-keeps : goal.returns-clause-keeps
returns-clause-keeps c = head-told

pub returns-clause-rests : goal.returns-clause-rests
returns-clause-rests c = rests
