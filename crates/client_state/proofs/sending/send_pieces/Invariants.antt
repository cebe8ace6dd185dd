use Rattle.std.proofs.Common.{◌≡◌, All, length, map}
use Rattle.std.specs.Vec.Iter.{into_iter_items, into_iter_len}
use Rattle.message.specs.Range.{IsPiece}
use Rattle.client_book.specs.Made.{piece_message}
use Rattle.outbox.specs.Sending.{put_all}
use Rattle.client_state.proofs.sending.send_pieces.Given as goal

abbrev pub invariant-loop-piece : goal.invariant-loop-piece
invariant-loop-piece l = (put_all l.out (map piece_message (into_iter_items l.piece-iterator)) ≡ put_all l.fn.out (map piece_message l.fn.report))
    × All IsPiece (into_iter_items l.piece-iterator)
    × (into_iter_len l.piece-iterator ≡ length (into_iter_items l.piece-iterator))
