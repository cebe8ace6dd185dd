-- A message: its kind, and the fields of that kind.
use Rattle.std.specs.Prelude.{◌==◌, ℕ, List, Result, Ok, Err, length, if◌then◌else◌}
use Rattle.tree_law.specs.declared.reply.Reply.{Reply}
use Rattle.change_reply.specs.ReplyAt.{reply_at as change_reply_at}
use Rattle.change_reply.specs.declared.take.BadReply.{BadReply}
use Rattle.change_reply.specs.declared.take.BadReply.TheVariants.{Unknown, Short}
use Rattle.message.specs.declared.message.Message.{Message}
use Rattle.message.specs.declared.message.Message.TheVariants.{Acquire, Grant, Refuse, Change, Done, Flush, Flushed, Revoke, Release, Ask, Piece, Wait, Admit}
use Rattle.message.specs.Reading.{Read, ◌>>=◌, byte_at, number_at, placed}
use Rattle.message.specs.Field.{call_number_at, client_at}
use Rattle.message.specs.Calls.{want_at, change_at}
use Rattle.message.specs.Tokens.{grant_items_at, flush_at, revoke_at, release_at, piece_at}

-- a reply of a change; the fault is its first byte, or that bytes are missing
abbrev pub reply_read : List ℕ → Result (Reply × List ℕ) BadReply → Read Reply
reply_read field (Ok x) = Ok x
reply_read field (Err Unknown) = Err (length field)
reply_read field (Err Short) = Err 0

abbrev pub reply_at : List ℕ → Read Reply
reply_at bytes = reply_read bytes (change_reply_at bytes)

abbrev pub acquire_at : List ℕ → Read Message
acquire_at bytes = call_number_at bytes >>= λ number. want_at number.1 >>= λ want. Ok (Acquire number.0 want.0, want.1)

abbrev pub grant_at : List ℕ → Read Message
grant_at bytes = call_number_at bytes >>= λ number. grant_items_at number.1 >>= λ items. Ok (Grant number.0 items.0, items.1)

abbrev pub refuse_at : List ℕ → Read Message
refuse_at bytes =
    call_number_at bytes >>= λ number. number_at 2 number.1 >>= λ free. number_at 2 free.1 >>= λ needed.
    Ok (Refuse number.0 free.0 needed.0, needed.1)

abbrev pub change_message_at : List ℕ → Read Message
change_message_at bytes = call_number_at bytes >>= λ number. change_at number.1 >>= λ change. Ok (Change number.0 change.0, change.1)

abbrev pub done_at : List ℕ → Read Message
done_at bytes = call_number_at bytes >>= λ number. reply_at number.1 >>= λ reply. Ok (Done number.0 reply.0, reply.1)

abbrev pub wait_at : List ℕ → Read Message
wait_at bytes = call_number_at bytes >>= λ number. client_at number.1 >>= λ client. Ok (Wait number.0 client.0, client.1)

-- the fields behind each kind
abbrev pub body_of : List ℕ → ℕ → List ℕ → Read Message
body_of field kind rest =
    if kind == 1 then acquire_at rest
    else if kind == 2 then grant_at rest
    else if kind == 3 then refuse_at rest
    else if kind == 4 then change_message_at rest
    else if kind == 5 then done_at rest
    else if kind == 6 then (flush_at rest >>= λ x. Ok (Flush x.0, x.1))
    else if kind == 7 then (number_at 8 rest >>= λ x. Ok (Flushed x.0, x.1))
    else if kind == 8 then (revoke_at rest >>= λ x. Ok (Revoke x.0, x.1))
    else if kind == 9 then (release_at rest >>= λ x. Ok (Release x.0, x.1))
    else if kind == 10 then Ok (Ask, rest)
    else if kind == 11 then (piece_at rest >>= λ x. Ok (Piece x.0, x.1))
    else if kind == 12 then wait_at rest
    else if kind == 13 then Ok (Admit, rest)
    else Err (length field)

unfoldable pub message_at : List ℕ → Read Message
message_at bytes = byte_at bytes >>= λ kind. body_of bytes kind.0 kind.1

-- the message that the bytes spell, all of them, or the place of the first byte of the first wrong
-- field: the length where bytes are missing, and the first byte too many where there are too many
unfoldable pub message_of : List ℕ → Result Message ℕ
message_of bytes = placed bytes (message_at bytes)
