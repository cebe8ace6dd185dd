-- Reading a reply of a change from the front of some bytes.
use Rattle.std.specs.Prelude.{◌==◌, ◌∷◌, [], ℕ, List, Option, Some, None, Result, Ok, Err, length, drop, nat_lt, if◌then◌else◌}
use Rattle.byteorder.specs.Endian.{big_number}
use Rattle.tree_law.specs.declared.reply.Reply.{Reply}
use Rattle.tree_law.specs.declared.reply.Reply.TheVariants.{Done, Refused}
use Rattle.tree_law.specs.declared.reply.Why.TheVariants.{Exist, NoEnt, NotDir, IsDir, NotEmpty, Inval, Busy, NoSpace, NoInode, DirFull}
use Rattle.change_reply.specs.declared.take.BadReply.{BadReply}
use Rattle.change_reply.specs.declared.take.BadReply.TheVariants.{Unknown, Short}

-- the reply that one byte spells by itself
unfoldable pub plain_reply : ℕ → Option Reply
plain_reply byte =
    if byte == 0 then Some Done
    else if byte == 1 then Some (Refused NoEnt)
    else if byte == 2 then Some (Refused NotDir)
    else if byte == 3 then Some (Refused IsDir)
    else if byte == 4 then Some (Refused Exist)
    else if byte == 5 then Some (Refused Inval)
    else if byte == 6 then Some (Refused NotEmpty)
    else if byte == 7 then Some (Refused Busy)
    else if byte == 12 then Some (Refused NoInode)
    else if byte == 13 then Some (Refused DirFull)
    else None

-- the two numbers behind an 11, and the bytes behind them
abbrev pub no_space_at : List ℕ → Result (Reply × List ℕ) BadReply
no_space_at bytes =
    if nat_lt (length bytes) 4 then Err Short
    else Ok (Refused (NoSpace (big_number 2 bytes) (big_number 2 (drop 2 bytes))), drop 4 bytes)

abbrev pub plain_at : Option Reply → List ℕ → Result (Reply × List ℕ) BadReply
plain_at None rest = Err Unknown
plain_at (Some reply) rest = Ok (reply, rest)

-- the reply at the front and the bytes behind it, or what is wrong: the first byte, or that bytes are missing
unfoldable pub reply_at : List ℕ → Result (Reply × List ℕ) BadReply
reply_at [] = Err Short
reply_at (byte ∷ rest) = if byte == 11 then no_space_at rest else plain_at (plain_reply byte) rest
