-- What moves tokens and contents between clients and servers.
use Rattle.std.specs.Prelude.{◌+◌, ◌/◌, ◌&&◌, ℕ, Bool, List, Ok, nat_lt, nat_le, if◌then◌else◌}
use Rattle.token_kind.specs.Class.{class_number}
use Rattle.cal_base.specs.Blocks.{block_count}
use Rattle.cal_base.specs.Limits.{block_size, file_size, holds_per_piece, unflushed_blocks}
use Rattle.token_kind.specs.declared.«class».Class.{Class}
use Rattle.token_kind.specs.declared.«class».Class.TheVariants.{Names, Data, Attr, Open}
use Rattle.token_kind.specs.declared.content.Content.{Content}
use Rattle.token_kind.specs.declared.content.Content.TheVariants.{Nothing as NoContent, Names as Entries, Bytes, Size}
use Rattle.token_kind.specs.declared.flush.Flush.{Flush}
use Rattle.token_kind.specs.declared.grant_item.GrantItem.{GrantItem}
use Rattle.token_kind.specs.declared.hold.Hold.{Hold}
use Rattle.token_kind.specs.declared.piece.Piece.{Piece}
use Rattle.token_kind.specs.declared.release.Release.{Release}
use Rattle.token_kind.specs.declared.reported.Reported.{Reported}
use Rattle.token_kind.specs.declared.revoke.Revoke.{Revoke}
use Rattle.message.specs.Reading.{Read, ◌>>=◌, byte_field, number_at, take_at, many_at, alike_at}
use Rattle.message.specs.Field.{allowed, up_to, one_to, call_number_at, size_at, inode_at, flag_at, fresh_of, class_at, next_class_of, hold_of, held_of, kept_of, left_of}
use Rattle.message.specs.Names.{entries_at}

-- the content of a fresh grant: entries, bytes, a size, or nothing
abbrev pub bytes_at : List ℕ → Read (List ℕ)
bytes_at bytes = size_at file_size bytes >>= λ count. take_at count.0 count.1

abbrev pub fresh_content_at : Class → List ℕ → Read Content
fresh_content_at Names bytes = entries_at bytes >>= λ entries. Ok (Entries entries.0, entries.1)
fresh_content_at Data bytes = bytes_at bytes >>= λ contents. Ok (Bytes contents.0, contents.1)
fresh_content_at Attr bytes = size_at file_size bytes >>= λ size. Ok (Size size.0, size.1)
fresh_content_at Open bytes = Ok (NoContent, bytes)

unfoldable pub content_at : Class → Bool → List ℕ → Read Content
content_at of fresh bytes = if fresh then fresh_content_at of bytes else Ok (NoContent, bytes)

-- inode, class, hold, whether it is fresh, and the content
unfoldable pub grant_item_at : List ℕ → Read GrantItem
grant_item_at bytes =
    inode_at bytes >>= λ ino. class_at ino.1 >>= λ of. byte_field (hold_of of.0) of.1 >>= λ hold.
    byte_field (fresh_of of.0) hold.1 >>= λ fresh. content_at of.0 fresh.0 fresh.1 >>= λ content.
    Ok (record { ino = ino.0; class = of.0; hold = hold.0; fresh = fresh.0; content = content.0 }, content.1)

unfoldable pub grant_items_at : List ℕ → Read (List GrantItem)
grant_items_at bytes = number_at 2 bytes >>= λ count. alike_at grant_item_at count.0 count.1

-- the index of a block from the least one that may come on, below the count of blocks, and the block
abbrev pub index_at : ℕ → ℕ → List ℕ → Read ℕ
index_at blocks least = byte_field (allowed (λ index. nat_le least index && nat_lt index blocks))

unfoldable pub block_at : ℕ → ℕ → List ℕ → Read (ℕ × List ℕ)
block_at blocks least bytes =
    index_at blocks least bytes >>= λ index. take_at block_size index.1 >>= λ block. Ok ((index.0, block.0), block.1)

unfoldable pub blocks_at : ℕ → List ℕ → Read (List (ℕ × List ℕ))
blocks_at blocks bytes = byte_field (up_to unflushed_blocks) bytes >>= λ count. many_at (block_at blocks) (λ block. block.0 + 1) count.0 0 count.1

-- what a flush leaves of a class
abbrev pub kept_at : Class → List ℕ → Read Hold
kept_at of = byte_field (kept_of of)

-- the number, from 1 on, the inode, the size, the cut up to that size, what is left, and the blocks
unfoldable pub flush_at : List ℕ → Read Flush
flush_at bytes =
    call_number_at bytes >>= λ number. inode_at number.1 >>= λ ino. size_at file_size ino.1 >>= λ size. size_at size.0 size.1 >>= λ cut.
    kept_at Data cut.1 >>= λ leave_data. kept_at Attr leave_data.1 >>= λ leave_attr. blocks_at (block_count size.0) leave_attr.1 >>= λ pieces.
    Ok (record { number = number.0; ino = ino.0; size = size.0; cut = cut.0; leave_data = leave_data.0; leave_attr = leave_attr.0; pieces = pieces.0 }, pieces.1)

-- a class and what is kept of it
unfoldable pub kept_item_at : ℕ → ℕ → List ℕ → Read (Class × Hold)
kept_item_at last before bytes =
    byte_field (next_class_of last before) bytes >>= λ of. kept_at of.0 of.1 >>= λ hold. Ok ((of.0, hold.0), hold.1)

-- from one item up to a limit, the classes ascending up to the last one
unfoldable pub kept_items_at : ℕ → ℕ → List ℕ → Read (List (Class × Hold))
kept_items_at limit last bytes =
    byte_field (one_to limit) bytes >>= λ count. many_at (kept_item_at last) (λ item. class_number item.0) count.0 0 count.1

-- one or two classes of Names, Data and Attr, each with the hold that is asked
unfoldable pub revoke_at : List ℕ → Read Revoke
revoke_at bytes = inode_at bytes >>= λ ino. kept_items_at 2 3 ino.1 >>= λ items. Ok (record { ino = ino.0; items = items.0 }, items.1)

-- one to three classes, each with the hold that is left
unfoldable pub release_at : List ℕ → Read Release
release_at bytes = inode_at bytes >>= λ ino. kept_items_at 3 4 ino.1 >>= λ items. Ok (record { ino = ino.0; items = items.0 }, items.1)

-- a hold, the number of the flush that is under way, and what that leaves
unfoldable pub reported_at : List ℕ → Read Reported
reported_at bytes =
    inode_at bytes >>= λ ino. class_at ino.1 >>= λ of. byte_field (held_of of.0) of.1 >>= λ hold.
    number_at 8 hold.1 >>= λ flush. byte_field (left_of of.0 flush.0) flush.1 >>= λ leave.
    Ok (record { token = record { ino = ino.0; class = of.0; hold = hold.0 }; flush = flush.0; leave = leave.0 }, leave.1)

-- up to 32 holds
unfoldable pub piece_at : List ℕ → Read Piece
piece_at bytes =
    number_at 2 bytes >>= λ index. flag_at index.1 >>= λ last. byte_field (up_to holds_per_piece) last.1 >>= λ count.
    alike_at reported_at count.0 count.1 >>= λ holds.
    Ok (record { index = index.0; last = last.0; holds = holds.0 }, holds.1)
