-- The slot of a client: what a volume knows of its requests, and the sector that spells it.
use Rattle.std.specs.Prelude.{◌≡◌, ◌==◌, ◌<◌, ◌^◌, ◌++◌, ◌∷◌, [], ℕ, List, length, if◌then◌else◌}
use Rattle.cal_base.specs.Limits.{block_size}
use Rattle.cal_fields.specs.BigEndian.{big_endian}
use Rattle.cal_fields.specs.Flag.{bool_byte}
use Rattle.cal_fields.specs.Padded.{padded}
use Rattle.tree_law.specs.declared.reply.Reply.{Reply}
use Rattle.tree_law.specs.declared.reply.Reply.TheVariants.{Done}
use Rattle.change_reply.specs.ReplyBytes.{IsChangeReply, reply_bytes}
use Rattle.request_log.specs.declared.slot.Slot.{Slot}

-- a reply as it stands in a slot: behind number 0 no reply stands, and none has bytes
abbrev pub kept_bytes : ℕ → Reply → List ℕ
kept_bytes call reply = if call == 0 then [] else reply_bytes reply

-- whether it was purged, the number of the last change, that of the last flush, and the length of the reply
abbrev pub head_bytes : ℕ → ℕ → ℕ → ℕ → List ℕ
head_bytes purged call flush size = ((purged ∷ big_endian 8 call) ++ big_endian 8 flush) ++ big_endian 2 size

-- bytes of what stands before the reply
abbrev pub head_size : ℕ
head_size = 19

-- the fields of a slot
abbrev pub slot_fields : Slot → List ℕ
slot_fields s = head_bytes (bool_byte s.purged) s.call s.flush (length (kept_bytes s.call s.reply)) ++ kept_bytes s.call s.reply

-- a reply that a slot may keep: that of a change, and where no change was made the one that says nothing
pub record IsKept (call : ℕ) (reply : Reply) : Type 0 where
  pub change : IsChangeReply reply
  pub none : call ≡ 0 → reply ≡ Done

-- what a slot may be
pub record IsSlot (s : Slot) : Type 0 where
  pub call : s.call < 2 ^ 64
  pub flush : s.flush < 2 ^ 64
  pub reply : IsKept s.call s.reply

-- A sector spells a slot: its fields, and zeros behind them.
pub record SpellsSlot (sector : List ℕ) (s : Slot) : Type 0 where
  pub slot : IsSlot s
  pub whole : sector ≡ padded block_size (slot_fields s)
