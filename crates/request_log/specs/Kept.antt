-- The reply behind the numbers of a slot.
use Rattle.std.specs.Prelude.{◌≡◌, ℕ, List, length}
use Rattle.cal_fields.specs.Padded.{padded}
use Rattle.tree_law.specs.declared.reply.Reply.{Reply}
use Rattle.change_reply.specs.ReplyBytes.{IsChangeReply, reply_bytes}
use Rattle.request_log.specs.Slot.{IsKept, kept_bytes}

-- a change's reply of a stated length, and zeros behind it
pub record IsLast (size : ℕ) (behind : List ℕ) (reply : Reply) : Type 0 where
  pub change : IsChangeReply reply
  pub long : size ≡ length (reply_bytes reply)
  pub whole : behind ≡ padded (length behind) (reply_bytes reply)

-- the reply that a slot with a number and a stated length keeps, and zeros behind it
pub record StandsBehind (call size : ℕ) (behind : List ℕ) (reply : Reply) : Type 0 where
  pub kept : IsKept call reply
  pub long : size ≡ length (kept_bytes call reply)
  pub whole : behind ≡ padded (length behind) (kept_bytes call reply)
