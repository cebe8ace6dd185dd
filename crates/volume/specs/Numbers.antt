-- What a client's slot has of a history. A history stands newest first.
use Rattle.std.specs.Prelude.{◌==◌, ◌+◌, ◌&&◌, ℕ, List, [], ◌∷◌, if◌then◌else◌}
use Rattle.cal_base.specs.declared.identity.ClientId.{ClientId}
use Rattle.tree_law.specs.Change.{is_change}
use Rattle.tree_law.specs.declared.entry.Entry.{Entry}
use Rattle.tree_law.specs.declared.entry.Entry.TheVariants.{Call as Called, Flush, Purge}
use Rattle.tree_law.specs.declared.reply.Reply.{Reply}
use Rattle.tree_law.specs.declared.reply.Reply.TheVariants.{Done}

-- the number and the reply of a change, with 0 and `ok` for none
pub record Change : Type 0 where
  pub number : ℕ
  pub reply : Reply

abbrev pub no_change : Change
no_change = record { number = 0; reply = Done }

-- the last change of a client
abbrev pub last_change : ClientId → List Entry → Change
last_change client [] = no_change
last_change client (Called other number call reply new ∷ earlier) = if (other.0 == client.0) && is_change call then record { number = number; reply = reply } else last_change client earlier
last_change client (Flush other ino ∷ earlier) = last_change client earlier
last_change client (Purge other ∷ earlier) = last_change client earlier

-- how many flushes of a client there were
abbrev pub flush_count : ClientId → List Entry → ℕ
flush_count client [] = 0
flush_count client (Called other number call reply new ∷ earlier) = flush_count client earlier
flush_count client (Flush other ino ∷ earlier) = if other.0 == client.0 then flush_count client earlier + 1 else flush_count client earlier
flush_count client (Purge other ∷ earlier) = flush_count client earlier
