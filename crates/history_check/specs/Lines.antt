-- What the lines of a text tell of one call. Lines stand newest first.
use Rattle.std.specs.Prelude.{◌==◌, ◌&&◌, ℕ, Bool, true, false, List, [], ◌∷◌, Option, Some, None, if◌then◌else◌}
use Rattle.std.specs.List.{filter}
use Rattle.cal_base.specs.declared.identity.ClientId.{ClientId}
use Rattle.tree_law.specs.declared.call.Call.{Call}
use Rattle.tree_law.specs.declared.entry.Entry.{Entry}
use Rattle.tree_law.specs.declared.entry.Entry.TheVariants.{Call as Called, Flush, Purge}
use Rattle.history_check.specs.declared.told.Told.{Told}
use Rattle.history_check.specs.declared.told.Told.TheVariants.{Answers, Enters, Flushes, Purges, Starts}

-- the number of a client's last start; 0 where it made none
abbrev pub last_number : ClientId → List Told → ℕ
last_number client [] = 0
last_number client (Starts other number call ∷ earlier) = if other.0 == client.0 then number else last_number client earlier
last_number client (Enters other number new reply ∷ earlier) = last_number client earlier
last_number client (Flushes other ino ∷ earlier) = last_number client earlier
last_number client (Purges other ∷ earlier) = last_number client earlier
last_number client (Answers other number reply ∷ earlier) = last_number client earlier

-- whether a line tells of this call of this client
abbrev pub is_of : ClientId → ℕ → Told → Bool
is_of client number (Starts other its call) = (other.0 == client.0) && (its == number)
is_of client number (Enters other its new reply) = (other.0 == client.0) && (its == number)
is_of client number (Flushes other ino) = false
is_of client number (Purges other) = false
is_of client number (Answers other its reply) = (other.0 == client.0) && (its == number)

-- the lines that tell of a call
abbrev pub lines_of : ClientId → ℕ → List Told → List Told
lines_of client number lines = filter (is_of client number) lines

-- of the lines of a call: as what it was started
abbrev pub started : List Told → Option Call
started [] = None
started (Starts client number call ∷ earlier) = Some call
started (Enters client number new reply ∷ earlier) = started earlier
started (Flushes client ino ∷ earlier) = started earlier
started (Purges client ∷ earlier) = started earlier
started (Answers client number reply ∷ earlier) = started earlier

-- the reply, as it is written, of its entry
abbrev pub entered : List Told → Option (List ℕ)
entered [] = None
entered (Starts client number call ∷ earlier) = entered earlier
entered (Enters client number new reply ∷ earlier) = Some reply
entered (Flushes client ino ∷ earlier) = entered earlier
entered (Purges client ∷ earlier) = entered earlier
entered (Answers client number reply ∷ earlier) = entered earlier

-- whether it was answered
abbrev pub answered : List Told → Bool
answered [] = false
answered (Starts client number call ∷ earlier) = answered earlier
answered (Enters client number new reply ∷ earlier) = answered earlier
answered (Flushes client ino ∷ earlier) = answered earlier
answered (Purges client ∷ earlier) = answered earlier
answered (Answers client number reply ∷ earlier) = true

-- whether an entry of a history is of this call
abbrev pub is_entry_of : ClientId → ℕ → Entry → Bool
is_entry_of client number (Called other its call reply new) = (other.0 == client.0) && (its == number)
is_entry_of client number (Flush other ino) = false
is_entry_of client number (Purge other) = false

-- the entries of a call
abbrev pub entries_of : ClientId → ℕ → List Entry → List Entry
entries_of client number history = filter (is_entry_of client number) history
