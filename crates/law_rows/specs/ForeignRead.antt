-- A client writes to a file, and another reads what it wrote.
use Rattle.std.specs.Prelude.{◌++◌, ℕ, true, List, [], ◌∷◌, Some, None, replicate}
use Rattle.cal_base.specs.declared.directory_entry.DirectoryEntry.{DirectoryEntry}
use Rattle.cal_base.specs.declared.directory_entry.EntryKind.TheVariants.{File as IsFile}
use Rattle.cal_base.specs.declared.identity.ClientId.{ClientId}
use Rattle.cal_base.specs.declared.identity.NodeId.TheVariants.{Client, Server}
use Rattle.cal_base.specs.declared.identity.ServerId.TheVariants.{A}
use Rattle.journal.specs.Commit.{commit_writes}
use Rattle.message.specs.declared.message.Message.{Message}
use Rattle.message.specs.declared.message.Message.TheVariants.{Acquire, Flush, Flushed, Grant, Revoke}
use Rattle.shared_disk.specs.Sectors.{written}
use Rattle.token_kind.specs.declared.block.Block.{Block}
use Rattle.token_kind.specs.declared.«class».Class.TheVariants.{Names, Data, Attr, Open}
use Rattle.token_kind.specs.declared.content.Content.TheVariants.{Nothing, Names as Entries, Bytes, Size}
use Rattle.token_kind.specs.declared.flush.Flush.{Flush as FlushRecord}
use Rattle.token_kind.specs.declared.grant_item.GrantItem.{GrantItem}
use Rattle.token_kind.specs.declared.hold.Hold.{Hold}
use Rattle.token_kind.specs.declared.hold.Hold.TheVariants.{Read, Write}
use Rattle.tree_law.specs.Tree.{root}
use Rattle.tree_law.specs.declared.call.Call.{Call}
use Rattle.tree_law.specs.declared.call.Call.TheVariants.{Open as OpenCall, Read as ReadCall, Write as WriteCall}
use Rattle.tree_law.specs.declared.entry.Entry.{Entry}
use Rattle.tree_law.specs.declared.entry.Entry.TheVariants.{Call as Called, Flush as FlushedEntry}
use Rattle.tree_law.specs.declared.mode.Mode.TheVariants.{R, Rw}
use Rattle.tree_law.specs.declared.reply.Reply.{Reply}
use Rattle.tree_law.specs.declared.reply.Reply.TheVariants.{Done as Made, Fd, Count, Bytes as Told}
use Rattle.tree_law.specs.declared.request.Want.TheVariants.{Open as OpenWant, Read as ReadWant, Write as WriteWant}
use Rattle.volume.specs.Volume.{Volume}
use Rattle.volume_edit.specs.Edit.{edited}
use Rattle.volume_edit.specs.declared.edit.Edit.{Edit}
use Rattle.volume_plan.specs.Flushing.{flush_of}
use Rattle.cluster_law.specs.declared.step.Event.TheVariants.{Start}
use Rattle.cluster_law.specs.Lanes.{Commit, Commits, Down, Flushes, Lane, Tells, Up, Way}
use Rattle.cluster_law.specs.Noted.{DiskAt, Noted}
use Rattle.law_rows.specs.CreateFile as creating
use Rattle.law_rows.specs.Formatted.{Sectors, first_disk, formatted}
use Rattle.law_rows.specs.Packets.{acknowledging, carrying, delivers, noted, quiet_step}

abbrev pub lane : ℕ → Way → Lane
lane client way = record { client = client; view = 1; way = way }

abbrev pub writer : ClientId
writer = record { 0 = 0 }

abbrev pub reader : ClientId
reader = record { 0 = 1 }

-- bytes of the sectors that spell what the two commits alter; a slot's first byte says that it isn't purged
pub record Homes : Type 0 where
  pub map : List ℕ
  pub slot : List ℕ
  pub root : List ℕ
  pub file : List ℕ
  pub names : List ℕ
  pub map_flushed : List ℕ
  pub slot_flushed : List ℕ
  pub file_flushed : List ℕ

abbrev pub created_homes : Homes → List (ℕ × List ℕ)
created_homes h = (19, h.map) ∷ (20, 0 ∷ h.slot) ∷ (36, h.root) ∷ (37, h.file) ∷ (548, h.names) ∷ []

abbrev pub flushed_homes : Homes → List (ℕ × List ℕ)
flushed_homes h = (19, h.map_flushed) ∷ (20, 0 ∷ h.slot_flushed) ∷ (37, h.file_flushed) ∷ []

-- the two bytes that are written, and the block that they are flushed in
abbrev pub hi : List ℕ
hi = 104 ∷ 105 ∷ []

abbrev pub piece : List ℕ
piece = hi ++ replicate 4094 0

abbrev pub flush : FlushRecord
flush = record { number = 1; ino = creating.made; size = 2; cut = 0; leave_data = Read; leave_attr = Read; pieces = (0, piece) ∷ [] }

-- the volume with the file, and what the flush alters of it
abbrev pub with_file : Volume
with_file = edited (formatted 2) creating.creation

abbrev pub flushing : Edit
flushing = flush_of with_file writer flush

-- the disk with the file, and with its bytes
abbrev pub lays : List (ℕ × List ℕ)
lays = (549, piece) ∷ []

abbrev pub disk_created : Sectors → Homes → DiskAt
disk_created s h = record { sectors = written (first_disk s).sectors (commit_writes (created_homes h)); key = 1; faults = 0 }

abbrev pub disk_flushed : Sectors → Homes → DiskAt
disk_flushed s h = record { sectors = written (disk_created s h).sectors (lays ++ commit_writes (flushed_homes h)); key = 1; faults = 0 }

-- the calls
abbrev pub open_to_write : Call
open_to_write = OpenCall (creating.a ∷ []) Rw

abbrev pub write : Call
write = WriteCall 0 0 hi

abbrev pub open_to_read : Call
open_to_read = OpenCall (creating.a ∷ []) R

abbrev pub read : Call
read = ReadCall 0 0 9

-- what is granted: the names of the root, with the file; and of the file that it is open, its bytes and its size
abbrev pub listed : DirectoryEntry
listed = record { name = creating.a; ino = creating.made; kind = IsFile }

abbrev pub names_item : GrantItem
names_item = record { ino = root; «class» = Names; hold = Read; fresh = true; content = Entries (listed ∷ []) }

abbrev pub open_item : GrantItem
open_item = record { ino = creating.made; «class» = Open; hold = Read; fresh = true; content = Nothing }

abbrev pub bytes_item : Hold → List ℕ → GrantItem
bytes_item hold bytes = record { ino = creating.made; «class» = Data; hold = hold; fresh = true; content = Bytes bytes }

abbrev pub size_item : Hold → ℕ → GrantItem
size_item hold size = record { ino = creating.made; «class» = Attr; hold = hold; fresh = true; content = Size size }

-- the messages
abbrev pub asks_open : ℕ → Message
asks_open number = Acquire number (OpenWant (creating.a ∷ []))

abbrev pub grants_open : ℕ → Message
grants_open number = Grant number (names_item ∷ open_item ∷ [])

abbrev pub asks_write : Message
asks_write = Acquire 3 (WriteWant creating.made)

abbrev pub grants_write : Message
grants_write = Grant 3 (bytes_item Write [] ∷ size_item Write 0 ∷ [])

abbrev pub asks_read : Message
asks_read = Acquire 2 (ReadWant creating.made)

abbrev pub revokes_write : Message
revokes_write = Revoke (record { ino = creating.made; items = (Data, Read) ∷ (Attr, Read) ∷ [] })

abbrev pub grants_read : Message
grants_read = Grant 2 (bytes_item Read hi ∷ size_item Read 2 ∷ [])

-- entries, and the second commit
abbrev pub own : ClientId → ℕ → Call → Reply → Entry
own client number call reply = Called client number call reply None

abbrev pub flush_commit : Homes → Commit
flush_commit h = record { deed = Flushes 0 flush; lays = lays; edit = flushing; homes = flushed_homes h }

-- the steps. The writer creates the file
abbrev pub starts_create : Sectors → Homes → Noted
starts_create s h = noted (quiet_step (Client writer) (Start writer creating.create) (carrying (lane 0 Up) 1 0 creating.asked ∷ []) None []) (Tells (lane 0 Up) creating.asked ∷ []) (first_disk s)

abbrev pub commits_create : Sectors → Homes → Noted
commits_create s h = noted (record (quiet_step (Server A) (delivers 0) (carrying (lane 0 Down) 1 1 creating.told ∷ []) None (creating.entry ∷ [])) { writes = commit_writes (created_homes h) }) (Tells (lane 0 Down) creating.told ∷ Commits (creating.commit (created_homes h)) ∷ []) (disk_created s h)

abbrev pub answers_create : Sectors → Homes → Noted
answers_create s h = noted (quiet_step (Client writer) (delivers 1) (acknowledging (lane 0 Up) 1 ∷ []) (Some (record { number = 1; reply = Made })) []) [] (disk_created s h)

-- the server hears that its message was taken
abbrev pub hears_create : Sectors → Homes → Noted
hears_create s h = noted (quiet_step (Server A) (delivers 2) [] None []) [] (disk_created s h)

-- the writer opens the file
abbrev pub starts_open : Sectors → Homes → Noted
starts_open s h = noted (quiet_step (Client writer) (Start writer open_to_write) (carrying (lane 0 Up) 2 1 (asks_open 2) ∷ []) None []) (Tells (lane 0 Up) (asks_open 2) ∷ []) (disk_created s h)

abbrev pub grants_to_open : Sectors → Homes → Noted
grants_to_open s h = noted (quiet_step (Server A) (delivers 3) (carrying (lane 0 Down) 2 2 (grants_open 2) ∷ []) None []) (Tells (lane 0 Down) (grants_open 2) ∷ []) (disk_created s h)

abbrev pub answers_open : Sectors → Homes → Noted
answers_open s h = noted (quiet_step (Client writer) (delivers 4) (acknowledging (lane 0 Up) 2 ∷ []) (Some (record { number = 2; reply = Fd 0 })) (own writer 2 open_to_write (Fd 0) ∷ [])) [] (disk_created s h)

abbrev pub hears_open : Sectors → Homes → Noted
hears_open s h = noted (quiet_step (Server A) (delivers 5) [] None []) [] (disk_created s h)

-- the writer writes
abbrev pub starts_write : Sectors → Homes → Noted
starts_write s h = noted (quiet_step (Client writer) (Start writer write) (carrying (lane 0 Up) 3 2 asks_write ∷ []) None []) (Tells (lane 0 Up) asks_write ∷ []) (disk_created s h)

abbrev pub grants_to_write : Sectors → Homes → Noted
grants_to_write s h = noted (quiet_step (Server A) (delivers 6) (carrying (lane 0 Down) 3 3 grants_write ∷ []) None []) (Tells (lane 0 Down) grants_write ∷ []) (disk_created s h)

abbrev pub answers_write : Sectors → Homes → Noted
answers_write s h = noted (quiet_step (Client writer) (delivers 7) (acknowledging (lane 0 Up) 3 ∷ []) (Some (record { number = 3; reply = Count 2 })) (own writer 3 write (Count 2) ∷ [])) [] (disk_created s h)

abbrev pub hears_write : Sectors → Homes → Noted
hears_write s h = noted (quiet_step (Server A) (delivers 8) [] None []) [] (disk_created s h)

-- the reader opens the file
abbrev pub reader_starts_open : Sectors → Homes → Noted
reader_starts_open s h = noted (quiet_step (Client reader) (Start reader open_to_read) (carrying (lane 1 Up) 1 0 (asks_open 1) ∷ []) None []) (Tells (lane 1 Up) (asks_open 1) ∷ []) (disk_created s h)

abbrev pub grants_reader_to_open : Sectors → Homes → Noted
grants_reader_to_open s h = noted (quiet_step (Server A) (delivers 9) (carrying (lane 1 Down) 1 1 (grants_open 1) ∷ []) None []) (Tells (lane 1 Down) (grants_open 1) ∷ []) (disk_created s h)

abbrev pub reader_answers_open : Sectors → Homes → Noted
reader_answers_open s h = noted (quiet_step (Client reader) (delivers 10) (acknowledging (lane 1 Up) 1 ∷ []) (Some (record { number = 1; reply = Fd 0 })) (own reader 1 open_to_read (Fd 0) ∷ [])) [] (disk_created s h)

abbrev pub hears_reader_open : Sectors → Homes → Noted
hears_reader_open s h = noted (quiet_step (Server A) (delivers 11) [] None []) [] (disk_created s h)

-- it asks for the bytes, which the writer is asked to give up, and then flushes
abbrev pub reader_starts_read : Sectors → Homes → Noted
reader_starts_read s h = noted (quiet_step (Client reader) (Start reader read) (carrying (lane 1 Up) 2 1 asks_read ∷ []) None []) (Tells (lane 1 Up) asks_read ∷ []) (disk_created s h)

abbrev pub blocked : Block
blocked = record { client = reader; number = 2; holder = writer; ino = creating.made; «class» = Data }

abbrev pub asks_back : Sectors → Homes → Noted
asks_back s h = noted (record (quiet_step (Server A) (delivers 12) (carrying (lane 0 Down) 4 3 revokes_write ∷ acknowledging (lane 1 Down) 2 ∷ []) None []) { head = Some blocked }) (Tells (lane 0 Down) revokes_write ∷ []) (disk_created s h)

abbrev pub flushes_bytes : Sectors → Homes → Noted
flushes_bytes s h = noted (quiet_step (Client writer) (delivers 13) (carrying (lane 0 Up) 4 4 (Flush flush) ∷ []) None []) (Tells (lane 0 Up) (Flush flush) ∷ []) (disk_created s h)

-- the reader hears that its request was taken
abbrev pub reader_hears : Sectors → Homes → Noted
reader_hears s h = noted (quiet_step (Client reader) (delivers 14) [] None []) [] (disk_created s h)

-- the flush is committed, and the bytes are granted to the reader
abbrev pub commits_flush : Sectors → Homes → Noted
commits_flush s h = noted (record (quiet_step (Server A) (delivers 15) (carrying (lane 0 Down) 5 4 (Flushed 1) ∷ carrying (lane 1 Down) 2 2 grants_read ∷ []) None (FlushedEntry writer creating.made ∷ [])) { writes = lays ++ commit_writes (flushed_homes h) })
    (Tells (lane 1 Down) grants_read ∷ Tells (lane 0 Down) (Flushed 1) ∷ Commits (flush_commit h) ∷ []) (disk_flushed s h)

abbrev pub hears_flushed : Sectors → Homes → Noted
hears_flushed s h = noted (quiet_step (Client writer) (delivers 16) (acknowledging (lane 0 Up) 5 ∷ []) None []) [] (disk_flushed s h)

abbrev pub reader_answers_read : Sectors → Homes → Noted
reader_answers_read s h = noted (quiet_step (Client reader) (delivers 17) (acknowledging (lane 1 Up) 2 ∷ []) (Some (record { number = 2; reply = Told hi })) (own reader 2 read (Told hi) ∷ [])) [] (disk_flushed s h)

abbrev pub hears_flush : Sectors → Homes → Noted
hears_flush s h = noted (quiet_step (Server A) (delivers 18) [] None []) [] (disk_flushed s h)

abbrev pub hears_reader_read : Sectors → Homes → Noted
hears_reader_read s h = noted (quiet_step (Server A) (delivers 19) [] None []) [] (disk_flushed s h)

-- all of it, newest first
abbrev pub foreign_read : Sectors → Homes → List Noted
foreign_read s h =
    hears_reader_read s h ∷ hears_flush s h ∷ reader_answers_read s h ∷ hears_flushed s h ∷ commits_flush s h ∷ reader_hears s h ∷ flushes_bytes s h ∷ asks_back s h ∷ reader_starts_read s h ∷ hears_reader_open s h ∷ reader_answers_open s h ∷ grants_reader_to_open s h ∷ reader_starts_open s h
    ∷ hears_write s h ∷ answers_write s h ∷ grants_to_write s h ∷ starts_write s h ∷ hears_open s h ∷ answers_open s h ∷ grants_to_open s h ∷ starts_open s h ∷ hears_create s h ∷ answers_create s h ∷ commits_create s h ∷ starts_create s h ∷ []
