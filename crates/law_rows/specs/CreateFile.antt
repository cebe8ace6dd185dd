-- A client creates a file.
use Rattle.std.specs.Prelude.{ℕ, false, List, [], ◌∷◌, Some, None}
use Rattle.cal_base.specs.declared.identity.ClientId.{ClientId}
use Rattle.cal_base.specs.declared.identity.Ino.{Ino}
use Rattle.cal_base.specs.declared.identity.NodeId.TheVariants.{Server}
use Rattle.cal_base.specs.declared.identity.ServerId.TheVariants.{A}
use Rattle.inode.specs.declared.inode.Kind.TheVariants.{File}
use Rattle.journal.specs.Commit.{commit_writes}
use Rattle.message.specs.declared.message.Message.{Message}
use Rattle.message.specs.declared.message.Message.TheVariants.{Change, Done}
use Rattle.shared_disk.specs.Sectors.{written}
use Rattle.tree_law.specs.Tree.{root}
use Rattle.tree_law.specs.declared.call.Call.{Call}
use Rattle.tree_law.specs.declared.call.Call.TheVariants.{Create}
use Rattle.tree_law.specs.declared.entry.Entry.{Entry}
use Rattle.tree_law.specs.declared.entry.Entry.TheVariants.{Call as Called}
use Rattle.tree_law.specs.declared.reply.Reply.TheVariants.{Done as Made}
use Rattle.tree_law.specs.declared.request.Asked.TheVariants.{Change as Alters}
use Rattle.tree_law.specs.declared.request.Request.{Request}
use Rattle.volume_edit.specs.declared.edit.Edit.{Edit}
use Rattle.volume_plan.specs.Plans.{new_inode}
use Rattle.cluster_law.specs.declared.step.Event.TheVariants.{Start}
use Rattle.cluster_law.specs.Lanes.{Changes, Commit, Commits, Tells}
use Rattle.cluster_law.specs.Noted.{DiskAt, Noted}
use Rattle.law_rows.specs.Formatted.{Sectors, first_disk}
use Rattle.law_rows.specs.Packets.{acknowledging, carrying, client, delivers, down, noted, quiet_step, up}

abbrev pub first : ClientId
first = record { 0 = 0 }

-- the file `a`, in the root
abbrev pub a : List ℕ
a = 97 ∷ []

abbrev pub made : Ino
made = record { 0 = 1 }

abbrev pub create : Call
create = Create (a ∷ [])

-- what the change alters: the client's slot, the inode of the file, and the root, which gets a block and in it
-- the entry
abbrev pub creation : Edit
creation = record {
  slot = Some (record { client = first; slot = record { purged = false; call = 1; flush = 0; reply = Made } });
  inode = Some (record { ino = made; inode = new_inode File });
  growth = Some (record { directory = root; block = 0 });
  leaving = None;
  entering = Some (record { directory = root; place = 0; entry = record { name = a; ino = made } });
}

abbrev pub create_request : Request
create_request = record { client = first; number = 1; asked = Alters create }

abbrev pub entry : Entry
entry = Called first 1 create Made (Some made)

-- the commit, with the sectors that spell what it alters
abbrev pub commit : List (ℕ × List ℕ) → Commit
commit homes = record { deed = Changes create_request Made (Some made); lays = []; edit = creation; homes = homes }

abbrev pub asked : Message
asked = Change 1 create

abbrev pub told : Message
told = Done 1 Made

abbrev pub disk_after : Sectors → List (ℕ × List ℕ) → DiskAt
disk_after s homes = record { sectors = written (first_disk s).sectors (commit_writes homes); key = 1; faults = 0 }

abbrev pub starts : Sectors → Noted
starts s = noted (quiet_step client (Start first create) (carrying up 1 0 asked ∷ []) None []) (Tells up asked ∷ []) (first_disk s)

abbrev pub commits : Sectors → List (ℕ × List ℕ) → Noted
commits s homes = noted (record (quiet_step (Server A) (delivers 0) (carrying down 1 1 told ∷ []) None (entry ∷ [])) { writes = commit_writes homes }) (Tells down told ∷ Commits (commit homes) ∷ []) (disk_after s homes)

abbrev pub answers : Sectors → List (ℕ × List ℕ) → Noted
answers s homes = noted (quiet_step client (delivers 1) (acknowledging up 1 ∷ []) (Some (record { number = 1; reply = Made })) []) [] (disk_after s homes)

abbrev pub create_file : Sectors → List (ℕ × List ℕ) → List Noted
create_file s homes = answers s homes ∷ commits s homes ∷ starts s ∷ []
