-- The plan of a change, a purge and the reaping of an orphan: what each alters of a volume.
use Rattle.std.specs.Prelude.{◌==◌, ◌&&◌, ◌||◌, ℕ, Bool, true, false, List, [], ◌∷◌, length, replicate, slice_index_or, count_by, Option, Some, None, Result, Ok, Err, is_none, is_some, nat_lt, option_map, if◌then◌else◌}
use Rattle.cal_base.specs.Limits as limits
use Rattle.std.specs.List.{position, list_any}
use Rattle.std.specs.Cmp.Lexicographic.{pointwise}
use Rattle.std.specs.Prelude.{nat_eq}
use Rattle.cal_base.specs.declared.identity.ClientId.{ClientId}
use Rattle.cal_base.specs.declared.identity.Ino.{Ino}
use Rattle.directory.specs.Directory.{first_empty}
use Rattle.directory.specs.declared.entry.DirEntry.{DirEntry}
use Rattle.inode.specs.declared.inode.Inode.{Inode}
use Rattle.inode.specs.declared.inode.Kind.{Kind}
use Rattle.inode.specs.declared.inode.Kind.TheVariants.{Free, File, Dir}
use Rattle.tree_law.specs.Needs.{Touch, touches}
use Rattle.tree_law.specs.Rename.{move_of}
use Rattle.tree_law.specs.Resolve.{file_named, last_of, new_place, parent_of, removable}
use Rattle.tree_law.specs.Tree.{node_at}
use Rattle.tree_law.specs.declared.call.Call.{Call}
use Rattle.tree_law.specs.declared.call.Call.TheVariants.{Create, Mkdir, Unlink, Rmdir, Rename}
use Rattle.tree_law.specs.declared.rename.Move.{Move}
use Rattle.tree_law.specs.declared.reply.Reply.{Reply}
use Rattle.tree_law.specs.declared.reply.Reply.TheVariants.{Done, Refused}
use Rattle.tree_law.specs.declared.reply.Why.{Why}
use Rattle.tree_law.specs.declared.reply.Why.TheVariants.{NoEnt, NoInode, NoSpace}
use Rattle.volume_edit.specs.Edit.{free_inode, inode_at, slot_at, with_left}
use Rattle.volume_plan.specs.Shown.{shown}
use Rattle.volume.specs.Volume.{Slots, Volume, slots_of}
use Rattle.volume_edit.specs.declared.edit.Edit.{Edit}
use Rattle.volume_edit.specs.declared.edit.Growth.{Growth}
use Rattle.volume_edit.specs.declared.edit.InodeEdit.{InodeEdit}
use Rattle.volume_edit.specs.declared.edit.Leaving.{Leaving}
use Rattle.volume_edit.specs.declared.edit.SlotEdit.{SlotEdit}

-- what a change alters, its reply, the inode that it makes, what it touches, and how many blocks it needs
pub record Plan : Type 0 where
  pub edit : Edit
  pub reply : Reply
  pub new_ino : Option Ino
  pub touches : List Touch
  pub needed : ℕ

-- an inode of a file or a directory that is just made; a file that lost its last name
abbrev pub new_inode : Kind → Inode
new_inode kind = record { kind = kind; named = true; size = 0; blocks = replicate limits.file_blocks 0 }

abbrev pub orphan : Inode → Inode
orphan inode = record { kind = inode.kind; named = false; size = inode.size; blocks = inode.blocks }

abbrev pub is_free : Kind → Bool
is_free Free = true
is_free File = false
is_free Dir = false

-- the count of free blocks; the least free block, and the least free inode
abbrev pub free_count : Volume → ℕ
free_count v = count_by (λ free. free) v.free

abbrev pub least_block : Volume → Option ℕ
least_block v = position (λ free. free) v.free

abbrev pub least_inode : Volume → Option ℕ
least_inode v = position (λ inode. is_free inode.kind) v.inodes

-- the slot of a client with the number and the reply of a change
abbrev pub answered : Volume → ClientId → ℕ → Reply → SlotEdit
answered v client number reply = record {
  client = client;
  slot = record { purged = (slot_at v.slots client.0).purged; call = number; flush = (slot_at v.slots client.0).flush; reply = reply };
}

-- the slot alone is altered
abbrev pub slot_alone : SlotEdit → Edit
slot_alone slot = record { slot = Some slot; inode = None; growth = None; leaving = None; entering = None }

-- a change that alters no entry: refused by the tree or for want of an inode, or a move of an entry to itself
abbrev pub standing : Volume → ClientId → ℕ → Reply → Plan
standing v client number reply = record { edit = slot_alone (answered v client number reply); reply = reply; new_ino = None; touches = []; needed = 0 }

-- a change for which blocks are wanting: it touches what it would touch
abbrev pub short : Volume → ClientId → ℕ → List Touch → ℕ → Plan
short v client number touched needed = record {
  edit = slot_alone (answered v client number (Refused (NoSpace (free_count v) needed)));
  reply = Refused (NoSpace (free_count v) needed);
  new_ino = None;
  touches = touched;
  needed = needed;
}

-- the plan, if there are as many free blocks as it needs
abbrev pub if_room : Volume → ClientId → ℕ → Plan → Plan
if_room v client number plan = if nat_lt (free_count v) plan.needed then short v client number plan.touches plan.needed else plan

-- the next entry adds a block: no slot is empty, and there are fewer than 1,024
abbrev pub grows : Slots → Bool
grows slots = (first_empty slots == length slots) && nat_lt (length slots) limits.directory_entries

abbrev pub blocks_needed : Slots → ℕ
blocks_needed slots = if grows slots then 1 else 0

abbrev pub growth_by : Ino → Option ℕ → Option Growth
growth_by directory (Some block) = Some (record { directory = directory; block = block })
growth_by directory None = None

abbrev pub growth_of : Volume → Ino → Slots → Option Growth
growth_of v directory slots = if grows slots then growth_by directory (least_block v) else None

-- the place of a name in a directory's slots
abbrev pub is_entry_of : List ℕ → Option DirEntry → Bool
is_entry_of name (Some e) = pointwise nat_eq e.name name
is_entry_of name None = false

abbrev pub place_or : Option ℕ → ℕ
place_or (Some place) = place
place_or None = 0

abbrev pub place_of : Slots → List ℕ → ℕ
place_of slots name = place_or (position (is_entry_of name) slots)

abbrev pub leaving_of : Volume → Ino → List ℕ → Leaving
leaving_of v directory name = record { directory = directory; place = place_of (slots_of v directory.0) name }

-- what becomes of an inode that loses its last name: a file that is open is left as an orphan
abbrev pub is_opened : List Ino → Ino → Bool
is_opened opened ino = list_any (λ (other : Ino). other.0 == ino.0) opened

abbrev pub nameless : Kind → Inode → Bool → Inode
nameless File inode true = orphan inode
nameless File inode false = free_inode
nameless Dir inode opened = free_inode
nameless Free inode opened = free_inode

abbrev pub inode_gone : Volume → List Ino → Ino → InodeEdit
inode_gone v opened ino = record { ino = ino; inode = nameless (inode_at v.inodes ino.0).kind (inode_at v.inodes ino.0) (is_opened opened ino) }

-- `create`, `mkdir`: an entry in the first empty slot, for the least free inode
abbrev pub making : Volume → ClientId → ℕ → Ino → List ℕ → Kind → Ino → Plan
making v client number place name kind ino = record {
  edit = record {
    slot = Some (answered v client number Done);
    inode = Some (record { ino = ino; inode = new_inode kind });
    growth = growth_of v place (slots_of v place.0);
    leaving = None;
    entering = Some (record { directory = place; place = first_empty (slots_of v place.0); entry = record { name = name; ino = ino } });
  };
  reply = Done;
  new_ino = Some ino;
  touches = (place, 1) ∷ [];
  needed = blocks_needed (slots_of v place.0);
}

abbrev pub making_if : Volume → ClientId → ℕ → Ino → List ℕ → Kind → Option ℕ → Plan
making_if v client number place name kind None = standing v client number (Refused NoInode)
making_if v client number place name kind (Some ino) = if_room v client number (making v client number place name kind (record { 0 = ino }))

abbrev pub making_at : Volume → ClientId → ℕ → Result Ino Why → List ℕ → Kind → Plan
making_at v client number (Ok place) name kind = making_if v client number place name kind (least_inode v)
making_at v client number (Err why) name kind = standing v client number (Refused why)

-- `unlink`, `rmdir`: an entry goes, and what it named
abbrev pub removing : Volume → ClientId → ℕ → List Ino → List Touch → Ino → Ino → List ℕ → Plan
removing v client number opened touched place ino name = record {
  edit = record {
    slot = Some (answered v client number Done);
    inode = Some (inode_gone v opened ino);
    growth = None;
    leaving = Some (leaving_of v place name);
    entering = None;
  };
  reply = Done;
  new_ino = None;
  touches = touched;
  needed = 0;
}

abbrev pub removing_at : Volume → ClientId → ℕ → List Ino → List Touch → Result Ino Why → Result Ino Why → List ℕ → Plan
removing_at v client number opened touched (Ok place) (Ok ino) name = removing v client number opened touched place ino name
removing_at v client number opened touched (Err why) (Ok ino) name = standing v client number (Refused why)
removing_at v client number opened touched place (Err why) name = standing v client number (Refused why)

-- `rename`: the old entry goes first; the new one stands in the slot of the name that it replaces, or in
-- the first empty one
abbrev pub slots_without : Volume → Move → List ℕ → Slots
slots_without v move name = slice_index_or (with_left v.directories (Some (leaving_of v move.from name))) move.to.0 []

abbrev pub place_entered : Volume → Move → List ℕ → List ℕ → ℕ
place_entered v move name goal = if is_none move.replaced then first_empty (slots_without v move name) else place_of (slots_of v move.to.0) goal

abbrev pub growth_moved : Volume → Move → List ℕ → Option Growth
growth_moved v move name = if is_none move.replaced then growth_of v move.to (slots_without v move name) else None

abbrev pub needed_moved : Volume → Move → List ℕ → ℕ
needed_moved v move name = if is_none move.replaced then blocks_needed (slots_without v move name) else 0

abbrev pub moving : Volume → ClientId → ℕ → List Ino → List Touch → Move → List ℕ → List ℕ → Plan
moving v client number opened touched move name goal = record {
  edit = record {
    slot = Some (answered v client number Done);
    inode = option_map (inode_gone v opened) move.replaced;
    growth = growth_moved v move name;
    leaving = Some (leaving_of v move.from name);
    entering = Some (record { directory = move.to; place = place_entered v move name goal; entry = record { name = goal; ino = move.ino } });
  };
  reply = Done;
  new_ino = None;
  touches = touched;
  needed = needed_moved v move name;
}

abbrev pub moving_by : Volume → ClientId → ℕ → List Ino → List Touch → Result Move Why → List ℕ → List ℕ → Plan
moving_by v client number opened touched (Ok move) name goal = if move.is_same then standing v client number Done else if_room v client number (moving v client number opened touched move name goal)
moving_by v client number opened touched (Err why) name goal = standing v client number (Refused why)

-- a name that stands for nothing, which no history makes, counts as absent
abbrev pub if_there : Volume → Result Move Why → Result Move Why
if_there v (Ok move) = if move.is_same || is_some (node_at (shown v) move.ino) then Ok move else Err NoEnt
if_there v (Err why) = Err why

-- the plan of a change; no other call has one
abbrev pub plan : Volume → ClientId → ℕ → Call → List Ino → Plan
plan v client number (Create path) opened = making_at v client number (new_place (shown v) path) (last_of path) File
plan v client number (Mkdir path) opened = making_at v client number (new_place (shown v) path) (last_of path) Dir
plan v client number (Unlink path) opened = removing_at v client number opened (touches (shown v) (Unlink path)) (parent_of (shown v) path) (file_named (shown v) path) (last_of path)
plan v client number (Rmdir path) opened = removing_at v client number opened (touches (shown v) (Rmdir path)) (parent_of (shown v) path) (removable (shown v) path) (last_of path)
plan v client number (Rename path goal) opened = moving_by v client number opened (touches (shown v) (Rename path goal)) (if_there v (move_of (shown v) path goal)) (last_of path) (last_of goal)
plan v client number _ opened = standing v client number (Refused NoEnt)

-- what a purge of a client alters, and the reaping of an orphan
abbrev pub purge_of : Volume → ClientId → Edit
purge_of v client = slot_alone (record {
  client = client;
  slot = record { purged = true; call = (slot_at v.slots client.0).call; flush = (slot_at v.slots client.0).flush; reply = (slot_at v.slots client.0).reply };
})

abbrev pub reap_of : Ino → Edit
reap_of ino = record { slot = None; inode = Some (record { ino = ino; inode = free_inode }); growth = None; leaving = None; entering = None }
