-- Each plan takes free blocks alone, whether or not its volume stands for a history.
use Rattle.std.proofs.Common.{◌≡◌, ◌≢◌, ◌+◌, ℕ, Bool, true, false, List, [], replicate, Option, Some, None, IfSome, Result, Ok, Err, nat_lt, slice_get, slice_index, if◌then◌else◌, refl, sym, ap, ◌∙◌, inl, inr, arith}
use Rattle.std.proofs.lemmas.Bool.{cases_lt}
use Rattle.std.proofs.lemmas.List.{length-replicate}
use Rattle.std.proofs.lemmas.List.Quantifiers.{position-Some}
use Rattle.std.proofs.lemmas.Option.{slice_get-get_or}
use Rattle.cal_base.specs.declared.identity.ClientId.{ClientId}
use Rattle.cal_base.specs.declared.identity.Ino.{Ino}
use Rattle.inode.specs.declared.inode.Inode.{Inode}
use Rattle.inode.specs.declared.inode.Kind.{Kind}
use Rattle.inode.specs.declared.inode.Kind.TheVariants.{File, Dir}
use Rattle.token_kind.specs.declared.flush.Flush.{Flush}
use Rattle.tree_law.specs.Needs.{Touch, touches}
use Rattle.tree_law.specs.Rename.{move_of}
use Rattle.tree_law.specs.Resolve.{file_named, last_of, new_place, parent_of, removable}
use Rattle.tree_law.specs.declared.call.Call.{Call}
use Rattle.tree_law.specs.declared.call.Call.TheVariants.{Create, Mkdir, Unlink, Rmdir, Rename, Open, Close, Read, Write, Truncate, Stat, Readdir, Fsync}
use Rattle.tree_law.specs.declared.rename.Move.{Move}
use Rattle.tree_law.specs.declared.reply.Reply.TheVariants.{Done}
use Rattle.tree_law.specs.declared.reply.Why.{Why}
use Rattle.volume.specs.Stands.{AreBlocksKept}
use Rattle.volume.specs.Volume.{Slots, Volume, slots_of}
use Rattle.volume_edit.specs.Blocks.{IsGrowing, IsPointing, TakesFree}
use Rattle.volume_edit.specs.Edit.{IsVolume, free_inode, inode_at}
use Rattle.volume_edit.specs.declared.edit.Edit.{Edit}
use Rattle.volume_edit.specs.declared.edit.Growth.{Growth}
use Rattle.volume_edit.specs.declared.edit.SlotEdit.{SlotEdit}
use Rattle.volume_plan.proofs.EditParts.{get_past}
use Rattle.volume_plan.proofs.FlushFits.{flush_takes}
use Rattle.volume_plan.proofs.Gone.{gone_points, nameless_points}
use Rattle.volume_plan.proofs.Reaping.{names_none}
use Rattle.volume_plan.specs.Flushing.{CanTake, flush_of}
use Rattle.volume_plan.specs.Plans.{Plan, short, free_count, growth_by, growth_of, grows, if_room, if_there, inode_gone, is_opened, least_block, least_inode, making, making_at, making_if, moving, moving_by, nameless, plan, removing_at, slot_alone, slots_without, standing}
use Rattle.volume_plan.specs.Shown.{shown}

-- the block by which a directory grows is free
least_is_free : (v : Volume) (block : ℕ) → least_block v ≡ Some block → slice_get v.free block ≡ Some true
least_is_free v block e =
    let found = position-Some (λ (free : Bool). free) v.free block false e in
    slice_get-get_or v.free block false found.0 ∙ ap (λ (b : Bool). Some b) found.1

abbrev IsFreeBlock : Volume → Growth → Type 0
IsFreeBlock v g = slice_get v.free g.block ≡ Some true

grown_free : (v : Volume) (place : Ino) (o : Option ℕ) (more : Bool) → least_block v ≡ o → IfSome (if more then growth_by place o else None) (IsFreeBlock v)
grown_free v place (Some block) true e = least_is_free v block e
grown_free v place None true e = tt
grown_free v place (Some block) false e = tt
grown_free v place None false e = tt

growth_free : (v : Volume) (place : Ino) (slots : Slots) → IfSome (growth_of v place slots) (IsFreeBlock v)
growth_free v place slots = grown_free v place (least_block v) (grows slots) refl

-- and no inode of the edit points at it
growing : (v : Volume) (e : Edit) (o : Option Growth) → ((g : Growth) → IfSome e.inode (λ i. (place : ℕ) → slice_index i.inode.blocks place ≢ g.block + 1)) → IfSome o (IsFreeBlock v) → IfSome o (IsGrowing v e)
growing v e (Some g) alone free = record { free = free; alone = alone g }
growing v e None alone free = tt

-- an inode that loses its last name points where it pointed, or nowhere
none_past : (inode : Inode) → inode ≡ free_inode → (place block : ℕ) → slice_index inode.blocks place ≢ block + 1
none_past inode same place block names = names_none place block (sym (ap (λ (i : Inode). slice_index i.blocks place) same) ∙ names)

gone_takes : (v : Volume) (opened : List Ino) (ino : Ino) → IsVolume v → AreBlocksKept v → IsPointing v (inode_gone v opened ino)
gone_takes v opened ino is kept = elim (cases_lt ino.0 512) [
  | inl below ↦ gone_points v opened ino is kept below
  | inr past ↦ (
      let old = inode_at v.inodes ino.0 in
      let count = is.inode_count in
      let none : old ≡ free_inode = get_past v.inodes ino.0 free_inode (omega arith) in
      let points : (place block : ℕ) → slice_index (nameless old.kind old (is_opened opened ino)).blocks place ≡ block + 1 → slice_index old.blocks place ≡ block + 1 = nameless_points old.kind old (is_opened opened ino) in
      record {
        known = λ place block names. absurd (none_past old none place block (points place block names));
        apart = λ place other block names also. absurd (none_past old none place block (points place block names));
      })
]

alone_takes : (v : Volume) (slot : SlotEdit) → TakesFree v (slot_alone slot)
alone_takes v slot = record { inode = tt; growth = tt }

-- a plan for which blocks may be wanting
if_room_takes : (v : Volume) (client : ClientId) (number : ℕ) (p : Plan) → TakesFree v p.edit → TakesFree v (if_room v client number p).edit
if_room_takes v client number p takes = elim (nat_lt (free_count v) p.needed) as (λ b. TakesFree v (if b then short v client number p.touches p.needed else p).edit) [
  | true ↦ record { inode = tt; growth = tt }
  | false ↦ takes
]

making_takes : (v : Volume) (client : ClientId) (number : ℕ) (place : Ino) (name : List ℕ) (kind : Kind) (ino : Ino) → TakesFree v (making v client number place name kind ino).edit
making_takes v client number place name kind ino = record {
  inode = record {
    known = λ at block names. absurd (names_none at block names);
    apart = λ at other block names also. absurd (names_none at block names);
  };
  growth = growing v (making v client number place name kind ino).edit (growth_of v place (slots_of v place.0)) (λ g at. names_none at g.block) (growth_free v place (slots_of v place.0));
}

making_if_takes : (v : Volume) (client : ClientId) (number : ℕ) (place : Ino) (name : List ℕ) (kind : Kind) (o : Option ℕ) → TakesFree v (making_if v client number place name kind o).edit
making_if_takes v client number place name kind None = record { inode = tt; growth = tt }
making_if_takes v client number place name kind (Some ino) =
    if_room_takes v client number (making v client number place name kind (record { 0 = ino })) (making_takes v client number place name kind (record { 0 = ino }))

making_at_takes : (v : Volume) (client : ClientId) (number : ℕ) (at : Result Ino Why) (name : List ℕ) (kind : Kind) → TakesFree v (making_at v client number at name kind).edit
making_at_takes v client number (Ok place) name kind = making_if_takes v client number place name kind (least_inode v)
making_at_takes v client number (Err why) name kind = record { inode = tt; growth = tt }

removing_at_takes : (v : Volume) (client : ClientId) (number : ℕ) (opened : List Ino) (touched : List Touch) (place ino : Result Ino Why) (name : List ℕ) → IsVolume v → AreBlocksKept v
    → TakesFree v (removing_at v client number opened touched place ino name).edit
removing_at_takes v client number opened touched (Ok place) (Ok ino) name is kept = record { inode = gone_takes v opened ino is kept; growth = tt }
removing_at_takes v client number opened touched (Ok place) (Err why) name is kept = record { inode = tt; growth = tt }
removing_at_takes v client number opened touched (Err why) (Ok ino) name is kept = record { inode = tt; growth = tt }
removing_at_takes v client number opened touched (Err why) (Err other) name is kept = record { inode = tt; growth = tt }

abbrev moved : Ino → Ino → Ino → Option Ino → Bool → Move
moved from to ino target same = record { from = from; to = to; ino = ino; replaced = target; is_same = same }

moving_takes : (v : Volume) (client : ClientId) (number : ℕ) (opened : List Ino) (touched : List Touch) (from to ino : Ino) (target : Option Ino) (same : Bool) (name goal : List ℕ) → IsVolume v → AreBlocksKept v
    → TakesFree v (moving v client number opened touched (moved from to ino target same) name goal).edit
moving_takes v client number opened touched from to ino (Some target) same name goal is kept = record { inode = gone_takes v opened target is kept; growth = tt }
moving_takes v client number opened touched from to ino None same name goal is kept =
    let slots = slots_without v (moved from to ino None same) name in
    record { inode = tt; growth = growing v (moving v client number opened touched (moved from to ino None same) name goal).edit (growth_of v to slots) (λ g. tt) (growth_free v to slots) }

moving_by_takes : (v : Volume) (client : ClientId) (number : ℕ) (opened : List Ino) (touched : List Touch) (r : Result Move Why) (name goal : List ℕ) → IsVolume v → AreBlocksKept v
    → TakesFree v (moving_by v client number opened touched r name goal).edit
moving_by_takes v client number opened touched (Err why) name goal is kept = record { inode = tt; growth = tt }
moving_by_takes v client number opened touched (Ok move) name goal is kept =
    elim move.is_same as (λ b. TakesFree v (if b then standing v client number Done else if_room v client number (moving v client number opened touched move name goal)).edit) [
      | true ↦ record { inode = tt; growth = tt }
      | false ↦ if_room_takes v client number (moving v client number opened touched move name goal)
          (moving_takes v client number opened touched move.from move.to move.ino move.replaced move.is_same name goal is kept)
    ]

pub plan_takes : (v : Volume) (client : ClientId) (number : ℕ) (call : Call) (opened : List Ino) → IsVolume v → AreBlocksKept v → TakesFree v (plan v client number call opened).edit
plan_takes v client number (Create path) opened is kept = making_at_takes v client number (new_place (shown v) path) (last_of path) File
plan_takes v client number (Mkdir path) opened is kept = making_at_takes v client number (new_place (shown v) path) (last_of path) Dir
plan_takes v client number (Unlink path) opened is kept = removing_at_takes v client number opened (touches (shown v) (Unlink path)) (parent_of (shown v) path) (file_named (shown v) path) (last_of path) is kept
plan_takes v client number (Rmdir path) opened is kept = removing_at_takes v client number opened (touches (shown v) (Rmdir path)) (parent_of (shown v) path) (removable (shown v) path) (last_of path) is kept
plan_takes v client number (Rename path goal) opened is kept =
    moving_by_takes v client number opened (touches (shown v) (Rename path goal)) (if_there v (move_of (shown v) path goal)) (last_of path) (last_of goal) is kept
plan_takes v client number (Open path mode) opened is kept = record { inode = tt; growth = tt }
plan_takes v client number (Close fd) opened is kept = record { inode = tt; growth = tt }
plan_takes v client number (Read fd offset len) opened is kept = record { inode = tt; growth = tt }
plan_takes v client number (Write fd offset bytes) opened is kept = record { inode = tt; growth = tt }
plan_takes v client number (Truncate fd size) opened is kept = record { inode = tt; growth = tt }
plan_takes v client number (Stat path) opened is kept = record { inode = tt; growth = tt }
plan_takes v client number (Readdir path) opened is kept = record { inode = tt; growth = tt }
plan_takes v client number (Fsync fd) opened is kept = record { inode = tt; growth = tt }

-- a flush asks nothing of the sectors
pub flush_takes_free : (v : Volume) (client : ClientId) (flush : Flush) → IsVolume v → AreBlocksKept v → CanTake v flush → TakesFree v (flush_of v client flush)
flush_takes_free v client flush is kept can =
    flush_takes (replicate 2596 []) v client flush (record { count = length-replicate {A = List ℕ} 2596 []; volume = is; is = can.is; file = can.file; enough = can.enough }) kept
