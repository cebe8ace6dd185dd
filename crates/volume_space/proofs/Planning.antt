-- The free blocks that the plan of a change takes, and that it may take.
use Rattle.std.proofs.Common.{◌≡◌, ◌≢◌, ◌≤◌, ◌+◌, ℕ, Bool, true, false, List, Option, Some, None, Result, Ok, Err, nat_lt, if◌then◌else◌, refl, arith}
use Rattle.std.proofs.lemmas.Bool.{ltb-false}
use Rattle.cal_base.specs.declared.identity.ClientId.{ClientId}
use Rattle.cal_base.specs.declared.identity.Ino.{Ino}
use Rattle.inode.specs.declared.inode.Kind.{Kind}
use Rattle.inode.specs.declared.inode.Kind.TheVariants.{File, Dir}
use Rattle.tree_law.specs.Needs.{Touch, touches}
use Rattle.tree_law.specs.Rename.{move_of}
use Rattle.tree_law.specs.Resolve.{file_named, last_of, new_place, parent_of, removable}
use Rattle.tree_law.specs.declared.call.Call.{Call}
use Rattle.tree_law.specs.declared.call.Call.TheVariants.{Create, Mkdir, Unlink, Rmdir, Rename, Open, Close, Read, Write, Truncate, Stat, Readdir, Fsync}
use Rattle.tree_law.specs.declared.rename.Move.{Move}
use Rattle.tree_law.specs.declared.reply.Reply.TheVariants.{Done, Refused}
use Rattle.tree_law.specs.declared.reply.Why.{Why}
use Rattle.tree_law.specs.declared.reply.Why.TheVariants.{NoSpace}
use Rattle.volume.specs.Stands.{AreBlocksKept}
use Rattle.volume.specs.Volume.{Slots, Volume, slots_of}
use Rattle.volume_edit.specs.Edit.{IsVolume, edited, free_inode, free_with_growth, free_with_inode, inode_at}
use Rattle.volume_plan.proofs.Reaping.{names_none}
use Rattle.volume_plan.specs.Plans.{Plan, blocks_needed, free_count, growth_by, growth_of, grows, if_room, if_there, least_block, least_inode, making, making_at, making_if, moving, moving_by, new_inode, plan, reap_of, removing, removing_at, short, slots_without, standing}
use Rattle.volume_plan.specs.Shown.{shown}
use Rattle.volume_space.proofs.Counts.{free_in, none_taken, one_taken}
use Rattle.volume_space.proofs.Taking.{gone_takes_none}

-- a plan takes at most the free blocks that it needs
abbrev pub TakesNeeded : Volume → Plan → Type 0
TakesNeeded v p = free_count v ≤ free_count (edited v p.edit) + p.needed

-- as many blocks as it needs are free, unless it is refused for want of them
abbrev pub HasNeeded : Volume → Plan → Type 0
HasNeeded v p = ((free needed : ℕ) → p.reply ≢ Refused (NoSpace free needed)) → p.needed ≤ free_count v

-- a directory that grows takes one
growth_by_takes : (free : List Bool) (place : Ino) (block : Option ℕ) (more : Bool) → free_in free ≤ free_in (free_with_growth free (if more then growth_by place block else None)) + (if more then 1 else 0)
growth_by_takes free place (Some block) true = one_taken free block
growth_by_takes free place None true = omega arith
growth_by_takes free place block false = omega arith

growth_takes : (v : Volume) (free : List Bool) (place : Ino) (slots : Slots) → free_in free ≤ free_in (free_with_growth free (growth_of v place slots)) + blocks_needed slots
growth_takes v free place slots = growth_by_takes free place (least_block v) (grows slots)

-- an inode without blocks takes none
empty_takes_none : (v : Volume) (ino : Ino) → free_count v ≤ free_in (free_with_inode v.free v.inodes (Some (record { ino = ino; inode = free_inode })))
empty_takes_none v ino = none_taken v.free (inode_at v.inodes ino.0).blocks free_inode.blocks (λ block place is_free names. names_none place block names)

pub reap_takes_none : (v : Volume) (ino : Ino) → free_count v ≤ free_count (edited v (reap_of ino))
reap_takes_none v ino = empty_takes_none v ino

-- a plan for which blocks may be wanting
if_room_takes : (v : Volume) (client : ClientId) (number : ℕ) (p : Plan) → TakesNeeded v p → TakesNeeded v (if_room v client number p)
if_room_takes v client number p takes = elim (nat_lt (free_count v) p.needed) as (λ b. TakesNeeded v (if b then short v client number p.touches p.needed else p)) [
  | true ↦ omega arith
  | false ↦ takes
]

if_room_has : (v : Volume) (client : ClientId) (number : ℕ) (p : Plan) → HasNeeded v (if_room v client number p)
if_room_has v client number p = by (nat_lt (free_count v) p.needed) refl
  where
    by : (b : Bool) → nat_lt (free_count v) p.needed ≡ b → HasNeeded v (if b then short v client number p.touches p.needed else p)
    by true wanting = λ enough. absurd (enough (free_count v) p.needed refl)
    by false room = λ enough. ltb-false (free_count v) p.needed room

making_takes : (v : Volume) (client : ClientId) (number : ℕ) (place : Ino) (name : List ℕ) (kind : Kind) (ino : Ino) → TakesNeeded v (making v client number place name kind ino)
making_takes v client number place name kind ino =
    let none = empty_takes_none v ino in
    let grown = growth_takes v (free_with_inode v.free v.inodes (Some (record { ino = ino; inode = new_inode kind }))) place (slots_of v place.0) in
    omega (arith, none, grown)

making_at_takes : (v : Volume) (client : ClientId) (number : ℕ) (at : Result Ino Why) (name : List ℕ) (kind : Kind) → TakesNeeded v (making_at v client number at name kind)
making_at_takes v client number (Ok place) name kind = by (least_inode v)
  where
    by : (o : Option ℕ) → TakesNeeded v (making_if v client number place name kind o)
    by None = omega arith
    by (Some ino) = if_room_takes v client number (making v client number place name kind (record { 0 = ino })) (making_takes v client number place name kind (record { 0 = ino }))
making_at_takes v client number (Err why) name kind = omega arith

making_at_has : (v : Volume) (client : ClientId) (number : ℕ) (at : Result Ino Why) (name : List ℕ) (kind : Kind) → HasNeeded v (making_at v client number at name kind)
making_at_has v client number (Ok place) name kind = by (least_inode v)
  where
    by : (o : Option ℕ) → HasNeeded v (making_if v client number place name kind o)
    by None = λ enough. omega arith
    by (Some ino) = if_room_has v client number (making v client number place name kind (record { 0 = ino }))
making_at_has v client number (Err why) name kind = λ enough. omega arith

removing_takes : (v : Volume) (client : ClientId) (number : ℕ) (opened : List Ino) (touched : List Touch) (place ino : Ino) (name : List ℕ) → IsVolume v → AreBlocksKept v → TakesNeeded v (removing v client number opened touched place ino name)
removing_takes v client number opened touched place ino name is kept = (let none = gone_takes_none v opened ino is kept in omega (arith, none))

removing_at_takes : (v : Volume) (client : ClientId) (number : ℕ) (opened : List Ino) (touched : List Touch) (place ino : Result Ino Why) (name : List ℕ) → IsVolume v → AreBlocksKept v
    → TakesNeeded v (removing_at v client number opened touched place ino name)
removing_at_takes v client number opened touched (Ok place) (Ok ino) name is kept = removing_takes v client number opened touched place ino name is kept
removing_at_takes v client number opened touched (Ok place) (Err why) name is kept = omega arith
removing_at_takes v client number opened touched (Err why) (Ok ino) name is kept = omega arith
removing_at_takes v client number opened touched (Err why) (Err other) name is kept = omega arith

removing_at_has : (v : Volume) (client : ClientId) (number : ℕ) (opened : List Ino) (touched : List Touch) (place ino : Result Ino Why) (name : List ℕ) → HasNeeded v (removing_at v client number opened touched place ino name)
removing_at_has v client number opened touched (Ok place) (Ok ino) name = λ enough. omega arith
removing_at_has v client number opened touched (Ok place) (Err why) name = λ enough. omega arith
removing_at_has v client number opened touched (Err why) (Ok ino) name = λ enough. omega arith
removing_at_has v client number opened touched (Err why) (Err other) name = λ enough. omega arith

abbrev moved : Ino → Ino → Ino → Option Ino → Bool → Move
moved from to ino target same = record { from = from; to = to; ino = ino; replaced = target; is_same = same }

moving_takes : (v : Volume) (client : ClientId) (number : ℕ) (opened : List Ino) (touched : List Touch) (from to ino : Ino) (target : Option Ino) (same : Bool) (name goal : List ℕ) → IsVolume v → AreBlocksKept v
    → TakesNeeded v (moving v client number opened touched (moved from to ino target same) name goal)
moving_takes v client number opened touched from to ino (Some target) same name goal is kept = (let none = gone_takes_none v opened target is kept in omega (arith, none))
moving_takes v client number opened touched from to ino None same name goal is kept = growth_takes v v.free to (slots_without v (moved from to ino None same) name)

moving_by_takes : (v : Volume) (client : ClientId) (number : ℕ) (opened : List Ino) (touched : List Touch) (r : Result Move Why) (name goal : List ℕ) → IsVolume v → AreBlocksKept v
    → TakesNeeded v (moving_by v client number opened touched r name goal)
moving_by_takes v client number opened touched (Err why) name goal is kept = omega arith
moving_by_takes v client number opened touched (Ok move) name goal is kept =
    elim move.is_same as (λ b. TakesNeeded v (if b then standing v client number Done else if_room v client number (moving v client number opened touched move name goal))) [
      | true ↦ omega arith
      | false ↦ if_room_takes v client number (moving v client number opened touched move name goal)
          (moving_takes v client number opened touched move.from move.to move.ino move.replaced move.is_same name goal is kept)
    ]

moving_by_has : (v : Volume) (client : ClientId) (number : ℕ) (opened : List Ino) (touched : List Touch) (r : Result Move Why) (name goal : List ℕ) → HasNeeded v (moving_by v client number opened touched r name goal)
moving_by_has v client number opened touched (Err why) name goal = λ enough. omega arith
moving_by_has v client number opened touched (Ok move) name goal =
    elim move.is_same as (λ b. HasNeeded v (if b then standing v client number Done else if_room v client number (moving v client number opened touched move name goal))) [
      | true ↦ (λ enough. omega arith)
      | false ↦ if_room_has v client number (moving v client number opened touched move name goal)
    ]

pub plan_takes_needed : (v : Volume) (client : ClientId) (number : ℕ) (call : Call) (opened : List Ino) → IsVolume v → AreBlocksKept v → TakesNeeded v (plan v client number call opened)
plan_takes_needed v client number (Create path) opened is kept = making_at_takes v client number (new_place (shown v) path) (last_of path) File
plan_takes_needed v client number (Mkdir path) opened is kept = making_at_takes v client number (new_place (shown v) path) (last_of path) Dir
plan_takes_needed v client number (Unlink path) opened is kept = removing_at_takes v client number opened (touches (shown v) (Unlink path)) (parent_of (shown v) path) (file_named (shown v) path) (last_of path) is kept
plan_takes_needed v client number (Rmdir path) opened is kept = removing_at_takes v client number opened (touches (shown v) (Rmdir path)) (parent_of (shown v) path) (removable (shown v) path) (last_of path) is kept
plan_takes_needed v client number (Rename path goal) opened is kept =
    moving_by_takes v client number opened (touches (shown v) (Rename path goal)) (if_there v (move_of (shown v) path goal)) (last_of path) (last_of goal) is kept
plan_takes_needed v client number (Open path mode) opened is kept = omega arith
plan_takes_needed v client number (Close fd) opened is kept = omega arith
plan_takes_needed v client number (Read fd offset len) opened is kept = omega arith
plan_takes_needed v client number (Write fd offset bytes) opened is kept = omega arith
plan_takes_needed v client number (Truncate fd size) opened is kept = omega arith
plan_takes_needed v client number (Stat path) opened is kept = omega arith
plan_takes_needed v client number (Readdir path) opened is kept = omega arith
plan_takes_needed v client number (Fsync fd) opened is kept = omega arith

pub plan_has_needed : (v : Volume) (client : ClientId) (number : ℕ) (call : Call) (opened : List Ino) → HasNeeded v (plan v client number call opened)
plan_has_needed v client number (Create path) opened = making_at_has v client number (new_place (shown v) path) (last_of path) File
plan_has_needed v client number (Mkdir path) opened = making_at_has v client number (new_place (shown v) path) (last_of path) Dir
plan_has_needed v client number (Unlink path) opened = removing_at_has v client number opened (touches (shown v) (Unlink path)) (parent_of (shown v) path) (file_named (shown v) path) (last_of path)
plan_has_needed v client number (Rmdir path) opened = removing_at_has v client number opened (touches (shown v) (Rmdir path)) (parent_of (shown v) path) (removable (shown v) path) (last_of path)
plan_has_needed v client number (Rename path goal) opened =
    moving_by_has v client number opened (touches (shown v) (Rename path goal)) (if_there v (move_of (shown v) path goal)) (last_of path) (last_of goal)
plan_has_needed v client number (Open path mode) opened = λ enough. omega arith
plan_has_needed v client number (Close fd) opened = λ enough. omega arith
plan_has_needed v client number (Read fd offset len) opened = λ enough. omega arith
plan_has_needed v client number (Write fd offset bytes) opened = λ enough. omega arith
plan_has_needed v client number (Truncate fd size) opened = λ enough. omega arith
plan_has_needed v client number (Stat path) opened = λ enough. omega arith
plan_has_needed v client number (Readdir path) opened = λ enough. omega arith
plan_has_needed v client number (Fsync fd) opened = λ enough. omega arith
