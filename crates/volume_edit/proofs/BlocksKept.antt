-- An edit that takes free blocks keeps the map: a block is in use exactly if a pointer names it, and no two
-- pointers name one block.
use Rattle.std.proofs.Common.{◌≡◌, ◌≢◌, ◌<◌, ◌+◌, ◌/◌, ℕ, Bool, true, false, List, length, Option, Some, None, slice_get, slice_index, refl, sym, ◌∙◌, subst, arith}
use Rattle.cal_base.specs.Limits as limits
use Rattle.std.specs.Prelude.{IfSome}
use Rattle.std.proofs.Math.ListN.{length-set}
use Rattle.std.proofs.lemmas.List.{get_or-set_other}
use Rattle.std.proofs.lemmas.Option.{slice_get_within}
use borrow.Author.Tests.{eqb-false}
use Rattle.inode.specs.Inode.{IsDirInode, IsInode, KindAllows}
use Rattle.inode.specs.declared.inode.Inode.{Inode}
use Rattle.inode.specs.declared.inode.Kind.{Kind}
use Rattle.inode.specs.declared.inode.Kind.TheVariants.{Dir}
use Rattle.volume.specs.Stands.{AreBlocksKept}
use Rattle.volume.specs.Volume.{Slots, Volume, slots_of}
use Rattle.volume_edit.proofs.Growing.{HasRoom, grown_kept}
use Rattle.volume_edit.proofs.Marked.{length-marked_all, marked_apart, marked_stays}
use Rattle.volume_edit.proofs.InodePointers.{AreKept, there_at}
use Rattle.volume_edit.proofs.Replacing.{inode_kept}
use Rattle.volume_edit.specs.Blocks.{IsGrowing, IsPointing, TakesFree}
use Rattle.volume_edit.specs.Edit.{HasSlots, IsEdit, IsGrowth, IsInodeEdit, IsSized, IsVolume, edited, free_inode, free_with_growth, free_with_inode, inode_at, is_edited, marked_all, with_growth, with_inode}
use Rattle.volume_edit.specs.declared.edit.Edit.{Edit}
use Rattle.volume_edit.specs.declared.edit.Growth.{Growth}
use Rattle.volume_edit.specs.declared.edit.InodeEdit.{InodeEdit}

-- the inode part
inode_part_kept : (v : Volume) (i : Option InodeEdit) → IsVolume v → AreBlocksKept v → IfSome i IsInodeEdit → IfSome i (IsPointing v)
    → AreKept (free_with_inode v.free v.inodes i) (with_inode v.inodes i)
inode_part_kept v None is kept edit takes = record { used = kept.used; apart = kept.apart }
inode_part_kept v (Some e) is kept edit takes =
    inode_kept v.free v.inodes e.ino.0 (inode_at v.inodes e.ino.0) e.inode is.map
    (there_at v.inodes e.ino.0 (let a = edit.to_511 in let b = is.inode_count in omega arith))
    (record { used = kept.used; apart = kept.apart })
    (record { known = takes.known; apart = takes.apart })

pub length_free_with_inode : (free : List Bool) (inodes : List Inode) (i : Option InodeEdit) → length (free_with_inode free inodes i) ≡ length free
length_free_with_inode free inodes None = refl
length_free_with_inode free inodes (Some e) = length-marked_all false e.inode.blocks (marked_all true free (inode_at inodes e.ino.0).blocks) ∙ length-marked_all true (inode_at inodes e.ino.0).blocks free

pub length_with_inode : (inodes : List Inode) (i : Option InodeEdit) → length (with_inode inodes i) ≡ length inodes
length_with_inode inodes None = refl
length_with_inode inodes (Some e) = length-set inodes e.ino.0 e.inode

-- a free block stays free where the inode doesn't point at it
stays_free : (v : Volume) (i : Option InodeEdit) (block : ℕ) → slice_get v.free block ≡ Some true → IfSome i (λ e. (place : ℕ) → slice_index e.inode.blocks place ≢ block + 1)
    → slice_get (free_with_inode v.free v.inodes i) block ≡ Some true
stays_free v None block is_free alone = is_free
stays_free v (Some e) block is_free alone =
    marked_apart false e.inode.blocks (marked_all true v.free (inode_at v.inodes e.ino.0).blocks) block alone
    ∙ marked_stays true (inode_at v.inodes e.ino.0).blocks v.free block (slice_get_within v.free block true is_free) is_free

-- an inode that isn't edited is as it was
pub inode_as_it_was : (inodes : List Inode) (i : Option InodeEdit) (number : ℕ) → is_edited i number ≡ false → inode_at (with_inode inodes i) number ≡ inode_at inodes number
inode_as_it_was inodes None number stays = refl
inode_as_it_was inodes (Some e) number stays = get_or-set_other inodes e.ino.0 number e.inode free_inode (λ (same : number ≡ e.ino.0). eqb-false e.ino.0 number stays (sym same))

-- a directory with fewer than 1,024 slots has room for a pointer
room_by : (inode : Inode) (k : Kind) (slots : Slots) → k ≡ Dir → IsInode inode → KindAllows k inode → HasSlots k inode slots → length slots < limits.directory_entries → HasRoom inode
room_by inode k slots dir is allowed has fewer =
    let d : IsDirInode inode = subst (λ (x : Kind). KindAllows x inode) dir allowed in
    let s : IsSized inode slots = subst (λ (x : Kind). HasSlots x inode slots) dir has in
    let count = s.count in
    let long = is.count in
    record { within = omega arith; hole = d.holes (inode.size / 4096) (omega arith) }

pub directory_room : (v : Volume) (number : ℕ) → IsVolume v → number < limits.inodes → (inode_at v.inodes number).kind ≡ Dir → length (slots_of v number) < limits.directory_entries → HasRoom (inode_at v.inodes number)
directory_room v number is within dir fewer =
    let there = there_at v.inodes number (let b = is.inode_count in omega arith) in
    let inode = is.inodes number (inode_at v.inodes number) there in
    room_by (inode_at v.inodes number) (inode_at v.inodes number).kind (slots_of v number) dir inode inode.allowed (is.directories number (inode_at v.inodes number) there) fewer

-- the growth
growth_part_kept : (v : Volume) (e : Edit) (g : Option Growth) → IsVolume v → AreKept (free_with_inode v.free v.inodes e.inode) (with_inode v.inodes e.inode)
    → IfSome g (IsGrowth v e) → IfSome g (IsGrowing v e)
    → AreKept (free_with_growth (free_with_inode v.free v.inodes e.inode) g) (with_growth (with_inode v.inodes e.inode) g)
growth_part_kept v e None is kept edit takes = kept
growth_part_kept v e (Some g) is kept edit takes =
    let same = inode_as_it_was v.inodes e.inode g.directory.0 edit.directory.stays in
    grown_kept (free_with_inode v.free v.inodes e.inode) (with_inode v.inodes e.inode) g.directory.0 (inode_at (with_inode v.inodes e.inode) g.directory.0) g.block
    (length_free_with_inode v.free v.inodes e.inode ∙ is.map)
    (there_at (with_inode v.inodes e.inode) g.directory.0 (let a = edit.directory.to_511 in let b = is.inode_count in let c = length_with_inode v.inodes e.inode in omega arith))
    (subst HasRoom (sym same) (directory_room v g.directory.0 is edit.directory.to_511 edit.directory.kind edit.fewer))
    kept
    (stays_free v e.inode g.block takes.free takes.alone)

pub edited_blocks : (v : Volume) (e : Edit) → IsVolume v → AreBlocksKept v → IsEdit v e → TakesFree v e → AreBlocksKept (edited v e)
edited_blocks v e is kept edit takes =
    let k = growth_part_kept v e e.growth is (inode_part_kept v e.inode is kept edit.inode takes.inode) edit.growth takes.growth in
    record { used = k.used; apart = k.apart }
