-- The volume of a fresh format is one, and what is kept of it is right.
use Rattle.std.proofs.Common.{◌≡◌, ◌≤◌, ◌<◌, ℕ, zero, suc, true, false, List, [], ◌∷◌, Some, length, replicate, slice_get, refl, sym, ap, arith, get_or, subst}
use Rattle.cal_base.specs.Limits as limits
use Rattle.std.proofs.lemmas.List.{length-replicate}
use Rattle.std.proofs.lemmas.Option.{get_or_from_slice_get}
use Rattle.directory.specs.Directory.{IsDirectory}
use Rattle.inode.specs.Inode.{IsInode}
use Rattle.inode.specs.declared.inode.Inode.{Inode}
use Rattle.request_log.specs.Slot.{IsSlot}
use Rattle.request_log.specs.declared.slot.Slot.{Slot}
use Rattle.volume.specs.Format.{root_inode}
use Rattle.volume.specs.Volume.{Slots, slots_of}
use Rattle.volume.proofs.Each.{root_is}
use Rattle.volume.proofs.First.{blank_slot, free_is, get_same}
use Rattle.volume_edit.specs.Edit.{HasSlots, IsVolume, first_slot, free_inode, inode_at}
use Rattle.image.specs.Image.{IsImage, fresh_inodes, fresh_map, fresh_slots, fresh_volume, is_free_inode, is_orphan, no_directories}
use Rattle.image.specs.Mount.{AreNodes}

-- a list of one thing, read with that as the default
at_each : {A : Type 0} (n place : ℕ) (a : A) → get_or (replicate {A = A} n a) place a ≡ a
at_each zero place a = refl
at_each (suc n) zero a = refl
at_each (suc n) (suc place) a = at_each n place a

map_count : length fresh_map ≡ limits.blocks
unfolding fresh_map
map_count = length-replicate 2048 true

pub slot_count : length fresh_slots ≡ 16
unfolding fresh_slots
slot_count = length-replicate 16 first_slot

pub inode_count : length fresh_inodes ≡ limits.inodes
unfolding fresh_inodes
inode_count = let l = length-replicate {A = Inode} 511 free_inode in omega arith

pub directory_count : length no_directories ≡ limits.inodes
unfolding no_directories
directory_count = length-replicate {A = Slots} 512 []

slot_is : (client : ℕ) (slot : Slot) → slice_get fresh_slots client ≡ Some slot → IsSlot slot
unfolding fresh_slots
slot_is client slot e = subst IsSlot (sym (get_same 16 client first_slot slot e)) blank_slot.slot

root_at : inode_at fresh_inodes 0 ≡ root_inode
unfolding fresh_inodes
root_at = refl

get_free : (number : ℕ) (inode : Inode) → slice_get fresh_inodes (suc number) ≡ Some inode → inode ≡ free_inode
unfolding fresh_inodes
get_free number inode e = get_same 511 number free_inode inode e

get_root : (inode : Inode) → slice_get fresh_inodes 0 ≡ Some inode → inode ≡ root_inode
unfolding fresh_inodes
get_root inode e = sym (get_or_from_slice_get (root_inode ∷ replicate limits.last_inode free_inode) 0 inode inode e)

inode_is : (number : ℕ) (inode : Inode) → slice_get fresh_inodes number ≡ Some inode → IsInode inode
inode_is zero inode e = subst IsInode (sym (get_root inode e)) root_is
inode_is (suc number) inode e = subst IsInode (sym (get_free number inode e)) free_is

-- the slots of each are none
none_at : (number : ℕ) → get_or no_directories number [] ≡ []
unfolding no_directories
none_at number = at_each 512 number []

no_entries : IsDirectory []
no_entries = record { whole = refl; few = omega arith; entries = λ place e h. absurd (cc); distinct = λ i j a b ha hb same. absurd (cc) }

root_slots : HasSlots root_inode.kind root_inode []
root_slots = record { directory = no_entries; count = refl }

slots_are : (clients number : ℕ) (inode : Inode) → slice_get fresh_inodes number ≡ Some inode → HasSlots inode.kind inode (slots_of (fresh_volume clients) number)
slots_are clients zero inode e = rw (none_at 0, get_root inode e) root_slots
slots_are clients (suc number) inode e = rw (none_at (suc number), get_free number inode e) refl

pub fresh_is : (clients : ℕ) → 1 ≤ clients → clients ≤ 16 → IsVolume (fresh_volume clients)
fresh_is clients some few = record {
  some = some;
  few = few;
  map = map_count;
  slot_count = slot_count;
  slots = slot_is;
  inode_count = inode_count;
  inodes = inode_is;
  directory_count = directory_count;
  directories = slots_are clients;
  root = ap (λ (i : Inode). i.kind) root_at;
}

root_taken : (number : ℕ) → number < 1 → is_free_inode (inode_at fresh_inodes number) ≡ false
unfolding fresh_inodes
root_taken zero h = refl
root_taken (suc number) h = absurd (omega arith)

free_at : (number : ℕ) → inode_at (replicate limits.last_inode free_inode) number ≡ free_inode
free_at number = at_each 511 number free_inode

no_orphan : (number : ℕ) → is_orphan (inode_at fresh_inodes number) ≡ false
unfolding fresh_inodes
no_orphan zero = refl
no_orphan (suc number) = ap is_orphan (free_at number)

pub fresh_image : (clients : ℕ) → 1 ≤ clients → clients ≤ 16 → IsImage (fresh_volume clients) 1 512
fresh_image clients some few = record {
  volume = fresh_is clients some few;
  free = record { within = omega arith; none = root_taken };
  orphan = record { within = omega arith; none = λ number h. no_orphan number };
}

pub fresh_nodes : AreNodes fresh_inodes no_directories
fresh_nodes = λ number inode slots at there. record {
  inode_is = inode_is number inode at;
  has = subst (HasSlots inode.kind inode) (get_or_from_slice_get no_directories number slots [] there) (slots_are 1 number inode at);
  root = λ first. ap (λ (i : Inode). i.kind) (get_root inode (subst (λ (n : ℕ). slice_get fresh_inodes n ≡ Some inode) first at));
}

pub nodes_cleared : (inodes : List Inode) (directories : List Slots) → inodes ≡ fresh_inodes → directories ≡ no_directories → AreNodes inodes directories
nodes_cleared inodes directories a b = subst (λ (xs : List Inode). AreNodes xs directories) (sym a) (subst (AreNodes fresh_inodes) (sym b) fresh_nodes)
