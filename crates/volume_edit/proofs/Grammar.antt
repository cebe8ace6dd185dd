-- An edit keeps a volume within its grammar.
use Rattle.std.proofs.Common.{◌≡◌, ◌<◌, ◌≤◌, ◌+◌, ◌*◌, ◌/◌, ◌++◌, ℕ, zero, suc, true, false, List, [], ◌∷◌, length, replicate, Bool, Option, Some, None, refl, sym, ap, ◌∙◌, subst, inl, inr, arith, get_or}
use Rattle.cal_base.specs.Limits as limits
use Rattle.std.specs.Prelude.{IfSome, slice_set}
use Rattle.std.proofs.lemmas.Bool.{cases_eq, ne_eqb}
use Rattle.std.proofs.lemmas.List.{get_or-set_other, get_or-set_same, length-set}
use Rattle.std.proofs.lemmas.Option.{get_or_from_slice_get, slice_get-get_or, slice_get_within}
use Rattle.inode.specs.Inode.{AreSmall, IsDirInode, IsInode, KindAllows}
use Rattle.inode.specs.declared.inode.Inode.{Inode}
use Rattle.inode.specs.declared.inode.Kind.{Kind}
use Rattle.inode.specs.declared.inode.Kind.TheVariants.{Dir}
use Rattle.request_log.specs.Slot.{IsSlot}
use Rattle.request_log.specs.declared.slot.Slot.{Slot}
use Rattle.volume.specs.Volume.{Slots, Volume, slots_of}
use Rattle.volume_edit.specs.Edit.{IsEdit, IsGrowth, IsInodeEdit, IsSlotEdit, IsVolume, edited, first_slot, free_inode, free_with_growth, free_with_inode, grown_inode, inode_at, is_edited, marked, marked_all, slot_at, with_slot}
use Rattle.volume_edit.specs.declared.edit.Edit.{Edit}
use Rattle.volume_edit.specs.declared.edit.Growth.{Growth}
use Rattle.volume_edit.specs.declared.edit.InodeEdit.{InodeEdit}
use Rattle.volume_edit.specs.declared.edit.SlotEdit.{SlotEdit}
use Rattle.volume_edit.proofs.Directories.{HasCount, count_grown, count_kept, each_directory, each_directory_edited, has_count, has_slots, length-directories, slots_put}
use Rattle.volume_edit.proofs.Inodes.{does_grow, grown, grows, inode_grown, inode_kept, inode_put, kept, length-inodes, put, some_has, stays, which}
use Rattle.volume_edit.proofs.SlotChanges.{length-grown}

-- the map is as long
pub length-marked : (is_free : Bool) (free : List Bool) (pointer : ℕ) → length (marked is_free free pointer) ≡ length free
length-marked is_free free zero = refl
length-marked is_free free (suc block) = length-set free block is_free

pub length-marked_all : (is_free : Bool) (free : List Bool) (pointers : List ℕ) → length (marked_all is_free free pointers) ≡ length free
unfolding marked_all
length-marked_all is_free free [] = refl
length-marked_all is_free free (pointer ∷ pointers) = length-marked_all is_free (marked is_free free pointer) pointers ∙ length-marked is_free free pointer

length-free_with_inode : (free : List Bool) (inodes : List Inode) (o : Option InodeEdit) → length (free_with_inode free inodes o) ≡ length free
length-free_with_inode free inodes None = refl
length-free_with_inode free inodes (Some e) = length-marked_all false (marked_all true free (inode_at inodes e.ino.0).blocks) e.inode.blocks ∙ length-marked_all true free (inode_at inodes e.ino.0).blocks

length-free_with_growth : (free : List Bool) (o : Option Growth) → length (free_with_growth free o) ≡ length free
length-free_with_growth free None = refl
length-free_with_growth free (Some g) = length-set free g.block false

-- the slots of clients
length-with_slot : (slots : List Slot) (o : Option SlotEdit) → length (with_slot slots o) ≡ length slots
length-with_slot slots None = refl
length-with_slot slots (Some e) = length-set slots e.client.0 e.slot

slot_is : (slots : List Slot) (o : Option SlotEdit) → IfSome o IsSlotEdit → length slots ≡ 16 → ((client : ℕ) → client < limits.clients → IsSlot (slot_at slots client)) → (client : ℕ) → client < limits.clients → IsSlot (slot_at (with_slot slots o) client)
slot_is slots None h long each client below = each client below
slot_is slots (Some e) h long each client below = elim (cases_eq client e.client.0) [
  | inl same ↦ (
      let low = h.client in
      subst (λ (n : ℕ). IsSlot (slot_at (with_slot slots (Some e)) n)) (sym same) (subst IsSlot (sym (get_or-set_same slots e.client.0 e.slot first_slot (omega arith))) h.slot))
  | inr apart ↦ subst IsSlot (sym (get_or-set_other slots e.client.0 client e.slot first_slot apart)) (each client below)
]

-- a directory's inode with a block more
dir_grown : (inode : Inode) (block : ℕ) → IsDirInode inode → length inode.blocks ≡ limits.file_blocks → inode.size + limits.block_size ≤ limits.directory_size → IsDirInode (grown_inode inode block)
dir_grown inode block d long fewer =
    let whole = d.whole in
    let last = inode.size / 4096 in
    record {
      named = d.named;
      whole = omega arith;
      size = omega arith;
      blocks = λ place below. elim (cases_eq place last) [
        | inl same ↦ (
            let here : get_or (slice_set inode.blocks last (block + 1)) last 0 ≡ block + 1 = get_or-set_same inode.blocks last (block + 1) 0 (omega arith) in
            let there : get_or (slice_set inode.blocks last (block + 1)) place 0 ≡ block + 1 = ap (λ (n : ℕ). get_or (slice_set inode.blocks last (block + 1)) n 0) same ∙ here in
            λ none. omega arith)
        | inr apart ↦ (
            let there = get_or-set_other inode.blocks last place (block + 1) 0 apart in
            let before = d.blocks place (omega arith) in
            λ none. before (sym there ∙ none))
      ];
      holes = λ place from. (
          let there = get_or-set_other inode.blocks last place (block + 1) 0 (λ same. omega arith) in
          there ∙ d.holes place (omega arith));
    }

small_grown : (pointers : List ℕ) (last block : ℕ) → AreSmall pointers → block < limits.blocks → last < length pointers → AreSmall (slice_set pointers last (block + 1))
small_grown pointers last block small below within place = elim (cases_eq place last) [
  | inl same ↦ (let here : get_or (slice_set pointers last (block + 1)) place 0 ≡ block + 1 = ap (λ (n : ℕ). get_or (slice_set pointers last (block + 1)) n 0) same ∙ get_or-set_same pointers last (block + 1) 0 within in omega arith)
  | inr apart ↦ (let there = get_or-set_other pointers last place (block + 1) 0 apart in let s = small place in omega arith)
]

pub inode_grows : (inode : Inode) (block : ℕ) → inode.kind ≡ Dir → IsInode inode → inode.size + limits.block_size ≤ limits.directory_size → block < limits.blocks → IsInode (grown_inode inode block)
inode_grows inode block dir h fewer below =
    let long = h.count in
    record {
      count = length-set inode.blocks (inode.size / 4096) (block + 1) ∙ h.count;
      pointers = small_grown inode.blocks (inode.size / 4096) block h.pointers below (omega arith);
      allowed = subst (λ (k : Kind). KindAllows k (grown_inode inode block)) (sym dir) (dir_grown inode block (subst (λ (k : Kind). KindAllows k inode) dir h.allowed) h.count fewer);
    }

-- each inode of a volume
pub inode_is : (v : Volume) → IsVolume v → (number : ℕ) → number < limits.inodes → IsInode (inode_at v.inodes number)
inode_is v h number below = (let c = h.inode_count in h.inodes number (inode_at v.inodes number) (slice_get-get_or v.inodes number free_inode (omega arith)))

pub count_is : (v : Volume) → IsVolume v → (number : ℕ) → number < limits.inodes → HasCount (inode_at v.inodes number).kind (inode_at v.inodes number) (length (slots_of v number))
count_is v h number below =
    let c = h.inode_count in
    let inode = inode_at v.inodes number in
    has_count inode.kind inode (slots_of v number) (h.directories number inode (slice_get-get_or v.inodes number free_inode (omega arith)))

pub count_dir : (v : Volume) → IsVolume v → (number : ℕ) → number < limits.inodes → (inode_at v.inodes number).kind ≡ Dir → 4096 * length (slots_of v number) ≡ 128 * (inode_at v.inodes number).size
count_dir v h number below dir = subst (λ (k : Kind). HasCount k (inode_at v.inodes number) (length (slots_of v number))) dir (count_is v h number below)

-- what an inode is after an edit, and what it has of slots
record Held (inode : Inode) (slots : Slots) : Type 0 where
  is : IsInode inode
  count : HasCount inode.kind inode (length slots)

moved : (a b : Inode) (s t : Slots) → a ≡ b → length s ≡ length t → Held b t → Held a s
moved a b s t same size h = record {
  is = subst IsInode (sym same) h.is;
  count = subst (λ (x : Inode). HasCount x.kind x (length s)) (sym same) (subst (λ (n : ℕ). HasCount b.kind b n) (sym size) h.count);
}

held_grown : (v : Volume) (e : Edit) (g : Growth) → IsVolume v → IsGrowth v e g → Held (grown_inode (inode_at v.inodes g.directory.0) g.block) (slots_of v g.directory.0 ++ replicate 128 None)
held_grown v e g h of =
    let number = g.directory.0 in
    let inode = inode_at v.inodes number in
    let slots = slots_of v number in
    let to_511 = of.directory.to_511 in
    let fewer = of.fewer in
    let dir = of.directory.kind in
    let count : 4096 * length slots ≡ 128 * inode.size = count_dir v h number (omega arith) dir in
    let whole = (each_directory v h number).whole in
    let size = length-grown slots in
    record {
      is = inode_grows inode g.block dir (inode_is v h number (omega arith)) (omega arith) of.block;
      count = subst (λ (k : Kind). HasCount k (grown_inode inode g.block) (length (slots ++ replicate 128 None))) (sym dir)
          (let all : 4096 * length (slots ++ replicate 128 None) ≡ 128 * (inode.size + 4096) = omega arith in all);
    }

held : (v : Volume) (e : Edit) → IsVolume v → IsEdit v e → (number : ℕ) → number < limits.inodes → Held (inode_at (edited v e).inodes number) (slots_of (edited v e) number)
held v e h is number below = elim (which e number) [
  | put i made same ↦ (
      let of = some_has IsInodeEdit e.inode i is.inode made in
      let all : Held (inode_at (edited v e).inodes i.ino.0) (slots_of (edited v e) i.ino.0) = moved _ i.inode _ [] (inode_put v e i h.inode_count is made) (ap length (slots_put v e i h.directory_count is made))
      (record { is = of.inode; count = has_count i.inode.kind i.inode [] of.empty }) in
      subst (λ (n : ℕ). Held (inode_at (edited v e).inodes n) (slots_of (edited v e) n)) same all)
  | grown g made same ↦ (
      let of = some_has (IsGrowth v e) e.growth g is.growth made in
      let all : Held (inode_at (edited v e).inodes g.directory.0) (slots_of (edited v e) g.directory.0) =
      moved _ _ _ _ (inode_grown v e g h.inode_count is made) (count_grown v e g h.directory_count is made) (held_grown v e g h of) in
      subst (λ (n : ℕ). Held (inode_at (edited v e).inodes n) (slots_of (edited v e) n)) same all)
  | kept other apart ↦ moved _ _ _ _ (inode_kept v e number other apart) (count_kept v e number h.directory_count is other apart) (record { is = inode_is v h number below; count = count_is v h number below })
]

-- an inode that isn't the one of the edit keeps its kind
pub kind_kept : (v : Volume) (e : Edit) → length v.inodes ≡ limits.inodes → IsEdit v e → (number : ℕ) → is_edited e.inode number ≡ false → (inode_at (edited v e).inodes number).kind ≡ (inode_at v.inodes number).kind
kind_kept v e long is number other = elim (does_grow e.growth number) [
  | grows g made same ↦ subst (λ (n : ℕ). (inode_at (edited v e).inodes n).kind ≡ (inode_at v.inodes n).kind) same (ap (λ (x : Inode). x.kind) (inode_grown v e g long is made))
  | stays apart ↦ ap (λ (x : Inode). x.kind) (inode_kept v e number other apart)
]

root_kept : (o : Option InodeEdit) → IfSome o IsInodeEdit → is_edited o 0 ≡ false
root_kept None h = refl
root_kept (Some i) h = ne_eqb i.ino.0 0 (λ same. (let f = h.from_one in omega arith))

pub edited_volume : (v : Volume) (e : Edit) → IsVolume v → IsEdit v e → IsVolume (edited v e)
edited_volume v e h is =
    let inodes = length-inodes v e ∙ h.inode_count in
    record {
      some = h.some;
      few = h.few;
      map = length-free_with_growth (free_with_inode v.free v.inodes e.inode) e.growth ∙ length-free_with_inode v.free v.inodes e.inode ∙ h.map;
      slot_count = length-with_slot v.slots e.slot ∙ h.slot_count;
      slots = λ client slot at. (
          let below = slice_get_within (edited v e).slots client slot at in
          let count = length-with_slot v.slots e.slot ∙ h.slot_count in
          subst IsSlot (get_or_from_slice_get (edited v e).slots client slot first_slot at)
          (slot_is v.slots e.slot is.slot h.slot_count (λ c low. (let old = h.slot_count in h.slots c (slot_at v.slots c) (slice_get-get_or v.slots c first_slot (omega arith)))) client (omega arith)));
      inode_count = inodes;
      inodes = λ number inode at. (
          let below = slice_get_within (edited v e).inodes number inode at in
          subst IsInode (get_or_from_slice_get (edited v e).inodes number inode free_inode at) (held v e h is number (omega arith)).is);
      directory_count = length-directories v e ∙ h.directory_count;
      directories = λ number inode at. (
          let below = slice_get_within (edited v e).inodes number inode at in
          has_slots inode.kind inode (slots_of (edited v e) number) (each_directory_edited v e h is number)
          (subst (λ (x : Inode). HasCount x.kind x (length (slots_of (edited v e) number))) (get_or_from_slice_get (edited v e).inodes number inode free_inode at) (held v e h is number (omega arith)).count));
      root = kind_kept v e h.inode_count is 0 (root_kept e.inode is.inode) ∙ h.root;
    }
