-- What an edit leaves as it is where no home stands for it.
use Rattle.std.proofs.Common.{◌≡◌, ◌≢◌, ◌<◌, ◌+◌, ◌*◌, ◌/◌, ◌++◌, ℕ, Bool, true, false, List, [], length, replicate, Option, Some, None, slice_get, slice_index, refl, sym, ap, ◌∙◌, subst, inl, inr, arith, get_or}
use Rattle.cal_base.specs.Limits as limits
use Rattle.std.specs.Prelude.{IfSome, ◌||◌, is_some, not, nat_eq}
use Rattle.std.specs.Cmp.Lexicographic.{pointwise, same_text}
use Rattle.std.proofs.lemmas.Bool.{cases_eq}
use Rattle.std.proofs.lemmas.List.{get_or-set_other}
use Rattle.std.proofs.lemmas.Option.{slice_get-get_or}
use Rattle.directory.specs.Directory.{block_slots}
use Rattle.request_log.specs.declared.slot.Slot.{Slot}
use Rattle.volume.specs.Stands.{AreBlocksKept}
use Rattle.volume.specs.Volume.{Slots, Volume, slots_of}
use Rattle.volume_edit.specs.Edit.{IsEdit, IsInodeEdit, IsVolume, edited, first_slot, free_inode, free_with_growth, free_with_inode, inode_at, is_edited, marked_all, slot_at, with_slot}
use Rattle.volume_edit.specs.Homes.{has_other_blocks}
use Rattle.volume_edit.specs.declared.edit.Edit.{Edit}
use Rattle.volume_edit.specs.declared.edit.Entering.{Entering}
use Rattle.volume_edit.specs.declared.edit.Growth.{Growth}
use Rattle.volume_edit.specs.declared.edit.InodeEdit.{InodeEdit}
use Rattle.volume_edit.specs.declared.edit.Leaving.{Leaving}
use Rattle.volume_edit.specs.declared.edit.SlotEdit.{SlotEdit}
use Rattle.volume_edit.proofs.Directories.{block_kept, each_directory, grown_slots, slots_as_before, slots_grown}
use Rattle.volume_edit.proofs.Grammar.{inode_is}
use Rattle.volume_edit.proofs.Inodes.{does_grow, grows, stays}
use Rattle.volume_edit.proofs.MarkedBlocks.{marked_back}
use Rattle.volume_edit.proofs.SlotChanges.{block_slots-append}

-- a test that holds, or one that doesn't
pub data Test (b : Bool) : Type 0 where
  yes_test : b ≡ true → Test b
  no_test : b ≡ false → Test b

pub test : (b : Bool) → Test b
test true = yes_test refl
test false = no_test refl

-- no half of a choice that doesn't hold does
pub record Neither (a b : Bool) : Type 0 where
  pub first : a ≡ false
  pub second : b ≡ false

pub neither : (a b : Bool) → (a || b) ≡ false → Neither a b
neither false false h = record { first = refl; second = refl }
neither false true h = absurd (cc)
neither true b h = absurd (cc)

-- the blocks of an inode that has the same ones then
used_by : (v : Volume) → IsVolume v → AreBlocksKept v → (number : ℕ) → number < limits.inodes → (place block : ℕ) → slice_index (inode_at v.inodes number).blocks place ≡ block + 1 → slice_get v.free block ≡ Some false
used_by v h kept number below place block names =
    let count = h.inode_count in
    let small = (inode_is v h number below).pointers place in
    (kept.used block (omega arith)).1
    (record { number = number; place = place; points = record { inode = inode_at v.inodes number; there = slice_get-get_or v.inodes number free_inode (omega arith); names = names } })

not_other : (a b : List ℕ) → not (pointwise nat_eq a b) ≡ false → a ≡ b
not_other a b h = same_text a b (turned (pointwise nat_eq a b) h)
  where
    turned : (c : Bool) → not c ≡ false → true ≡ c
    turned true h = refl
    turned false h = absurd (cc)

free_same : (v : Volume) (o : Option InodeEdit) → IsVolume v → AreBlocksKept v → IfSome o IsInodeEdit → has_other_blocks v.inodes o ≡ false → free_with_inode v.free v.inodes o ≡ v.free
free_same v None h kept is other = refl
free_same v (Some i) h kept is other =
    let to_511 = is.to_511 in
    let blocks = (inode_at v.inodes i.ino.0).blocks in
    let same : blocks ≡ i.inode.blocks = not_other blocks i.inode.blocks other in
    ap (λ (ps : List ℕ). marked_all false (marked_all true v.free blocks) ps) (sym same)
    ∙ marked_back v.free blocks (used_by v h kept i.ino.0 (omega arith))

none_grows : (free : List Bool) (o : Option Growth) → is_some o ≡ false → free_with_growth free o ≡ free
none_grows free None h = refl
none_grows free (Some g) h = absurd (cc)

-- the map is no home: it is as before
pub map_kept : (v : Volume) (e : Edit) → IsVolume v → AreBlocksKept v → IsEdit v e → (has_other_blocks v.inodes e.inode || is_some e.growth) ≡ false → (edited v e).free ≡ v.free
map_kept v e h kept is none =
    let both = neither (has_other_blocks v.inodes e.inode) (is_some e.growth) none in
    none_grows (free_with_inode v.free v.inodes e.inode) e.growth both.second ∙ free_same v e.inode h kept is.inode both.first

-- the slot of another client
pub data SlotPut (o : Option SlotEdit) (client : ℕ) : Type 0 where
  slot_here : (s : SlotEdit) → o ≡ Some s → s.client.0 ≡ client → SlotPut o client
  slot_not : ((s : SlotEdit) → o ≡ Some s → s.client.0 ≢ client) → SlotPut o client

pub slot_put : (o : Option SlotEdit) (client : ℕ) → SlotPut o client
slot_put None client = slot_not (λ s is. (let both : None ≡ Some s = is in absurd (cc)))
slot_put (Some t) client = elim (cases_eq t.client.0 client) [
  | inl same ↦ slot_here t refl same
  | inr apart ↦ slot_not (λ s is same. (let both : Some t ≡ Some s = is in let one : t ≡ s = cc in apart (ap (λ (x : SlotEdit). x.client.0) one ∙ same)))
]

pub slot_kept : (slots : List Slot) (o : Option SlotEdit) (client : ℕ) → ((s : SlotEdit) → o ≡ Some s → s.client.0 ≢ client) → slot_at (with_slot slots o) client ≡ slot_at slots client
slot_kept slots None client apart = refl
slot_kept slots (Some t) client apart = get_or-set_other slots t.client.0 client t.slot first_slot (λ same. apart t refl (sym same))

-- an entry leaves a block, or none does
pub data Leaves (o : Option Leaving) (number block : ℕ) : Type 0 where
  leaves : (l : Leaving) → o ≡ Some l → l.directory.0 ≡ number → l.place / 128 ≡ block → Leaves o number block
  leaves_not : ((l : Leaving) → o ≡ Some l → l.directory.0 ≡ number → l.place / 128 ≢ block) → Leaves o number block

pub does_leave : (o : Option Leaving) (number block : ℕ) → Leaves o number block
does_leave None number block = leaves_not (λ l is. (let both : None ≡ Some l = is in absurd (cc)))
does_leave (Some k) number block = elim (cases_eq k.directory.0 number) [
  | inl same ↦ elim (cases_eq (k.place / 128) block) [
    | inl index ↦ leaves k refl same index
    | inr apart ↦ leaves_not (λ l is at index. (let both : Some k ≡ Some l = is in let one : k ≡ l = cc in apart (ap (λ (x : Leaving). x.place / 128) one ∙ index)))
  ]
  | inr other ↦ leaves_not (λ l is at index. (let both : Some k ≡ Some l = is in let one : k ≡ l = cc in other (ap (λ (x : Leaving). x.directory.0) one ∙ at)))
]

-- an entry comes into a block, or none does
pub data Enters (o : Option Entering) (number block : ℕ) : Type 0 where
  enters : (n : Entering) → o ≡ Some n → n.directory.0 ≡ number → n.place / 128 ≡ block → Enters o number block
  enters_not : ((n : Entering) → o ≡ Some n → n.directory.0 ≡ number → n.place / 128 ≢ block) → Enters o number block

pub does_enter : (o : Option Entering) (number block : ℕ) → Enters o number block
does_enter None number block = enters_not (λ n is. (let both : None ≡ Some n = is in absurd (cc)))
does_enter (Some k) number block = elim (cases_eq k.directory.0 number) [
  | inl same ↦ elim (cases_eq (k.place / 128) block) [
    | inl index ↦ enters k refl same index
    | inr apart ↦ enters_not (λ n is at index. (let both : Some k ≡ Some n = is in let one : k ≡ n = cc in apart (ap (λ (x : Entering). x.place / 128) one ∙ index)))
  ]
  | inr other ↦ enters_not (λ n is at index. (let both : Some k ≡ Some n = is in let one : k ≡ n = cc in other (ap (λ (x : Entering). x.directory.0) one ∙ at)))
]

-- the block in which nothing changes
pub slots_kept : (v : Volume) (e : Edit) → IsVolume v → IsEdit v e → (number block : ℕ) → is_edited e.inode number ≡ false → 128 * block < length (slots_of v number)
    → ((l : Leaving) → e.leaving ≡ Some l → l.directory.0 ≡ number → l.place / 128 ≢ block) → ((n : Entering) → e.entering ≡ Some n → n.directory.0 ≡ number → n.place / 128 ≢ block)
    → block_slots (slots_of (edited v e) number) block ≡ block_slots (slots_of v number) block
slots_kept v e h is number block other within left entered =
    let whole = (each_directory v h number).whole in
    let before : block_slots (get_or (grown_slots v e) number []) block ≡ block_slots (slots_of v number) block = elim (does_grow e.growth number) [
      | grows g made same ↦ (
          let grown : get_or (grown_slots v e) number [] ≡ slots_of v number ++ replicate 128 None =
          subst (λ (n : ℕ). get_or (grown_slots v e) n [] ≡ slots_of v n ++ replicate 128 None) same (slots_grown v e g h.directory_count is made) in
          ap (λ (s : Slots). block_slots s block) grown ∙ block_slots-append (slots_of v number) (replicate 128 None) block (omega arith))
      | stays apart ↦ ap (λ (s : Slots). block_slots s block) (slots_as_before v e number apart)
    ] in
    block_kept v e number block h.directory_count is other left entered ∙ before
