-- Where a sector is outside its grammar, the sectors spell no volume.
use Rattle.std.proofs.Common.{◌≡◌, ◌≤◌, ◌<◌, ◌+◌, ◌*◌, ℕ, zero, suc, List, length, take, get_or, slice_get, slice_index, Some, Err, Result, sym, ap, ◌∙◌, subst, arith}
use Rattle.cal_base.specs.Limits as limits
use Rattle.std.proofs.lemmas.Option.{slice_get-get_or}
use Rattle.directory.specs.Block.{SpellsBlock}
use Rattle.directory.specs.Directory.{Continues, block_slots}
use Rattle.directory.proofs.Laws.{block_follows, one_way}
use Rattle.inode.specs.Inode.{SpellsInode}
use Rattle.inode.specs.declared.inode.Inode.{Inode}
use Rattle.inode.proofs.InodeLemmas.{same_inode}
use Rattle.journal.specs.Layout.{outside, sector}
use Rattle.request_log.specs.Slot.{SpellsSlot}
use Rattle.shared_disk.specs.Disk.{Disk}
use Rattle.space_map.specs.SpaceMap.{SpellsMap}
use Rattle.volume.specs.Head.{SpellsHead}
use Rattle.volume.specs.Volume.{Slots, SpellsDirectory, SpellsVolume, Volume, pointed, slots_of}
use Rattle.volume_edit.specs.Edit.{first_slot, free_inode}
use Rattle.image.specs.declared.mount_halt.MountHalt.{MountHalt}
use Rattle.image.specs.declared.mount_halt.MountHalt.TheVariants.{Damaged}
use Rattle.image.specs.Damage.{IsDamage, LacksBlock, Loads}
use Rattle.image.specs.Damage.FirstNode.{block, inode}
use Rattle.image.specs.Damage.IsDamage.{head, map, node, slot}
use Rattle.image.specs.Mount.{ReadsOnly}
use Rattle.image.proofs.Mounting.{outside_far, outside_first}

-- a directory's first blocks are loaded as it begins
loads_front : (s : List (List ℕ)) (i : Inode) (slots : Slots) → SpellsDirectory (outside s) i slots → (count : ℕ) (before : Slots) → 128 * count ≤ length slots → Loads s i count before
    → before ≡ take (128 * count) slots
unfolding Loads
loads_front s i slots d zero before within l = l
loads_front s i slots d (suc count) before within l =
    let inside : 128 * count < length slots = omega arith in
    let front = loads_front s i slots d count l.before (omega arith) l.loaded in
    let bytes = pointed s (slice_index i.blocks count) in
    let spelled : SpellsBlock bytes (block_slots slots count) = subst (λ (bs : List ℕ). SpellsBlock bs (block_slots slots count)) (outside_far s (547 + slice_index i.blocks count) (omega arith)) (d.blocks count inside) in
    let follows = block_follows slots count bytes d.directory inside spelled in
    let more : 128 * count + 128 ≡ 128 * suc count = omega arith in
    one_way (take (128 * count) slots) before _ bytes (subst (λ (xs : Slots). Continues xs bytes before) front l.continues) follows ∙ ap (λ (n : ℕ). take n slots) more

-- a block that breaks a directory off
no_block : (s : List (List ℕ)) (number at : ℕ) → number < limits.inodes → LacksBlock number s at → (v : Volume) → SpellsVolume (outside s) v → ⊥
no_block s number at small b v spells =
    let count = spells.inode_count in
    let within = b.within in
    let there : slice_get v.inodes number ≡ Some (get_or v.inodes number free_inode) = slice_get-get_or v.inodes number free_inode (omega arith) in
    let spelled = subst (λ (bytes : List ℕ). SpellsInode bytes (get_or v.inodes number free_inode)) (outside_far s (36 + number) (omega arith)) (spells.inodes number _ there) in
    let same : get_or v.inodes number free_inode ≡ b.inode = same_inode (sector s (36 + number)) _ b.inode spelled b.spelled in
    let d : SpellsDirectory (outside s) b.inode (slots_of v number) = spells.directories number b.inode (there ∙ ap Some same) b.kind in
    let long = d.count in
    let inside : 128 * b.block < length (slots_of v number) = omega arith in
    let front = loads_front s b.inode (slots_of v number) d b.block b.before (omega arith) b.loaded in
    let bytes = pointed s (slice_index b.inode.blocks b.block) in
    let block_is : SpellsBlock bytes (block_slots (slots_of v number) b.block) = subst (λ (bs : List ℕ). SpellsBlock bs (block_slots (slots_of v number) b.block)) (outside_far s (547 + slice_index b.inode.blocks b.block) (omega arith)) (d.blocks b.block inside) in
    let follows = block_follows (slots_of v number) b.block bytes d.directory inside block_is in
    b.off.1 _ (subst (λ (xs : Slots). Continues xs bytes (take (128 * b.block + 128) (slots_of v number))) (sym front) follows)

pub no_volume : (s : List (List ℕ)) (at : ℕ) → IsDamage s at → (v : Volume) → SpellsVolume (outside s) v → ⊥
no_volume s at (head lacks) v spells = lacks.1 (record { clients = v.clients; spelled = subst (λ (bytes : List ℕ). SpellsHead bytes v.clients) (outside_first s) spells.head })
no_volume s at (map before lacks) v spells = lacks.1 (record { free = v.free; spelled = subst (λ (bytes : List ℕ). SpellsMap bytes v.free) (outside_far s 19 (omega arith)) spells.map })
no_volume s at (slot before maps f) v spells =
    let count = spells.slot_count in
    let small = f.within in
    let there : slice_get v.slots f.client ≡ Some (get_or v.slots f.client first_slot) = slice_get-get_or v.slots f.client first_slot (omega arith) in
    f.lacks.1 (record { slot = get_or v.slots f.client first_slot; spelled = subst (λ (bytes : List ℕ). SpellsSlot bytes (get_or v.slots f.client first_slot)) (outside_far s (20 + f.client) (omega arith)) (spells.slots f.client _ there) })
no_volume s at (node before maps slots (inode f)) v spells =
    let count = spells.inode_count in
    let small = f.within in
    let there : slice_get v.inodes f.number ≡ Some (get_or v.inodes f.number free_inode) = slice_get-get_or v.inodes f.number free_inode (omega arith) in
    f.lacks.1 (record {
      inode = get_or v.inodes f.number free_inode;
      spelled = subst (λ (bytes : List ℕ). SpellsInode bytes (get_or v.inodes f.number free_inode)) (outside_far s (36 + f.number) (omega arith)) (spells.inodes f.number _ there);
      root = λ first. spells.root _ (subst (λ (n : ℕ). slice_get v.inodes n ≡ Some (get_or v.inodes f.number free_inode)) first there);
    })
no_volume s at (node before maps slots (block inodes f)) v spells = no_block s f.number at f.within f.lacks v spells

-- where the sectors spell a volume, no damage is found
pub no_damage : (d : Disk) (view f : ℕ) (r : Result (Unit {0}) MountHalt) (d' : Disk) (f' : ℕ) → ReadsOnly IsDamage d view f r d' f' → (s : List (List ℕ)) → d.sectors ≡ Some s
    → (v : Volume) → SpellsVolume (outside s) v → (at : ℕ) → r ≡ Err (Damaged at) → ⊥
no_damage d view f r d' f' reads s t v spells at is =
    let damaged = subst (λ (x : Result (Unit {0}) MountHalt). ReadsOnly IsDamage d view f x d' f') is reads in
    no_volume s at (damaged.ends.1 s t) v spells
