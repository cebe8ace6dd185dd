-- Parts that were read are a volume that the sectors spell.
use Rattle.std.proofs.Common.{◌≡◌, ◌≤◌, ◌<◌, ◌+◌, ◌-◌, ◌*◌, ◌/◌, ◌++◌, ℕ, zero, suc, Bool, List, [], ◌∷◌, length, take, drop, replicate, get_or, slice_get, slice_index, Some, refl, sym, ap, ◌∙◌, subst, arith, inl, inr, length-append, length-drop, Vec, Result, Ok, Err, OnOk}
use Rattle.cal_base.specs.Limits as limits
use Rattle.std.specs.Vec.{with_items}
use Rattle.std.proofs.lemmas.Bool.{cases_lt}
use Rattle.std.proofs.lemmas.List.{drop-append-le, drop_at, get_or-append_right, get_or-drop, take-append-le, take_all, with_items_is}
use Rattle.std.proofs.lemmas.Option.{get_or_from_slice_get, slice_get-get_or, slice_get_within}
use Rattle.directory.specs.Block.{SpellsBlock}
use Rattle.directory.specs.Directory.{block_slots}
use Rattle.inode.specs.Inode.{SpellsInode}
use Rattle.inode.specs.declared.inode.Inode.{Inode}
use Rattle.inode.specs.declared.inode.Kind.{Kind}
use Rattle.inode.specs.declared.inode.Kind.TheVariants.{Dir}
use Rattle.journal.specs.Layout.{outside, sector}
use Rattle.request_log.specs.Slot.{SpellsSlot}
use Rattle.request_log.specs.declared.slot.Slot.{Slot}
use Rattle.space_map.specs.SpaceMap.{SpellsMap, free_bits, free_blocks}
use Rattle.space_map.proofs.FreeBits.{length-free_bits}
use Rattle.volume.specs.Head.{SpellsHead}
use Rattle.volume.specs.Volume.{Slots, SpellsDirectory, SpellsVolume, Volume, pointed}
use Rattle.volume_edit.specs.Edit.{HasSlots, IsSized, IsVolume, free_inode}
use Rattle.image.specs.Image.{IsImage}
use Rattle.image.specs.Damage.{Loads}
use Rattle.image.specs.Mount.{AreParts, ArePartsRead}

-- the sectors of the volume are those of the disk, but for the journal
pub outside_far : (s : List (List ℕ)) (at : ℕ) → 19 ≤ at → sector (outside s) at ≡ sector s at
outside_far [] at far = refl
outside_far (head ∷ rest) zero far = absurd (omega arith)
outside_far (head ∷ rest) (suc at) far =
    let back : 18 + (at - 18) ≡ at = omega arith in
    get_or-append_right (replicate 18 []) (drop 18 rest) 18 at [] refl (omega arith) ∙ get_or-drop 18 rest (at - 18) [] ∙ ap (sector rest) back

pub outside_first : (s : List (List ℕ)) → sector (outside s) 0 ≡ sector s 0
outside_first [] = refl
outside_first (head ∷ rest) = refl

-- the blocks that were loaded
pub loads_length : (s : List (List ℕ)) (inode : Inode) (count : ℕ) (slots : Slots) → Loads s inode count slots → length slots ≡ 128 * count
unfolding Loads
loads_length s inode zero slots l = ap length l
loads_length s inode (suc count) slots l =
    let before = loads_length s inode count l.before l.loaded in
    let k = l.continues in
    let size = k.spelled.count in
    let whole = ap length k.whole ∙ length-append l.before k.slots in
    omega arith

front_block : (before new : Slots) (block : ℕ) → 128 * block + 128 ≤ length before → block_slots (before ++ new) block ≡ block_slots before block
front_block before new block within =
    let from = drop-append-le (128 * block) before new (omega arith) in
    let size = length-drop (128 * block) before in
    ap (take (128 * block + 128 - 128 * block)) from ∙ take-append-le (128 * block + 128 - 128 * block) (drop (128 * block) before) new (omega arith)

last_block : (before new : Slots) (block : ℕ) → length before ≡ 128 * block → length new ≡ 128 → block_slots (before ++ new) block ≡ new
last_block before new block long size =
    ap (take (128 * block + 128 - 128 * block)) (drop_at before new (128 * block) long) ∙ take_all (128 * block + 128 - 128 * block) new (omega arith)

pub loads_blocks : (s : List (List ℕ)) (inode : Inode) (count : ℕ) (slots : Slots) → Loads s inode count slots → (block : ℕ) → block < count
    → SpellsBlock (pointed s (slice_index inode.blocks block)) (block_slots slots block)
unfolding Loads
loads_blocks s inode zero slots l block below = absurd (omega arith)
loads_blocks s inode (suc count) slots l block below =
    let k = l.continues in
    let long = loads_length s inode count l.before l.loaded in
    elim (cases_lt block count) [
      | inl less ↦ subst (SpellsBlock (pointed s (slice_index inode.blocks block))) (sym (ap (λ (xs : Slots). block_slots xs block) k.whole ∙ front_block l.before k.slots block (omega arith)))
          (loads_blocks s inode count l.before l.loaded block less)
      | inr more ↦ (
          let last : count ≡ block = omega arith in
          subst (SpellsBlock (pointed s (slice_index inode.blocks block))) (sym (ap (λ (xs : Slots). block_slots xs block) k.whole ∙ last_block l.before k.slots block (omega arith) k.spelled.count))
          (subst (λ (n : ℕ). SpellsBlock (pointed s (slice_index inode.blocks n)) k.slots) last k.spelled))
    ]

-- a directory whose blocks were loaded is spelled
loads_directory : (s : List (List ℕ)) (inode : Inode) (slots : Slots) → IsSized inode slots → Loads s inode (inode.size / 4096) slots → SpellsDirectory (outside s) inode slots
loads_directory s inode slots sized l =
    let count = sized.count in
    let long = loads_length s inode (inode.size / 4096) slots l in
    record {
      directory = sized.directory;
      count = sized.count;
      blocks = λ block within. subst (λ (bytes : List ℕ). SpellsBlock bytes (block_slots slots block)) (sym (outside_far s (547 + slice_index inode.blocks block) (omega arith)))
          (loads_blocks s inode (inode.size / 4096) slots l block (omega arith));
    }

-- the parts of an image
pub parts_of : (v : Volume) (free orphan : ℕ) → IsImage v free orphan → AreParts v.clients v.free v.slots v.inodes v.directories
parts_of v free orphan image =
    let is = image.volume in
    record {
      count = record { some = is.some; few = is.few };
      map_is = is.map;
      slots_are = is.slots;
      nodes_are = λ number inode slots at there. record {
        inode_is = is.inodes number inode at;
        has = subst (HasSlots inode.kind inode) (get_or_from_slice_get v.directories number slots [] there) (is.directories number inode at);
        root = λ first. subst (λ (i : Inode). i.kind ≡ Dir) (get_or_from_slice_get v.inodes 0 inode free_inode (subst (λ (n : ℕ). slice_get v.inodes n ≡ Some inode) first at)) is.root;
      };
    }

-- parts of the right count are a volume
module _ (clients : ℕ) (free : List Bool) (slots : List Slot) (inodes : List Inode) (directories : List Slots)
    (slot_count : length slots ≡ 16) (inode_count : length inodes ≡ limits.inodes) (directory_count : length directories ≡ limits.inodes)
    (parts : AreParts clients free slots inodes directories) where
  v : Volume
  v = record { clients = clients; free = free; slots = slots; inodes = inodes; directories = directories }

  there : (number : ℕ) (inode : Inode) → slice_get inodes number ≡ Some inode → slice_get directories number ≡ Some (get_or directories number [])
  there number inode at = slice_get-get_or directories number [] (let within = slice_get_within inodes number inode at in omega arith)

  root_at : slice_get inodes 0 ≡ Some (get_or inodes 0 free_inode)
  root_at = slice_get-get_or inodes 0 free_inode (omega arith)

  is_volume : IsVolume v
  unfolding v
  is_volume = record {
    some = parts.count.some;
    few = parts.count.few;
    map = parts.map_is;
    slot_count = slot_count;
    slots = parts.slots_are;
    inode_count = inode_count;
    inodes = λ number inode at. (parts.nodes_are number inode (get_or directories number []) at (there number inode at)).inode_is;
    directory_count = directory_count;
    directories = λ number inode at. (parts.nodes_are number inode (get_or directories number []) at (there number inode at)).has;
    root = (parts.nodes_are 0 (get_or inodes 0 free_inode) (get_or directories 0 []) root_at (there 0 (get_or inodes 0 free_inode) root_at)).root refl;
  }

  pub image_of : IsImage (record { clients = clients; free = free; slots = slots; inodes = inodes; directories = directories }) 0 0
  unfolding v
  image_of = record {
    volume = is_volume;
    free = record { within = omega arith; none = λ number below. absurd (omega arith) };
    orphan = record { within = omega arith; none = λ number below. absurd (omega arith) };
  }

  pub volume_read : (s : List (List ℕ)) → ArePartsRead s clients free slots inodes directories
      → SpellsVolume (outside s) (record { clients = clients; free = free; slots = slots; inodes = inodes; directories = directories })
  volume_read s read = record {
    head = subst (λ (bytes : List ℕ). SpellsHead bytes clients) (sym (outside_first s)) read.head_read;
    map = subst (λ (bytes : List ℕ). SpellsMap bytes free) (sym (outside_far s 19 (omega arith))) read.map_read;
    slot_count = slot_count;
    slots = λ client slot at. subst (λ (bytes : List ℕ). SpellsSlot bytes slot) (sym (outside_far s (20 + client) (omega arith)))
        (read.slots_read client slot (let within = slice_get_within slots client slot at in omega arith) at);
    inode_count = inode_count;
    inodes = λ number inode at. subst (λ (bytes : List ℕ). SpellsInode bytes inode) (sym (outside_far s (36 + number) (omega arith)))
        (read.nodes_read number inode (get_or directories number []) (let within = slice_get_within inodes number inode at in omega arith) at (there number inode at)).spelled;
    directories = λ number inode at kind. loads_directory s inode (get_or directories number [])
        (subst (λ (k : Kind). HasSlots k inode (get_or directories number [])) kind (parts.nodes_are number inode (get_or directories number []) at (there number inode at)).has)
        ((read.nodes_read number inode (get_or directories number []) (let within = slice_get_within inodes number inode at in omega arith) at (there number inode at)).blocks kind);
    root = λ inode at. (parts.nodes_are 0 inode (get_or directories 0 []) at (there 0 inode at)).root refl;
  }

-- a map that a sector spells has 2,048 blocks
length-free_blocks : (bytes : List ℕ) → length (free_blocks bytes) ≡ 8 * length bytes
unfolding free_blocks
length-free_blocks [] = refl
length-free_blocks (byte ∷ bytes) =
    let eight = length-free_bits 8 byte in
    let rest = length-free_blocks bytes in
    omega (arith, length-append (free_bits 8 byte) (free_blocks bytes))

pub map_whole : (bytes : List ℕ) (free : List Bool) → SpellsMap bytes free → length free ≡ limits.blocks
map_whole bytes free spells = (let count = spells.count in ap length spells.blocks ∙ length-free_blocks spells.bytes ∙ ap (λ (n : ℕ). 8 * n) count)

-- the parts of an image before and after, each behind a loan of its vector
pub record Loan {A : Type 0} (size : ℕ) (items seen new items' : List A) : Type 0 where
  pub sized : length items ≡ size
  pub as_seen : seen ≡ items
  pub long : length new ≡ size
  pub back : items' ≡ new

pub loan : {A Z : Type 0} (v : Vec A Z) (size : ℕ) (seen new : List A) → length v.items ≡ size → seen ≡ v.items → length seen ≡ v.len → length new ≡ size → Loan size v.items seen new (with_items v new).items
loan v size seen new sized as_seen len long = record {
  sized = sized;
  as_seen = as_seen;
  long = long;
  back = with_items_is v new (long ∙ sym sized ∙ sym (ap length as_seen) ∙ len);
}

module _ (v : Volume) (clients : ℕ) (free : List Bool) (slots slots' slots'' : List Slot) (inodes inodes' inodes'' : List Inode) (directories directories' directories'' : List Slots)
    (s : Loan 16 v.slots slots slots' slots'') (i : Loan 512 v.inodes inodes inodes' inodes'') (d : Loan 512 v.directories directories directories' directories'')
    (kept : AreParts v.clients v.free slots inodes directories → AreParts clients free slots' inodes' directories') where
  same_parts : (c : ℕ) (m : List Bool) (x x' : List Slot) (y y' : List Inode) (z z' : List Slots) → x' ≡ x → y' ≡ y → z' ≡ z → AreParts c m x y z → AreParts c m x' y' z'
  same_parts c m x x' y y' z z' a b e parts =
      subst (λ (p : List Slot). AreParts c m p y' z') (sym a) (subst (λ (p : List Inode). AreParts c m x p z') (sym b) (subst (AreParts c m x y) (sym e) parts))

  parts_now : (a b : ℕ) → IsImage v a b → AreParts clients free slots'' inodes'' directories''
  parts_now a b image = same_parts clients free slots' slots'' inodes' inodes'' directories' directories'' s.back i.back d.back
      (kept (same_parts v.clients v.free v.slots slots v.inodes inodes v.directories directories s.as_seen i.as_seen d.as_seen (parts_of v a b image)))

  pub image_now : (a b : ℕ) → IsImage v a b → IsImage (record { clients = clients; free = free; slots = slots''; inodes = inodes''; directories = directories'' }) 0 0
  image_now a b image = image_of clients free slots'' inodes'' directories'' (ap length s.back ∙ s.long) (ap length i.back ∙ i.long) (ap length d.back ∙ d.long) (parts_now a b image)

  pub read_now : (a b : ℕ) → IsImage v a b → (x : List (List ℕ)) → ArePartsRead x clients free slots' inodes' directories'
      → SpellsVolume (outside x) (record { clients = clients; free = free; slots = slots''; inodes = inodes''; directories = directories'' })
  read_now a b image x read = volume_read clients free slots'' inodes'' directories'' (ap length s.back ∙ s.long) (ap length i.back ∙ i.long) (ap length d.back ∙ d.long) (parts_now a b image) x
      (subst (λ (p : List Slot). ArePartsRead x clients free p inodes'' directories'') (sym s.back) (subst (λ (p : List Inode). ArePartsRead x clients free slots' p directories'') (sym i.back)
      (subst (ArePartsRead x clients free slots' inodes') (sym d.back) read)))

-- what follows where a call ended well
pub on_ok : {A E P Q : Type 0} (r : Result A E) → (P → Q) → OnOk r P → OnOk r Q
on_ok (Ok x) f h = f h
on_ok (Err e) f h = tt
