-- Each part of the edited volume is spelled, where the homes of the edit are written.
use Rattle.std.proofs.Common.{◌≡◌, ◌≢◌, ◌<◌, ◌≤◌, ◌+◌, ◌*◌, ◌/◌, ◌++◌, ℕ, Bool, List, [], ◌∷◌, length, Option, Some, slice_get, slice_index, sym, ap, ◌∙◌, subst, arith}
use Rattle.cal_base.specs.Limits as limits
use Rattle.std.specs.Prelude.{◌||◌, is_some, option_map, if◌then◌else◌}
use Rattle.std.proofs.lemmas.Option.{get_or_from_slice_get, slice_get-get_or, slice_get_within}
use Rattle.directory.specs.Block.{SpellsBlock}
use Rattle.directory.specs.Directory.{block_slots}
use Rattle.inode.specs.Inode.{SpellsInode}
use Rattle.inode.specs.declared.inode.Inode.{Inode}
use Rattle.inode.specs.declared.inode.Kind.{Kind}
use Rattle.inode.specs.declared.inode.Kind.TheVariants.{Dir}
use Rattle.journal.specs.Layout.{sector}
use Rattle.request_log.specs.Slot.{SpellsSlot}
use Rattle.shared_disk.specs.Sectors.{written}
use Rattle.space_map.specs.SpaceMap.{SpellsMap}
use Rattle.volume.specs.Head.{SpellsHead}
use Rattle.volume.specs.Stands.{AreBlocksKept}
use Rattle.volume.specs.Volume.{Slots, SpellsDirectory, SpellsVolume, Volume, pointed, slots_of}
use Rattle.volume_edit.specs.Blocks.{TakesFree}
use Rattle.volume_edit.specs.Edit.{HasSlots, IsEdit, IsEntering, IsGrowth, IsLeaving, IsSized, IsVolume, edited, first_slot, free_inode, inode_at, slot_at}
use Rattle.volume_edit.specs.Homes.{AreHomes, BlockPart, MapPart, block_parts, entering_part, growth_part, has_other_blocks, in_order, inode_part, inode_parts, leaving_part, map_parts, parts, sector_of, slot_parts}
use Rattle.volume_edit.specs.declared.edit.Edit.{Edit}
use Rattle.volume_edit.specs.declared.edit.Entering.{Entering}
use Rattle.volume_edit.specs.declared.edit.Growth.{Growth}
use Rattle.volume_edit.specs.declared.edit.InodeEdit.{InodeEdit}
use Rattle.volume_edit.specs.declared.edit.Leaving.{Leaving}
use Rattle.volume_edit.specs.declared.edit.SlotEdit.{SlotEdit}
use Rattle.volume_edit.proofs.Directories.{count_grown, count_left_past}
use Rattle.volume_edit.proofs.Grammar.{edited_volume}
use Rattle.volume_edit.proofs.Inodes.{grown, inode_kept, kept, put, some_has, which}
use Rattle.volume_edit.proofs.Kept.{does_enter, does_leave, enters, enters_not, leaves, leaves_not, map_kept, no_test, slot_here, slot_kept, slot_not, slot_put, slots_kept, test, yes_test}
use Rattle.volume_edit.proofs.Live.{IsLive, entering_live, leaving_live, pointer_is}
use Rattle.volume_edit.proofs.PartLists.{Each, each-back, each-front, each-in_order, holds, of_first, of_second, shares}
use Rattle.volume_edit.proofs.Pointers.{AreOne, behind, new, old, one_block}
use Rattle.volume_edit.proofs.SlotChanges.{length-grown}
use Rattle.volume_edit.proofs.Transaction.{block_rise, inode_rise, map_rise, parts_rise, slot_rise}
use Rattle.volume_edit.proofs.WrittenParts.{IsTold, apart_above, apart_below, told, unwritten}
use Rattle.volume_edit.proofs.PartCases.{Apart, apart_growth, apart_inode, apart_parts, apart_slot, filled_by, growth_told, if_entering, if_leaving, leaving_of}

-- what is known of an edit whose homes are written
pub record Given (x : List (List ℕ)) (v : Volume) (e : Edit) (homes : List (ℕ × List ℕ)) : Type 0 where
  pub long : length x ≡ limits.sectors
  pub spells : SpellsVolume x v
  pub volume : IsVolume v
  pub kept : AreBlocksKept v
  pub edit : IsEdit v e
  pub takes : TakesFree v e
  pub at : AreHomes v e homes

module _ (x : List (List ℕ)) (v : Volume) (e : Edit) (homes : List (ℕ × List ℕ)) (g : Given x v e homes) where
  volume_then : IsVolume (edited v e)
  volume_then = edited_volume v e g.volume g.edit

  -- a sector apart from all parts is as before
  pub as_before : (j : ℕ) → Each (Apart (edited v e) j) (map_parts v e) → Each (Apart (edited v e) j) (slot_parts e.slot) → Each (Apart (edited v e) j) (inode_parts v e) → Each (Apart (edited v e) j) (block_parts v e)
      → sector (written x homes) j ≡ sector x j
  as_before j map slots inodes blocks = unwritten (edited v e) (parts v e) homes x j g.at.spell (apart_parts v (edited v e) e j map slots inodes blocks)

  -- what is told of the parts of each kind
  all_told : Each (IsTold (edited v e) (written x homes)) (map_parts v e ++ (slot_parts e.slot ++ (inode_parts v e ++ block_parts v e)))
  all_told = told (edited v e) (parts v e) homes x 19 g.at.spell (parts_rise v e g.volume g.edit) g.long

  map_told : Each (IsTold (edited v e) (written x homes)) (map_parts v e)
  map_told = each-front (IsTold (edited v e) (written x homes)) (map_parts v e) _ all_told

  others_told : Each (IsTold (edited v e) (written x homes)) (slot_parts e.slot ++ (inode_parts v e ++ block_parts v e))
  others_told = each-back (IsTold (edited v e) (written x homes)) (map_parts v e) _ all_told

  slot_told : Each (IsTold (edited v e) (written x homes)) (slot_parts e.slot)
  slot_told = each-front (IsTold (edited v e) (written x homes)) (slot_parts e.slot) _ others_told

  inode_told : Each (IsTold (edited v e) (written x homes)) (inode_parts v e)
  inode_told = each-front (IsTold (edited v e) (written x homes)) (inode_parts v e) (block_parts v e) (each-back (IsTold (edited v e) (written x homes)) (slot_parts e.slot) _ others_told)

  block_told : Each (IsTold (edited v e) (written x homes)) (block_parts v e)
  block_told = each-back (IsTold (edited v e) (written x homes)) (inode_parts v e) (block_parts v e) (each-back (IsTold (edited v e) (written x homes)) (slot_parts e.slot) _ others_told)

  -- the sectors of each kind lie apart
  pub map_below : (j : ℕ) → 20 ≤ j → Each (Apart (edited v e) j) (map_parts v e)
  map_below j from = apart_above (edited v e) (map_parts v e) 19 20 j (map_rise v (edited v e) e) from

  pub slot_below : (j : ℕ) → 36 ≤ j → Each (Apart (edited v e) j) (slot_parts e.slot)
  slot_below j from = apart_above (edited v e) (slot_parts e.slot) 20 36 j (slot_rise (edited v e) e.slot g.edit.slot) from

  slot_above : (j : ℕ) → j < 20 → Each (Apart (edited v e) j) (slot_parts e.slot)
  slot_above j low = apart_below (edited v e) (slot_parts e.slot) 20 36 j (slot_rise (edited v e) e.slot g.edit.slot) low

  pub inode_below : (j : ℕ) → 548 ≤ j → Each (Apart (edited v e) j) (inode_parts v e)
  inode_below j from = apart_above (edited v e) (inode_parts v e) 36 548 j (inode_rise v (edited v e) e g.edit) from

  inode_above : (j : ℕ) → j < 36 → Each (Apart (edited v e) j) (inode_parts v e)
  inode_above j low = apart_below (edited v e) (inode_parts v e) 36 548 j (inode_rise v (edited v e) e g.edit) low

  pub block_above : (j : ℕ) → j < 548 → Each (Apart (edited v e) j) (block_parts v e)
  block_above j low = apart_below (edited v e) (block_parts v e) 548 2596 j (block_rise v e g.volume g.edit) low

  -- the head
  head_spelled : SpellsHead (sector (written x homes) 0) v.clients
  head_spelled = subst (λ (s : List ℕ). SpellsHead s v.clients) (sym same) g.spells.head
    where
      same : sector (written x homes) 0 ≡ sector x 0
      same = as_before 0 (apart_below (edited v e) (map_parts v e) 19 20 0 (map_rise v (edited v e) e) (omega arith)) (slot_above 0 (omega arith)) (inode_above 0 (omega arith)) (block_above 0 (omega arith))

  -- the map
  map_spelled : SpellsMap (sector (written x homes) 19) (edited v e).free
  map_spelled = elim (test (has_other_blocks v.inodes e.inode || is_some e.growth)) [
    | yes_test is ↦ (subst (λ (b : Bool). Each (IsTold (edited v e) (written x homes)) (if b then MapPart ∷ [] else [])) is map_told).0
    | no_test is ↦ (
        let apart : Each (Apart (edited v e) 19) (map_parts v e) = subst (λ (b : Bool). Each (Apart (edited v e) 19) (if b then MapPart ∷ [] else [])) (sym is) tt in
        let same : sector (written x homes) 19 ≡ sector x 19 = as_before 19 apart (slot_above 19 (omega arith)) (inode_above 19 (omega arith)) (block_above 19 (omega arith)) in
        subst (λ (s : List ℕ). SpellsMap s (edited v e).free) (sym same) (subst (λ (f : List Bool). SpellsMap (sector x 19) f) (sym (map_kept v e g.volume g.kept g.edit is)) g.spells.map))
  ]

  -- the slots of clients
  slot_spelled : (client : ℕ) → client < limits.clients → SpellsSlot (sector (written x homes) (20 + client)) (slot_at (edited v e).slots client)
  slot_spelled client low = elim (slot_put e.slot client) [
    | slot_here s made same ↦ subst (λ (n : ℕ). SpellsSlot (sector (written x homes) (20 + n)) (slot_at (edited v e).slots n)) same
        (subst (λ (o : Option SlotEdit). Each (IsTold (edited v e) (written x homes)) (slot_parts o)) made slot_told).0
    | slot_not apart ↦ (
        let count = g.volume.slot_count in
        let others = apart_slot (edited v e) e.slot client apart in
        let same : sector (written x homes) (20 + client) ≡ sector x (20 + client) = as_before (20 + client) (map_below (20 + client) (omega arith)) others (inode_above (20 + client) (omega arith)) (block_above (20 + client) (omega arith)) in
        let before = g.spells.slots client (slot_at v.slots client) (slice_get-get_or v.slots client first_slot (omega arith)) in
        subst (λ (s : List ℕ). SpellsSlot s (slot_at (edited v e).slots client)) (sym same)
        (subst (SpellsSlot (sector x (20 + client))) (sym (slot_kept v.slots e.slot client apart)) before))
  ]

  -- the inodes
  inode_spelled : (number : ℕ) → number < limits.inodes → SpellsInode (sector (written x homes) (36 + number)) (inode_at (edited v e).inodes number)
  inode_spelled number low = elim (which e number) [
    | put i made same ↦ subst (λ (n : ℕ). SpellsInode (sector (written x homes) (36 + n)) (inode_at (edited v e).inodes n)) same
        (of_first (IsTold (edited v e) (written x homes)) v (inode_part i) (option_map growth_part e.growth)
        (subst (λ (o : Option InodeEdit). Each (IsTold (edited v e) (written x homes)) (in_order v (option_map inode_part o) (option_map growth_part e.growth))) made inode_told))
    | grown k made same ↦ subst (λ (n : ℕ). SpellsInode (sector (written x homes) (36 + n)) (inode_at (edited v e).inodes n)) same
        (growth_told v (edited v e) (written x homes) e.inode k
        (subst (λ (o : Option Growth). Each (IsTold (edited v e) (written x homes)) (in_order v (option_map inode_part e.inode) (option_map growth_part o))) made inode_told))
    | kept other apart ↦ (
        let count = g.volume.inode_count in
        let others : Each (Apart (edited v e) (36 + number)) (inode_parts v e) = each-in_order (Apart (edited v e) (36 + number)) v (option_map inode_part e.inode) (option_map growth_part e.growth)
        (apart_inode (edited v e) e.inode number other) (apart_growth (edited v e) e.growth number apart) in
        let same : sector (written x homes) (36 + number) ≡ sector x (36 + number) = as_before (36 + number) (map_below (36 + number) (omega arith)) (slot_below (36 + number) (omega arith)) others (block_above (36 + number) (omega arith)) in
        let before = g.spells.inodes number (inode_at v.inodes number) (slice_get-get_or v.inodes number free_inode (omega arith)) in
        subst (λ (s : List ℕ). SpellsInode s (inode_at (edited v e).inodes number)) (sym same)
        (subst (SpellsInode (sector x (36 + number))) (sym (inode_kept v e number other apart)) before))
  ]

  -- the blocks that an entry leaves, or into which one comes
  leaving_told : (l : Leaving) → e.leaving ≡ Some l → IsTold (edited v e) (written x homes) (leaving_part l)
  leaving_told l made = of_first (IsTold (edited v e) (written x homes)) (edited v e) (leaving_part l) (option_map entering_part e.entering)
      (subst (λ (o : Option Leaving). Each (IsTold (edited v e) (written x homes)) (in_order (edited v e) (option_map leaving_part o) (option_map entering_part e.entering))) made block_told)

  pub leaves_live : (l : Leaving) → e.leaving ≡ Some l → IsLive (edited v e) l.directory.0 (l.place / 128)
  leaves_live l made = leaving_live v e l g.volume g.edit (some_has (IsLeaving v e) e.leaving l g.edit.leaving made)

  pub enters_live : (n : Entering) → e.entering ≡ Some n → IsLive (edited v e) n.directory.0 (n.place / 128)
  enters_live n made = entering_live v e n g.volume g.edit (some_has (IsEntering v e) e.entering n g.edit.entering made)

  -- two blocks in one sector are one
  one_sector : (a i b j : ℕ) → IsLive (edited v e) a i → IsLive (edited v e) b j → sector_of (edited v e) (BlockPart a i) ≡ sector_of (edited v e) (BlockPart b j) → AreOne a b i j
  one_sector a i b j live_a live_b same = one_block v e g.volume g.kept g.edit g.takes a i b j live_a live_b (omega arith)

  told_there : (a b i j : ℕ) → AreOne a b i j → IsTold (edited v e) (written x homes) (BlockPart a i) → IsTold (edited v e) (written x homes) (BlockPart b j)
  told_there a b i j one it = subst (λ (n : ℕ). IsTold (edited v e) (written x homes) (BlockPart n j)) one.number (subst (λ (k : ℕ). IsTold (edited v e) (written x homes) (BlockPart a k)) one.index it)

  entering_told : (n : Entering) → e.entering ≡ Some n → IsTold (edited v e) (written x homes) (entering_part n)
  entering_told n made = elim (of_second (IsTold (edited v e) (written x homes)) (edited v e) (option_map leaving_part e.leaving) (entering_part n)
      (subst (λ (o : Option Entering). Each (IsTold (edited v e) (written x homes)) (in_order (edited v e) (option_map leaving_part e.leaving) (option_map entering_part o))) made block_told)) [
        | holds it ↦ it
        | shares other is same it ↦ (
            let source = leaving_of e.leaving other is in
            let l = source.leaving in
            let at : sector_of (edited v e) (leaving_part l) ≡ sector_of (edited v e) (entering_part n) = ap (sector_of (edited v e)) (sym source.from) ∙ same in
            let one = one_sector l.directory.0 (l.place / 128) n.directory.0 (n.place / 128) (leaves_live l source.is) (enters_live n made) at in
            told_there l.directory.0 n.directory.0 (l.place / 128) (n.place / 128) one (subst (IsTold (edited v e) (written x homes)) source.from it))
      ]

  -- the entry that comes with a block stands in it
  new_filled : (k : Growth) (number block : ℕ) → e.growth ≡ Some k → k.directory.0 ≡ number → length (slots_of v number) ≡ 128 * block
      → ((n : Entering) → e.entering ≡ Some n → n.directory.0 ≡ number → n.place / 128 ≢ block) → ⊥
  new_filled k number block made same count entered =
      let of = some_has (IsGrowth v e) e.growth k g.edit.growth made in
      let fill = filled_by v k e.entering of.filled in
      let n = fill.entering in
      let behind = fill.behind in
      let into = some_has (IsEntering v e) e.entering n g.edit.entering fill.is in
      let left = count_left_past v e n.directory.0 g.volume.directory_count g.edit into.directory.stays in
      let grown = count_grown v e k g.volume.directory_count g.edit made in
      let more = length-grown (slots_of v k.directory.0) in
      let there : length (slots_of (edited v e) n.directory.0) ≡ length (slots_of (edited v e) k.directory.0) = ap (λ (m : ℕ). length (slots_of (edited v e) m)) behind.directory in
      let before : length (slots_of v k.directory.0) ≡ length (slots_of v number) = ap (λ (m : ℕ). length (slots_of v m)) same in
      let within = into.within in
      let from = behind.place in
      entered n fill.is (behind.directory ∙ same) (omega arith)

  -- a block in which nothing changes
  block_apart : (number block : ℕ) → IsLive (edited v e) number block → ((l : Leaving) → e.leaving ≡ Some l → l.directory.0 ≡ number → l.place / 128 ≢ block)
      → ((n : Entering) → e.entering ≡ Some n → n.directory.0 ≡ number → n.place / 128 ≢ block) → Each (Apart (edited v e) (sector_of (edited v e) (BlockPart number block))) (block_parts v e)
  block_apart number block live left entered = each-in_order (Apart (edited v e) (sector_of (edited v e) (BlockPart number block))) (edited v e) (option_map leaving_part e.leaving) (option_map entering_part e.entering)
      (if_leaving (Apart (edited v e) (sector_of (edited v e) (BlockPart number block))) e.leaving (λ l made same. (
      let one = one_sector l.directory.0 (l.place / 128) number block (leaves_live l made) live same in
      left l made one.number one.index)))
      (if_entering (Apart (edited v e) (sector_of (edited v e) (BlockPart number block))) e.entering (λ n made same. (
      let one = one_sector n.directory.0 (n.place / 128) number block (enters_live n made) live same in
      entered n made one.number one.index)))

  block_same : (number block : ℕ) → IsLive (edited v e) number block → ((l : Leaving) → e.leaving ≡ Some l → l.directory.0 ≡ number → l.place / 128 ≢ block)
      → ((n : Entering) → e.entering ≡ Some n → n.directory.0 ≡ number → n.place / 128 ≢ block) → sector (written x homes) (sector_of (edited v e) (BlockPart number block)) ≡ sector x (sector_of (edited v e) (BlockPart number block))
  block_same number block live left entered =
      let from = (pointer_is (edited v e) volume_then number block live).from_one in
      let j = sector_of (edited v e) (BlockPart number block) in
      as_before j (map_below j (omega arith)) (slot_below j (omega arith)) (inode_below j (omega arith)) (block_apart number block live left entered)

  block_unchanged : (number block : ℕ) → IsLive (edited v e) number block → ((l : Leaving) → e.leaving ≡ Some l → l.directory.0 ≡ number → l.place / 128 ≢ block)
      → ((n : Entering) → e.entering ≡ Some n → n.directory.0 ≡ number → n.place / 128 ≢ block) → IsTold (edited v e) (written x homes) (BlockPart number block)
  block_unchanged number block live left entered =
      let at = behind v e g.volume g.edit number block live in
      let low = live.to_511 in
      let count = g.volume.inode_count in
      elim at.named [
        | old points within names ↦ (
            let there = slice_get-get_or v.inodes number free_inode (omega arith) in
            let before = (g.spells.directories number (inode_at v.inodes number) there at.dir).blocks block within in
            let pointer : slice_index (inode_at v.inodes number).blocks block ≡ slice_index (inode_at (edited v e).inodes number).blocks block = names ∙ sym at.pointer in
            let slots = slots_kept v e g.volume g.edit number block at.stays within left entered in
            subst (λ (s : List ℕ). SpellsBlock s (block_slots (slots_of (edited v e) number) block)) (sym (block_same number block live left entered))
            (subst (λ (t : Slots). SpellsBlock (sector x (547 + slice_index (inode_at (edited v e).inodes number).blocks block)) t) (sym slots)
            (subst (λ (p : ℕ). SpellsBlock (sector x (547 + p)) (block_slots (slots_of v number) block)) pointer before)))
        | new k made same long block_is ↦ absurd (new_filled k number block made same long entered)
      ]

  block_spelled : (number block : ℕ) → IsLive (edited v e) number block → IsTold (edited v e) (written x homes) (BlockPart number block)
  block_spelled number block live = elim (does_leave e.leaving number block) [
    | leaves l made same index ↦ told_there l.directory.0 number (l.place / 128) block (record { number = same; index = index }) (leaving_told l made)
    | leaves_not left ↦ elim (does_enter e.entering number block) [
      | enters n made same index ↦ told_there n.directory.0 number (n.place / 128) block (record { number = same; index = index }) (entering_told n made)
      | enters_not entered ↦ block_unchanged number block live left entered
    ]
  ]

  -- a directory
  directory_spelled : (number : ℕ) (inode : Inode) → slice_get (edited v e).inodes number ≡ Some inode → inode.kind ≡ Dir → SpellsDirectory (written x homes) inode (slots_of (edited v e) number)
  directory_spelled number inode at dir =
      let sized : IsSized inode (slots_of (edited v e) number) = subst (λ (k : Kind). HasSlots k inode (slots_of (edited v e) number)) dir (volume_then.directories number inode at) in
      let same : inode_at (edited v e).inodes number ≡ inode = get_or_from_slice_get (edited v e).inodes number inode free_inode at in
      let low = slice_get_within (edited v e).inodes number inode at in
      let count = volume_then.inode_count in
      record {
        directory = sized.directory;
        count = sized.count;
        blocks = λ block within. subst (λ (i : Inode). SpellsBlock (pointed (written x homes) (slice_index i.blocks block)) (block_slots (slots_of (edited v e) number) block)) same
            (block_spelled number block (record { to_511 = omega arith; kind = ap (λ (i : Inode). i.kind) same ∙ dir; within = within }));
      }

  pub all_spelled : SpellsVolume (written x homes) (edited v e)
  all_spelled = record {
    head = head_spelled;
    map = map_spelled;
    slot_count = volume_then.slot_count;
    slots = λ client slot at. (
        let low = slice_get_within (edited v e).slots client slot at in
        let count = volume_then.slot_count in
        subst (SpellsSlot (sector (written x homes) (20 + client))) (get_or_from_slice_get (edited v e).slots client slot first_slot at) (slot_spelled client (omega arith)));
    inode_count = volume_then.inode_count;
    inodes = λ number inode at. (
        let low = slice_get_within (edited v e).inodes number inode at in
        let count = volume_then.inode_count in
        subst (SpellsInode (sector (written x homes) (36 + number))) (get_or_from_slice_get (edited v e).inodes number inode free_inode at) (inode_spelled number (omega arith)));
    directories = directory_spelled;
    root = λ inode at. ap (λ (i : Inode). i.kind) (sym (get_or_from_slice_get (edited v e).inodes 0 inode free_inode at)) ∙ volume_then.root;
  }
