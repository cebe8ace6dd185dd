-- The homes of an edit are a transaction.
use Rattle.std.proofs.Common.{◌≡◌, ◌<◌, ◌≤◌, ◌+◌, ◌/◌, ◌++◌, ℕ, suc, true, false, List, [], ◌∷◌, length, Bool, Option, Some, None, refl, sym, ap, subst, inl, inr, arith, length-append}
use Rattle.cal_base.specs.Limits as limits
use Rattle.std.specs.Prelude.{IfSome, IsSome, ◌||◌, ◌&&◌, is_some, nat_eq, nat_le, nat_lt, option_map, if◌then◌else◌}
use Rattle.std.proofs.lemmas.Bool.{and_from, le-leb, lt-ltb}
use Rattle.shared_disk.specs.Homes.{IsTransaction, are_ascending, is_home, sectors_of}
use Rattle.volume.specs.Volume.{Volume}
use Rattle.volume_edit.specs.Edit.{IsEdit, IsEntering, IsGrowth, IsInodeEdit, IsLeaving, IsSlotEdit, IsVolume, edited}
use Rattle.volume_edit.specs.Homes.{AreHomes, BlockPart, MapPart, Part, Spell, block_parts, entering_part, growth_part, has_other_blocks, in_order, inode_part, inode_parts, leaving_part, map_parts, parts, sector_of, slot_parts}
use Rattle.volume_edit.specs.declared.edit.Edit.{Edit}
use Rattle.volume_edit.specs.declared.edit.Entering.{Entering}
use Rattle.volume_edit.specs.declared.edit.Growth.{Growth}
use Rattle.volume_edit.specs.declared.edit.InodeEdit.{InodeEdit}
use Rattle.volume_edit.specs.declared.edit.Leaving.{Leaving}
use Rattle.volume_edit.specs.declared.edit.SlotEdit.{SlotEdit}
use Rattle.volume_edit.proofs.Grammar.{edited_volume}
use Rattle.volume_edit.proofs.Live.{IsLive, entering_live, leaving_live, pointer_is}
use Rattle.volume_edit.proofs.PartLists.{Rise, Within, in_order-few, in_order-some, rise-append, rise-in_order}

-- where each part lies
block_within : (v : Volume) → IsVolume v → (number index : ℕ) → IsLive v number index → Within v 548 limits.sectors (BlockPart number index)
block_within v h number index live = (let p = pointer_is v h number index live in let from = p.from_one in let few = p.few in record { from = omega arith; below = omega arith })

pub map_rise : (v w : Volume) (e : Edit) → Rise w 19 20 (map_parts v e)
map_rise v w e = by (has_other_blocks v.inodes e.inode || is_some e.growth)
  where
    by : (b : Bool) → Rise w 19 20 (if b then MapPart ∷ [] else [])
    by true = (omega arith, (omega arith, tt))
    by false = tt

pub slot_rise : (w : Volume) (o : Option SlotEdit) → IfSome o IsSlotEdit → Rise w 20 36 (slot_parts o)
slot_rise w None h = tt
slot_rise w (Some e) h = (let low = h.client in (omega arith, (omega arith, tt)))

inode_within : (v : Volume) (o : Option InodeEdit) → IfSome o IsInodeEdit → IfSome (option_map inode_part o) (Within v 36 548)
inode_within v None h = tt
inode_within v (Some i) h = (let low = h.to_511 in record { from = omega arith; below = omega arith })

growth_within : (v w : Volume) (e : Edit) (o : Option Growth) → IfSome o (IsGrowth v e) → IfSome (option_map growth_part o) (Within w 36 548)
growth_within v w e None h = tt
growth_within v w e (Some g) h = (let low = h.directory.to_511 in record { from = omega arith; below = omega arith })

leaving_within : (v : Volume) (e : Edit) (o : Option Leaving) → IsVolume v → IsEdit v e → IfSome o (IsLeaving v e) → IfSome (option_map leaving_part o) (Within (edited v e) 548 limits.sectors)
leaving_within v e None h is of = tt
leaving_within v e (Some l) h is of = block_within (edited v e) (edited_volume v e h is) l.directory.0 (l.place / 128) (leaving_live v e l h is of)

entering_within : (v : Volume) (e : Edit) (o : Option Entering) → IsVolume v → IsEdit v e → IfSome o (IsEntering v e) → IfSome (option_map entering_part o) (Within (edited v e) 548 limits.sectors)
entering_within v e None h is of = tt
entering_within v e (Some n) h is of = block_within (edited v e) (edited_volume v e h is) n.directory.0 (n.place / 128) (entering_live v e n h is of)

-- sectors of inodes are in one order whatever the volume
inodes_same : (v w : Volume) (i : Option InodeEdit) (g : Option Growth) → in_order v (option_map inode_part i) (option_map growth_part g) ≡ in_order w (option_map inode_part i) (option_map growth_part g)
inodes_same v w None None = refl
inodes_same v w None (Some g) = refl
inodes_same v w (Some i) None = refl
inodes_same v w (Some i) (Some g) = refl

-- the parts of inodes rise, and those of blocks
pub inode_rise : (v w : Volume) (e : Edit) → IsEdit v e → Rise w 36 548 (inode_parts v e)
inode_rise v w e is = subst (Rise w 36 548) (sym (inodes_same v w e.inode e.growth))
    (rise-in_order w 36 548 (option_map inode_part e.inode) (option_map growth_part e.growth) (inode_within w e.inode is.inode) (growth_within v w e e.growth is.growth))

pub block_rise : (v : Volume) (e : Edit) → IsVolume v → IsEdit v e → Rise (edited v e) 548 limits.sectors (block_parts v e)
block_rise v e h is = rise-in_order (edited v e) 548 2596 (option_map leaving_part e.leaving) (option_map entering_part e.entering)
    (leaving_within v e e.leaving h is is.leaving) (entering_within v e e.entering h is is.entering)

-- all parts rise
pub parts_rise : (v : Volume) (e : Edit) → IsVolume v → IsEdit v e → Rise (edited v e) 19 limits.sectors (parts v e)
parts_rise v e h is =
    let w = edited v e in
    rise-append w (map_parts v e) _ 19 20 2596 (omega arith) (omega arith) (map_rise v w e)
    (rise-append w (slot_parts e.slot) _ 20 36 2596 (omega arith) (omega arith) (slot_rise w e.slot is.slot)
    (rise-append w (inode_parts v e) (block_parts v e) 36 548 2596 (omega arith) (omega arith) (inode_rise v w e is) (block_rise v e h is)))

-- the homes' sectors ascend
home_true : (sector : ℕ) → 19 ≤ sector → sector < limits.sectors → is_home sector ≡ true
home_true sector from below = either (nat_eq sector 0) (nat_le 19 sector && nat_lt sector 2596) (and_from (nat_le 19 sector) (nat_lt sector 2596) (le-leb 19 sector from) (lt-ltb sector 2596 below))
  where
    either : (a b : Bool) → b ≡ true → (a || b) ≡ true
    either true b h = refl
    either false b h = h

pub ascend : (v : Volume) (ps : List Part) (homes : List (ℕ × List ℕ)) (least from : ℕ) → Spell v ps homes → Rise v least limits.sectors ps → 19 ≤ least → from ≤ least → are_ascending from (sectors_of homes) ≡ true
ascend v [] [] least from s r low under = refl
ascend v [] (home ∷ homes) least from s r low under = absurd s
ascend v (part ∷ ps) [] least from s r low under = absurd s
ascend v (part ∷ ps) (home ∷ homes) least from s r low under =
    let at : home.0 ≡ sector_of v part = s.0.0 in
    let above = r.0 in
    let below = r.1.0 in
    and_from (nat_le from home.0 && is_home home.0) (are_ascending (home.0 + 1) (sectors_of homes))
    (and_from (nat_le from home.0) (is_home home.0) (le-leb from home.0 (omega arith)) (home_true home.0 (omega arith) (omega arith)))
    (ascend v ps homes (sector_of v part + 1) (home.0 + 1) s.1 r.1.1 (omega arith) (omega arith))

-- there are as many homes as parts
pub length-spell : (v : Volume) (ps : List Part) (homes : List (ℕ × List ℕ)) → Spell v ps homes → length homes ≡ length ps
length-spell v [] [] s = refl
length-spell v [] (home ∷ homes) s = absurd s
length-spell v (part ∷ ps) [] s = absurd s
length-spell v (part ∷ ps) (home ∷ homes) s = ap suc (length-spell v ps homes s.1)

map_few : (v : Volume) (e : Edit) → length (map_parts v e) ≤ 1
map_few v e = by (has_other_blocks v.inodes e.inode || is_some e.growth)
  where
    by : (b : Bool) → length (if b then MapPart ∷ [] else []) ≤ 1
    by true = omega arith
    by false = omega arith

slot_few : (o : Option SlotEdit) → length (slot_parts o) ≤ 1
slot_few None = omega arith
slot_few (Some e) = omega arith

slot_one : (o : Option SlotEdit) → IsSome o → 1 ≤ length (slot_parts o)
slot_one None h = absurd (cc)
slot_one (Some e) h = omega arith

inode_one : (v : Volume) (o : Option InodeEdit) (b : Option Part) → IsSome o → 1 ≤ length (in_order v (option_map inode_part o) b)
inode_one v None b h = absurd (cc)
inode_one v (Some i) b h = in_order-some v (inode_part i) b

record Count (count : ℕ) : Type 0 where
  some : 1 ≤ count
  few : count ≤ 16

parts_count : (v : Volume) (e : Edit) → IsEdit v e → Count (length (parts v e))
parts_count v e is =
    let a = length-append (map_parts v e) (slot_parts e.slot ++ (inode_parts v e ++ block_parts v e)) in
    let b = length-append (slot_parts e.slot) (inode_parts v e ++ block_parts v e) in
    let c = length-append (inode_parts v e) (block_parts v e) in
    let map = map_few v e in
    let slot = slot_few e.slot in
    let inodes = in_order-few v (option_map inode_part e.inode) (option_map growth_part e.growth) in
    let blocks = in_order-few (edited v e) (option_map leaving_part e.leaving) (option_map entering_part e.entering) in
    record {
      some = elim is.some [
        | inl s ↦ (let n = slot_one e.slot s in omega arith)
        | inr i ↦ (let n = inode_one v e.inode (option_map growth_part e.growth) i in omega arith)
      ];
      few = omega arith;
    }

pub are_transaction : (v : Volume) (e : Edit) (homes : List (ℕ × List ℕ)) → IsVolume v → IsEdit v e → AreHomes v e homes → IsTransaction homes
are_transaction v e homes h is at =
    let count = parts_count v e is in
    let same = length-spell (edited v e) (parts v e) homes at.spell in
    let some = count.some in
    let few = count.few in
    record { some = omega arith; few = omega arith; ascending = ascend (edited v e) (parts v e) homes 19 0 at.spell (parts_rise v e h is) (omega arith) (omega arith) }
