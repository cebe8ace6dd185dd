-- The homes of an edit that alters no block of a directory stand below the data blocks, so that files and other
-- inodes are as before.
use Rattle.std.proofs.Common.{◌≡◌, ◌≢◌, ◌≤◌, ◌<◌, ◌+◌, ◌++◌, ◌||◌, ◌==◌, ◌/◌, ◌%◌, ◌∙◌, ℕ, zero, suc, ap, get_or, slice_index, Bool, true, false, List, [], ◌∷◌, Option, Some, None, if◌then◌else◌, refl, arith}
use Rattle.cal_base.specs.Limits as limits
use Rattle.std.specs.Prelude.{IfSome, option_map, ⊤}
use Rattle.std.specs.List.{slice_set}
use Rattle.std.proofs.lemmas.List.{get_or-set_other}
use Rattle.inode.specs.declared.inode.Inode.{Inode}
use Rattle.journal.specs.Layout.{sector}
use Rattle.journal.proofs.Moments.{Each}
use Rattle.journal.proofs.Sectors.{sector_written}
use Rattle.shared_disk.specs.Sectors.{written}
use Rattle.tree_law.specs.Idle.{is_named}
use Rattle.tree_law.specs.Tree.{Tree}
use Rattle.tree_law.specs.declared.node.Node.{Node}
use Rattle.volume.specs.Stands.{StandsForNode}
use Rattle.volume.specs.Volume.{Slots, Volume, byte_behind}
use Rattle.volume_edit.specs.Edit.{IsInodeEdit, IsSlotEdit, edited}
use Rattle.volume_edit.specs.Homes.{AreHomes, Part, MapPart, SlotPart, InodePart, BlockPart, Spell, has_other_blocks, in_order, inode_part, map_parts, parts, sector_of, slot_parts}
use Rattle.volume_edit.specs.declared.edit.Edit.{Edit}
use Rattle.volume_edit.specs.declared.edit.InodeEdit.{InodeEdit}
use Rattle.volume_edit.specs.declared.edit.SlotEdit.{SlotEdit}
use Rattle.volume_plan.proofs.Frames.{stands_later}

-- a part that is no block of a directory
abbrev IsLow : Part → Type 0
IsLow MapPart = ⊤
IsLow (SlotPart client) = client < 16
IsLow (InodePart number) = number < limits.inodes
IsLow (BlockPart number index) = ⊥

abbrev AreLow : List Part → Type 0
AreLow [] = ⊤
AreLow (p ∷ ps) = IsLow p × AreLow ps

low_append : (ps qs : List Part) → AreLow ps → AreLow qs → AreLow (ps ++ qs)
low_append [] qs a b = b
low_append (p ∷ ps) qs a b = (a.0, low_append ps qs a.1 b)

low_sector : (v : Volume) (part : Part) → IsLow part → sector_of v part < 548
low_sector v MapPart low = omega arith
low_sector v (SlotPart client) low = omega arith
low_sector v (InodePart number) low = omega arith
low_sector v (BlockPart number index) low = absurd low

low_homes : (v : Volume) (ps : List Part) (homes : List (ℕ × List ℕ)) (j : ℕ) → AreLow ps → Spell v ps homes → 548 ≤ j → Each (λ i. j ≢ i) homes
low_homes v [] [] j low spell high = tt
low_homes v [] (home ∷ homes) j low spell high = absurd spell
low_homes v (part ∷ ps) [] j low spell high = absurd spell
low_homes v (part ∷ ps) (home ∷ homes) j low spell high =
    let at = spell.0.0 in
    let below = low_sector v part low.0 in
    ((λ (e : j ≡ home.0). omega (arith, e, at, below, high)), low_homes v ps homes j low.1 spell.1 high)

low_if : (b : Bool) → AreLow (if b then MapPart ∷ [] else [])
low_if true = (tt, tt)
low_if false = tt

low_slot : (s : Option SlotEdit) → IfSome s IsSlotEdit → AreLow (slot_parts s)
low_slot None is = tt
low_slot (Some e) is = (is.client, tt)

low_inode : (v : Volume) (i : Option InodeEdit) → IfSome i IsInodeEdit → AreLow (in_order v (option_map inode_part i) None)
low_inode v None is = tt
low_inode v (Some e) is = (is.to_511, tt)

-- an edit of a slot and an inode
abbrev pub plain : Option SlotEdit → Option InodeEdit → Edit
plain s i = record { slot = s; inode = i; growth = None; leaving = None; entering = None }

low_parts : (v : Volume) (s : Option SlotEdit) (i : Option InodeEdit) → IfSome s IsSlotEdit → IfSome i IsInodeEdit → AreLow (parts v (plain s i))
low_parts v s i slot inode =
    low_append (map_parts v (plain s i)) (slot_parts s ++ (in_order v (option_map inode_part i) None ++ [])) (low_if (has_other_blocks v.inodes i || false))
    (low_append (slot_parts s) (in_order v (option_map inode_part i) None ++ []) (low_slot s slot)
    (low_append (in_order v (option_map inode_part i) None) [] (low_inode v i inode) tt))

-- a sector of a data block is as it was
pub data_stays : (sectors : List (List ℕ)) (v : Volume) (s : Option SlotEdit) (i : Option InodeEdit) (homes : List (ℕ × List ℕ)) (j : ℕ) → IfSome s IsSlotEdit → IfSome i IsInodeEdit → AreHomes v (plain s i) homes → 548 ≤ j
    → sector (written sectors homes) j ≡ sector sectors j
data_stays sectors v s i homes j slot inode are high =
    sector_written homes j (low_homes (edited v (plain s i)) (parts v (plain s i)) homes j (low_parts v s i slot inode) are.spell high) sectors

-- what a pointer gives, on sectors with the same data blocks
pub byte_same : (sectors others : List (List ℕ)) (pointer i : ℕ) → ((j : ℕ) → 548 ≤ j → sector others j ≡ sector sectors j) → byte_behind others pointer i ≡ byte_behind sectors pointer i
byte_same sectors others zero i same = refl
byte_same sectors others (suc block) i same = ap (λ (bytes : List ℕ). if suc block == 0 then 0 else slice_index bytes (i % 4096)) (same (547 + suc block) (omega arith))

-- the inode of another number stands for its node, beside one that has no slots
pub stands_elsewhere : (sectors others : List (List ℕ)) (v w : Volume) (a b : Tree) (ino number : ℕ) (inode : Inode) (node : Option Node) → number ≢ ino → w.directories ≡ slice_set v.directories ino [] → is_named b number ≡ is_named a number
    → ((j : ℕ) → 548 ≤ j → sector others j ≡ sector sectors j) → StandsForNode sectors v a number inode node → StandsForNode others w b number inode node
stands_elsewhere sectors others v w a b ino number inode node apart directories named same s =
    stands_later sectors others v w a b number inode node
    (ap (λ (ds : List Slots). get_or ds number []) directories ∙ get_or-set_other v.directories ino number [] [] apart)
    named (λ kind i. byte_same sectors others (slice_index inode.blocks (i / 4096)) i same) s
