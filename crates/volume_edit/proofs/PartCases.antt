-- Where the parts of an edit come from, and which sectors they leave.
use Rattle.std.proofs.Common.{◌≡◌, ◌≢◌, ◌+◌, ℕ, false, List, Option, Some, None, refl, sym, ap, ◌∙◌, subst, arith}
use Rattle.std.specs.Prelude.{IfSome, option_map}
use Rattle.std.proofs.lemmas.Bool.{eqb-false}
use Rattle.volume.specs.Volume.{Volume}
use Rattle.volume_edit.specs.Edit.{IsBehind, IsFilled, is_edited}
use Rattle.volume_edit.specs.Homes.{InodePart, Part, block_parts, entering_part, growth_part, in_order, inode_part, inode_parts, leaving_part, map_parts, parts, sector_of, slot_parts}
use Rattle.volume_edit.specs.declared.edit.Edit.{Edit}
use Rattle.volume_edit.specs.declared.edit.Entering.{Entering}
use Rattle.volume_edit.specs.declared.edit.Growth.{Growth}
use Rattle.volume_edit.specs.declared.edit.InodeEdit.{InodeEdit}
use Rattle.volume_edit.specs.declared.edit.Leaving.{Leaving}
use Rattle.volume_edit.specs.declared.edit.SlotEdit.{SlotEdit}
use Rattle.volume_edit.proofs.Inodes.{is_grown}
use Rattle.volume_edit.proofs.PartLists.{Each, each-append, holds, of_second, shares}
use Rattle.volume_edit.proofs.WrittenParts.{IsTold}

-- a sector apart from those of the parts of each kind
abbrev pub Apart : Volume → ℕ → Part → Type 0
Apart w j part = sector_of w part ≢ j

pub apart_parts : (v w : Volume) (e : Edit) (j : ℕ) → Each (Apart w j) (map_parts v e) → Each (Apart w j) (slot_parts e.slot) → Each (Apart w j) (inode_parts v e) → Each (Apart w j) (block_parts v e) → Each (Apart w j) (parts v e)
apart_parts v w e j map slots inodes blocks =
    each-append (Apart w j) (map_parts v e) _ map (each-append (Apart w j) (slot_parts e.slot) _ slots (each-append (Apart w j) (inode_parts v e) (block_parts v e) inodes blocks))

-- the slot of another client, another inode
pub apart_slot : (w : Volume) (o : Option SlotEdit) (client : ℕ) → ((s : SlotEdit) → o ≡ Some s → s.client.0 ≢ client) → Each (Apart w (20 + client)) (slot_parts o)
apart_slot w None client apart = tt
apart_slot w (Some s) client apart = (λ same. apart s refl (omega arith), tt)

pub apart_inode : (w : Volume) (o : Option InodeEdit) (number : ℕ) → is_edited o number ≡ false → IfSome (option_map inode_part o) (Apart w (36 + number))
apart_inode w None number other = tt
apart_inode w (Some i) number other = λ same. eqb-false i.ino.0 number other (omega arith)

pub apart_growth : (w : Volume) (o : Option Growth) (number : ℕ) → is_grown o number ≡ false → IfSome (option_map growth_part o) (Apart w (36 + number))
apart_growth w None number other = tt
apart_growth w (Some k) number other = λ same. eqb-false k.directory.0 number other (omega arith)

-- the inode of a directory that grows is told
pub growth_told : (v w : Volume) (y : List (List ℕ)) (o : Option InodeEdit) (k : Growth) → Each (IsTold w y) (in_order v (option_map inode_part o) (option_map growth_part (Some k))) → IsTold w y (InodePart k.directory.0)
growth_told v w y None k h = h.0
growth_told v w y (Some i) k h = elim (of_second (IsTold w y) v (Some (inode_part i)) (growth_part k) h) [
  | holds it ↦ it
  | shares other is same it ↦ (
      let both : Some (inode_part i) ≡ Some other = is in
      let one : other ≡ inode_part i = cc in
      let at : 36 + i.ino.0 ≡ 36 + k.directory.0 = ap (sector_of v) (sym one) ∙ same in
      let number : i.ino.0 ≡ k.directory.0 = omega arith in
      subst (λ (n : ℕ). IsTold w y (InodePart n)) number (subst (IsTold w y) one it))
]

-- the entry that a part comes from
pub record LeavingOf (o : Option Leaving) (part : Part) : Type 0 where
  pub leaving : Leaving
  pub is : o ≡ Some leaving
  pub from : part ≡ leaving_part leaving

pub leaving_of : (o : Option Leaving) (part : Part) → option_map leaving_part o ≡ Some part → LeavingOf o part
leaving_of None part is = (let both : None ≡ Some part = is in absurd (cc))
leaving_of (Some l) part is = (let both : Some (leaving_part l) ≡ Some part = is in let one : part ≡ leaving_part l = cc in record { leaving = l; is = refl; from = one })

pub if_leaving : (P : Part → Type 0) (o : Option Leaving) → ((l : Leaving) → o ≡ Some l → P (leaving_part l)) → IfSome (option_map leaving_part o) P
if_leaving P None h = tt
if_leaving P (Some l) h = h l refl

pub if_entering : (P : Part → Type 0) (o : Option Entering) → ((n : Entering) → o ≡ Some n → P (entering_part n)) → IfSome (option_map entering_part o) P
if_entering P None h = tt
if_entering P (Some n) h = h n refl

-- the entry in the block that comes
pub record FilledBy (v : Volume) (k : Growth) (o : Option Entering) : Type 0 where
  pub entering : Entering
  pub is : o ≡ Some entering
  pub behind : IsBehind v k entering

pub filled_by : (v : Volume) (k : Growth) (o : Option Entering) → IsFilled v k o → FilledBy v k o
filled_by v k None h = absurd h
filled_by v k (Some n) h = record { entering = n; is = refl; behind = h }
