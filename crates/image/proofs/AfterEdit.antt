-- An inode and a directory after an edit, one by one.
use Rattle.std.proofs.Common.{◌+◌, ◌≡◌, ◌≤◌, ◌<◌, ◌++◌, ◌∙◌, replicate, ℕ, Bool, true, false, List, [], Option, Some, None, length, refl, sym, ap, subst, inl, inr, arith, get_or}
use Rattle.cal_base.specs.Limits as limits
use Rattle.std.specs.Prelude.{◌==◌, IfSome, slice_set, if◌then◌else◌}
use Rattle.std.proofs.lemmas.Bool.{cases_eq, eq-eqb, eqb-false, ne_eqb}
use Rattle.std.proofs.lemmas.List.{get_or-set_other, get_or-set_same}
use Rattle.std.proofs.lemmas.Option.{get_or_from_slice_get, slice_get_read}
use Rattle.directory.specs.Changed.{changed, entered, grown, left}
use Rattle.directory.specs.declared.entry.DirEntry.{DirEntry}
use Rattle.inode.specs.Inode.{IsInode}
use Rattle.inode.specs.declared.inode.Inode.{Inode}
use Rattle.volume.specs.Volume.{Slots, Volume, slots_of}
use Rattle.volume_edit.specs.Edit.{IsEdit, IsVolume, edited, free_inode, grown_inode, inode_at, is_edited, with_entered, with_grown, with_growth, with_inode, with_left, with_slots, without_slots}
use Rattle.volume_edit.specs.declared.edit.Edit.{Edit}
use Rattle.volume_edit.specs.declared.edit.Entering.{Entering}
use Rattle.volume_edit.specs.declared.edit.Growth.{Growth}
use Rattle.volume_edit.specs.declared.edit.InodeEdit.{InodeEdit}
use Rattle.volume_edit.specs.declared.edit.Leaving.{Leaving}
use Rattle.volume_edit.proofs.Directories.{length-left_slots}
use Rattle.volume_edit.proofs.Grammar.{edited_volume}
use Rattle.volume_edit.proofs.Inodes.{length-with_inode}
use Rattle.volume_edit.proofs.SlotChanges.{with_slots-other, with_slots-same}
use Rattle.image.specs.Applying.{CanGrowInode}
use Rattle.image.specs.Writing.{CanGrowAt, entering_at, grown_at, grows_of, leaving_at, put_at}
use Rattle.image.proofs.Applying.{can_change_inodes, length-with_grown}
use Rattle.image.proofs.Lookups.{inode_within}

-- what stands at a place once another was set
pub at_set : {A : Type 0} (xs : List A) (i n : ℕ) (y d : A) → n < length xs → get_or (slice_set xs i y) n d ≡ (if i == n then y else get_or xs n d)
at_set {A = A} xs i n y d low = elim (cases_eq i n) [
  | inl same ↦ (
      subst (λ (k : ℕ). get_or (slice_set xs k y) n d ≡ y) (sym same) (get_or-set_same xs n y d low)
      ∙ ap (λ (b : Bool). if b then y else get_or xs n d) (sym (eq-eqb i n same)))
  | inr other ↦ (
      get_or-set_other xs i n y d (λ same. other (sym same))
      ∙ ap (λ (b : Bool). if b then y else get_or xs n d) (sym (ne_eqb i n other)))
]

put_is : (o : Option InodeEdit) (xs : List Inode) (number : ℕ) → number < length xs → inode_at (with_inode xs o) number ≡ put_at o number (inode_at xs number)
put_is None xs number low = refl
put_is (Some e) xs number low = at_set xs e.ino.0 number e.inode free_inode low

-- the inode of the directory that grows is that of the number
grown_here : (xs : List Inode) (i n block : ℕ) → (if i == n then grown_inode (inode_at xs i) block else inode_at xs n) ≡ (if i == n then grown_inode (inode_at xs n) block else inode_at xs n)
grown_here xs i n block = elim (cases_eq i n) [
  | inl same ↦ ap (λ (k : ℕ). if i == n then grown_inode (inode_at xs k) block else inode_at xs n) same
  | inr other ↦ rw (ne_eqb i n other) refl
]

grown_is : (o : Option Growth) (xs : List Inode) (number : ℕ) → number < length xs → inode_at (with_growth xs o) number ≡ grown_at o number (inode_at xs number)
grown_is None xs number low = refl
grown_is (Some g) xs number low =
    at_set xs g.directory.0 number (grown_inode (inode_at xs g.directory.0) g.block) free_inode low ∙ grown_here xs g.directory.0 number g.block

-- the inode of a number after an edit is put, and then grown
pub after_is : (v : Volume) (e : Edit) (number : ℕ) → IsVolume v → number < limits.inodes → inode_at (edited v e).inodes number ≡ grown_at e.growth number (put_at e.inode number (inode_at v.inodes number))
after_is v e number h low =
    let count = h.inode_count in
    let long = length-with_inode e.inode v.inodes in
    grown_is e.growth (with_inode v.inodes e.inode) number (omega arith)
    ∙ ap (λ (i : Inode). grown_at e.growth number i) (put_is e.inode v.inodes number (omega arith))

pub inode_then : (v : Volume) (e : Edit) (number : ℕ) → IsVolume v → IsEdit v e → number < limits.inodes → IsInode (inode_at (edited v e).inodes number)
inode_then v e number h is low = inode_within (edited v e) number (edited_volume v e h is) low

can_grow_at : (o : Option Growth) (xs : List Inode) (number : ℕ) → IfSome o (CanGrowInode xs) → CanGrowAt o number (inode_at xs number)
can_grow_at None xs number h = tt
can_grow_at (Some g) xs number h = λ same. (subst (λ (n : ℕ). (inode_at xs n).size + limits.block_size ≤ limits.directory_size) same h.size, h.block)

pub can_grow_then : (v : Volume) (e : Edit) (number : ℕ) → IsVolume v → IsEdit v e → number < limits.inodes → CanGrowAt e.growth number (put_at e.inode number (inode_at v.inodes number))
can_grow_then v e number h is low =
    let count = h.inode_count in
    subst (λ (i : Inode). CanGrowAt e.growth number i) (put_is e.inode v.inodes number (omega arith))
    (can_grow_at e.growth (with_inode v.inodes e.inode) number (can_change_inodes v e h is).growth)

-- what was read at a place is what stands there
pub read_at : {A : Type 0} (xs : List A) (n : ℕ) (x d : A) → n < length xs → x ≡ get_or xs n x → x ≡ get_or xs n d
read_at xs n x d low read = sym (get_or_from_slice_get xs n x d (slice_get_read xs (length xs) n x refl low read))

-- the inode that was read, put, and then grown is that after the edit
pub can_grow_read : (v : Volume) (e : Edit) (number : ℕ) (read put : Inode) → IsVolume v → IsEdit v e → number < limits.inodes → read ≡ get_or v.inodes number read → put ≡ put_at e.inode number read
    → CanGrowAt e.growth number put
can_grow_read v e number read put h is low there made =
    let count = h.inode_count in
    let was = read_at v.inodes number read free_inode (omega arith) there in
    subst (λ (i : Inode). CanGrowAt e.growth number i) (sym (made ∙ ap (λ (i : Inode). put_at e.inode number i) was)) (can_grow_then v e number h is low)

pub read_after : (v : Volume) (e : Edit) (number : ℕ) (read put grown : Inode) → IsVolume v → number < limits.inodes → read ≡ get_or v.inodes number read → put ≡ put_at e.inode number read → grown ≡ grown_at e.growth number put
    → grown ≡ inode_at (edited v e).inodes number
read_after v e number read put grown h low there made grew =
    let count = h.inode_count in
    let was = read_at v.inodes number read free_inode (omega arith) there in
    grew ∙ ap (λ (i : Inode). grown_at e.growth number i) (made ∙ ap (λ (i : Inode). put_at e.inode number i) was) ∙ sym (after_is v e number h low)

slots_set : (ds : List Slots) (d number : ℕ) (change : Slots → Slots) → number < length ds
    → get_or (with_slots ds d change) number [] ≡ (if d == number then change (get_or ds number []) else get_or ds number [])
slots_set ds d number change low = elim (cases_eq d number) [
  | inl same ↦ (
      subst (λ (k : ℕ). get_or (with_slots ds k change) number [] ≡ change (get_or ds number [])) (sym same) (with_slots-same ds number change low)
      ∙ ap (λ (b : Bool). if b then change (get_or ds number []) else get_or ds number []) (sym (eq-eqb d number same)))
  | inr other ↦ (
      with_slots-other ds d change number (λ same. other (sym same))
      ∙ ap (λ (b : Bool). if b then change (get_or ds number []) else get_or ds number []) (sym (ne_eqb d number other)))
]

pick_grown : (b : Bool) (slots : Slots) → (if b then slots ++ replicate 128 None else slots) ≡ grown b slots
pick_grown true slots = refl
pick_grown false slots = refl

pick_left : (b : Bool) (place : ℕ) (slots : Slots) → (if b then slice_set slots place None else slots) ≡ left (if b then Some place else None) slots
pick_left true place slots = refl
pick_left false place slots = refl

pick_entered : (b : Bool) (place : ℕ) (entry : DirEntry) (slots : Slots) → (if b then slice_set slots place (Some entry) else slots) ≡ entered (if b then Some (place, entry) else None) slots
pick_entered true place entry slots = refl
pick_entered false place entry slots = refl

slots_grown : (o : Option Growth) (ds : List Slots) (number : ℕ) → number < length ds → get_or (with_grown ds o) number [] ≡ grown (grows_of o number) (get_or ds number [])
slots_grown None ds number low = refl
slots_grown (Some g) ds number low = slots_set ds g.directory.0 number (λ slots. slots ++ replicate 128 None) low ∙ pick_grown (g.directory.0 == number) (get_or ds number [])

slots_left : (o : Option Leaving) (ds : List Slots) (number : ℕ) → number < length ds → get_or (with_left ds o) number [] ≡ left (leaving_at o number) (get_or ds number [])
slots_left None ds number low = refl
slots_left (Some l) ds number low = slots_set ds l.directory.0 number (λ slots. slice_set slots l.place None) low ∙ pick_left (l.directory.0 == number) l.place (get_or ds number [])

slots_entered : (o : Option Entering) (ds : List Slots) (number : ℕ) → number < length ds → get_or (with_entered ds o) number [] ≡ entered (entering_at o number) (get_or ds number [])
slots_entered None ds number low = refl
slots_entered (Some n) ds number low =
    slots_set ds n.directory.0 number (λ slots. slice_set slots n.place (Some n.entry)) low ∙ pick_entered (n.directory.0 == number) n.place n.entry (get_or ds number [])

slots_stay : (o : Option InodeEdit) (ds : List Slots) (number : ℕ) → is_edited o number ≡ false → get_or (without_slots ds o) number [] ≡ get_or ds number []
slots_stay None ds number other = refl
slots_stay (Some i) ds number other = get_or-set_other ds i.ino.0 number [] [] (λ same. eqb-false i.ino.0 number other (sym same))

-- a directory that stays has its slots changed, and no others
pub slots_after : (v : Volume) (e : Edit) (number : ℕ) → IsVolume v → number < limits.inodes → is_edited e.inode number ≡ false
    → slots_of (edited v e) number ≡ changed (grows_of e.growth number) (leaving_at e.leaving number) (entering_at e.entering number) (slots_of v number)
slots_after v e number h low other =
    let count = h.directory_count in
    let grew = length-with_grown v.directories e.growth in
    let left_count = length-left_slots v e in
    let before = slots_grown e.growth v.directories number (omega arith) in
    let gone = slots_left e.leaving (with_grown v.directories e.growth) number (omega arith) in
    let came = slots_entered e.entering (with_left (with_grown v.directories e.growth) e.leaving) number (omega arith) in
    slots_stay e.inode (with_entered (with_left (with_grown v.directories e.growth) e.leaving) e.entering) number other
    ∙ came ∙ ap (λ (slots : Slots). entered (entering_at e.entering number) slots) gone
    ∙ ap (λ (slots : Slots). entered (entering_at e.entering number) (left (leaving_at e.leaving number) slots)) before

-- the changes of a directory that are told leave its slots as they are then
pub changes_leave : (v : Volume) (e : Edit) (number : ℕ) (grows : Bool) (leaving : Option ℕ) (entering : Option (ℕ × DirEntry)) (slots : Slots) → IsVolume v → number < limits.inodes → is_edited e.inode number ≡ false
    → grows ≡ grows_of e.growth number → leaving ≡ leaving_at e.leaving number → entering ≡ entering_at e.entering number → slots ≡ slots_of v number
    → changed grows leaving entering slots ≡ slots_of (edited v e) number
changes_leave v e number grows leaving entering slots h low other a b c d = rw (a, b, c, d) (sym (slots_after v e number h low other))

-- the same for the slots as they were read from the image
pub slots_left_there : (v w : Volume) (e : Edit) (number : ℕ) (grows : Bool) (leaving : Option ℕ) (entering : Option (ℕ × DirEntry)) (slots : Slots) → IsVolume v → v ≡ w → number < limits.inodes → is_edited e.inode number ≡ false
    → grows ≡ grows_of e.growth number → leaving ≡ leaving_at e.leaving number → entering ≡ entering_at e.entering number → slots ≡ get_or v.directories number slots
    → changed grows leaving entering slots ≡ slots_of (edited w e) number
slots_left_there v w e number grows leaving entering slots h same low other a b c read =
    let count = h.directory_count in
    changes_leave v e number grows leaving entering slots h low other a b c (read_at v.directories number slots [] (omega arith) read)
    ∙ ap (λ (u : Volume). slots_of (edited u e) number) same
