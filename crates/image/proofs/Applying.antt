-- The parts of an edit of a volume can be made, and what is kept to find things is right again.
use Rattle.std.proofs.Common.{◌≡◌, ◌≤◌, ◌<◌, ◌++◌, ◌∙◌, ℕ, Bool, false, List, [], Option, Some, None, length, replicate, take, drop, refl, sym, ap, subst, inl, inr, arith}
use Rattle.cal_base.specs.Limits as limits
use Rattle.std.specs.Prelude.{IfSome}
use Rattle.std.proofs.lemmas.Bool.{cases_eq, cases_lt, ne_eqb}
use Rattle.std.proofs.lemmas.List.{drop_all, length-set, take_at}
use Rattle.inode.specs.declared.inode.Inode.{Inode}
use Rattle.inode.specs.declared.inode.Kind.{Kind}
use Rattle.request_log.specs.declared.slot.Slot.{Slot}
use Rattle.volume.specs.Volume.{Slots, Volume}
use Rattle.volume_edit.specs.Edit.{IsEdit, IsEntering, IsGrowth, IsInodeEdit, IsLeaving, IsSlotEdit, IsVolume, edited, inode_at, is_edited, with_entered, with_grown, with_growth, with_inode, with_left, with_slot, without_slots}
use Rattle.volume_edit.specs.declared.edit.Edit.{Edit}
use Rattle.volume_edit.specs.declared.edit.Growth.{Growth}
use Rattle.volume_edit.specs.declared.edit.InodeEdit.{InodeEdit}
use Rattle.volume_edit.specs.declared.edit.SlotEdit.{SlotEdit}
use Rattle.volume_edit.proofs.Directories.{length-directories, length-entered_slots, length-left_slots}
use Rattle.volume_edit.proofs.Grammar.{count_dir, edited_volume, inode_is}
use Rattle.volume_edit.proofs.Inodes.{does_grow, grows, inode_grown, inode_kept, length-inodes, length-with_inode, stays, with_inode-other}
use Rattle.volume_edit.proofs.Live.{is_dir}
use Rattle.volume_edit.proofs.SlotChanges.{length-grown, length-with_slots, with_slots-other, with_slots-same}
use Rattle.image.specs.Applying.{CanChange, CanChangeInodes, CanGrow, CanGrowInode, CanLeave, CanMark, CanPut, CanPutSlot, slots_at}
use Rattle.image.specs.Image.{IsImage, IsNoneBefore, is_free_inode, is_nameless, is_orphan}
use Rattle.volume_plan.specs.Plans.{is_free}

-- what there is has more
some_more : {A : Type 0} (P Q : A → Type 0) (o : Option A) → ((a : A) → P a → Q a) → IfSome o P → IfSome o Q
some_more P Q None more h = h
some_more P Q (Some a) more h = more a h

pub can_put_slot : (v : Volume) (e : Edit) → IsVolume v → IsEdit v e → IfSome e.slot (CanPutSlot v.slots)
can_put_slot v e h is = some_more IsSlotEdit (CanPutSlot v.slots) e.slot
    (λ s of. record { within = (let count = h.slot_count in let low = of.client in omega arith); reply = of.slot.reply.change }) is.slot

can_put : (v : Volume) → IsVolume v → (i : InodeEdit) → IsInodeEdit i → CanPut v.inodes i
can_put v h i of =
    let count = h.inode_count in
    let to_511 = of.to_511 in
    record { within = omega arith; freed = (inode_is v h i.ino.0 (omega arith)).pointers; used = of.inode.pointers }

pub can_mark : (v : Volume) (e : Edit) → IsVolume v → IsEdit v e → CanMark v.inodes e
can_mark v e h is = record {
  inode = some_more IsInodeEdit (CanPut v.inodes) e.inode (can_put v h) is.inode;
  growth = some_more (IsGrowth v e) (λ (g : Growth). g.block < limits.blocks) e.growth (λ g of. of.block) is.growth;
}

can_grow_inode : (v : Volume) (e : Edit) → IsVolume v → (g : Growth) → IsGrowth v e g → CanGrowInode (with_inode v.inodes e.inode) g
can_grow_inode v e h g of =
    let same = with_inode-other e.inode v.inodes g.directory.0 of.directory.stays in
    let to_511 = of.directory.to_511 in
    let long = length-with_inode e.inode v.inodes in
    let count = h.inode_count in
    let each = count_dir v h g.directory.0 (omega arith) of.directory.kind in
    let whole = (is_dir v h g.directory.0 (omega arith) of.directory.kind).whole in
    let fewer = of.fewer in
    record {
      within = omega arith;
      size = rw same (omega arith);
      count = rw same (inode_is v h g.directory.0 (omega arith)).count;
      block = of.block;
    }

pub can_change_inodes : (v : Volume) (e : Edit) → IsVolume v → IsEdit v e → CanChangeInodes v.inodes e
can_change_inodes v e h is = record {
  inode = some_more IsInodeEdit (λ (i : InodeEdit). i.ino.0 < length v.inodes) e.inode (λ i of. (can_put v h i of).within) is.inode;
  growth = some_more (IsGrowth v e) (CanGrowInode (with_inode v.inodes e.inode)) e.growth (can_grow_inode v e h) is.growth;
}

-- a directory has no fewer slots once one has grown
no_fewer : (v : Volume) (e : Edit) (o : Option Growth) (m : ℕ) → length v.directories ≡ limits.inodes → IfSome o (IsGrowth v e) → length (slots_at v.directories m) ≤ length (slots_at (with_grown v.directories o) m)
no_fewer v e None m count h = omega arith
no_fewer v e (Some g) m count h = elim (cases_eq m g.directory.0) [
  | inl here ↦ (
      let to_511 = h.directory.to_511 in
      let more = ap length (with_slots-same v.directories g.directory.0 (λ slots. slots ++ replicate 128 None) (omega arith)) ∙ length-grown (slots_at v.directories g.directory.0) in
      subst (λ (n : ℕ). length (slots_at v.directories n) ≤ length (slots_at (with_grown v.directories (Some g)) n)) (sym here) (omega arith))
  | inr other ↦ (
      let same = ap length (with_slots-other v.directories g.directory.0 (λ slots. slots ++ replicate 128 None) m other) in
      omega arith)
]

pub length-with_grown : (ds : List Slots) (o : Option Growth) → length (with_grown ds o) ≡ length ds
length-with_grown ds None = refl
length-with_grown ds (Some g) = length-with_slots ds g.directory.0 (λ slots. slots ++ replicate 128 None)

pub can_change : (v : Volume) (e : Edit) → IsVolume v → IsEdit v e → CanChange v.directories e
can_change v e h is =
    let count = h.directory_count in
    let grown = length-with_grown v.directories e.growth in
    let left = length-left_slots v e in
    let entered = length-entered_slots v e in
    record {
      growth = some_more (IsGrowth v e) (CanGrow v.directories) e.growth (λ g of. record { within = (let to_511 = of.directory.to_511 in omega arith); fewer = of.fewer }) is.growth;
      leaving = some_more (IsLeaving v e) (CanLeave (with_grown v.directories e.growth)) e.leaving
          (λ l of. record { within = (let to_511 = of.directory.to_511 in omega arith); place = (let more = no_fewer v e e.growth l.directory.0 count is.growth in let low = of.within in omega arith) }) is.leaving;
      entering = some_more (IsEntering v e) _ e.entering
          (λ n of. record { within = (let to_511 = of.directory.to_511 in omega arith); place = of.within; entry = of.entry; alone = of.alone }) is.entering;
      inode = some_more IsInodeEdit _ e.inode (λ i of. (let to_511 = of.to_511 in omega arith)) is.inode;
    }

-- an inode that isn't the one of the edit is a file, free or named as before
pub kept_as : {A : Type 0} (f : Kind → Bool → A) (v : Volume) (e : Edit) (number : ℕ) → IsVolume v → IsEdit v e → is_edited e.inode number ≡ false
    → f (inode_at (edited v e).inodes number).kind (inode_at (edited v e).inodes number).named ≡ f (inode_at v.inodes number).kind (inode_at v.inodes number).named
kept_as f v e number h is other = elim (does_grow e.growth number) [
  | grows g made same ↦ subst (λ (n : ℕ). f (inode_at (edited v e).inodes n).kind (inode_at (edited v e).inodes n).named ≡ f (inode_at v.inodes n).kind (inode_at v.inodes n).named) same
      (ap (λ (x : Inode). f x.kind x.named) (inode_grown v e g h.inode_count is made))
  | stays apart ↦ ap (λ (x : Inode). f x.kind x.named) (inode_kept v e number other apart)
]

-- an inode below that of the edit is another
below_edit : (o : Option InodeEdit) (low number : ℕ) → IfSome o (λ (i : InodeEdit). low ≤ i.ino.0) → number < low → is_edited o number ≡ false
below_edit None low number above below = refl
below_edit (Some i) low number above below = ne_eqb i.ino.0 number (λ same. omega arith)

-- none is so below a number from which on the first was sought
pub none_again : (f : Kind → Bool → Bool) (v : Volume) (e : Edit) (hint low found : ℕ) → IsVolume v → IsEdit v e
    → IsNoneBefore (λ i. f i.kind i.named) v.inodes hint → low ≤ hint → IfSome e.inode (λ (i : InodeEdit). low ≤ i.ino.0) → found ≤ limits.inodes
    → ((number : ℕ) → low ≤ number → number < found → f (inode_at (edited v e).inodes number).kind (inode_at (edited v e).inodes number).named ≡ false)
    → IsNoneBefore (λ i. f i.kind i.named) (edited v e).inodes found
none_again f v e hint low found h is before lower above within sought = record {
  within = within;
  none = λ number below. elim (cases_lt number low) [
    | inl under ↦ kept_as f v e number h is (below_edit e.inode low number above under) ∙ before.none number (omega arith)
    | inr over ↦ sought number over below
  ];
}

-- a slice that was changed in place is all of the list again
pub put_back : {A : Type 0} (xs new : List A) (len : ℕ) → len ≡ length xs → length new ≡ length xs → take len (new ++ drop (length new) xs) ≡ new
put_back {A = A} xs new len count same =
    ap (λ (ys : List A). take len (new ++ ys)) (drop_all (length new) xs (omega arith)) ∙ take_at new [] len (omega arith)

pub same_volume : (v : Volume) (free : List Bool) (slots : List Slot) (inodes : List Inode) (directories : List Slots) → free ≡ v.free → slots ≡ v.slots → inodes ≡ v.inodes → directories ≡ v.directories
    → (let w : Volume = record { clients = v.clients; free = free; slots = slots; inodes = inodes; directories = directories } in w) ≡ v
same_volume v free slots inodes directories a b c d = λ i. record { clients = v.clients; free = a i; slots = b i; inodes = c i; directories = d i }

length-with_slot : (slots : List Slot) (o : Option SlotEdit) → length (with_slot slots o) ≡ length slots
length-with_slot slots None = refl
length-with_slot slots (Some s) = length-set slots s.client.0 s.slot

-- the lists of an edit in their places
pub slots_back : (v : Volume) (e : Edit) (old new : List Slot) (len : ℕ) → old ≡ v.slots → length old ≡ len → new ≡ with_slot old e.slot
    → take len (new ++ drop (length new) v.slots) ≡ (edited v e).slots
slots_back v e old new len value count is =
    let long = ap length is ∙ length-with_slot old e.slot in
    let same = ap length value in
    put_back v.slots new len (omega arith) (omega arith) ∙ is ∙ ap (λ (xs : List Slot). with_slot xs e.slot) value

pub inodes_back : (v : Volume) (e : Edit) (old new : List Inode) (len : ℕ) → old ≡ v.inodes → length old ≡ len → new ≡ with_growth (with_inode old e.inode) e.growth
    → take len (new ++ drop (length new) v.inodes) ≡ (edited v e).inodes
inodes_back v e old new len value count is =
    let all = is ∙ ap (λ (xs : List Inode). with_growth (with_inode xs e.inode) e.growth) value in
    let long = ap length all ∙ length-inodes v e in
    let same = ap length value in
    put_back v.inodes new len (omega arith) (omega arith) ∙ all

pub directories_back : (v : Volume) (e : Edit) (old new : List Slots) (len : ℕ) → old ≡ v.directories → length old ≡ len
    → new ≡ without_slots (with_entered (with_left (with_grown old e.growth) e.leaving) e.entering) e.inode
    → take len (new ++ drop (length new) v.directories) ≡ (edited v e).directories
directories_back v e old new len value count is =
    let all = is ∙ ap (λ (xs : List Slots). without_slots (with_entered (with_left (with_grown xs e.growth) e.leaving) e.entering) e.inode) value in
    let long = ap length all ∙ length-directories v e in
    let same = ap length value in
    put_back v.directories new len (omega arith) (omega arith) ∙ all

-- the numbers that a search from the edit's inode on finds are kept
pub image_edited : (v w : Volume) (e : Edit) (hint other low under found first : ℕ) → IsImage v hint other → IsEdit v e → w ≡ edited v e
    → low ≤ hint → IfSome e.inode (λ (i : InodeEdit). low ≤ i.ino.0) → found ≤ length w.inodes
    → ((number : ℕ) → low ≤ number → number < found → is_free_inode (inode_at w.inodes number) ≡ false)
    → under ≤ other → IfSome e.inode (λ (i : InodeEdit). under ≤ i.ino.0) → first ≤ length w.inodes
    → ((number : ℕ) → under ≤ number → number < first → is_orphan (inode_at w.inodes number) ≡ false)
    → IsImage w found first
image_edited v w e hint other low under found first h is same lower above within sought lower' above' within' sought' =
    let volume = edited_volume v e h.volume is in
    let count = volume.inode_count in
    let all : IsImage (edited v e) found first = record {
      volume = volume;
      free = none_again (λ k named. is_free k) v e hint low found h.volume is h.free lower above (let n = rw same at within in omega arith) (rw same at sought);
      orphan = none_again is_nameless v e other under first h.volume is h.orphan lower' above' (let n = rw same at within' in omega arith) (rw same at sought');
    } in
    subst (λ (u : Volume). IsImage u found first) (sym same) all
