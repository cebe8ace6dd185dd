-- What an edit makes of the slots of each directory.
use Rattle.std.proofs.Common.{◌≡◌, ◌≢◌, ◌<◌, ◌*◌, ◌/◌, ◌++◌, ℕ, false, List, [], length, replicate, Option, Some, None, refl, sym, ap, ◌∙◌, subst, inl, inr, arith, get_or}
use Rattle.cal_base.specs.Limits as limits
use Rattle.std.specs.Prelude.{IfSome, slice_set}
use Rattle.std.proofs.lemmas.Bool.{cases_lt, eqb-false}
use Rattle.std.proofs.lemmas.List.{get_or-set_other, get_or-set_same, get_or_past, length-set, nil_from_length}
use Rattle.std.proofs.lemmas.Option.{slice_get-get_or}
use Rattle.directory.specs.Directory.{IsDirectory, block_slots}
use Rattle.directory.proofs.Directories.{directory_removed}
use Rattle.inode.specs.declared.inode.Inode.{Inode}
use Rattle.inode.specs.declared.inode.Kind.{Kind}
use Rattle.inode.specs.declared.inode.Kind.TheVariants.{Free, File, Dir}
use Rattle.volume.specs.Volume.{Slots, Volume, slots_of}
use Rattle.volume_edit.specs.Edit.{HasSlots, IsEdit, IsEntering, IsGrowth, IsInodeEdit, IsLeaving, IsVolume, edited, free_inode, inode_at, is_edited, with_entered, with_grown, with_left, without_slots}
use Rattle.volume_edit.specs.declared.edit.Edit.{Edit}
use Rattle.volume_edit.specs.declared.edit.Entering.{Entering}
use Rattle.volume_edit.specs.declared.edit.Growth.{Growth}
use Rattle.volume_edit.specs.declared.edit.InodeEdit.{InodeEdit}
use Rattle.volume_edit.specs.declared.edit.Leaving.{Leaving}
use Rattle.volume_edit.proofs.Inodes.{is_grown, some_has}
use Rattle.volume_edit.proofs.SlotChanges.{block-with_one, directory_entered, directory_grown, length-with_one, length-with_slots, no_entries, with_slots-each, with_slots-other, with_slots-same}

-- the slots of directories step by step
abbrev pub grown_slots : Volume → Edit → List Slots
grown_slots v e = with_grown v.directories e.growth

abbrev pub left_slots : Volume → Edit → List Slots
left_slots v e = with_left (grown_slots v e) e.leaving

abbrev pub entered_slots : Volume → Edit → List Slots
entered_slots v e = with_entered (left_slots v e) e.entering

-- a block more
length-with_grown : (o : Option Growth) (ds : List Slots) → length (with_grown ds o) ≡ length ds
length-with_grown None ds = refl
length-with_grown (Some g) ds = length-with_slots ds g.directory.0 (λ slots. slots ++ replicate 128 None)

with_grown-same : (o : Option Growth) (ds : List Slots) (g : Growth) → o ≡ Some g → g.directory.0 < length ds → get_or (with_grown ds o) g.directory.0 [] ≡ get_or ds g.directory.0 [] ++ replicate 128 None
with_grown-same None ds g is within = (let both : None ≡ Some g = is in absurd (cc))
with_grown-same (Some j) ds g is within =
    let both : Some j ≡ Some g = is in
    let one : j ≡ g = cc in
    subst (λ (k : Growth). get_or (with_grown ds (Some k)) g.directory.0 [] ≡ get_or ds g.directory.0 [] ++ replicate 128 None) (sym one)
    (with_slots-same ds g.directory.0 (λ slots. slots ++ replicate 128 None) within)

with_grown-other : (o : Option Growth) (ds : List Slots) (m : ℕ) → is_grown o m ≡ false → get_or (with_grown ds o) m [] ≡ get_or ds m []
with_grown-other None ds m apart = refl
with_grown-other (Some g) ds m apart = with_slots-other ds g.directory.0 (λ slots. slots ++ replicate 128 None) m (λ same. eqb-false g.directory.0 m apart (sym same))

with_grown-each : (v : Volume) (e : Edit) (o : Option Growth) → IfSome o (IsGrowth v e) → length v.directories ≡ limits.inodes → ((m : ℕ) → IsDirectory (slots_of v m)) → (m : ℕ) → IsDirectory (get_or (with_grown v.directories o) m [])
with_grown-each v e None h long each m = each m
with_grown-each v e (Some g) h long each m =
    let to_511 = h.directory.to_511 in
    with_slots-each IsDirectory v.directories g.directory.0 (λ slots. slots ++ replicate 128 None) (omega arith) each (directory_grown (slots_of v g.directory.0) (each g.directory.0) h.fewer) m

-- an entry goes
length-with_left : (o : Option Leaving) (ds : List Slots) → length (with_left ds o) ≡ length ds
length-with_left None ds = refl
length-with_left (Some l) ds = length-with_slots ds l.directory.0 (λ slots. slice_set slots l.place None)

with_left-count : (v : Volume) (e : Edit) (o : Option Leaving) (ds : List Slots) → IfSome o (IsLeaving v e) → length ds ≡ limits.inodes → (m : ℕ) → length (get_or (with_left ds o) m []) ≡ length (get_or ds m [])
with_left-count v e None ds h long m = refl
with_left-count v e (Some l) ds h long m = (let to_511 = h.directory.to_511 in length-with_one ds l.directory.0 l.place None m (omega arith))

with_left-each : (v : Volume) (e : Edit) (o : Option Leaving) (ds : List Slots) → IfSome o (IsLeaving v e) → length ds ≡ limits.inodes → ((m : ℕ) → IsDirectory (get_or ds m [])) → (m : ℕ) → IsDirectory (get_or (with_left ds o) m [])
with_left-each v e None ds h long each m = each m
with_left-each v e (Some l) ds h long each m =
    let to_511 = h.directory.to_511 in
    with_slots-each IsDirectory ds l.directory.0 (λ slots. slice_set slots l.place None) (omega arith) each (directory_removed (get_or ds l.directory.0 []) l.place (each l.directory.0)) m

with_left-block : (v : Volume) (e : Edit) (o : Option Leaving) (ds : List Slots) → IfSome o (IsLeaving v e) → length ds ≡ limits.inodes → (m block : ℕ) → ((l : Leaving) → o ≡ Some l → l.directory.0 ≡ m → l.place / 128 ≢ block)
    → block_slots (get_or (with_left ds o) m []) block ≡ block_slots (get_or ds m []) block
with_left-block v e None ds h long m block apart = refl
with_left-block v e (Some l) ds h long m block apart = (let to_511 = h.directory.to_511 in block-with_one ds l.directory.0 l.place None m block (omega arith) (apart l refl))

-- an entry comes
length-with_entered : (o : Option Entering) (ds : List Slots) → length (with_entered ds o) ≡ length ds
length-with_entered None ds = refl
length-with_entered (Some n) ds = length-with_slots ds n.directory.0 (λ slots. slice_set slots n.place (Some n.entry))

with_entered-count : (v : Volume) (e : Edit) (o : Option Entering) (ds : List Slots) → IfSome o (IsEntering v e) → length ds ≡ limits.inodes → (m : ℕ) → length (get_or (with_entered ds o) m []) ≡ length (get_or ds m [])
with_entered-count v e None ds h long m = refl
with_entered-count v e (Some n) ds h long m = (let to_511 = h.directory.to_511 in length-with_one ds n.directory.0 n.place (Some n.entry) m (omega arith))

with_entered-each : (v : Volume) (e : Edit) (o : Option Entering) → IfSome o (IsEntering v e) → length (left_slots v e) ≡ limits.inodes → ((m : ℕ) → IsDirectory (get_or (left_slots v e) m [])) → (m : ℕ) → IsDirectory (get_or (with_entered (left_slots v e) o) m [])
with_entered-each v e None h long each m = each m
with_entered-each v e (Some n) h long each m =
    let to_511 = h.directory.to_511 in
    with_slots-each IsDirectory (left_slots v e) n.directory.0 (λ slots. slice_set slots n.place (Some n.entry)) (omega arith) each
    (directory_entered (get_or (left_slots v e) n.directory.0 []) n.place n.entry (each n.directory.0) h.entry h.alone) m

with_entered-block : (v : Volume) (e : Edit) (o : Option Entering) (ds : List Slots) → IfSome o (IsEntering v e) → length ds ≡ limits.inodes → (m block : ℕ) → ((n : Entering) → o ≡ Some n → n.directory.0 ≡ m → n.place / 128 ≢ block)
    → block_slots (get_or (with_entered ds o) m []) block ≡ block_slots (get_or ds m []) block
with_entered-block v e None ds h long m block apart = refl
with_entered-block v e (Some n) ds h long m block apart = (let to_511 = h.directory.to_511 in block-with_one ds n.directory.0 n.place (Some n.entry) m block (omega arith) (apart n refl))

-- a directory goes
length-without_slots : (o : Option InodeEdit) (ds : List Slots) → length (without_slots ds o) ≡ length ds
length-without_slots None ds = refl
length-without_slots (Some i) ds = length-set ds i.ino.0 []

without_slots-same : (o : Option InodeEdit) (ds : List Slots) (i : InodeEdit) → o ≡ Some i → i.ino.0 < length ds → get_or (without_slots ds o) i.ino.0 [] ≡ []
without_slots-same None ds i is within = (let both : None ≡ Some i = is in absurd (cc))
without_slots-same (Some j) ds i is within =
    let both : Some j ≡ Some i = is in
    let one : j ≡ i = cc in
    subst (λ (k : InodeEdit). get_or (without_slots ds (Some k)) i.ino.0 [] ≡ []) (sym one) (get_or-set_same ds i.ino.0 [] [] within)

without_slots-other : (o : Option InodeEdit) (ds : List Slots) (m : ℕ) → is_edited o m ≡ false → get_or (without_slots ds o) m [] ≡ get_or ds m []
without_slots-other None ds m other = refl
without_slots-other (Some i) ds m other = get_or-set_other ds i.ino.0 m [] [] (λ same. eqb-false i.ino.0 m other (sym same))

without_slots-each : (o : Option InodeEdit) (ds : List Slots) → IfSome o IsInodeEdit → length ds ≡ limits.inodes → ((m : ℕ) → IsDirectory (get_or ds m [])) → (m : ℕ) → IsDirectory (get_or (without_slots ds o) m [])
without_slots-each None ds h long each m = each m
without_slots-each (Some i) ds h long each m =
    let to_511 = h.to_511 in
    with_slots-each IsDirectory ds i.ino.0 (λ slots. []) (omega arith) each no_entries m

-- the counts
pub length-left_slots : (v : Volume) (e : Edit) → length (left_slots v e) ≡ length v.directories
length-left_slots v e = length-with_left e.leaving (grown_slots v e) ∙ length-with_grown e.growth v.directories

pub length-entered_slots : (v : Volume) (e : Edit) → length (entered_slots v e) ≡ length v.directories
length-entered_slots v e = length-with_entered e.entering (left_slots v e) ∙ length-left_slots v e

pub length-directories : (v : Volume) (e : Edit) → length (edited v e).directories ≡ length v.directories
length-directories v e = length-without_slots e.inode (entered_slots v e) ∙ length-entered_slots v e

-- the count of a directory's slots, after all
pub slots_put : (v : Volume) (e : Edit) (i : InodeEdit) → length v.directories ≡ limits.inodes → IsEdit v e → e.inode ≡ Some i → slots_of (edited v e) i.ino.0 ≡ []
slots_put v e i long h is =
    let to_511 = (some_has IsInodeEdit e.inode i h.inode is).to_511 in
    without_slots-same e.inode (entered_slots v e) i is (let l = length-entered_slots v e in omega arith)

count_left : (v : Volume) (e : Edit) (m : ℕ) → length v.directories ≡ limits.inodes → IsEdit v e → length (get_or (left_slots v e) m []) ≡ length (get_or (grown_slots v e) m [])
count_left v e m long h = with_left-count v e e.leaving (grown_slots v e) h.leaving (length-with_grown e.growth v.directories ∙ long) m

count_past : (v : Volume) (e : Edit) (m : ℕ) → length v.directories ≡ limits.inodes → IsEdit v e → is_edited e.inode m ≡ false → length (slots_of (edited v e) m) ≡ length (get_or (grown_slots v e) m [])
count_past v e m long h other =
    ap length (without_slots-other e.inode (entered_slots v e) m other)
    ∙ with_entered-count v e e.entering (left_slots v e) h.entering (length-left_slots v e ∙ long) m
    ∙ count_left v e m long h

pub count_kept : (v : Volume) (e : Edit) (m : ℕ) → length v.directories ≡ limits.inodes → IsEdit v e → is_edited e.inode m ≡ false → is_grown e.growth m ≡ false → length (slots_of (edited v e) m) ≡ length (slots_of v m)
count_kept v e m long h other apart = count_past v e m long h other ∙ ap length (with_grown-other e.growth v.directories m apart)

pub slots_grown : (v : Volume) (e : Edit) (g : Growth) → length v.directories ≡ limits.inodes → IsEdit v e → e.growth ≡ Some g → get_or (grown_slots v e) g.directory.0 [] ≡ slots_of v g.directory.0 ++ replicate 128 None
slots_grown v e g long h is =
    let to_511 = (some_has (IsGrowth v e) e.growth g h.growth is).directory.to_511 in
    with_grown-same e.growth v.directories g is (omega arith)

pub count_grown : (v : Volume) (e : Edit) (g : Growth) → length v.directories ≡ limits.inodes → IsEdit v e → e.growth ≡ Some g → length (slots_of (edited v e) g.directory.0) ≡ length (slots_of v g.directory.0 ++ replicate 128 None)
count_grown v e g long h is =
    let of = (some_has (IsGrowth v e) e.growth g h.growth is).directory in
    count_past v e g.directory.0 long h of.stays ∙ ap length (slots_grown v e g long h is)

-- where an entry comes there is a slot
pub count_left_past : (v : Volume) (e : Edit) (m : ℕ) → length v.directories ≡ limits.inodes → IsEdit v e → is_edited e.inode m ≡ false → length (slots_of (edited v e) m) ≡ length (get_or (left_slots v e) m [])
count_left_past v e m long h other = count_past v e m long h other ∙ sym (count_left v e m long h)

-- a block in which no slot is changed
pub block_kept : (v : Volume) (e : Edit) (m block : ℕ) → length v.directories ≡ limits.inodes → IsEdit v e → is_edited e.inode m ≡ false
    → ((l : Leaving) → e.leaving ≡ Some l → l.directory.0 ≡ m → l.place / 128 ≢ block) → ((n : Entering) → e.entering ≡ Some n → n.directory.0 ≡ m → n.place / 128 ≢ block)
    → block_slots (slots_of (edited v e) m) block ≡ block_slots (get_or (grown_slots v e) m []) block
block_kept v e m block long h other left entered =
    ap (λ (s : Slots). block_slots s block) (without_slots-other e.inode (entered_slots v e) m other)
    ∙ with_entered-block v e e.entering (left_slots v e) h.entering (length-left_slots v e ∙ long) m block entered
    ∙ with_left-block v e e.leaving (grown_slots v e) h.leaving (length-with_grown e.growth v.directories ∙ long) m block left

pub slots_as_before : (v : Volume) (e : Edit) (m : ℕ) → is_grown e.growth m ≡ false → get_or (grown_slots v e) m [] ≡ slots_of v m
slots_as_before v e m apart = with_grown-other e.growth v.directories m apart

-- how many slots an inode of each kind has
abbrev pub HasCount : Kind → Inode → ℕ → Type 0
HasCount Free inode count = count ≡ 0
HasCount File inode count = count ≡ 0
HasCount Dir inode count = 4096 * count ≡ 128 * inode.size

pub has_directory : (k : Kind) (inode : Inode) (slots : Slots) → HasSlots k inode slots → IsDirectory slots
has_directory Free inode slots h = subst IsDirectory (sym h) no_entries
has_directory File inode slots h = subst IsDirectory (sym h) no_entries
has_directory Dir inode slots h = h.directory

pub has_count : (k : Kind) (inode : Inode) (slots : Slots) → HasSlots k inode slots → HasCount k inode (length slots)
has_count Free inode slots h = ap length h
has_count File inode slots h = ap length h
has_count Dir inode slots h = h.count

pub has_slots : (k : Kind) (inode : Inode) (slots : Slots) → IsDirectory slots → HasCount k inode (length slots) → HasSlots k inode slots
has_slots Free inode slots d h = nil_from_length slots h
has_slots File inode slots d h = nil_from_length slots h
has_slots Dir inode slots d h = record { directory = d; count = h }

-- each has the slots of a directory, before and after
pub each_directory : (v : Volume) → IsVolume v → (m : ℕ) → IsDirectory (slots_of v m)
each_directory v h m =
    let inodes = h.inode_count in
    let count = h.directory_count in
    elim (cases_lt m 512) [
      | inl below ↦ (let inode = inode_at v.inodes m in has_directory inode.kind inode (slots_of v m) (h.directories m inode (slice_get-get_or v.inodes m free_inode (omega arith))))
      | inr past ↦ subst IsDirectory (sym (get_or_past v.directories m [] (omega arith))) no_entries
    ]

pub each_directory_edited : (v : Volume) (e : Edit) → IsVolume v → IsEdit v e → (m : ℕ) → IsDirectory (slots_of (edited v e) m)
each_directory_edited v e h is m =
    let long = h.directory_count in
    let grown = with_grown-each v e e.growth is.growth long (each_directory v h) in
    let left = with_left-each v e e.leaving (grown_slots v e) is.leaving (length-with_grown e.growth v.directories ∙ long) grown in
    let entered = with_entered-each v e e.entering is.entering (length-left_slots v e ∙ long) left in
    without_slots-each e.inode (entered_slots v e) is.inode (length-entered_slots v e ∙ long) entered m
