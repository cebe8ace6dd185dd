-- What an edit makes of each inode.
use Rattle.std.proofs.Common.{◌≡◌, ◌≢◌, ◌<◌, ℕ, false, List, length, Bool, Option, Some, None, refl, sym, ap, ◌∙◌, subst, inl, inr, arith}
use Rattle.cal_base.specs.Limits as limits
use Rattle.std.specs.Prelude.{IfSome, ◌==◌}
use Rattle.std.proofs.lemmas.Bool.{cases_eq, eqb-false, ne_eqb}
use Rattle.std.proofs.lemmas.List.{get_or-set_other, get_or-set_same, length-set}
use Rattle.inode.specs.declared.inode.Inode.{Inode}
use Rattle.volume.specs.Volume.{Volume}
use Rattle.volume_edit.specs.Edit.{IsEdit, IsGrowth, IsInodeEdit, edited, free_inode, grown_inode, inode_at, is_edited, with_growth, with_inode}
use Rattle.volume_edit.specs.declared.edit.Edit.{Edit}
use Rattle.volume_edit.specs.declared.edit.Growth.{Growth}
use Rattle.volume_edit.specs.declared.edit.InodeEdit.{InodeEdit}

-- what there is has what is said of it
pub some_has : {A : Type 0} (P : A → Type 0) (o : Option A) (a : A) → IfSome o P → o ≡ Some a → P a
some_has P None a h e = (let both : None ≡ Some a = e in absurd (cc))
some_has P (Some b) a h e = (let both : Some b ≡ Some a = e in let one : b ≡ a = cc in subst P one h)

abbrev pub is_grown : Option Growth → ℕ → Bool
is_grown (Some g) number = g.directory.0 == number
is_grown None number = false

-- an inode is the one of the edit, that of a directory with a block more, or as before
pub data Case (e : Edit) (number : ℕ) : Type 0 where
  put : (i : InodeEdit) → e.inode ≡ Some i → i.ino.0 ≡ number → Case e number
  grown : (g : Growth) → e.growth ≡ Some g → g.directory.0 ≡ number → Case e number
  kept : is_edited e.inode number ≡ false → is_grown e.growth number ≡ false → Case e number

pub data Put (o : Option InodeEdit) (number : ℕ) : Type 0 where
  here : (i : InodeEdit) → o ≡ Some i → i.ino.0 ≡ number → Put o number
  not_here : is_edited o number ≡ false → Put o number

pub is_put : (o : Option InodeEdit) (number : ℕ) → Put o number
is_put None number = not_here refl
is_put (Some i) number = elim (cases_eq i.ino.0 number) [ inl same ↦ here i refl same | inr apart ↦ not_here (ne_eqb i.ino.0 number apart) ]

pub data Grown (o : Option Growth) (number : ℕ) : Type 0 where
  grows : (g : Growth) → o ≡ Some g → g.directory.0 ≡ number → Grown o number
  stays : is_grown o number ≡ false → Grown o number

pub does_grow : (o : Option Growth) (number : ℕ) → Grown o number
does_grow None number = stays refl
does_grow (Some g) number = elim (cases_eq g.directory.0 number) [ inl same ↦ grows g refl same | inr apart ↦ stays (ne_eqb g.directory.0 number apart) ]

pub which : (e : Edit) (number : ℕ) → Case e number
which e number = elim (is_put e.inode number) [
  | here i is same ↦ put i is same
  | not_here other ↦ elim (does_grow e.growth number) [ grows g is same ↦ grown g is same | stays apart ↦ kept other apart ]
]

-- the list of inodes is as long
pub length-with_inode : (o : Option InodeEdit) (xs : List Inode) → length (with_inode xs o) ≡ length xs
length-with_inode None xs = refl
length-with_inode (Some i) xs = length-set xs i.ino.0 i.inode

pub length-with_growth : (o : Option Growth) (xs : List Inode) → length (with_growth xs o) ≡ length xs
length-with_growth None xs = refl
length-with_growth (Some g) xs = length-set xs g.directory.0 (grown_inode (inode_at xs g.directory.0) g.block)

pub length-inodes : (v : Volume) (e : Edit) → length (edited v e).inodes ≡ length v.inodes
length-inodes v e = length-with_growth e.growth (with_inode v.inodes e.inode) ∙ length-with_inode e.inode v.inodes

-- one inode alone is put
pub with_inode-same : (o : Option InodeEdit) (xs : List Inode) (i : InodeEdit) → o ≡ Some i → i.ino.0 < length xs → inode_at (with_inode xs o) i.ino.0 ≡ i.inode
with_inode-same None xs i is within = (let both : None ≡ Some i = is in absurd (cc))
with_inode-same (Some j) xs i is within =
    let both : Some j ≡ Some i = is in
    let one : j ≡ i = cc in
    subst (λ (k : InodeEdit). inode_at (with_inode xs (Some k)) i.ino.0 ≡ i.inode) (sym one) (get_or-set_same xs i.ino.0 i.inode free_inode within)

pub with_inode-other : (o : Option InodeEdit) (xs : List Inode) (number : ℕ) → is_edited o number ≡ false → inode_at (with_inode xs o) number ≡ inode_at xs number
with_inode-other None xs number other = refl
with_inode-other (Some j) xs number other = get_or-set_other xs j.ino.0 number j.inode free_inode (λ same. eqb-false j.ino.0 number other (sym same))

pub with_growth-same : (o : Option Growth) (xs : List Inode) (g : Growth) → o ≡ Some g → g.directory.0 < length xs → inode_at (with_growth xs o) g.directory.0 ≡ grown_inode (inode_at xs g.directory.0) g.block
with_growth-same None xs g is within = (let both : None ≡ Some g = is in absurd (cc))
with_growth-same (Some j) xs g is within =
    let both : Some j ≡ Some g = is in
    let one : j ≡ g = cc in
    subst (λ (k : Growth). inode_at (with_growth xs (Some k)) g.directory.0 ≡ grown_inode (inode_at xs g.directory.0) g.block) (sym one)
    (get_or-set_same xs g.directory.0 (grown_inode (inode_at xs g.directory.0) g.block) free_inode within)

pub with_growth-other : (o : Option Growth) (xs : List Inode) (number : ℕ) → is_grown o number ≡ false → inode_at (with_growth xs o) number ≡ inode_at xs number
with_growth-other None xs number other = refl
with_growth-other (Some j) xs number other = get_or-set_other xs j.directory.0 number (grown_inode (inode_at xs j.directory.0) j.block) free_inode (λ same. eqb-false j.directory.0 number other (sym same))

-- a directory that stays isn't the inode of the edit
pub edits_other : (o : Option InodeEdit) (i : InodeEdit) (number : ℕ) → o ≡ Some i → is_edited o number ≡ false → i.ino.0 ≢ number
edits_other None i number is other = (let both : None ≡ Some i = is in absurd (cc))
edits_other (Some j) i number is other =
    let both : Some j ≡ Some i = is in
    let one : j ≡ i = cc in
    λ same. eqb-false j.ino.0 number other (ap (λ (k : InodeEdit). k.ino.0) one ∙ same)

not_grown : (v : Volume) (e : Edit) (o : Option Growth) (i : InodeEdit) → IfSome o (IsGrowth v e) → e.inode ≡ Some i → is_grown o i.ino.0 ≡ false
not_grown v e None i h is = refl
not_grown v e (Some g) i h is = ne_eqb g.directory.0 i.ino.0 (λ same. edits_other e.inode i g.directory.0 is h.directory.stays (sym same))

-- the inode of the edit, where it stands
pub inode_put : (v : Volume) (e : Edit) (i : InodeEdit) → length v.inodes ≡ limits.inodes → IsEdit v e → e.inode ≡ Some i → inode_at (edited v e).inodes i.ino.0 ≡ i.inode
inode_put v e i long h is =
    let to_511 = (some_has IsInodeEdit e.inode i h.inode is).to_511 in
    with_growth-other e.growth (with_inode v.inodes e.inode) i.ino.0 (not_grown v e e.growth i h.growth is)
    ∙ with_inode-same e.inode v.inodes i is (omega arith)

-- the inode of a directory with a block more
pub inode_grown : (v : Volume) (e : Edit) (g : Growth) → length v.inodes ≡ limits.inodes → IsEdit v e → e.growth ≡ Some g → inode_at (edited v e).inodes g.directory.0 ≡ grown_inode (inode_at v.inodes g.directory.0) g.block
inode_grown v e g long h is =
    let of = some_has (IsGrowth v e) e.growth g h.growth is in
    let to_511 = of.directory.to_511 in
    with_growth-same e.growth (with_inode v.inodes e.inode) g is (let l = length-with_inode e.inode v.inodes in omega arith)
    ∙ ap (λ (x : Inode). grown_inode x g.block) (with_inode-other e.inode v.inodes g.directory.0 of.directory.stays)

-- another inode
pub inode_kept : (v : Volume) (e : Edit) (number : ℕ) → is_edited e.inode number ≡ false → is_grown e.growth number ≡ false → inode_at (edited v e).inodes number ≡ inode_at v.inodes number
inode_kept v e number other apart = with_growth-other e.growth (with_inode v.inodes e.inode) number apart ∙ with_inode-other e.inode v.inodes number other
