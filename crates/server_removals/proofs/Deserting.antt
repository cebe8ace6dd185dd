-- The least orphan that nobody has open, as it is searched for.
use Rattle.std.proofs.Common.{◌≡◌, ◌≤◌, ◌<◌, ◌+◌, ◌⊎◌, ◌&&◌, inl, inr, ℕ, Bool, true, false, not, Option, Some, None, ap, refl, subst, sym, ◌∙◌, arith}
use Rattle.std.proofs.lemmas.Bool.{cases_lt}
use Rattle.std.specs.List.{filter}
use Rattle.cal_base.specs.declared.identity.Ino.{Ino}
use Rattle.inode.specs.declared.inode.Kind.{Kind}
use Rattle.inode.specs.declared.inode.Kind.TheVariants.{Free, File, Dir}
use Rattle.token_kind.specs.declared.«class».Class.TheVariants.{Open}
use Rattle.token_table.specs.Table.{Table}
use Rattle.volume.specs.Volume.{Volume}
use Rattle.volume_edit.specs.Edit.{inode_at}
use Rattle.image.specs.Image.{HasNoOrphan, IsLeastOrphan, is_nameless, is_orphan}
use Rattle.cluster_law.specs.Asking.{deserted}
use Rattle.cluster_law.specs.Lists.{first_of, inodes_below}
use Rattle.cluster_law.specs.ServerState.{ServerState, is_file_kind}
use Rattle.server_book.proofs.Deciding.{orphan}
use Rattle.server_desk.specs.Desk.{DeskValue, IsLike, with_desk}
use Rattle.server_removals.specs.Removals.{at_desk, is_held_by_some}
use Rattle.server_removals.proofs.Firsts.{first-inode, no-inode}

-- a file without a name that nobody has open
abbrev pub is_left : Volume → Table → Ino → Bool
is_left v t ino = is_orphan (inode_at v.inodes ino.0) && not (is_held_by_some t ino Open)

-- of the inodes below a number none is so
pub record NoneLeftBelow (v : Volume) (t : Table) (from : ℕ) : Type 0 where
  pub within : from ≤ 512
  pub none : (k : ℕ) → k < from → is_left v t (record { 0 = k }) ≡ false

nameless-file : (kind : Kind) (named : Bool) → is_nameless kind named ≡ (is_file_kind kind && not named)
nameless-file Free named = refl
nameless-file File named = refl
nameless-file Dir named = refl

left-is : (v : Volume) (desk : DeskValue) → first_of (filter (is_left v desk.collecting.table) (inodes_below 512)) ≡ deserted (at_desk desk v)
left-is v desk = λ i. first_of (filter (λ ino. nameless-file (inode_at v.inodes ino.0).kind (inode_at v.inodes ino.0).named i && not (is_held_by_some desk.collecting.table ino Open)) (inodes_below 512))

no-orphan-left : (v : Volume) (t : Table) (ino : Ino) → is_orphan (inode_at v.inodes ino.0) ≡ false → is_left v t ino ≡ false
no-orphan-left v t ino e = ap (λ (b : Bool). b && not (is_held_by_some t ino Open)) e

pub none-yet : (v : Volume) (t : Table) → NoneLeftBelow v t 0
none-yet v t = record { within = omega arith; none = λ k lt. absurd (never lt) }
  where
    never : {k : ℕ} → k < 0 → ⊥
    never h = omega arith

-- below the least orphan from there on none is so either
lower-none : (v : Volume) (t : Table) (from : ℕ) (ino : Ino) → NoneLeftBelow v t from → IsLeastOrphan v.inodes from ino.0 → (k : ℕ) → k < ino.0 → is_left v t (record { 0 = k }) ≡ false
lower-none v t from ino none least k lt = by (cases_lt k from)
  where
    by : (k < from) ⊎ (from ≤ k) → is_left v t (record { 0 = k }) ≡ false
    by (inl low) = none.none k low
    by (inr high) = no-orphan-left v t (record { 0 = k }) (least.least k high lt)

-- one that someone has open is passed over
pub passed-over : (v : Volume) (t : Table) (from : ℕ) (ino : Ino) → NoneLeftBelow v t from → IsLeastOrphan v.inodes from ino.0 → is_held_by_some t ino Open ≡ true → NoneLeftBelow v t (ino.0 + 1)
passed-over v t from ino none least used = record { within = omega (arith, least.to_511); none = λ k lt. by k lt (cases_lt k ino.0) }
  where
    here : is_left v t ino ≡ false
    here = λ i. least.orphan i && not (used i)

    by : (k : ℕ) → k < ino.0 + 1 → (k < ino.0) ⊎ (ino.0 ≤ k) → is_left v t (record { 0 = k }) ≡ false
    by k lt (inl low) = lower-none v t from ino none least k low
    by k lt (inr high) = let same : ino.0 ≡ k = omega arith in subst (λ (n : ℕ). is_left v t (record { 0 = n }) ≡ false) same here

-- one that nobody has open is the one
pub is-deserted : (v : Volume) (desk : DeskValue) (from : ℕ) (ino : Ino) → NoneLeftBelow v desk.collecting.table from → IsLeastOrphan v.inodes from ino.0 → is_held_by_some desk.collecting.table ino Open ≡ false
    → Some ino ≡ deserted (at_desk desk v)
is-deserted v desk from ino none least closed =
    sym (first-inode (is_left v desk.collecting.table) 512 ino.0 least.to_511 (λ i. least.orphan i && not (closed i)) (lower-none v desk.collecting.table from ino none least))
    ∙ left-is v desk

-- there is none
pub none-deserted : (v : Volume) (desk : DeskValue) (from : ℕ) → NoneLeftBelow v desk.collecting.table from → HasNoOrphan v.inodes from → None ≡ deserted (at_desk desk v)
none-deserted v desk from none lacks = sym (no-inode (is_left v desk.collecting.table) 512 (λ k lt. by k (cases_lt k from))) ∙ left-is v desk
  where
    by : (k : ℕ) → (k < from) ⊎ (from ≤ k) → is_left v desk.collecting.table (record { 0 = k }) ≡ false
    by k (inl low) = none.none k low
    by k (inr high) = no-orphan-left v desk.collecting.table (record { 0 = k }) (lacks k high)

-- whatever sectors there are, a server that is like the desk decides so
pub deserted-like : (v : Volume) (desk : DeskValue) (server : ServerState) → IsLike desk server → server.volume ≡ v → deserted (at_desk desk v) ≡ deserted server
deserted-like v desk server like same = ap (λ (u : Volume). deserted (with_desk desk u server.sectors)) (sym same) ∙ orphan (with_desk desk server.volume server.sectors) server like

-- the orphan that is found is that of the law's server
pub found-like : (v : Volume) (desk : DeskValue) (server : ServerState) (found : Option Ino) → found ≡ deserted (at_desk desk v) → IsLike desk server → v ≡ server.volume → deserted server ≡ found
found-like v desk server found is like same = sym (is ∙ deserted-like v desk server like (sym same))
