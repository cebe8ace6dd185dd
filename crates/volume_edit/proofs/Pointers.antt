-- The pointers of directories after an edit: each is an old one, or the one that came.
use Rattle.std.proofs.Common.{◌≡◌, ◌≢◌, ◌<◌, ◌+◌, ◌-◌, ◌*◌, ◌/◌, ℕ, true, false, [], length, Option, Some, slice_get, slice_index, refl, sym, ap, ◌∙◌, subst, inl, inr, arith}
use Rattle.cal_base.specs.Limits as limits
use Rattle.std.specs.Prelude.{slice_set}
use Rattle.std.proofs.lemmas.Bool.{cases_eq}
use Rattle.std.proofs.lemmas.List.{get_or-set_other, get_or-set_same}
use Rattle.std.proofs.lemmas.Option.{slice_get-get_or}
use Rattle.inode.specs.declared.inode.Inode.{Inode}
use Rattle.inode.specs.declared.inode.Kind.TheVariants.{Dir}
use Rattle.volume.specs.Stands.{AreBlocksKept, IsPointed, Points}
use Rattle.volume.specs.Volume.{Volume, slots_of}
use Rattle.volume_edit.specs.Blocks.{IsGrowing, TakesFree}
use Rattle.volume_edit.specs.Edit.{IsEdit, IsGrowth, IsVolume, edited, free_inode, inode_at, is_edited}
use Rattle.volume_edit.specs.declared.edit.Edit.{Edit}
use Rattle.volume_edit.specs.declared.edit.Growth.{Growth}
use Rattle.volume_edit.proofs.Directories.{count_grown, count_kept, each_directory, slots_put}
use Rattle.volume_edit.proofs.Grammar.{count_dir, inode_is, kind_kept}
use Rattle.volume_edit.proofs.Inodes.{does_grow, grows, here, inode_grown, inode_kept, is_put, not_here, some_has, stays}
use Rattle.volume_edit.proofs.Live.{IsLive, pointer_is}
use Rattle.volume_edit.proofs.SlotChanges.{length-grown}

-- a free block has no pointer
pub free_unpointed : (v : Volume) (block : ℕ) → AreBlocksKept v → block < limits.blocks → slice_get v.free block ≡ Some true → IsPointed v.inodes block → ⊥
free_unpointed v block kept below free pointed =
    let used : slice_get v.free block ≡ Some false = (kept.used block below).1 pointed in
    let both : Some true ≡ Some false = sym free ∙ used in
    absurd (cc)

-- what a pointer names
pub data Named (v : Volume) (e : Edit) (number index block : ℕ) : Type 0 where
  old : Points v.inodes number index block → 128 * index < length (slots_of v number) → slice_index (inode_at v.inodes number).blocks index ≡ block + 1 → Named v e number index block
  new : (g : Growth) → e.growth ≡ Some g → g.directory.0 ≡ number → length (slots_of v number) ≡ 128 * index → g.block ≡ block → Named v e number index block

pub record Behind (v : Volume) (e : Edit) (number index : ℕ) : Type 0 where
  pub stays : is_edited e.inode number ≡ false
  pub dir : (inode_at v.inodes number).kind ≡ Dir
  pub block : ℕ
  pub pointer : slice_index (inode_at (edited v e).inodes number).blocks index ≡ block + 1
  pub named : Named v e number index block

old_live : (v : Volume) → IsVolume v → (e : Edit) (number index : ℕ) → IsLive v number index → (block : ℕ) → slice_index (inode_at v.inodes number).blocks index ≡ block + 1 → Named v e number index block
old_live v h e number index live block names =
    let inodes = h.inode_count in
    let low = live.to_511 in
    old (record { inode = inode_at v.inodes number; there = slice_get-get_or v.inodes number free_inode (omega arith); names = names }) live.within names

-- a block that isn't the one that came
behind_old : (v : Volume) (e : Edit) → IsVolume v → (number index : ℕ) → is_edited e.inode number ≡ false → IsLive v number index
    → slice_index (inode_at (edited v e).inodes number).blocks index ≡ slice_index (inode_at v.inodes number).blocks index → Behind v e number index
behind_old v e h number index other live same =
    let p = slice_index (inode_at v.inodes number).blocks index in
    let from = (pointer_is v h number index live).from_one in
    let one : p ≡ (p - 1) + 1 = omega arith in
    record { stays = other; dir = live.kind; block = p - 1; pointer = same ∙ one; named = old_live v h e number index live (p - 1) one }

behind_grown : (v : Volume) (e : Edit) (g : Growth) → IsVolume v → IsEdit v e → e.growth ≡ Some g → (index : ℕ) → IsLive (edited v e) g.directory.0 index → Behind v e g.directory.0 index
behind_grown v e g h is made index live =
    let of = some_has (IsGrowth v e) e.growth g is.growth made in
    let number = g.directory.0 in
    let low = of.directory.to_511 in
    let dir = of.directory.kind in
    let inode = inode_at v.inodes number in
    let slots = slots_of v number in
    let last = inode.size / 4096 in
    let same = inode_grown v e g h.inode_count is made in
    let size = count_grown v e g h.directory_count is made in
    let more = length-grown slots in
    let count = count_dir v h number (omega arith) dir in
    let whole = (each_directory v h number).whole in
    let fewer = of.fewer in
    let within = live.within in
    let long = (inode_is v h number (omega arith)).count in
    let blocks : slice_index (inode_at (edited v e).inodes number).blocks index ≡ slice_index (slice_set inode.blocks last (g.block + 1)) index = ap (λ (x : Inode). slice_index x.blocks index) same in
    elim (cases_eq index last) [
      | inl end ↦ record {
        stays = of.directory.stays;
        dir = dir;
        block = g.block;
        pointer = blocks ∙ ap (slice_index (slice_set inode.blocks last (g.block + 1))) end ∙ get_or-set_same inode.blocks last (g.block + 1) 0 (omega arith);
        named = new g made refl (omega arith) refl;
      }
      | inr apart ↦ behind_old v e h number index of.directory.stays (record { to_511 = omega arith; kind = dir; within = omega arith }) (blocks ∙ get_or-set_other inode.blocks last index (g.block + 1) 0 apart)
    ]

pub behind : (v : Volume) (e : Edit) → IsVolume v → IsEdit v e → (number index : ℕ) → IsLive (edited v e) number index → Behind v e number index
behind v e h is number index live = elim (is_put e.inode number) [
  | here i made same ↦ (
      let none : slots_of (edited v e) number ≡ [] = subst (λ (n : ℕ). slots_of (edited v e) n ≡ []) same (slots_put v e i h.directory_count is made) in
      let size = ap length none in
      let within = live.within in
      absurd (omega arith))
  | not_here other ↦ elim (does_grow e.growth number) [
    | grows g made same ↦ subst (λ (n : ℕ). Behind v e n index) same (behind_grown v e g h is made index (subst (λ (n : ℕ). IsLive (edited v e) n index) (sym same) live))
    | stays apart ↦ (
        let size = count_kept v e number h.directory_count is other apart in
        let within = live.within in
        behind_old v e h number index other (record { to_511 = live.to_511; kind = sym (kind_kept v e h.inode_count is number other) ∙ live.kind; within = omega arith })
        (ap (λ (x : Inode). slice_index x.blocks index) (inode_kept v e number other apart)))
  ]
]

-- the block that comes is free, so that nothing points at it
pub new_unpointed : (v : Volume) (e : Edit) (g : Growth) → AreBlocksKept v → IsEdit v e → TakesFree v e → e.growth ≡ Some g → IsPointed v.inodes g.block → ⊥
new_unpointed v e g kept is takes made pointed =
    let of = some_has (IsGrowth v e) e.growth g is.growth made in
    let free = (some_has (IsGrowing v e) e.growth g takes.growth made).free in
    free_unpointed v g.block kept of.block free pointed

pub new_apart : (v : Volume) (e : Edit) (g : Growth) (number place block : ℕ) → AreBlocksKept v → IsEdit v e → TakesFree v e → e.growth ≡ Some g → g.block ≡ block → Points v.inodes number place block → ⊥
new_apart v e g number place block kept is takes made same points =
    new_unpointed v e g kept is takes made (record { number = number; place = place; points = subst (Points v.inodes number place) (sym same) points })

-- no two blocks of directories are one
pub record AreOne (a b i j : ℕ) : Type 0 where
  pub number : a ≡ b
  pub index : i ≡ j

one_growth : (o : Option Growth) (g k : Growth) → o ≡ Some g → o ≡ Some k → g ≡ k
one_growth o g k p q = (let both : Some g ≡ Some k = sym p ∙ q in cc)

pub one_block : (v : Volume) (e : Edit) → IsVolume v → AreBlocksKept v → IsEdit v e → TakesFree v e → (a i b j : ℕ) → IsLive (edited v e) a i → IsLive (edited v e) b j
    → slice_index (inode_at (edited v e).inodes a).blocks i ≡ slice_index (inode_at (edited v e).inodes b).blocks j → AreOne a b i j
one_block v e h kept is takes a i b j live_a live_b same =
    let at_a = behind v e h is a i live_a in
    let at_b = behind v e h is b j live_b in
    let pointer_a = at_a.pointer in
    let pointer_b = at_b.pointer in
    let block : at_a.block ≡ at_b.block = omega arith in
    elim at_a.named [
      | old points_a within_a names_a ↦ elim at_b.named [
        | old points_b within_b names_b ↦ (let one = kept.apart a b i j at_a.block points_a (subst (Points v.inodes b j) (sym block) points_b) in record { number = one.0; index = one.1 })
        | new g made_b number_b index_b block_b ↦ absurd (new_apart v e g a i at_a.block kept is takes made_b (block_b ∙ sym block) points_a)
      ]
      | new g made_a number_a index_a block_a ↦ elim at_b.named [
        | old points_b within_b names_b ↦ absurd (new_apart v e g b j at_b.block kept is takes made_a (block_a ∙ block) points_b)
        | new k made_b number_b index_b block_b ↦ (
            let one = one_growth e.growth g k made_a made_b in
            let number : a ≡ b = sym number_a ∙ ap (λ (x : Growth). x.directory.0) one ∙ number_b in
            let count : length (slots_of v a) ≡ length (slots_of v b) = ap (λ (n : ℕ). length (slots_of v n)) number in
            record { number = number; index = omega arith })
      ]
    ]

-- no block of a directory is one of another inode
pub other_inode : (v : Volume) (e : Edit) → IsVolume v → AreBlocksKept v → IsEdit v e → TakesFree v e → (a i number place block : ℕ) → IsLive (edited v e) a i → Points v.inodes number place block
    → (inode_at v.inodes number).kind ≢ Dir → slice_index (inode_at (edited v e).inodes a).blocks i ≢ block + 1
other_inode v e h kept is takes a i number place block live points other same =
    let at = behind v e h is a i live in
    let pointer = at.pointer in
    let one : at.block ≡ block = omega arith in
    elim at.named [
      | old points_a within_a names_a ↦ (
          let both = kept.apart a number i place block (subst (Points v.inodes a i) one points_a) points in
          other (subst (λ (n : ℕ). (inode_at v.inodes n).kind ≡ Dir) both.0 at.dir))
      | new g made number_a index_a block_a ↦ new_apart v e g number place block kept is takes made (block_a ∙ one) points
    ]
