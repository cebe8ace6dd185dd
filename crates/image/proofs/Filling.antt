-- The bytes of a file, block by block.
use Rattle.std.proofs.Common.{◌≡◌, ◌≢◌, ◌⊎◌, ◌≤◌, ◌<◌, ◌+◌, ◌-◌, ◌*◌, ◌/◌, ◌%◌, ◌==◌, if◌then◌else◌, ℕ, zero, suc, List, [], ◌∷◌, length, take, drop, get_or, nat_eq, replicate, slice_index, refl, sym, ap, ◌∙◌, subst, arith, inl, inr, length-append, length-take}
use Rattle.cal_base.specs.Limits as limits
use Rattle.std.specs.List.{slice_set}
use Rattle.std.proofs.Math.ListN.{length-set}
use Rattle.std.proofs.lemmas.Bool.{cases_eq, cases_lt, cond-false, cond-true, eq-eqb, ne_eqb}
use Rattle.std.proofs.lemmas.Bool.Decides.{nat_tests}
use Rattle.std.proofs.lemmas.List.{get_or-append_right, get_or-set_other, get_or-set_same, get_or-take, get_or_append_left, get_or_past, length-drop, length-replicate, take_all}
use Rattle.inode.specs.Inode.{AreHolesFrom, IsInode, KindAllows}
use Rattle.inode.specs.declared.inode.Inode.{Inode}
use Rattle.inode.specs.declared.inode.Kind.{Kind}
use Rattle.inode.specs.declared.inode.Kind.TheVariants.{Free, File, Dir}
use Rattle.journal.specs.Layout.{outside, sector}
use Rattle.shared_disk.specs.Disk.{Disk}
use Rattle.shared_disk.specs.Sectors.{written}
use Rattle.volume.specs.Volume.{byte_behind, pointed}
use Rattle.image.specs.FileRead.{AreFirstBytes, HoldsBlock, PutsBlock, laid}
use Rattle.image.proofs.Mounting.{outside_far}

zero_at : (n i : ℕ) → slice_index (replicate n 0) i ≡ 0
zero_at zero i = refl
zero_at (suc n) zero = refl
zero_at (suc n) (suc i) = zero_at n i

-- a hole
pub hole : (s : List (List ℕ)) (pointer : ℕ) (bytes : List ℕ) → bytes ≡ replicate 4096 0 → pointer ≡ 0 → HoldsBlock s pointer bytes
hole s pointer bytes zeros none i =
    ap (λ (xs : List ℕ). slice_index xs (i % 4096)) zeros ∙ zero_at 4096 (i % 4096) ∙ sym (ap (λ (p : ℕ). byte_behind s p i) none)

-- a block that was read
pub read_holds : (s : List (List ℕ)) (pointer : ℕ) (bytes : List ℕ) → bytes ≡ pointed s pointer → pointer ≢ 0 → HoldsBlock s pointer bytes
read_holds s pointer bytes is some i = ap (λ (xs : List ℕ). slice_index xs (i % 4096)) is ∙ sym (behind (slice_index (pointed s pointer) (i % 4096)))
  where
    behind : (x : ℕ) → (if pointer == 0 then 0 else x) ≡ x
    behind x = grind (arith, nat_tests)

pub no_bytes : (s : List (List ℕ)) (inode : Inode) (bytes : List ℕ) → bytes ≡ [] → AreFirstBytes s inode bytes
no_bytes s inode bytes none i below = (let size = ap length none in absurd (omega arith))

-- one block more
pub next_bytes : (s : List (List ℕ)) (inode : Inode) (old new : List ℕ) (pointer count : ℕ) → AreFirstBytes s inode old → length old % 4096 ≡ 0 → count ≤ 4096
    → pointer ≡ slice_index inode.blocks (length old / 4096) → PutsBlock s pointer count old new → AreFirstBytes s inode new
next_bytes s inode old new pointer count first whole few there p i below = elim (cases_lt i (length old)) [
  | inl before ↦ ap (λ (xs : List ℕ). slice_index xs i) p.put ∙ get_or_append_left old (take count p.block) 0 i before ∙ first i before
  | inr behind ↦ (
      let size = p.size in
      let long = ap length p.put ∙ length-append old (take count p.block) in
      let cut = length-take count p.block in
      let place : i % 4096 ≡ i - length old = omega arith in
      let block : length old / 4096 ≡ i / 4096 = omega arith in
      ap (λ (xs : List ℕ). slice_index xs i) p.put ∙ get_or-append_right old (take count p.block) (length old) i 0 refl behind
      ∙ get_or-take count p.block (i - length old) 0 (omega arith) ∙ ap (slice_index p.block) (sym place) ∙ p.holds i
      ∙ ap (λ (n : ℕ). byte_behind s n i) (there ∙ ap (slice_index inode.blocks) block))
]

-- a sector is within both lists of sectors, or past the end of both
pub data AreLong (a b : List (List ℕ)) (j : ℕ) : Type 0 where
  both_have : j < length a → j < length b → AreLong a b j
  both_end : length a ≤ j → length b ≤ j → AreLong a b j

length-outside : (s : List (List ℕ)) (j : ℕ) → 19 ≤ j → AreLong (outside s) s j
length-outside [] j far = both_end (omega arith) (omega arith)
length-outside (head ∷ rest) j far =
    let long = length-append (replicate {A = List ℕ} 18 []) (drop 18 rest) in
    let front = length-replicate {A = List ℕ} 18 [] in
    let back = length-drop 18 rest in
    elim (cases_lt j (length (head ∷ rest))) [
      | inl below ↦ both_have (omega arith) below
      | inr past ↦ both_end (omega arith) past
    ]

long_set : (a b : List (List ℕ)) (j at : ℕ) (bytes : List ℕ) → AreLong a b j → AreLong (slice_set a at bytes) (slice_set b at bytes) j
long_set a b j at bytes (both_have p q) = (let l = length-set a at bytes in let m = length-set b at bytes in both_have (omega arith) (omega arith))
long_set a b j at bytes (both_end p q) = (let l = length-set a at bytes in let m = length-set b at bytes in both_end (omega arith) (omega arith))

-- one write leaves a sector alike in both
set_alike : (a b : List (List ℕ)) (j at : ℕ) (bytes : List ℕ) → AreLong a b j → sector a j ≡ sector b j → sector (slice_set a at bytes) j ≡ sector (slice_set b at bytes) j
set_alike a b j at bytes long same = elim (cases_eq j at) [
  | inl here ↦ elim long [
    | both_have p q ↦ subst (λ (n : ℕ). sector (slice_set a n bytes) j ≡ sector (slice_set b n bytes) j) here
        (get_or-set_same a j bytes [] p ∙ sym (get_or-set_same b j bytes [] q))
    | both_end p q ↦ (let l = length-set a at bytes in let m = length-set b at bytes in
        get_or_past (slice_set a at bytes) j [] (omega arith) ∙ sym (get_or_past (slice_set b at bytes) j [] (omega arith)))
  ]
  | inr apart ↦ get_or-set_other a at j bytes [] apart ∙ same ∙ sym (get_or-set_other b at j bytes [] apart)
]

written_alike : (ws : List (ℕ × List ℕ)) (a b : List (List ℕ)) (j : ℕ) → AreLong a b j → sector a j ≡ sector b j → sector (written a ws) j ≡ sector (written b ws) j
written_alike [] a b j long same = same
written_alike (w ∷ ws) a b j long same = written_alike ws (slice_set a w.0 w.1) (slice_set b w.0 w.1) j (long_set a b j w.0 w.1 long) (set_alike a b j w.0 w.1 long same)

-- the sectors of the volume tell the same bytes once these writes are made
pub outside_bytes_behind : (s : List (List ℕ)) (ws : List (ℕ × List ℕ)) (inode : Inode) (bytes : List ℕ) → AreFirstBytes (written s ws) inode bytes → AreFirstBytes (written (outside s) ws) inode bytes
outside_bytes_behind s ws inode bytes first i below =
    let pointer = slice_index inode.blocks (i / 4096) in
    let j = 547 + slice_index inode.blocks (i / 4096) in
    first i below ∙ ap (λ (xs : List ℕ). if pointer == 0 then 0 else slice_index xs (i % 4096)) (sym (written_alike ws (outside s) s j (length-outside s j (omega arith)) (outside_far s j (omega arith))))

-- a sector once these writes are made
pub sector_laid : (ws : List (ℕ × List ℕ)) (s : List (List ℕ)) (j : ℕ) → j < length s → sector (written s ws) j ≡ laid ws j (sector s j)
sector_laid [] s j below = refl
sector_laid (w ∷ ws) s j below =
    sector_laid ws (slice_set s w.0 w.1) j (let l = length-set s w.0 w.1 in omega arith) ∙ ap (laid ws j) (one_laid s j w.0 w.1 below)
  where
    one_laid : (s : List (List ℕ)) (j at : ℕ) (bytes : List ℕ) → j < length s → sector (slice_set s at bytes) j ≡ (if at == j then bytes else sector s j)
    one_laid s j at bytes below = elim (cases_eq at j) [
      | inl here ↦ ap (λ (n : ℕ). sector (slice_set s n bytes) j) here ∙ get_or-set_same s j bytes [] below ∙ sym (cond-true (nat_eq at j) bytes (sector s j) (eq-eqb at j here))
      | inr apart ↦ get_or-set_other s at j bytes [] (λ (e : j ≡ at). apart (sym e)) ∙ sym (cond-false (nat_eq at j) bytes (sector s j) (ne_eqb at j apart))
    ]

-- one write more was laid over a sector
laid_one : (ws : List (ℕ × List ℕ)) (k at : ℕ) (d : ℕ × List ℕ) (start : List ℕ) → k < length ws
    → laid (take (suc k) ws) at start ≡ (if (get_or ws k d).0 == at then (get_or ws k d).1 else laid (take k ws) at start)
laid_one [] k at d start below = absurd (omega arith)
laid_one (w ∷ ws) zero at d start below = refl
laid_one (w ∷ ws) (suc k) at d start below = laid_one ws k at d (if w.0 == at then w.1 else start) (omega arith)

pub laid_more : (ws : List (ℕ × List ℕ)) (k at : ℕ) (start now next : List ℕ) → k < length ws → now ≡ laid (take k ws) at start
    → next ≡ (if (get_or ws k (0, [])).0 == at then (get_or ws k (0, [])).1 else now) → next ≡ laid (take (k + 1) ws) at start
laid_more ws k at start now next below before is =
    is ∙ ap (λ (x : List ℕ). if (get_or ws k (0, [])).0 == at then (get_or ws k (0, [])).1 else x) before
    ∙ sym (laid_one ws k at (0, []) start below) ∙ ap (λ (m : ℕ). laid (take m ws) at start) (let e : suc k ≡ k + 1 = omega arith in e)

pub laid_all : (ws : List (ℕ × List ℕ)) (n at : ℕ) (start : List ℕ) → length ws ≤ n → laid (take n ws) at start ≡ laid ws at start
laid_all ws n at start past = ap (λ (xs : List (ℕ × List ℕ)). laid xs at start) (take_all n ws past)

-- no pointer up to a size names a block, and those past it are holes
pub holes_before : (inode : Inode) → IsInode inode → ((place : ℕ) → 4096 * place < inode.size → slice_index inode.blocks place ≡ 0) → AreHolesFrom 0 inode.blocks
holes_before inode is before place from = elim (cases_lt (4096 * place) inode.size) [
  | inl below ↦ before place below
  | inr past ↦ holes_past inode.kind inode is.allowed place past
]
  where
    holes_past : (k : Kind) (inode : Inode) → KindAllows k inode → (place : ℕ) → inode.size ≤ 4096 * place → slice_index inode.blocks place ≡ 0
    holes_past Free inode h place past = h.holes place (omega arith)
    holes_past File inode h place past = h.holes place (omega arith)
    holes_past Dir inode h place past = h.holes place (omega arith)

pub inode_fits : (inode : Inode) → IsInode inode → inode.size ≤ 262144
inode_fits inode is = kind_fits inode.kind inode is.allowed
  where
    kind_fits : (k : Kind) (inode : Inode) → KindAllows k inode → inode.size ≤ 262144
    kind_fits Free inode h = (let s = h.size in omega arith)
    kind_fits File inode h = h.size
    kind_fits Dir inode h = (let s = h.size in omega arith)

-- a block that was read, with the writes laid over it
pub behind_holds : (s : List (List ℕ)) (ws : List (ℕ × List ℕ)) (pointer : ℕ) (read bytes : List ℕ) → length s ≡ limits.sectors → pointer ≤ 2048 → read ≡ pointed s pointer → bytes ≡ laid ws (547 + pointer) read → pointer ≢ 0
    → HoldsBlock (written s ws) pointer bytes
behind_holds s ws pointer read bytes long small is over some =
    read_holds (written s ws) pointer bytes (over ∙ ap (laid ws (547 + pointer)) is ∙ sym (sector_laid ws s (547 + pointer) (omega arith))) some

-- the pointers up to a count of bytes are holes
abbrev pub AreHolesTo : Inode → ℕ → Type 0
AreHolesTo inode count = (place : ℕ) → 4096 * place < count → slice_index inode.blocks place ≡ 0

pub holes_none : (inode : Inode) (bytes : List ℕ) → bytes ≡ [] → AreHolesTo inode (length bytes)
holes_none inode bytes none place below = (let size = ap length none in absurd (omega arith))

-- under its own key, or of no block, and one block more
pub holes_more : (inode : Inode) (old new pointer : ℕ) (d d1 : Disk) (view : ℕ) → d1 ≡ d → AreHolesTo inode old ⊎ (d.key ≡ view) → old % 4096 ≡ 0 → new ≤ old + 4096 → pointer ≡ slice_index inode.blocks (old / 4096)
    → (pointer ≡ 0) ⊎ (d1.key ≡ view) → AreHolesTo inode new ⊎ (d.key ≡ view)
holes_more inode old new pointer d d1 view same (inr own) whole few there now = inr own
holes_more inode old new pointer d d1 view same (inl before) whole few there (inr own) = inr (ap (λ (x : Disk). x.key) (sym same) ∙ own)
holes_more inode old new pointer d d1 view same (inl before) whole few there (inl none) = inl (λ place below. elim (cases_lt (4096 * place) old) [
  | inl earlier ↦ before place earlier
  | inr here ↦ (let at : place ≡ old / 4096 = omega arith in ap (slice_index inode.blocks) at ∙ sym there ∙ none)
])

pub holes_all : (inode : Inode) (count : ℕ) (d : Disk) (view : ℕ) → IsInode inode → inode.size ≤ count → AreHolesTo inode count ⊎ (d.key ≡ view) → AreHolesFrom 0 inode.blocks ⊎ (d.key ≡ view)
holes_all inode count d view is all (inr own) = inr own
holes_all inode count d view is all (inl none) = inl (holes_before inode is (λ place below. none place (omega arith)))
