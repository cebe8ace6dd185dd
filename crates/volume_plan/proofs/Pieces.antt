-- Where the pieces of a flush go: the block of each by its index, the pointers at them, and their bytes.
use Rattle.std.proofs.Common.{◌≡◌, ◌≢◌, ◌⊎◌, ◌≤◌, ◌<◌, ◌+◌, ◌&&◌, ℕ, suc, Bool, true, nat_eq, nat_le, nat_lt, List, [], ◌∷◌, length, Option, Some, None, if◌then◌else◌, slice_get, slice_index, refl, sym, ap, ◌∙◌, inl, inr, arith}
use Rattle.std.specs.Prelude.{⊤}
use Rattle.std.specs.List.{slice_set}
use Rattle.std.proofs.Math.ListN.{length-set}
use Rattle.std.proofs.lemmas.Bool.{and_parts, cases_eq, cond-false, cond-true, eq-eqb, leb-true, ltb-true, ne_eqb}
use Rattle.std.proofs.lemmas.List.{get_or-set_other, get_or-set_same}
use Rattle.std.proofs.lemmas.Option.{slice_get_within}
use Rattle.journal.specs.Layout.{sector}
use Rattle.journal.proofs.Moments.{Each}
use Rattle.journal.proofs.Sectors.{sector_same, sector_written}
use Rattle.shared_disk.specs.Sectors.{written}
use Rattle.token_kind.specs.Flush.{are_rising, piece_at}
use Rattle.volume_plan.proofs.FreeBlocks.{AreFreeBlocks}
use Rattle.volume_plan.specs.Flushing.{data_writes, pointed_at}

-- the indexes of pieces rise
abbrev pub AreRising : ℕ → ℕ → List (ℕ × List ℕ) → Type 0
AreRising least end [] = ⊤
AreRising least end (p ∷ ps) = (least ≤ p.0) × (p.0 < end) × AreRising (p.0 + 1) end ps

pub rising_by : (least end : ℕ) (pieces : List (ℕ × List ℕ)) → are_rising least end pieces ≡ true → AreRising least end pieces
rising_by least end [] e = tt
rising_by least end (p ∷ ps) e =
    let parts = and_parts (nat_le least p.0 && nat_lt p.0 end) (are_rising (p.0 + 1) end ps) e in
    let both = and_parts (nat_le least p.0) (nat_lt p.0 end) parts.0 in
    (leb-true least p.0 both.0, ltb-true p.0 end both.1, rising_by (p.0 + 1) end ps parts.1)

-- the block of the piece with this index
abbrev pub block_at : List (ℕ × List ℕ) → List ℕ → ℕ → Option ℕ
block_at [] blocks place = None
block_at (p ∷ ps) [] place = None
block_at (p ∷ ps) (b ∷ bs) place = if nat_eq p.0 place then Some b else block_at ps bs place

-- a pointer at a block, or as it was
abbrev pub pointer_by : Option ℕ → ℕ → ℕ
pointer_by (Some block) before = block + 1
pointer_by None before = before

-- no piece below the least index
pub block_below : (least end : ℕ) (pieces : List (ℕ × List ℕ)) (blocks : List ℕ) (place : ℕ) → AreRising least end pieces → place < least → block_at pieces blocks place ≡ None
block_below least end [] blocks place rising below = refl
block_below least end (p ∷ ps) [] place rising below = refl
block_below least end (p ∷ ps) (b ∷ bs) place rising below =
    cond-false (nat_eq p.0 place) (Some b) (block_at ps bs place) (ne_eqb p.0 place (λ e. (let h = rising.0 in omega arith)))
    ∙ block_below (p.0 + 1) end ps bs place rising.2 (let h = rising.0 in omega arith)

-- nor from the end on
pub block_past : (least end : ℕ) (pieces : List (ℕ × List ℕ)) (blocks : List ℕ) (place : ℕ) → AreRising least end pieces → end ≤ place → block_at pieces blocks place ≡ None
block_past least end [] blocks place rising past = refl
block_past least end (p ∷ ps) [] place rising past = refl
block_past least end (p ∷ ps) (b ∷ bs) place rising past =
    cond-false (nat_eq p.0 place) (Some b) (block_at ps bs place) (ne_eqb p.0 place (λ e. (let h = rising.1 in omega arith)))
    ∙ block_past (p.0 + 1) end ps bs place rising.2 past

pub length-pointed_at : (pointers : List ℕ) (pieces : List (ℕ × List ℕ)) (blocks : List ℕ) → length (pointed_at pointers pieces blocks) ≡ length pointers
length-pointed_at pointers [] blocks = refl
length-pointed_at pointers (p ∷ ps) [] = refl
length-pointed_at pointers (p ∷ ps) (b ∷ bs) = length-pointed_at (slice_set pointers p.0 (b + 1)) ps bs ∙ length-set pointers p.0 (b + 1)

-- each pointer is at the block of the piece with its index, or as it was
pub pointer_at : (least end : ℕ) (pointers : List ℕ) (pieces : List (ℕ × List ℕ)) (blocks : List ℕ) (place : ℕ) → AreRising least end pieces → end ≤ length pointers
    → slice_index (pointed_at pointers pieces blocks) place ≡ pointer_by (block_at pieces blocks place) (slice_index pointers place)
pointer_at least end pointers [] blocks place rising within = refl
pointer_at least end pointers (p ∷ ps) [] place rising within = refl
pointer_at least end pointers (p ∷ ps) (b ∷ bs) place rising within =
    let now = slice_set pointers p.0 (b + 1) in
    let later : slice_index (pointed_at now ps bs) place ≡ pointer_by (block_at ps bs place) (slice_index now place) =
    pointer_at (p.0 + 1) end now ps bs place rising.2 (let l = length-set pointers p.0 (b + 1) in omega arith) in
    elim (cases_eq p.0 place) [
      | inl same ↦ later
          ∙ ap (λ (o : Option ℕ). pointer_by o (slice_index now place)) (block_below (p.0 + 1) end ps bs place rising.2 (omega arith))
          ∙ ap (slice_index now) (sym same) ∙ get_or-set_same pointers p.0 (b + 1) 0 (let h = rising.1 in omega arith)
          ∙ sym (ap (λ (o : Option ℕ). pointer_by o (slice_index pointers place)) (cond-true (nat_eq p.0 place) (Some b) (block_at ps bs place) (eq-eqb p.0 place same)))
      | inr apart ↦ later
          ∙ ap (pointer_by (block_at ps bs place)) (get_or-set_other pointers p.0 place (b + 1) 0 (λ (e : place ≡ p.0). apart (sym e)))
          ∙ sym (ap (λ (o : Option ℕ). pointer_by o (slice_index pointers place)) (cond-false (nat_eq p.0 place) (Some b) (block_at ps bs place) (ne_eqb p.0 place apart)))
    ]

-- writes to other blocks
data_apart : (free : List Bool) (low : ℕ) (blocks : List ℕ) (pieces : List (ℕ × List ℕ)) (block : ℕ) → AreFreeBlocks free low blocks → block < low → Each (λ i. 548 + block ≢ i) (data_writes blocks pieces)
data_apart free low [] [] block are below = tt
data_apart free low (b ∷ bs) [] block are below = tt
data_apart free low [] (p ∷ ps) block are below = tt
data_apart free low (b ∷ bs) (p ∷ ps) block are below =
    let h = are.0 in
    ((λ (e : 548 + block ≡ 548 + b). omega (arith, e, h, below)), data_apart free (suc b) bs ps block are.2 (omega arith))

-- a piece with its block, which has its bytes once the data is written
pub record IsPlaced (free : List Bool) (low : ℕ) (sectors : List (List ℕ)) (pieces : List (ℕ × List ℕ)) (blocks : List ℕ) (place : ℕ) : Type 0 where
  pub block : ℕ
  pub bytes : List ℕ
  pub at : block_at pieces blocks place ≡ Some block
  pub piece : piece_at pieces place ≡ Some bytes
  pub stored : sector (written sectors (data_writes blocks pieces)) (548 + block) ≡ bytes
  pub free_before : slice_get free block ≡ Some true
  pub from_low : low ≤ block

pub record IsUnplaced (pieces : List (ℕ × List ℕ)) (blocks : List ℕ) (place : ℕ) : Type 0 where
  pub at : block_at pieces blocks place ≡ None
  pub piece : piece_at pieces place ≡ None

pub placed_or_not : (free : List Bool) (low : ℕ) (sectors : List (List ℕ)) (pieces : List (ℕ × List ℕ)) (blocks : List ℕ) (place : ℕ) → length blocks ≡ length pieces → AreFreeBlocks free low blocks → 548 + length free ≤ length sectors
    → IsPlaced free low sectors pieces blocks place ⊎ IsUnplaced pieces blocks place
placed_or_not free low sectors [] blocks place long are room = inr (record { at = refl; piece = refl })
placed_or_not free low sectors (p ∷ ps) [] place long are room = absurd (omega arith)
placed_or_not free low sectors (p ∷ ps) (b ∷ bs) place long are room = elim (cases_eq p.0 place) [
  | inl same ↦ inl (record {
    block = b;
    bytes = p.1;
    at = cond-true (nat_eq p.0 place) (Some b) (block_at ps bs place) (eq-eqb p.0 place same);
    piece = cond-true (nat_eq p.0 place) (Some p.1) (piece_at ps place) (eq-eqb p.0 place same);
    stored = sector_written (data_writes bs ps) (548 + b) (data_apart free (suc b) bs ps b are.2 (omega arith)) (slice_set sectors (548 + b) p.1)
        ∙ sector_same sectors (548 + b) p.1 (let h = slice_get_within free b true are.1 in omega arith);
    free_before = are.1;
    from_low = are.0;
  })
  | inr apart ↦ elim (placed_or_not free (suc b) (slice_set sectors (548 + b) p.1) ps bs place (omega arith) are.2 (let l = length-set sectors (548 + b) p.1 in omega arith)) [
    | inl later ↦ inl (record {
      block = later.block;
      bytes = later.bytes;
      at = cond-false (nat_eq p.0 place) (Some b) (block_at ps bs place) (ne_eqb p.0 place apart) ∙ later.at;
      piece = cond-false (nat_eq p.0 place) (Some p.1) (piece_at ps place) (ne_eqb p.0 place apart) ∙ later.piece;
      stored = later.stored;
      free_before = later.free_before;
      from_low = (let h = are.0 in let l = later.from_low in omega arith);
    })
    | inr none ↦ inr (record {
      at = cond-false (nat_eq p.0 place) (Some b) (block_at ps bs place) (ne_eqb p.0 place apart) ∙ none.at;
      piece = cond-false (nat_eq p.0 place) (Some p.1) (piece_at ps place) (ne_eqb p.0 place apart) ∙ none.piece;
    })
  ]
]

-- two pieces don't share a block
some_from : (free : List Bool) (low : ℕ) (pieces : List (ℕ × List ℕ)) (blocks : List ℕ) (place block : ℕ) → AreFreeBlocks free low blocks → block_at pieces blocks place ≡ Some block → low ≤ block
some_from free low [] blocks place block are e = (let both : None ≡ Some block = e in absurd (cc))
some_from free low (p ∷ ps) [] place block are e = (let both : None ≡ Some block = e in absurd (cc))
some_from free low (p ∷ ps) (b ∷ bs) place block are e = elim (cases_eq p.0 place) [
  | inl same ↦ (let both : Some b ≡ Some block = sym (cond-true (nat_eq p.0 place) (Some b) (block_at ps bs place) (eq-eqb p.0 place same)) ∙ e in let one : b ≡ block = cc in let h = are.0 in omega arith)
  | inr apart ↦ (let h = some_from free (suc b) ps bs place block are.2 (sym (cond-false (nat_eq p.0 place) (Some b) (block_at ps bs place) (ne_eqb p.0 place apart)) ∙ e) in let l = are.0 in omega arith)
]

pub one_index : (free : List Bool) (low : ℕ) (pieces : List (ℕ × List ℕ)) (blocks : List ℕ) (i j block : ℕ) → AreFreeBlocks free low blocks → block_at pieces blocks i ≡ Some block → block_at pieces blocks j ≡ Some block → i ≡ j
one_index free low [] blocks i j block are a b = (let both : None ≡ Some block = a in absurd (cc))
one_index free low (p ∷ ps) [] i j block are a b = (let both : None ≡ Some block = a in absurd (cc))
one_index free low (p ∷ ps) (x ∷ xs) i j block are a b = elim (cases_eq p.0 i) [
  | inl first ↦ elim (cases_eq p.0 j) [
    | inl second ↦ sym first ∙ second
    | inr second ↦ absurd (mixed i j first second a b)
  ]
  | inr first ↦ elim (cases_eq p.0 j) [
    | inl second ↦ absurd (mixed j i second first b a)
    | inr second ↦ one_index free (suc x) ps xs i j block are.2 (other i first a) (other j second b)
  ]
]
  where
    other : (k : ℕ) → p.0 ≢ k → block_at (p ∷ ps) (x ∷ xs) k ≡ Some block → block_at ps xs k ≡ Some block
    other k apart e = sym (cond-false (nat_eq p.0 k) (Some x) (block_at ps xs k) (ne_eqb p.0 k apart)) ∙ e

    mixed : (k l : ℕ) → p.0 ≡ k → p.0 ≢ l → block_at (p ∷ ps) (x ∷ xs) k ≡ Some block → block_at (p ∷ ps) (x ∷ xs) l ≡ Some block → ⊥
    mixed k l same apart c d =
        let both : Some x ≡ Some block = sym (cond-true (nat_eq p.0 k) (Some x) (block_at ps xs k) (eq-eqb p.0 k same)) ∙ c in
        let one : x ≡ block = cc in
        let h = some_from free (suc x) ps xs l block are.2 (other l apart d) in
        omega arith
