-- The least free blocks: ascending, each free, and as many as are asked for.
use Rattle.std.proofs.Common.{◌≡◌, ◌≤◌, ◌+◌, ℕ, zero, suc, Bool, true, false, List, [], ◌∷◌, length, take, Some, slice_get, refl, ap, ◌∙◌, arith}
use Rattle.std.specs.Prelude.{count_by, ⊤}
use Rattle.std.specs.List.{filter}
use Rattle.std.proofs.lemmas.List.{length-take}
use Rattle.std.proofs.lemmas.List.Sums.{length-filter}
use Rattle.volume_plan.specs.Flushing.{free_from}

-- free blocks, ascending from a block on
abbrev pub AreFreeBlocks : List Bool → ℕ → List ℕ → Type 0
AreFreeBlocks free low [] = ⊤
AreFreeBlocks free low (block ∷ blocks) = (low ≤ block) × (slice_get free block ≡ Some true) × AreFreeBlocks free (suc block) blocks

pub lower : (free : List Bool) (a b : ℕ) (blocks : List ℕ) → a ≤ b → AreFreeBlocks free b blocks → AreFreeBlocks free a blocks
lower free a b [] below are = are
lower free a b (block ∷ blocks) below are = (let h = are.0 in omega arith, are.1, are.2)

free_from_are : (all : List Bool) (block : ℕ) (rest : List Bool) → ((k : ℕ) → slice_get all (block + k) ≡ slice_get rest k) → AreFreeBlocks all block (free_from block rest)
unfolding free_from
free_from_are all block [] same = tt
free_from_are all block (true ∷ rest) same = (omega arith, ap (slice_get all) (let e : block ≡ block + 0 = omega arith in e) ∙ same 0, free_from_are all (suc block) rest (λ k. ap (slice_get all) (let e : suc block + k ≡ block + suc k = omega arith in e) ∙ same (suc k)))
free_from_are all block (false ∷ rest) same = lower all block (suc block) (free_from (suc block) rest) (omega arith) (free_from_are all (suc block) rest (λ k. ap (slice_get all) (let e : suc block + k ≡ block + suc k = omega arith in e) ∙ same (suc k)))

taken_are : (free : List Bool) (low n : ℕ) (blocks : List ℕ) → AreFreeBlocks free low blocks → AreFreeBlocks free low (take n blocks)
taken_are free low zero blocks are = tt
taken_are free low (suc n) [] are = tt
taken_are free low (suc n) (block ∷ blocks) are = (are.0, are.1, taken_are free (suc block) n blocks are.2)

length-free_from : (block : ℕ) (free : List Bool) → length (free_from block free) ≡ length (filter (λ f. f) free)
unfolding free_from
length-free_from block [] = refl
length-free_from block (true ∷ free) = ap suc (length-free_from (suc block) free)
length-free_from block (false ∷ free) = length-free_from (suc block) free

-- the least free blocks are free and ascending
pub least_are_free : (free : List Bool) (count : ℕ) → AreFreeBlocks free 0 (take count (free_from 0 free))
least_are_free free count = taken_are free 0 count (free_from 0 free) (free_from_are free 0 free (λ k. ap (slice_get free) (let e : 0 + k ≡ k = omega arith in e)))

-- and there are so many, if so many are free
pub count_of_least : (free : List Bool) (count : ℕ) → count ≤ count_by (λ f. f) free → length (take count (free_from 0 free)) ≡ count
count_of_least free count enough =
    let l = length-take count (free_from 0 free) in
    let f = length-free_from 0 free in
    let s = length-filter (λ (f : Bool). f) free in
    omega arith
