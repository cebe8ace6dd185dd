-- A flush's data and pointers, one piece after another.
use Rattle.std.proofs.Common.{◌≡◌, ◌⊎◌, ◌≤◌, ◌<◌, ◌+◌, ◌++◌, ◌∙◌, ℕ, zero, suc, Bool, true, false, List, [], ◌∷◌, length, take, get_or, slice_get, slice_set, Some, refl, sym, ap, subst, arith, inl, inr, length-append, min, replicate, ◌-◌, All}
use Rattle.cal_base.specs.Limits as limits
use Rattle.std.proofs.lemmas.Bool.{cases_lt}
use Rattle.std.proofs.lemmas.List.{length-replicate, length-set, length-take}
use Rattle.std.proofs.lemmas.Option.{slice_get_within}
use Rattle.space_map.specs.SpaceMap.{IsLeastFree}
use Rattle.cal_base.specs.Blocks.{block_count}
use Rattle.token_kind.specs.Flush.{IsFlush}
use Rattle.token_kind.specs.declared.flush.Flush.{Flush}
use Rattle.volume.specs.Volume.{Volume}
use Rattle.volume_plan.proofs.FreeBlocks.{AreFreeBlocks, least_are_free}
use Rattle.volume_plan.proofs.Pieces.{AreRising, rising_by}
use Rattle.volume_plan.specs.Flushing.{blocks_for, cut_pointers, data_writes, free_from, pointed_at}

one_more : (i : ℕ) → i + 1 ≡ suc i
one_more i = omega arith

writes_next : (blocks : List ℕ) (pieces : List (ℕ × List ℕ)) (i : ℕ) (d : ℕ × List ℕ) → i < length blocks → i < length pieces
    → data_writes (take (suc i) blocks) (take (suc i) pieces) ≡ data_writes (take i blocks) (take i pieces) ++ (548 + get_or blocks i 0, (get_or pieces i d).1) ∷ []
writes_next [] pieces i d a b = absurd (omega arith)
writes_next (block ∷ blocks) [] i d a b = absurd (omega arith)
writes_next (block ∷ blocks) (piece ∷ pieces) zero d a b = refl
writes_next (block ∷ blocks) (piece ∷ pieces) (suc i) d a b = ap (λ (ws : List (ℕ × List ℕ)). (548 + block, piece.1) ∷ ws) (writes_next blocks pieces i d (omega arith) (omega arith))

-- one piece more is written
writes_more : (blocks : List ℕ) (pieces : List (ℕ × List ℕ)) (i : ℕ) (d : ℕ × List ℕ) → i < length blocks → i < length pieces
    → data_writes (take (i + 1) blocks) (take (i + 1) pieces) ≡ data_writes (take i blocks) (take i pieces) ++ (548 + get_or blocks i 0, (get_or pieces i d).1) ∷ []
writes_more blocks pieces i d a b = ap (λ (n : ℕ). data_writes (take n blocks) (take n pieces)) (one_more i) ∙ writes_next blocks pieces i d a b

-- all pieces are written, where no piece or no block is left
pub writes_all : (blocks : List ℕ) (pieces : List (ℕ × List ℕ)) (i : ℕ) → (length blocks ≤ i) ⊎ (length pieces ≤ i) → data_writes (take i blocks) (take i pieces) ≡ data_writes blocks pieces
writes_all [] [] zero past = refl
writes_all [] [] (suc i) past = refl
writes_all [] (piece ∷ pieces) zero past = refl
writes_all [] (piece ∷ pieces) (suc i) past = refl
writes_all (block ∷ blocks) [] zero past = refl
writes_all (block ∷ blocks) [] (suc i) past = refl
writes_all (block ∷ blocks) (piece ∷ pieces) zero (inl past) = absurd (omega arith)
writes_all (block ∷ blocks) (piece ∷ pieces) zero (inr past) = absurd (omega arith)
writes_all (block ∷ blocks) (piece ∷ pieces) (suc i) (inl past) = ap (λ (ws : List (ℕ × List ℕ)). (548 + block, piece.1) ∷ ws) (writes_all blocks pieces i (inl (omega arith)))
writes_all (block ∷ blocks) (piece ∷ pieces) (suc i) (inr past) = ap (λ (ws : List (ℕ × List ℕ)). (548 + block, piece.1) ∷ ws) (writes_all blocks pieces i (inr (omega arith)))

pub more_by : (blocks : List ℕ) (pieces : List (ℕ × List ℕ)) (i : ℕ) (d : ℕ × List ℕ) (writes writes' : List (ℕ × List ℕ)) (block : ℕ) → i < length blocks → i < length pieces
    → writes ≡ data_writes (take i blocks) (take i pieces) → block ≡ get_or blocks i 0 → writes' ≡ writes ++ (548 + block, (get_or pieces i d).1) ∷ [] → writes' ≡ data_writes (take (i + 1) blocks) (take (i + 1) pieces)
more_by blocks pieces i d writes writes' block a b before is then =
    then ∙ ap (λ (n : ℕ). writes ++ (548 + n, (get_or pieces i d).1) ∷ []) is ∙ ap (λ (ws : List (ℕ × List ℕ)). ws ++ (548 + get_or blocks i 0, (get_or pieces i d).1) ∷ []) before
    ∙ sym (writes_more blocks pieces i d a b)

-- nothing is left of one of two lists
pub ends_at : (blocks : List ℕ) (pieces : List (ℕ × List ℕ)) (i : ℕ) → min (length pieces) (length blocks) ≤ i → (length blocks ≤ i) ⊎ (length pieces ≤ i)
ends_at blocks pieces i past = elim (cases_lt i (length blocks)) [
  | inl below ↦ inr (omega arith)
  | inr past ↦ inl past
]

pointed_next : (pointers : List ℕ) (pieces : List (ℕ × List ℕ)) (blocks : List ℕ) (i : ℕ) (d : ℕ × List ℕ) → i < length pieces → i < length blocks
    → pointed_at pointers (take (suc i) pieces) (take (suc i) blocks) ≡ slice_set (pointed_at pointers (take i pieces) (take i blocks)) (get_or pieces i d).0 (get_or blocks i 0 + 1)
pointed_next pointers [] blocks i d a b = absurd (omega arith)
pointed_next pointers (piece ∷ pieces) [] i d a b = absurd (omega arith)
pointed_next pointers (piece ∷ pieces) (block ∷ blocks) zero d a b = refl
pointed_next pointers (piece ∷ pieces) (block ∷ blocks) (suc i) d a b = pointed_next (slice_set pointers piece.0 (block + 1)) pieces blocks i d (omega arith) (omega arith)

-- one pointer more points at its block
pub pointed_more : (pointers : List ℕ) (pieces : List (ℕ × List ℕ)) (blocks : List ℕ) (i : ℕ) (d : ℕ × List ℕ) (now : List ℕ) → i < length pieces → i < length blocks → now ≡ pointed_at pointers (take i pieces) (take i blocks)
    → slice_set now (get_or pieces i d).0 (get_or blocks i 0 + 1) ≡ pointed_at pointers (take (i + 1) pieces) (take (i + 1) blocks)
pointed_more pointers pieces blocks i d now a b before =
    ap (λ (ps : List ℕ). slice_set ps (get_or pieces i d).0 (get_or blocks i 0 + 1)) before
    ∙ sym (ap (λ (n : ℕ). pointed_at pointers (take n pieces) (take n blocks)) (one_more i) ∙ pointed_next pointers pieces blocks i d a b)

pub pointed_all : (pointers : List ℕ) (pieces : List (ℕ × List ℕ)) (blocks : List ℕ) (i : ℕ) → (length blocks ≤ i) ⊎ (length pieces ≤ i) → pointed_at pointers (take i pieces) (take i blocks) ≡ pointed_at pointers pieces blocks
pointed_all pointers [] blocks zero past = refl
pointed_all pointers [] blocks (suc i) past = refl
pointed_all pointers (piece ∷ pieces) [] zero past = refl
pointed_all pointers (piece ∷ pieces) [] (suc i) past = refl
pointed_all pointers (piece ∷ pieces) (block ∷ blocks) zero (inl past) = absurd (omega arith)
pointed_all pointers (piece ∷ pieces) (block ∷ blocks) zero (inr past) = absurd (omega arith)
pointed_all pointers (piece ∷ pieces) (block ∷ blocks) (suc i) (inl past) = pointed_all (slice_set pointers piece.0 (block + 1)) pieces blocks i (inl (omega arith))
pointed_all pointers (piece ∷ pieces) (block ∷ blocks) (suc i) (inr past) = pointed_all (slice_set pointers piece.0 (block + 1)) pieces blocks i (inr (omega arith))

-- the least free block is the first of the free ones, and the others are those that are free without it
least_first : (low : ℕ) (free : List Bool) (block : ℕ) → slice_get free block ≡ Some true → ((below : ℕ) → below < block → slice_get free below ≡ Some false)
    → free_from low free ≡ (low + block) ∷ free_from low (slice_set free block false)
unfolding free_from
least_first low [] block is least = absurd (cc)
least_first low (true ∷ free) zero is least = ap (λ (n : ℕ). n ∷ free_from (suc low) free) (let e : low ≡ low + zero = omega arith in e)
least_first low (false ∷ free) zero is least = absurd (cc)
least_first low (true ∷ free) (suc block) is least = (let no = least zero (omega arith) in absurd (cc))
least_first low (false ∷ free) (suc block) is least =
    least_first (suc low) free block is (λ below h. least (suc below) (omega arith))
    ∙ ap (λ (n : ℕ). n ∷ free_from (suc low) (slice_set free block false)) (let e : suc low + block ≡ low + suc block = omega arith in e)

none_free : (low : ℕ) (free : List Bool) → ((block : ℕ) → block < length free → slice_get free block ≡ Some false) → free_from low free ≡ []
unfolding free_from
none_free low [] none = refl
none_free low (true ∷ free) none = (let no = none zero (omega arith) in absurd (cc))
none_free low (false ∷ free) none = none_free (suc low) free (λ block h. none (suc block) (omega arith))

-- so many blocks are taken, and these are the free blocks without them
pub record AreTaken (all left : List Bool) (taken : List ℕ) (count : ℕ) : Type 0 where
  pub rest : free_from 0 all ≡ taken ++ free_from 0 left
  pub long : length left ≡ limits.blocks
  pub sized : length taken ≡ count

pub taken_none : (all left : List Bool) (taken : List ℕ) → length all ≡ limits.blocks → left ≡ all → taken ≡ [] → AreTaken all left taken 0
taken_none all left taken long same none = record { rest = ap (free_from 0) (sym same) ∙ ap (λ (xs : List ℕ). xs ++ free_from 0 left) (sym none); long = ap length same ∙ long; sized = ap length none }

append_one : (xs ys : List ℕ) (x : ℕ) → xs ++ (x ∷ ys) ≡ (xs ++ x ∷ []) ++ ys
append_one [] ys x = refl
append_one (y ∷ xs) ys x = ap (λ (zs : List ℕ). y ∷ zs) (append_one xs ys x)

first_at : (left : List Bool) (block : ℕ) → IsLeastFree left block → free_from 0 left ≡ block ∷ free_from 0 (slice_set left block false)
first_at left block least = least_first 0 left block least.is_free least.least ∙ ap (λ (n : ℕ). n ∷ free_from 0 (slice_set left block false)) (let e : 0 + block ≡ block = omega arith in e)

pub taken_more : (all left left' : List Bool) (taken taken' : List ℕ) (count block : ℕ) → AreTaken all left taken count → IsLeastFree left block → left' ≡ slice_set left block false → taken' ≡ taken ++ block ∷ [] → AreTaken all left' taken' (count + 1)
taken_more all left left' taken taken' count block are least now then = record {
  rest = are.rest ∙ ap (λ (xs : List ℕ). taken ++ xs) (first_at left block least) ∙ append_one taken (free_from 0 (slice_set left block false)) block
      ∙ ap (λ (xs : List ℕ). xs ++ free_from 0 (slice_set left block false)) (sym then) ∙ ap (λ (free : List Bool). taken' ++ free_from 0 free) (sym now);
  long = ap length now ∙ length-set left block false ∙ are.long;
  sized = ap length then ∙ (let l = length-append taken (block ∷ []) in let s = are.sized in omega arith);
}

take_front : (xs ys : List ℕ) (n : ℕ) → length xs ≡ n → take n (xs ++ ys) ≡ xs
take_front [] ys zero e = refl
take_front [] ys (suc n) e = absurd (omega arith)
take_front (x ∷ xs) ys zero e = absurd (omega arith)
take_front (x ∷ xs) ys (suc n) e = ap (λ (zs : List ℕ). x ∷ zs) (take_front xs ys n (omega arith))

take_past : (xs : List ℕ) (n : ℕ) → length xs ≤ n → take n (xs ++ []) ≡ xs
take_past [] zero e = refl
take_past [] (suc n) e = refl
take_past (x ∷ xs) zero e = absurd (omega arith)
take_past (x ∷ xs) (suc n) e = ap (λ (zs : List ℕ). x ∷ zs) (take_past xs n (omega arith))

pub taken_all : (all left : List Bool) (taken : List ℕ) (so_far count : ℕ) → AreTaken all left taken so_far → so_far ≡ count → taken ≡ take count (free_from 0 all)
taken_all all left taken so_far count are e = sym (ap (take count) are.rest ∙ take_front taken (free_from 0 left) count (are.sized ∙ e))

pub taken_last : (all left : List Bool) (taken : List ℕ) (so_far count : ℕ) → AreTaken all left taken so_far → so_far ≤ count → ((block : ℕ) → block < limits.blocks → slice_get left block ≡ Some false) → taken ≡ take count (free_from 0 all)
taken_last all left taken so_far count are few none =
    let long = are.long in
    let sized = are.sized in
    sym (ap (take count) (are.rest ∙ ap (λ (xs : List ℕ). taken ++ xs) (none_free 0 left (λ block h. none block (omega arith)))) ∙ take_past taken count (omega arith))

-- the least free blocks are of the map
blocks_below : (free : List Bool) (low : ℕ) (blocks : List ℕ) → AreFreeBlocks free low blocks → (k d : ℕ) → k < length blocks → get_or blocks k d < length free
blocks_below free low [] are k d below = absurd (omega arith)
blocks_below free low (block ∷ blocks) are zero d below = slice_get_within free block true are.1
blocks_below free low (block ∷ blocks) are (suc k) d below = blocks_below free (suc block) blocks are.2 k d (omega arith)

pub blocks_small : (v : Volume) (flush : Flush) (blocks : List ℕ) → length v.free ≡ limits.blocks → blocks ≡ blocks_for v flush → All (λ block. block < limits.blocks) blocks
blocks_small v flush blocks long same = subst (λ (xs : List ℕ). All (λ block. block < limits.blocks) xs) (sym same)
    (λ k d below. (let h = blocks_below v.free 0 (blocks_for v flush) (least_are_free v.free (length flush.pieces)) k d below in omega (arith, h, long)))

-- the pieces of a flush are of a file's blocks
index_below : (least end : ℕ) (pieces : List (ℕ × List ℕ)) → AreRising least end pieces → (k : ℕ) (d : ℕ × List ℕ) → k < length pieces → (get_or pieces k d).0 < end
index_below least end [] rising k d below = absurd (omega arith)
index_below least end (piece ∷ pieces) rising zero d below = rising.1
index_below least end (piece ∷ pieces) rising (suc k) d below = index_below (piece.0 + 1) end pieces rising.2 k d (omega arith)

pub pieces_within : (flush : Flush) (pieces : List (ℕ × List ℕ)) (pointers : List ℕ) → IsFlush flush → pieces ≡ flush.pieces → length pointers ≡ limits.file_blocks → All (λ piece. piece.0 < length pointers) pieces
pieces_within flush pieces pointers is same long = subst (λ (xs : List (ℕ × List ℕ)). All (λ piece. piece.0 < length pointers) xs) (sym same)
    (λ k d below. (let h = index_below 0 (block_count flush.size) flush.pieces (rising_by 0 (block_count flush.size) flush.pieces is.rising) k d below in let s = is.size in omega (arith, h, s, long)))

pub cut_long : (count : ℕ) (pointers : List ℕ) → length (cut_pointers count pointers) ≡ length pointers
cut_long count pointers =
    let a = length-append (take count pointers) (replicate (length pointers - count) 0) in
    let b = length-take count pointers in
    let c = length-replicate {A = ℕ} (length pointers - count) 0 in
    omega arith
