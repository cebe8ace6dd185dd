-- The blocks of many bytes.
use Rattle.std.proofs.Common.{◌≡◌, ◌+◌, ◌-◌, ◌*◌, ◌/◌, ◌%◌, ◌^◌, ◌<◌, ◌≤◌, ◌++◌, ℕ, zero, suc, Bool, true, false, None, Some, List, replicate, [], ◌∷◌, length, take, drop, slice_index, get_or, count_by, cond, append-nil, length-append, refl, sym, ap, ◌∙◌, arith, inl, inr}
use Rattle.std.specs.List.{slice_get, slice_set}
use Rattle.std.proofs.lemmas.Bool.{cases_lt}
use Rattle.std.proofs.Math.Nat.{pow-succ'}
use Rattle.std.proofs.lemmas.Grind.{flat_map-append}
use Rattle.std.proofs.lemmas.List.{drop_at, get_or-drop, get_or_append_left, take_at, set-append_left, replicate-append-replicate, set-append_right, take_more}
use Rattle.std.proofs.lemmas.List.Sums.{sum_by-append}
use Rattle.std.specs.Int.RustNames.{count_ones}
use Rattle.std.specs.List.{flat_map, position}
use Rattle.std.proofs.lemmas.Option.{get_or_from_slice_get, slice_get_within}
use Rattle.cal_base.specs.Limits.{block_size, map_size}
use Rattle.byteorder.specs.Endian.{little_from, little_number}
use Rattle.byteorder.specs.Numbers.{little_from-lt}
use Rattle.cal_fields.specs.Padded.{padded, zeros}
use Rattle.space_map.specs.SpaceMap.{AreFull, IsLeastFree, SpellsMap, free_bits, free_blocks}
use Rattle.space_map.proofs.First.{position_at, position_none}
use Rattle.space_map.proofs.FreeBits.{count-free_bits, free_bits-cancel, length-free_bits}

get_left : (xs ys : List Bool) (place : ℕ) → place < length xs → slice_get (xs ++ ys) place ≡ slice_get xs place
get_left [] ys place h = absurd (omega arith)
get_left (x ∷ xs) ys zero h = refl
get_left (x ∷ xs) ys (suc place) h = get_left xs ys place (omega arith)

get_right : (xs ys : List Bool) (place : ℕ) → slice_get (xs ++ ys) (length xs + place) ≡ slice_get ys place
get_right [] ys place = ap (slice_get ys) (omega arith)
get_right (x ∷ xs) ys place =
    let moved : length (x ∷ xs) + place ≡ suc (length xs + place) = omega arith in
    ap (slice_get (x ∷ (xs ++ ys))) moved ∙ get_right xs ys place

-- a block stands in its byte
pub get-free_blocks : (bytes : List ℕ) (at bit : ℕ) → bit < 8 → at < length bytes
    → slice_get (free_blocks bytes) (8 * at + bit) ≡ slice_get (free_bits 8 (slice_index bytes at)) bit
unfolding free_blocks
get-free_blocks [] at bit h within = absurd (omega arith)
get-free_blocks (byte ∷ bytes) zero bit h within =
    let eight = length-free_bits 8 byte in
    ap (slice_get (free_bits 8 byte ++ free_blocks bytes)) {y = bit} (omega arith) ∙ get_left (free_bits 8 byte) (free_blocks bytes) bit (omega arith)
get-free_blocks (byte ∷ bytes) (suc at) bit h within =
    let eight = length-free_bits 8 byte in
    let moved : 8 * suc at + bit ≡ length (free_bits 8 byte) + (8 * at + bit) = omega arith in
    ap (slice_get (free_bits 8 byte ++ free_blocks bytes)) moved ∙ get_right (free_bits 8 byte) (free_blocks bytes) (8 * at + bit)
    ∙ get-free_blocks bytes at bit h (omega arith)

-- a block is changed in its byte
pub set-free_blocks : (bytes : List ℕ) (at bit new : ℕ) (free : Bool) → bit < 8 → at < length bytes
    → free_bits 8 new ≡ slice_set (free_bits 8 (slice_index bytes at)) bit free
    → free_blocks (slice_set bytes at new) ≡ slice_set (free_blocks bytes) (8 * at + bit) free
unfolding free_blocks
set-free_blocks [] at bit new free h within e = absurd (omega arith)
set-free_blocks (byte ∷ bytes) zero bit new free h within e =
    let eight = length-free_bits 8 byte in
    ap (λ (xs : List Bool). xs ++ free_blocks bytes) e ∙ sym (set-append_left (free_bits 8 byte) (free_blocks bytes) bit free (omega arith))
    ∙ ap (λ (n : ℕ). slice_set (free_bits 8 byte ++ free_blocks bytes) n free) (omega arith)
set-free_blocks (byte ∷ bytes) (suc at) bit new free h within e =
    let eight = length-free_bits 8 byte in
    let moved : 8 * suc at + bit - 8 ≡ 8 * at + bit = omega arith in
    ap (λ (xs : List Bool). free_bits 8 byte ++ xs) (set-free_blocks bytes at bit new free h (omega arith) e)
    ∙ ap (λ (n : ℕ). free_bits 8 byte ++ slice_set (free_blocks bytes) n free) (sym moved)
    ∙ sym (set-append_right (free_bits 8 byte) (free_blocks bytes) 8 (8 * suc at + bit) free eight (omega arith))

-- no block of a full byte is free
full_bit : (bit : ℕ) → bit < 8 → slice_get (free_bits 8 255) bit ≡ Some false
unfolding free_bits
full_bit zero h = refl
full_bit (suc zero) h = refl
full_bit (suc (suc zero)) h = refl
full_bit (suc (suc (suc zero))) h = refl
full_bit (suc (suc (suc (suc zero)))) h = refl
full_bit (suc (suc (suc (suc (suc zero))))) h = refl
full_bit (suc (suc (suc (suc (suc (suc zero)))))) h = refl
full_bit (suc (suc (suc (suc (suc (suc (suc zero))))))) h = refl
full_bit (suc (suc (suc (suc (suc (suc (suc (suc bit)))))))) h = absurd (omega arith)

-- no block of full bytes is free
pub none_free : (bytes : List ℕ) (count block : ℕ) → AreFull bytes count → count ≤ length bytes → block < 8 * count
    → slice_get (free_blocks bytes) block ≡ Some false
none_free bytes count block full within h =
    let split : block ≡ 8 * (block / 8) + block % 8 = omega arith in
    ap (slice_get (free_blocks bytes)) split
    ∙ get-free_blocks bytes (block / 8) (block % 8) (omega arith) (omega arith)
    ∙ ap (λ (n : ℕ). slice_get (free_bits 8 n) (block % 8)) (full (block / 8) (omega arith))
    ∙ full_bit (block % 8) (omega arith)

-- the least free block of the first byte that has one is the least of all
pub least-free_blocks : (bytes : List ℕ) (at bit : ℕ) → AreFull bytes at → at < length bytes → bit < 8
    → IsLeastFree (free_bits 8 (slice_index bytes at)) bit → IsLeastFree (free_blocks bytes) (8 * at + bit)
least-free_blocks bytes at bit full within h least = record {
  is_free = get-free_blocks bytes at bit h within ∙ least.is_free;
  least = λ below low. elim (cases_lt below (8 * at)) [
    | inl before ↦ none_free bytes at below full (omega arith) before
    | inr after ↦ (
        let split : below ≡ 8 * at + (below - 8 * at) = omega arith in
        ap (slice_get (free_blocks bytes)) split
        ∙ get-free_blocks bytes at (below - 8 * at) (omega arith) within
        ∙ least.least (below - 8 * at) (omega arith))
  ];
}

-- one byte more is counted
pub count_more : (bytes : List ℕ) (at byte count : ℕ) → at < length bytes → byte ≡ get_or bytes at 0 → byte < 256
    → count ≡ count_by (λ free. free) (free_blocks (take at bytes))
    → (count_ones byte ≤ 8) × (count + (8 - count_ones byte) ≡ count_by (λ free. free) (free_blocks (take (at + 1) bytes)))
unfolding free_blocks
count_more bytes at byte count within read small before =
    let eight : count_by (λ free. free) (free_bits 8 byte) + count_ones byte ≡ 8 = count-free_bits 8 byte small in
    let more : take (at + 1) bytes ≡ take at bytes ++ byte ∷ [] = take_more bytes at 0 within ∙ ap (λ (n : ℕ). take at bytes ++ n ∷ []) (sym read) in
    let blocks : flat_map (free_bits 8) (take (at + 1) bytes) ≡ flat_map (free_bits 8) (take at bytes) ++ free_bits 8 byte =
    ap (flat_map (free_bits 8)) more ∙ flat_map-append (free_bits 8) (take at bytes) (byte ∷ [])
    ∙ ap (λ (xs : List Bool). flat_map (free_bits 8) (take at bytes) ++ xs) (append-nil (free_bits 8 byte)) in
    let sum : count_by (λ free. free) (flat_map (free_bits 8) (take (at + 1) bytes)) ≡ count_by (λ free. free) (flat_map (free_bits 8) (take at bytes)) + count_by (λ free. free) (free_bits 8 byte) =
    ap (count_by (λ free. free)) blocks ∙ sum_by-append (λ (free : Bool). cond free 1 0) (flat_map (free_bits 8) (take at bytes)) (free_bits 8 byte) in
    (omega arith, omega (arith, sum, before, eight))

-- a word of ones is eight full bytes
full_from : (place count : ℕ) (bytes : List ℕ) → ((i : ℕ) → slice_index bytes i < 256) → little_from place count bytes + 1 ≡ 256 ^ count
    → (i : ℕ) → i < count → slice_index bytes (place + i) ≡ 255
full_from place zero bytes fits e i h = absurd (omega arith)
full_from place (suc count) bytes fits e zero h =
    let small = little_from-lt (suc place) count bytes fits in
    let power : 256 ^ suc count ≡ 256 * 256 ^ count = pow-succ' 256 count in
    let byte = fits place in
    ap (slice_index bytes) {y = place} (omega arith) ∙ omega arith
full_from place (suc count) bytes fits e (suc i) h =
    let small = little_from-lt (suc place) count bytes fits in
    let power : 256 ^ suc count ≡ 256 * 256 ^ count = pow-succ' 256 count in
    let byte = fits place in
    ap (slice_index bytes) {y = suc place + i} (omega arith) ∙ full_from (suc place) count bytes fits (omega arith) i (omega arith)

-- eight more bytes are full
pub full_more : (bytes part : List ℕ) (word : ℕ) → ((i : ℕ) → slice_index bytes i < 256)
    → part ≡ drop (8 * word) bytes → little_number 8 part ≡ 18446744073709551615 → AreFull bytes (8 * word) → AreFull bytes (8 * (word + 1))
full_more bytes part word fits cut e before = λ place low. elim (cases_lt place (8 * word)) [
  | inl old ↦ before place old
  | inr new ↦ (
      let i = place - 8 * word in
      let read : (j : ℕ) → slice_index part j ≡ slice_index bytes (8 * word + j) = λ j.
      ap (λ (xs : List ℕ). slice_index xs j) cut ∙ get_or-drop (8 * word) bytes j 0 in
      let small : (j : ℕ) → slice_index part j < 256 = λ j. (let r = read j in let f = fits (8 * word + j) in omega arith) in
      let full = full_from 0 8 part small (omega (arith, e)) i (omega arith) in
      let here = read i in
      ap (slice_index bytes) {y = 8 * word + i} (omega arith) ∙ sym here ∙ ap (slice_index part) {y = 0 + i} (omega arith) ∙ full)
]

-- the blocks of bytes tell the bytes
pub free_blocks-cancel : (a b : List ℕ) → length a ≡ length b → ((i : ℕ) → i < length a → slice_index a i < 256) → ((i : ℕ) → i < length b → slice_index b i < 256)
    → free_blocks a ≡ free_blocks b → a ≡ b
unfolding free_blocks
free_blocks-cancel [] [] same fa fb e = refl
free_blocks-cancel [] (y ∷ b) same fa fb e = absurd (omega arith)
free_blocks-cancel (x ∷ a) [] same fa fb e = absurd (omega arith)
free_blocks-cancel (x ∷ a) (y ∷ b) same fa fb e =
    let ex = length-free_bits 8 x in
    let ey = length-free_bits 8 y in
    let front : free_bits 8 x ≡ free_bits 8 y =
    sym (take_at (free_bits 8 x) (free_blocks a) 8 ex) ∙ ap (take 8) e ∙ take_at (free_bits 8 y) (free_blocks b) 8 ey in
    let back : free_blocks a ≡ free_blocks b =
    sym (drop_at (free_bits 8 x) (free_blocks a) 8 ex) ∙ ap (drop 8) e ∙ drop_at (free_bits 8 y) (free_blocks b) 8 ey in
    let head : x ≡ y = free_bits-cancel 8 x y (fa 0 (omega arith)) (fb 0 (omega arith)) front in
    let tail : a ≡ b = free_blocks-cancel a b (omega arith) (λ i h. fa (suc i) (omega arith)) (λ i h. fb (suc i) (omega arith)) back in
    cc

-- bytes padded are bytes
front_fits : (front sector : List ℕ) → sector ≡ padded block_size front → ((i : ℕ) → slice_index sector i < 256) → (i : ℕ) → i < length front → slice_index front i < 256
unfolding padded
front_fits front sector e fits i h =
    let here : slice_index sector i ≡ slice_index front i = ap (λ (xs : List ℕ). slice_index xs i) e ∙ get_or_append_left front (zeros (block_size - length front)) 0 i h in
    let f = fits i in omega arith

-- sectors that spell the same blocks are the same
pub same_sectors : (a b : List ℕ) (free : List Bool) → ((i : ℕ) → slice_index a i < 256) → ((i : ℕ) → slice_index b i < 256)
    → SpellsMap a free → SpellsMap b free → a ≡ b
same_sectors a b free fa fb s t =
    let lengths : length s.bytes ≡ length t.bytes = s.count ∙ sym t.count in
    let blocks : free_blocks s.bytes ≡ free_blocks t.bytes = sym s.blocks ∙ t.blocks in
    let same = free_blocks-cancel s.bytes t.bytes lengths (front_fits s.bytes a s.whole fa) (front_fits t.bytes b t.whole fb) blocks in
    s.whole ∙ ap (padded block_size) same ∙ sym t.whole

-- there are eight blocks a byte
pub length-free_blocks : (bytes : List ℕ) → length (free_blocks bytes) ≡ 8 * length bytes
unfolding free_blocks
length-free_blocks [] = refl
length-free_blocks (byte ∷ bytes) =
    omega (arith, length-append (free_bits 8 byte) (flat_map (free_bits 8) bytes), length-free_bits 8 byte, length-free_blocks bytes)

eight_free : free_bits 8 0 ≡ replicate 8 true
unfolding free_bits
eight_free = refl

-- where all bytes are zero, all blocks are free
pub all_free : (n : ℕ) → free_blocks (replicate n 0) ≡ replicate (8 * n) true
unfolding free_blocks
all_free zero = refl
all_free (suc n) =
    ap (λ (xs : List Bool). xs ++ flat_map (free_bits 8) (replicate n 0)) eight_free
    ∙ ap (λ (xs : List Bool). replicate 8 true ++ xs) (all_free n)
    ∙ replicate-append-replicate 8 (8 * n) true
    ∙ ap (λ (k : ℕ). replicate {A = Bool} k true) (let e : 8 + 8 * n ≡ 8 * suc n = omega arith in e)

-- the least free block is the first
pub least_is_first : (free : List Bool) (block : ℕ) → IsLeastFree free block → position (λ free. free) free ≡ Some block
least_is_first free block least =
    position_at (λ (b : Bool). b) free block false (slice_get_within free block true least.is_free) (get_or_from_slice_get free block true false least.is_free)
    (λ below low. get_or_from_slice_get free below false false (least.least below low))

-- where no block is free, none is the first
pub none_is_first : (bytes : List ℕ) → length bytes ≡ map_size → AreFull bytes map_size → position (λ free. free) (free_blocks bytes) ≡ None
none_is_first bytes size full =
    let count = length-free_blocks bytes in
    position_none (λ (b : Bool). b) (free_blocks bytes) false
    (λ place low. get_or_from_slice_get (free_blocks bytes) place false false (none_free bytes map_size place full (omega arith) (omega arith)))
