-- The bits of one byte: read, set, cleared, counted.
use Rattle.std.proofs.Common.{◌≡◌, ◌+◌, ◌*◌, ◌/◌, ◌%◌, ◌^◌, ◌<◌, ◌==◌, ℕ, zero, suc, Bool, false, Some, ◌∷◌, length, nat_eq, get_or, cond, inl, inr, ◌≢◌, refl, sym, ap, ◌∙◌, arith, count_by}
use Rattle.std.specs.List.{slice_get, slice_set}
use Rattle.std.specs.Int.{bit_at}
use Rattle.std.specs.Int.RustNames.{count_ones}
use Rattle.std.proofs.Math.Nat.{pow-succ'}
use Rattle.std.proofs.lemmas.Bool.{cases_eq}
use Rattle.std.proofs.lemmas.List.{ext_get_or, get_or-set_other, get_or-set_same, length-set}
use Rattle.std.proofs.lemmas.List.Sums.{sum_by-cons}
use Rattle.std.proofs.lemmas.Nat.{ones_cat}
use Rattle.std.proofs.lemmas.Nat.Bits.{bit_at_lowest, bit_at-suc}
use borrow.Author.Tests.{eqb-true}
use Rattle.space_map.specs.SpaceMap.{IsLeastFree, free_bits}

-- there are as many bits as were asked for
pub length-free_bits : (count byte : ℕ) → length (free_bits count byte) ≡ count
unfolding free_bits
length-free_bits zero byte = refl
length-free_bits (suc count) byte = let e = length-free_bits count (byte / 2) in omega (arith, e)

-- a block is free where its bit is 0
pub get-free_bits : (count place byte : ℕ) → place < count → slice_get (free_bits count byte) place ≡ Some (nat_eq (bit_at byte place) 0)
unfolding free_bits
get-free_bits zero place byte h = absurd (omega arith)
get-free_bits (suc count) zero byte h = ap (λ (n : ℕ). Some (nat_eq n 0)) (sym (bit_at_lowest byte))
get-free_bits (suc count) (suc place) byte h = get-free_bits count place (byte / 2) (omega arith) ∙ ap (λ (n : ℕ). Some (nat_eq n 0)) (sym (bit_at-suc byte place))

-- the same, at any default
get_or-free_bits : (count place byte : ℕ) (default : Bool) → place < count → get_or (free_bits count byte) place default ≡ nat_eq (bit_at byte place) 0
unfolding free_bits
get_or-free_bits zero place byte default h = absurd (omega arith)
get_or-free_bits (suc count) zero byte default h = ap (λ (n : ℕ). nat_eq n 0) (sym (bit_at_lowest byte))
get_or-free_bits (suc count) (suc place) byte default h = get_or-free_bits count place (byte / 2) default (omega arith) ∙ ap (λ (n : ℕ). nat_eq n 0) (sym (bit_at-suc byte place))

-- one bit is changed, and no other
pub changed-free_bits : (old new bit : ℕ) (free : Bool) → bit < 8 → nat_eq (bit_at new bit) 0 ≡ free
    → ((other : ℕ) → other < 8 → other ≢ bit → bit_at new other ≡ bit_at old other)
    → free_bits 8 new ≡ slice_set (free_bits 8 old) bit free
changed-free_bits old new bit free h here others =
    let eight = length-free_bits 8 new in
    let before = length-free_bits 8 old in
    ext_get_or false (free_bits 8 new) (slice_set (free_bits 8 old) bit free) (eight ∙ sym before ∙ sym (length-set (free_bits 8 old) bit free))
    (λ place within. elim (cases_eq place bit) [
      | inl same ↦ (
          get_or-free_bits 8 place new false (omega arith)
          ∙ ap (λ (n : ℕ). nat_eq (bit_at new n) 0) same ∙ here
          ∙ sym (get_or-set_same (free_bits 8 old) bit free false (omega arith))
          ∙ ap (λ (n : ℕ). get_or (slice_set (free_bits 8 old) bit free) n false) (sym same))
      | inr other ↦ (
          get_or-free_bits 8 place new false (omega arith)
          ∙ ap (λ (n : ℕ). nat_eq n 0) (others place (omega arith) other)
          ∙ sym (get_or-free_bits 8 place old false (omega arith))
          ∙ sym (get_or-set_other (free_bits 8 old) bit place free false other))
    ])

-- a bit is 1, or its block is free
low_bit : (bit : ℕ) → bit < 2 → cond (bit == 0) 1 0 + count_ones bit ≡ 1
unfolding count_ones
low_bit zero h = refl
low_bit (suc zero) h = refl
low_bit (suc (suc bit)) h = absurd (omega arith)

-- the free blocks of a byte and its ones are all its bits
pub count-free_bits : (count byte : ℕ) → byte < 2 ^ count → count_by (λ free. free) (free_bits count byte) + count_ones byte ≡ count
unfolding free_bits count_ones
count-free_bits zero byte h = let e : byte ≡ 0 = omega arith in ap (λ (n : ℕ). 0 + count_ones n) e
count-free_bits (suc count) byte h =
    let half : byte ≡ byte / 2 * 2 ^ 1 + byte % 2 = omega arith in
    let ones : count_ones byte ≡ count_ones (byte / 2) + count_ones (byte % 2) = ap count_ones half ∙ ones_cat 1 (byte / 2) (byte % 2) (omega arith) in
    let low = low_bit (byte % 2) (omega arith) in
    let double : 2 ^ suc count ≡ 2 * 2 ^ count = pow-succ' 2 count in
    let rest = count-free_bits count (byte / 2) (omega arith) in
    let split : count_by (λ free. free) ((byte % 2 == 0) ∷ free_bits count (byte / 2)) ≡ cond (byte % 2 == 0) 1 0 + count_by (λ free. free) (free_bits count (byte / 2)) = sum_by-cons (λ (free : Bool). cond free 1 0) (byte % 2 == 0) (free_bits count (byte / 2)) in
    omega (arith, split, rest, low, ones)

-- bits that are both 0, or neither, are the same
same_bit : (a b : ℕ) → a < 2 → b < 2 → (a == 0) ≡ (b == 0) → a ≡ b
same_bit zero zero ha hb e = refl
same_bit zero (suc b) ha hb e = let zero_too = eqb-true (suc b) 0 (sym e) in absurd (omega arith)
same_bit (suc a) zero ha hb e = let zero_too = eqb-true (suc a) 0 e in absurd (omega arith)
same_bit (suc a) (suc b) ha hb e = omega arith

-- bits that are the same spell the same number
pub free_bits-cancel : (count a b : ℕ) → a < 2 ^ count → b < 2 ^ count → free_bits count a ≡ free_bits count b → a ≡ b
unfolding free_bits
free_bits-cancel zero a b ha hb e = omega arith
free_bits-cancel (suc count) a b ha hb e =
    let double : 2 ^ suc count ≡ 2 * 2 ^ count = pow-succ' 2 count in
    let heads : (a % 2 == 0) ≡ (b % 2 == 0) = cc in
    let tails : free_bits count (a / 2) ≡ free_bits count (b / 2) = cc in
    let low : a % 2 ≡ b % 2 = same_bit (a % 2) (b % 2) (omega arith) (omega arith) heads in
    let high : a / 2 ≡ b / 2 = free_bits-cancel count (a / 2) (b / 2) (omega arith) (omega arith) tails in
    omega arith

-- the lowest bit that is 0 is the least free block
pub least-free_bits : (byte bit : ℕ) → bit < 8 → bit_at byte bit ≡ 0 → ((below : ℕ) → below < bit → bit_at byte below ≡ 1) → IsLeastFree (free_bits 8 byte) bit
least-free_bits byte bit within here below = record {
  is_free = get-free_bits 8 bit byte within ∙ ap (λ (n : ℕ). Some (nat_eq n 0)) here;
  least = λ other low. get-free_bits 8 other byte (omega arith) ∙ ap (λ (n : ℕ). Some (nat_eq n 0)) (below other low);
}
