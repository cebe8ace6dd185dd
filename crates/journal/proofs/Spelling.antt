-- A header in its grammar is the header of the homes that it names.
use Rattle.std.proofs.Common.{◌≡◌, ◌≤◌, ◌<◌, ◌+◌, ◌-◌, ◌*◌, ℕ, zero, suc, true, ◌&&◌, nat_eq, nat_le, List, [], ◌∷◌, ◌++◌, length, take, drop, slice_index, refl, sym, ap, ◌∙◌, arith}
use Rattle.std.specs.Prelude.{IsTrue}
use Rattle.std.specs.List.{list_all}
use Rattle.std.proofs.lemmas.List.{take-append-drop, length-drop}
use Rattle.std.proofs.lemmas.Bool.{leb-true}
use Rattle.cal_base.specs.Limits.{block_size}
use borrow.Author.Tests.{eqb-true}
use Rattle.byteorder.specs.Endian.{big_number}
use Rattle.cal_fields.specs.BigEndian.{big_endian}
use Rattle.cal_fields.specs.Padded.{padded, zeros}
use Rattle.cal_fields.proofs.BigEndianLemmas.{big_endian-number}
use Rattle.shared_disk.specs.Homes.{IsTransaction, are_ascending, sectors_of}
use Rattle.journal.specs.Layout.{numbers, numbers_in, header_of, homes_in, is_header}
use Rattle.journal.proofs.Headers.{and_left, and_right, homes_read, length-sectors_of, length-numbers}

-- transactions with the same header have the same homes
pub same_homes : (some others : List (ℕ × List ℕ)) → IsTransaction some → IsTransaction others → header_of some ≡ header_of others → sectors_of some ≡ sectors_of others
same_homes some others a b e = sym (homes_read some a) ∙ ap homes_in e ∙ homes_read others b

-- the first four bytes are those of the number that they spell
four : (a b c d : ℕ) (rest : List ℕ) → ((i : ℕ) → slice_index (a ∷ b ∷ c ∷ d ∷ rest) i < 256) → big_endian 4 (big_number 4 (a ∷ b ∷ c ∷ d ∷ rest)) ≡ a ∷ b ∷ c ∷ d ∷ []
four a b c d rest fits = big_endian-number 4 (a ∷ b ∷ c ∷ d ∷ []) refl (digits a b c d (fits 0) (fits 1) (fits 2) (fits 3))
  where
    digits : (a b c d : ℕ) → a < 256 → b < 256 → c < 256 → d < 256 → (i : ℕ) → slice_index (a ∷ b ∷ c ∷ d ∷ []) i < 256
    digits a b c d e f g h zero = e
    digits a b c d e f g h (suc zero) = f
    digits a b c d e f g h (suc (suc zero)) = g
    digits a b c d e f g h (suc (suc (suc zero))) = h
    digits a b c d e f g h (suc (suc (suc (suc i)))) = omega arith

take_four : (n a b c d : ℕ) (rest : List ℕ) → take (4 * suc n) (a ∷ b ∷ c ∷ d ∷ rest) ≡ a ∷ b ∷ c ∷ d ∷ take (4 * n) rest
take_four n a b c d rest = ap (λ (k : ℕ). take k (a ∷ b ∷ c ∷ d ∷ rest)) (let e : 4 * suc n ≡ suc (suc (suc (suc (4 * n)))) = omega arith in e)

-- the numbers that stand in bytes are spelled by those bytes
numbers-numbers_in : (n : ℕ) (bytes : List ℕ) → 4 * n ≤ length bytes → ((i : ℕ) → slice_index bytes i < 256) → numbers (numbers_in n bytes) ≡ take (4 * n) bytes
numbers-numbers_in zero bytes enough fits = refl
numbers-numbers_in (suc n) [] enough fits = absurd (omega arith)
numbers-numbers_in (suc n) (a ∷ []) enough fits = absurd (omega arith)
numbers-numbers_in (suc n) (a ∷ b ∷ []) enough fits = absurd (omega arith)
numbers-numbers_in (suc n) (a ∷ b ∷ c ∷ []) enough fits = absurd (omega arith)
numbers-numbers_in (suc n) (a ∷ b ∷ c ∷ d ∷ rest) enough fits =
    ap (λ (front : List ℕ). front ++ numbers (numbers_in n rest)) (four a b c d rest fits)
    ∙ ap (λ (ys : List ℕ). a ∷ b ∷ c ∷ d ∷ ys) (numbers-numbers_in n rest (omega arith) (λ i. fits (suc (suc (suc (suc i))))))
    ∙ sym (take_four n a b c d rest)

length-numbers_in : (n : ℕ) (bytes : List ℕ) → length (numbers_in n bytes) ≡ n
length-numbers_in zero bytes = refl
length-numbers_in (suc n) bytes = ap suc (length-numbers_in n (drop 4 bytes))

-- bytes that are all zero
blank : (bytes : List ℕ) → list_all (λ byte. nat_eq byte 0) bytes ≡ true → bytes ≡ zeros (length bytes)
unfolding zeros
blank [] h = refl
blank (byte ∷ bytes) h =
    let none : byte ≡ 0 = eqb-true byte 0 (and_left (nat_eq byte 0) (list_all (λ byte. nat_eq byte 0) bytes) h) in
    ap (λ (b : ℕ). b ∷ bytes) none ∙ ap (λ (bs : List ℕ). 0 ∷ bs) (blank bytes (and_right (nat_eq byte 0) (list_all (λ byte. nat_eq byte 0) bytes) h))

-- what the grammar says of a header's count and of what stands behind its homes
record Good (count : ℕ) (rest : List ℕ) : Type 0 where
  pub few : count ≤ 16
  pub behind : drop (4 * count) rest ≡ zeros (length rest - 4 * count)

good_header : (count : ℕ) (rest : List ℕ) → is_header (count ∷ rest) ≡ true → Good count rest
good_header count rest h =
    let one = nat_le 1 count in
    let few = nat_le count 16 in
    let up = are_ascending 0 (numbers_in count rest) in
    let all = list_all (λ byte. nat_eq byte 0) (drop (1 + 4 * count) (count ∷ rest)) in
    let front : (one && few && up) ≡ true = and_left (one && few && up) all h in
    let low : (one && few) ≡ true = and_left (one && few) up front in
    let moved : drop (1 + 4 * count) (count ∷ rest) ≡ drop (4 * count) rest =
    ap (λ (n : ℕ). drop n (count ∷ rest)) (let e : 1 + 4 * count ≡ suc (4 * count) = omega arith in e) in
    record {
      few = leb-true count 16 (and_right one few low);
      behind = sym moved ∙ blank (drop (1 + 4 * count) (count ∷ rest)) (and_right (one && few && up) all h) ∙ ap zeros (ap length moved ∙ length-drop (4 * count) rest);
    }

spelling : (count : ℕ) (rest : List ℕ) (homes : List (ℕ × List ℕ)) → length (count ∷ rest) ≡ 4096 → ((i : ℕ) → slice_index (count ∷ rest) i < 256)
    → is_header (count ∷ rest) ≡ true → numbers_in count rest ≡ sectors_of homes → count ∷ rest ≡ header_of homes
unfolding padded
spelling count rest homes long fits good e =
    let g = good_header count rest good in
    let few = g.few in
    let same : length homes ≡ count = sym (length-sectors_of homes) ∙ ap length (sym e) ∙ length-numbers_in count rest in
    let front : numbers (sectors_of homes) ≡ take (4 * count) rest = ap numbers (sym e) ∙ numbers-numbers_in count rest (omega arith) (λ i. fits (suc i)) in
    let size : length rest - 4 * count ≡ 4096 - length (length homes ∷ numbers (sectors_of homes)) =
    let l = length-numbers (sectors_of homes) in let f = length-sectors_of homes in omega (arith, l, f, same) in
    let body : take (4 * count) rest ++ drop (4 * count) rest ≡ numbers (sectors_of homes) ++ zeros (4096 - length (length homes ∷ numbers (sectors_of homes))) =
    ap (λ (xs : List ℕ). xs ++ drop (4 * count) rest) (sym front) ∙ ap (λ (xs : List ℕ). numbers (sectors_of homes) ++ xs) (g.behind ∙ ap zeros size) in
    ap (λ (n : ℕ). n ∷ rest) (sym same) ∙ ap (λ (xs : List ℕ). length homes ∷ xs) (sym (take-append-drop (4 * count) rest) ∙ body)

-- a sector in a header's grammar is the header of the homes that it names
pub one_spelling : (header : List ℕ) (homes : List (ℕ × List ℕ)) → length header ≡ block_size → ((i : ℕ) → slice_index header i < 256)
    → IsTrue (is_header header) → homes_in header ≡ sectors_of homes → header ≡ header_of homes
one_spelling [] homes long fits good e = absurd (omega arith)
one_spelling (count ∷ rest) homes long fits good e = spelling count rest homes long fits good e
