-- A header that is written is read back as the same homes.
use Rattle.std.proofs.Common.{◌≡◌, ◌⊎◌, ◌≤◌, ◌<◌, ◌+◌, ◌-◌, ◌*◌, ◌^◌, ℕ, zero, suc, Bool, true, false, ◌&&◌, ◌||◌, nat_eq, nat_le, nat_lt, List, [], ◌∷◌, ◌++◌, length, drop, slice_index, refl, sym, ap, ◌∙◌, inl, inr, arith, append_assoc, length-append}
use Rattle.std.specs.Prelude.{IsTrue}
use Rattle.std.specs.List.{list_all, AllByRecursion}
use Rattle.std.proofs.lemmas.List.{drop_at, drop-drop, append-nil, take-append-drop}
use Rattle.std.proofs.Common.{take, get_or, add-one}
use Rattle.std.proofs.lemmas.Bool.{leb-true, ltb-true, le-leb, false≢true}
use Rattle.std.specs.Cmp.Derive.{both_true}
use Rattle.shared_disk.specs.Map.{at_head, at_map}
use Rattle.cal_base.specs.Limits as limits
use borrow.Author.Tests.{eqb-true}
use Rattle.byteorder.specs.Endian.{big_number}
use Rattle.cal_fields.specs.BigEndian.{big_endian}
use Rattle.cal_fields.specs.Padded.{padded, zeros}
use Rattle.cal_fields.proofs.BigEndianLemmas.{length-big_endian, number-big_endian}
use Rattle.cal_fields.proofs.PaddedLemmas.{drop-padded}
use Rattle.shared_disk.specs.Homes.{IsTransaction, are_ascending, is_home, sectors_of}
use Rattle.journal.specs.Layout.{contents_at, numbers, numbers_in, header_of, homes_in, is_header}

pub and_left : (a b : Bool) → (a && b) ≡ true → a ≡ true
and_left true b h = refl
and_left false b h = absurd (false≢true h)

pub and_right : (a b : Bool) → (a && b) ≡ true → b ≡ true
and_right true b h = h
and_right false b h = absurd (false≢true h)

or_cases : (a b : Bool) → (a || b) ≡ true → (a ≡ true) ⊎ (b ≡ true)
or_cases true b h = inl refl
or_cases false b h = inr h

-- a home is the head or behind the journal's body, and on the disk
pub record HomeIs (home : ℕ) : Type 0 where
  pub place : (home ≡ 0) ⊎ (19 ≤ home)
  pub below : home < limits.sectors

pub home_is : (home : ℕ) → is_home home ≡ true → HomeIs home
home_is home h = elim (or_cases (nat_eq home at_head) (nat_le at_map home && nat_lt home limits.sectors) h) [
  | inl e ↦ (let none : home ≡ 0 = eqb-true home 0 e in record { place = inl none; below = omega arith })
  | inr e ↦ record { place = inr (leb-true at_map home (and_left _ _ e)); below = ltb-true home limits.sectors (and_right _ _ e) }
]

-- what ascending homes say of the first and of the others
pub record IsNext (least home : ℕ) (homes : List ℕ) : Type 0 where
  pub above : least ≤ home
  pub good : HomeIs home
  pub others : IsTrue (are_ascending (home + 1) homes)

pub next_home : (least home : ℕ) (homes : List ℕ) → IsTrue (are_ascending least (home ∷ homes)) → IsNext least home homes
next_home least home homes h =
    let both = and_left (nat_le least home && is_home home) (are_ascending (home + 1) homes) h in
    record {
      above = leb-true least home (and_left (nat_le least home) (is_home home) both);
      good = home_is home (and_right (nat_le least home) (is_home home) both);
      others = and_right (nat_le least home && is_home home) (are_ascending (home + 1) homes) h;
    }

pub length-sectors_of : (homes : List (ℕ × List ℕ)) → length (sectors_of homes) ≡ length homes
length-sectors_of [] = refl
length-sectors_of (h ∷ hs) = let e = length-sectors_of hs in omega arith

pub length-numbers : (ns : List ℕ) → length (numbers ns) ≡ 4 * length ns
length-numbers [] = refl
length-numbers (n ∷ ns) = let e = length-numbers ns in omega (arith, e, length-append (big_endian 4 n) (numbers ns), length-big_endian 4 n)

numbers_step : (n : ℕ) (ns bytes rest : List ℕ) → big_number 4 bytes ≡ n → drop 4 bytes ≡ rest → numbers_in (length ns) rest ≡ ns → numbers_in (suc (length ns)) bytes ≡ n ∷ ns
numbers_step n ns bytes rest a b c =
    ap (λ (m : ℕ). m ∷ numbers_in (length ns) (drop 4 bytes)) a
    ∙ ap (λ (ys : List ℕ). n ∷ numbers_in (length ns) ys) b
    ∙ ap (λ (ys : List ℕ). n ∷ ys) c

-- numbers that are put are read
pub numbers_in-numbers : (ns rest : List ℕ) (least : ℕ) → IsTrue (are_ascending least ns) → numbers_in (length ns) (numbers ns ++ rest) ≡ ns
numbers_in-numbers [] rest least h = refl
numbers_in-numbers (n ∷ ns) rest least h =
    let next = next_home least n ns h in
    let below = next.good.below in
    ap (numbers_in (suc (length ns))) (append_assoc (big_endian 4 n) (numbers ns) rest)
    ∙ numbers_step n ns (big_endian 4 n ++ (numbers ns ++ rest)) (numbers ns ++ rest)
    (number-big_endian 4 n (numbers ns ++ rest) (omega arith))
    (drop_at (big_endian 4 n) (numbers ns ++ rest) 4 (length-big_endian 4 n))
    (numbers_in-numbers ns rest (n + 1) next.others)

pub all_zeros : (n : ℕ) → list_all (λ byte. nat_eq byte 0) (zeros n) ≡ true
unfolding zeros
all_zeros zero = refl
all_zeros (suc n) = all_zeros n

front_length : (homes : List (ℕ × List ℕ)) → length (length homes ∷ numbers (sectors_of homes)) ≡ 1 + 4 * length homes
front_length homes = let e = length-numbers (sectors_of homes) in let f = length-sectors_of homes in omega arith

-- the header of a transaction names its homes
pub homes_read : (homes : List (ℕ × List ℕ)) → IsTransaction homes → homes_in (header_of homes) ≡ sectors_of homes
unfolding padded
homes_read homes t =
    let rest = zeros (4096 - length (length homes ∷ numbers (sectors_of homes))) in
    ap (λ (n : ℕ). numbers_in n (numbers (sectors_of homes) ++ rest)) (sym (length-sectors_of homes))
    ∙ numbers_in-numbers (sectors_of homes) rest 0 t.ascending

count_read : (homes : List (ℕ × List ℕ)) → slice_index (header_of homes) 0 ≡ length homes
unfolding padded
count_read homes = refl

-- the header of a transaction is in its grammar
pub header_read : (homes : List (ℕ × List ℕ)) → IsTransaction homes → is_header (header_of homes) ≡ true
header_read homes t =
    let count = count_read homes in
    let one : nat_le 1 (slice_index (header_of homes) 0) ≡ true = ap (nat_le 1) count ∙ le-leb 1 (length homes) t.some in
    let few : nat_le (slice_index (header_of homes) 0) 16 ≡ true = ap (λ (n : ℕ). nat_le n 16) count ∙ le-leb (length homes) 16 t.few in
    let up : are_ascending 0 (homes_in (header_of homes)) ≡ true = ap (are_ascending 0) (homes_read homes t) ∙ t.ascending in
    let behind : drop (1 + 4 * slice_index (header_of homes) 0) (header_of homes) ≡ zeros (4096 - (1 + 4 * length homes)) =
    ap (λ (n : ℕ). drop (1 + 4 * n) (header_of homes)) count
    ∙ drop-padded 4096 (1 + 4 * length homes) (length homes ∷ numbers (sectors_of homes)) (front_length homes) in
    let blank = ap (list_all (λ (byte : ℕ). nat_eq byte 0)) behind ∙ all_zeros (4096 - (1 + 4 * length homes)) in
    both_true (both_true (both_true one few) up) blank

-- the numbers of one home more
numbers_suc : (homes : List (ℕ × List ℕ)) (i : ℕ) → i < length homes → numbers (sectors_of (take (suc i) homes)) ≡ numbers (sectors_of (take i homes)) ++ big_endian 4 (get_or homes i (0, [])).0
numbers_suc [] i h = absurd (omega arith)
numbers_suc (x ∷ xs) zero h = append-nil (big_endian 4 x.0)
numbers_suc (x ∷ xs) (suc i) h = ap (λ (ns : List ℕ). big_endian 4 x.0 ++ ns) (numbers_suc xs i (omega arith)) ∙ sym (append_assoc (big_endian 4 x.0) (numbers (sectors_of (take i xs))) (big_endian 4 (get_or xs i (0, [])).0))

pub numbers_next : (homes : List (ℕ × List ℕ)) (i : ℕ) → i < length homes → numbers (sectors_of (take (i + 1) homes)) ≡ numbers (sectors_of (take i homes)) ++ big_endian 4 (get_or homes i (0, [])).0
numbers_next homes i h = rw add-one (numbers_suc homes i h)

-- the number that was taken is the one that stands there
pub number_taken : (bytes rest : List ℕ) (n : ℕ) → n < 2 ^ 32 → bytes ≡ big_endian 4 n ++ rest → n ≡ big_number 4 bytes
number_taken bytes rest n fits e = sym (ap (big_number 4) e ∙ number-big_endian 4 n rest fits)

-- one home of a header more
pub ascend_by : (bytes rest : List ℕ) (n m least home : ℕ) → n ≡ suc m → drop 4 bytes ≡ rest → home ≡ big_number 4 bytes → are_ascending least (numbers_in n bytes) ≡ (nat_le least home && is_home home && are_ascending (home + 1) (numbers_in m rest))
ascend_by bytes rest n m least home a d e =
    ap (λ (k : ℕ). are_ascending least (numbers_in k bytes)) a
    ∙ ap (λ (h : ℕ). nat_le least h && is_home h && are_ascending (h + 1) (numbers_in m (drop 4 bytes))) (sym e)
    ∙ ap (λ (r : List ℕ). nat_le least home && is_home home && are_ascending (home + 1) (numbers_in m r)) d

pub ascend_more : (header : List ℕ) (count i least home : ℕ) → i < count → home ≡ big_number 4 (drop (1 + 4 * i) header)
    → are_ascending least (numbers_in (count - i) (drop (1 + 4 * i) header)) ≡ (nat_le least home && is_home home && are_ascending (home + 1) (numbers_in (count - (i + 1)) (drop (1 + 4 * (i + 1)) header)))
ascend_more header count i least home within e =
    ascend_by (drop (1 + 4 * i) header) (drop (1 + 4 * (i + 1)) header) (count - i) (count - (i + 1)) least home (omega arith)
    (drop-drop 4 (1 + 4 * i) header ∙ ap (λ (n : ℕ). drop n header) (omega arith)) e

pub refused_low : (a b c : Bool) → a ≡ false → (a && b && c) ≡ false
refused_low a b c e = ap (λ (x : Bool). x && b && c) e

pub refused_home : (a b c : Bool) → b ≡ false → (a && b && c) ≡ false
refused_home true b c e = ap (λ (x : Bool). x && c) e
refused_home false b c e = refl

pub let_on : (a b c : Bool) → a ≡ true → b ≡ true → (a && b && c) ≡ c
let_on a b c e f = ap (λ (x : Bool). x && b && c) e ∙ ap (λ (x : Bool). x && c) f

-- contents, one list after another
contents_suc : (homes : List (ℕ × List ℕ)) (at i : ℕ) → i < length homes → contents_at at (take (suc i) homes) ≡ contents_at at (take i homes) ++ (at + i, (get_or homes i (0, [])).1) ∷ []
contents_suc [] at i h = absurd (omega arith)
contents_suc (x ∷ xs) at zero h = ap (λ (n : ℕ). (n, x.1) ∷ []) (let e : at ≡ at + 0 = omega arith in e)
contents_suc (x ∷ xs) at (suc i) h =
    ap (λ (ws : List (ℕ × List ℕ)). (at, x.1) ∷ ws) (contents_suc xs (suc at) i (omega arith) ∙ ap (λ (n : ℕ). contents_at (suc at) (take i xs) ++ (n, (get_or xs i (0, [])).1) ∷ []) (let e : suc at + i ≡ at + suc i = omega arith in e))

pub contents_next : (homes : List (ℕ × List ℕ)) (at i : ℕ) → i < length homes → contents_at at (take (i + 1) homes) ≡ contents_at at (take i homes) ++ (at + i, (get_or homes i (0, [])).1) ∷ []
contents_next homes at i h = rw add-one (contents_suc homes at i h)

contents_append : (xs ys : List (ℕ × List ℕ)) (at : ℕ) → contents_at at (xs ++ ys) ≡ contents_at at xs ++ contents_at (at + length xs) ys
contents_append [] ys at = ap (λ (n : ℕ). contents_at n ys) (let e : at ≡ at + length {A = ℕ × List ℕ} [] = omega arith in e)
contents_append (x ∷ xs) ys at =
    ap (λ (ws : List (ℕ × List ℕ)). (at, x.1) ∷ ws) (contents_append xs ys (suc at) ∙ ap (λ (n : ℕ). contents_at (suc at) xs ++ contents_at n ys) (let e : suc at + length xs ≡ at + length (x ∷ xs) = omega arith in e))

pub contents_split : (homes : List (ℕ × List ℕ)) (at i : ℕ) → contents_at at (take i homes) ++ contents_at (at + length (take i homes)) (drop i homes) ≡ contents_at at homes
contents_split homes at i = sym (contents_append (take i homes) (drop i homes) at) ∙ ap (contents_at at) (take-append-drop i homes)

pub length-contents_at : (homes : List (ℕ × List ℕ)) (at : ℕ) → length (contents_at at homes) ≡ length homes
length-contents_at [] at = refl
length-contents_at (h ∷ hs) at = let e = length-contents_at hs (suc at) in omega arith

-- homes are sectors of the disk
pub homes_below : (homes : List (ℕ × List ℕ)) (least : ℕ) → IsTrue (are_ascending least (sectors_of homes)) → AllByRecursion (λ w. w.0 < limits.sectors) homes
homes_below [] least h = tt
homes_below (w ∷ ws) least h = let next = next_home least w.0 (sectors_of ws) h in (next.good.below, homes_below ws (w.0 + 1) next.others)
