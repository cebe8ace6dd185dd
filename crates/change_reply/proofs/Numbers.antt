-- A number that is read from bytes is the one that they spell.
use Rattle.std.proofs.Common.{◌≡◌, ◌+◌, ◌<◌, ◌≤◌, ◌^◌, ◌∷◌, ◌++◌, [], ℕ, zero, suc, List, length, take, drop, slice_index, sym, ap, ◌∙◌, arith}
use Rattle.std.proofs.lemmas.List.{get_or-drop, take-append-drop, length-take-le}
use Rattle.byteorder.specs.Endian.{big_number}
use Rattle.byteorder.specs.Numbers.{big_from-lt}
use Rattle.cal_fields.specs.BigEndian.{big_endian}
use Rattle.cal_fields.proofs.BigEndianLemmas.{number-big_endian, big_endian-number}

-- the front and the back of bytes are bytes
pub take_fits : (count : ℕ) (bytes : List ℕ) → ((i : ℕ) → slice_index bytes i < 256) → (i : ℕ) → slice_index (take count bytes) i < 256
take_fits zero bytes fits i = omega arith
take_fits (suc count) [] fits i = omega arith
take_fits (suc count) (byte ∷ bytes) fits zero = fits 0
take_fits (suc count) (byte ∷ bytes) fits (suc i) = take_fits count bytes (λ i. fits (suc i)) i

pub drop_fits : (count : ℕ) (bytes : List ℕ) → ((i : ℕ) → slice_index bytes i < 256) → (i : ℕ) → slice_index (drop count bytes) i < 256
drop_fits count bytes fits i = rw get_or-drop (fits (count + i))

pub number_fits : (width : ℕ) (bytes : List ℕ) → ((i : ℕ) → slice_index bytes i < 256) → big_number width bytes < 256 ^ width
number_fits width bytes fits = big_from-lt 0 width bytes fits

-- the bytes of the number at the front stand there
pub number_takes : (width : ℕ) (bytes : List ℕ) → width ≤ length bytes → ((i : ℕ) → slice_index bytes i < 256)
    → bytes ≡ big_endian width (big_number width bytes) ++ drop width bytes
number_takes width bytes enough fits =
    let front = take width bytes in
    let number = big_number width front in
    let small : number < 256 ^ width = number_fits width front (take_fits width bytes fits) in
    let spelled : big_endian width number ≡ front = big_endian-number width front (length-take-le width bytes enough) (take_fits width bytes fits) in
    let whole : bytes ≡ big_endian width number ++ drop width bytes =
    sym (take-append-drop width bytes) ∙ ap (λ (xs : List ℕ). xs ++ drop width bytes) (sym spelled) in
    let same : big_number width bytes ≡ number = ap (big_number width) whole ∙ number-big_endian width number (drop width bytes) small in
    whole ∙ ap (λ (n : ℕ). big_endian width n ++ drop width bytes) (sym same)
