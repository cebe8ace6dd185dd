-- What stands at the front is what is read.
use Rattle.std.proofs.Common.{◌≡◌, ◌<◌, ◌^◌, ◌∷◌, ◌++◌, [], ℕ, true, false, List, Ok, Err, length, take, drop, refl, ap, ◌∙◌, arith, length-append}
use Rattle.std.specs.Prelude.{nat_lt}
use Rattle.std.proofs.lemmas.Bool.Decides.{nat_tests}
use Rattle.std.proofs.lemmas.List.{take_at as take_front, drop_at}
use Rattle.byteorder.specs.Endian.{big_number}
use Rattle.cal_fields.specs.BigEndian.{big_endian}
use Rattle.cal_fields.proofs.BigEndianLemmas.{number-big_endian, length-big_endian}
use Rattle.message.specs.Reading.{byte_at, number_at, take_at}

pub byte_is : (bytes rest : List ℕ) (byte : ℕ) → bytes ≡ byte ∷ rest → byte_at bytes ≡ Ok (byte, rest)
unfolding byte_at
byte_is bytes rest byte is = rw is refl

pub byte_missing : (bytes : List ℕ) → length bytes < 1 → byte_at bytes ≡ Err 0
unfolding byte_at
byte_missing [] few = refl
byte_missing (byte ∷ rest) few = absurd (omega arith)

pub number_is : (width number : ℕ) (bytes rest : List ℕ) → number < 256 ^ width → bytes ≡ big_endian width number ++ rest → number_at width bytes ≡ Ok (number, rest)
unfolding number_at
number_is width number bytes rest fits is =
    let enough : nat_lt (length bytes) width ≡ false = grind (arith, nat_tests, ap length is, length-append (big_endian width number) rest, length-big_endian width number) in
    let read : big_number width bytes ≡ number = ap (big_number width) is ∙ number-big_endian width number rest fits in
    let left : drop width bytes ≡ rest = ap (drop width) is ∙ drop_at (big_endian width number) rest width (length-big_endian width number) in
    rw (enough, read, left) refl

pub number_missing : (width : ℕ) (bytes : List ℕ) → length bytes < width → number_at width bytes ≡ Err 0
unfolding number_at
number_missing width bytes few = let short : nat_lt (length bytes) width ≡ true = grind (arith, nat_tests) in rw short refl

pub bytes_are : (front bytes rest : List ℕ) (count : ℕ) → length front ≡ count → bytes ≡ front ++ rest → take_at count bytes ≡ Ok (front, rest)
unfolding take_at
bytes_are front bytes rest count size is =
    let enough : nat_lt (length bytes) count ≡ false = grind (arith, nat_tests, ap length is, length-append front rest) in
    let first : take count bytes ≡ front = ap (take count) is ∙ take_front front rest count size in
    let left : drop count bytes ≡ rest = ap (drop count) is ∙ drop_at front rest count size in
    rw (enough, first, left) refl

pub bytes_missing : (count : ℕ) (bytes : List ℕ) → length bytes < count → take_at count bytes ≡ Err 0
unfolding take_at
bytes_missing count bytes few = let short : nat_lt (length bytes) count ≡ true = grind (arith, nat_tests) in rw short refl
