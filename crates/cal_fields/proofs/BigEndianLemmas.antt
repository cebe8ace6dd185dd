-- The law of big-endian bytes: what was put is read, and what was read is what putting it gives.
use Rattle.std.proofs.Common.{◌≡◌, ℕ, zero, suc, ◌+◌, ◌*◌, ◌/◌, ◌%◌, ◌^◌, ◌<◌, ◌≤◌, List, [], ◌∷◌, ◌++◌, length, slice_index, refl, sym, ap, ◌∙◌, arith, length-append}
use Rattle.std.proofs.lemmas.List.{append_cancel_left}
use Rattle.std.proofs.lemmas.Nat.{div-mul-add, mod-mul-add}
use Rattle.std.proofs.Math.Nat.{add-mul, div-one, mod-eq_of_lt, mul_assoc, pow-succ'}
use Rattle.std.specs.Int.{byte_at}
use Rattle.byteorder.specs.Endian.{big_from, big_number, big_bytes}
use Rattle.byteorder.specs.Numbers.{big_from-bytes, big_from-cons, big_from-lt}
use Rattle.cal_fields.specs.BigEndian.{big_endian}

-- there are as many bytes as the width says
pub length-big_endian : (width number : ℕ) → length (big_endian width number) ≡ width
unfolding big_endian
length-big_endian zero number = refl
length-big_endian (suc width) number = let rest = length-big_endian width number in omega (arith, rest)

-- a digit of a number, by its place
byte_at-pow : (place number : ℕ) → byte_at place number ≡ number / 256 ^ place % 256
byte_at-pow zero number = ap (λ (n : ℕ). n % 256) (sym (div-one number))
byte_at-pow (suc place) number = refl

-- they are the bytes that `byteorder` writes
pub big_bytes-big_endian : (width number : ℕ) → big_bytes width number ≡ big_endian width number
unfolding big_endian
big_bytes-big_endian zero number = refl
big_bytes-big_endian (suc width) number = rw (byte_at-pow width number, big_bytes-big_endian width number) refl

-- what was put is read, whatever stands behind it
pub number-big_endian : (width number : ℕ) (rest : List ℕ) → number < 256 ^ width → big_number width (big_endian width number ++ rest) ≡ number
number-big_endian width number rest fits =
    rw (← big_bytes-big_endian width number) (big_from-bytes width number rest ∙ mod-eq_of_lt fits)

-- bytes that begin with two numbers of one width begin with the same number
pub big_endian-cancel : (width a b : ℕ) (xs ys : List ℕ) → a < 256 ^ width → b < 256 ^ width
    → big_endian width a ++ xs ≡ big_endian width b ++ ys → (a ≡ b) × (xs ≡ ys)
big_endian-cancel width a b xs ys a_fits b_fits e =
    let same : a ≡ b = sym (number-big_endian width a xs a_fits) ∙ ap (big_number width) e ∙ number-big_endian width b ys b_fits in
    (same, append_cancel_left (big_endian width b) xs ys (ap (λ (n : ℕ). big_endian width n ++ xs) (sym same) ∙ e))

-- a digit between two numbers belongs to the higher one
regrouped : (high digit rest power more : ℕ) → more ≡ 256 * power → high * more + (digit * power + rest) ≡ (high * 256 + digit) * power + rest
regrouped high digit rest power more e =
    let front : (high * 256 + digit) * power ≡ high * 256 * power + digit * power = add-mul (high * 256) digit power in
    let inner : high * 256 * power ≡ high * more = mul_assoc high 256 power ∙ ap (λ (n : ℕ). high * n) (sym e) in
    omega (arith, front, inner)

-- the bytes of a number that bytes spell, whatever higher digits stand before it, are those bytes
spelled : (width high : ℕ) (bytes : List ℕ) → length bytes ≡ width → ((i : ℕ) → slice_index bytes i < 256)
    → big_endian width (high * 256 ^ width + big_number width bytes) ≡ bytes
unfolding big_endian
spelled zero high [] enough fits = refl
spelled zero high (byte ∷ bytes) enough fits = absurd (omega arith)
spelled (suc width) high [] enough fits = absurd (omega arith)
spelled (suc width) high (byte ∷ bytes) enough fits =
    let number = big_number width bytes in
    let moved : big_from 1 width (byte ∷ bytes) ≡ number = big_from-cons 0 width byte bytes in
    let small : number < 256 ^ width = big_from-lt 0 width bytes (λ i. fits (suc i)) in
    let digit : byte < 256 = fits 0 in
    let whole : high * 256 ^ suc width + big_number (suc width) (byte ∷ bytes) ≡ (high * 256 + byte) * 256 ^ width + number =
    rw moved (regrouped high byte number (256 ^ width) (256 ^ suc width) (pow-succ' 256 width)) in
    let head : ((high * 256 + byte) * 256 ^ width + number) / 256 ^ width % 256 ≡ byte =
    rw (div-mul-add (high * 256 + byte) (256 ^ width) number small) (mod-mul-add high 256 byte digit) in
    let tail : big_endian width ((high * 256 + byte) * 256 ^ width + number) ≡ bytes =
    spelled width (high * 256 + byte) bytes (omega arith) (λ i. fits (suc i)) in
    ap (big_endian (suc width)) whole ∙ cc

-- what was read is what putting it gives
pub big_endian-number : (width : ℕ) (bytes : List ℕ) → length bytes ≡ width → ((i : ℕ) → slice_index bytes i < 256)
    → big_endian width (big_number width bytes) ≡ bytes
big_endian-number width bytes enough fits = ap (big_endian width) (omega arith) ∙ spelled width 0 bytes enough fits

-- bytes that begin with a number of this width aren't fewer than it
pub length-big_endian-append : (width number : ℕ) (rest bytes : List ℕ) → bytes ≡ big_endian width number ++ rest → width ≤ length bytes
length-big_endian-append width number rest bytes e =
    omega (arith, ap length e, length-append (big_endian width number) rest, length-big_endian width number)
