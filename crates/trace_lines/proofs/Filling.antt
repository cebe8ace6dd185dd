-- A sector and its bytes without the zero bytes at its end.
use Rattle.std.proofs.Common.{◌≡◌, ◌==◌, ◌&&◌, ◌++◌, ◌-◌, ◌<◌, ◌≤◌, ℕ, zero, suc, Bool, true, false, not, List, [], ◌∷◌, length, get_or, drop, replicate, nat_lt, nat_le, cond, refl, sym, ap, ◌∙◌, arith, Result, Ok, Option, Some, None, codes, bytes_eq}
use Rattle.std.proofs.lemmas.Bool.Decides.{nat_tests}
use Rattle.std.proofs.lemmas.List.{drop-replicate}
use Rattle.std.proofs.lemmas.Slice.Eq.{bytes_eq-Decides}
use Rattle.reply_text.specs.Text.{hex_text}
use Rattle.trace_text.specs.Line.{hex_or_dash}
use Rattle.trace_text.specs.Sectors.{kept_before, trimmed, sector_text}
use Rattle.trace_text.specs.Events.{how_text}
use Rattle.line_words.specs.Outcome.{outside, then_read}
use Rattle.line_words.specs.Values.{hex_of}
use Rattle.line_words.specs.declared.read_error.OutOfForm.{OutOfForm}
use Rattle.line_words.proofs.Joined.{is_free, and_both}
use Rattle.line_words.proofs.Ranges.{same_read, no_value}
use Rattle.line_words.proofs.Reading.{chain}
use Rattle.line_words.proofs.Valued.{hex_is, hex_free}
use Rattle.trace_lines.specs.Limits.{AreBytes, IsSector, IsTorn}
use Rattle.trace_lines.specs.Sectors.{some_bytes_of, bytes_of, ends_in_zero, padded, sector_with, sector_of, torn_of}

-- bytes that are laid over zeros are padded
pub padded_is : (bytes contents sector : List ℕ) → contents ≡ replicate 4096 0 → sector ≡ bytes ++ drop (length bytes) contents → sector ≡ padded bytes
padded_is bytes contents sector f g =
    g
    ∙ ap (λ (contents : List ℕ). bytes ++ drop (length bytes) contents) f
    ∙ ap (λ (rest : List ℕ). bytes ++ rest) (drop-replicate (length bytes) 4096 0)

-- another word than this one, since it is read as a value
pub no_such : {T : Type 0} (read : List ℕ → Result T OutOfForm) (word other : List ℕ) (value : T) (b : Bool) → bytes_eq word other ≡ b → read word ≡ Ok value → read other ≡ outside → b ≡ false
no_such read word other value true same e out = absurd (no_value (record {}) value (read other) out (ap read (sym ((bytes_eq-Decides word other).0 same)) ∙ e))
no_such read word other value false same e out = refl

-- bytes in hexadecimal

some_digits : (text : List ℕ) (byte : ℕ) (bytes : List ℕ) → hex_of text ≡ Ok (byte ∷ bytes) → nat_lt 0 (length text) ≡ true
some_digits [] byte bytes e = let same : 0 ≡ length (byte ∷ bytes) = ap length (same_read [] (byte ∷ bytes) (hex_of []) refl e) in absurd (omega (arith, same))
some_digits (digit ∷ digits) byte bytes e = grind (arith, nat_tests)

pub bytes_is : (bytes : List ℕ) → AreBytes bytes → bytes_of (hex_or_dash bytes) ≡ Ok bytes
bytes_is [] h = refl
bytes_is (byte ∷ bytes) h =
    let text = hex_text (byte ∷ bytes) in
    let is = hex_is (byte ∷ bytes) h in
    ap (λ (b : Bool). cond b (Ok []) (some_bytes_of text)) (no_such hex_of text (codes "-") (byte ∷ bytes) (bytes_eq text (codes "-")) refl is refl)
    ∙ ap (λ (b : Bool). cond b (hex_of text) outside) (some_digits text byte bytes is)
    ∙ is

pub bytes_free : (bytes : List ℕ) → AreBytes bytes → is_free (hex_or_dash bytes) ≡ true
bytes_free [] h = refl
bytes_free (byte ∷ bytes) h = hex_free (byte ∷ bytes) h

-- what is kept of a sector

record Kept (bytes kept : List ℕ) : Type 0 where
  pub short : length kept ≤ length bytes
  pub ends : 0 < length kept → (get_or kept (length kept - 1) 0 == 0) ≡ false
  pub whole : kept ++ replicate (length bytes - length kept) 0 ≡ bytes

one_zero : (byte : ℕ) (bytes kept : List ℕ) → byte ≡ 0 → kept ≡ [] → kept ++ replicate (length bytes - length kept) 0 ≡ bytes → [] ++ replicate (length (byte ∷ bytes) - 0) 0 ≡ byte ∷ bytes
one_zero byte bytes kept zeroed none whole =
    let more : length (byte ∷ bytes) - 0 ≡ suc (length bytes - 0) = omega arith in
    let rest : replicate (length bytes - 0) 0 ≡ bytes = ap (λ (k : List ℕ). k ++ replicate (length bytes - length k) 0) (sym none) ∙ whole in
    ap (λ (n : ℕ). replicate n 0) more ∙ in_front 0 byte (replicate (length bytes - 0) 0) bytes (sym zeroed) rest
  where
    in_front : (one other : ℕ) (xs ys : List ℕ) → one ≡ other → xs ≡ ys → one ∷ xs ≡ other ∷ ys
    in_front one other xs ys e f = ap (λ (n : ℕ). n ∷ xs) e ∙ ap (λ (l : List ℕ). other ∷ l) f

behind_byte : (byte : ℕ) (bytes kept : List ℕ) → kept ++ replicate (length bytes - length kept) 0 ≡ bytes → (byte ∷ kept) ++ replicate (length (byte ∷ bytes) - length (byte ∷ kept)) 0 ≡ byte ∷ bytes
behind_byte byte bytes kept whole =
    let same : length (byte ∷ bytes) - length (byte ∷ kept) ≡ length bytes - length kept = omega arith in
    ap (λ (n : ℕ). byte ∷ (kept ++ replicate n 0)) same ∙ ap (λ (l : List ℕ). byte ∷ l) whole

is_zero : (byte : ℕ) → (byte == 0) ≡ true → byte ≡ 0
is_zero byte e = grind (arith, nat_tests)

first_kept : (byte : ℕ) (bytes : List ℕ) (b : Bool) → (byte == 0) ≡ b → Kept bytes [] → Kept (byte ∷ bytes) (cond b [] (byte ∷ []))
first_kept byte bytes true e k = record { short = omega arith; ends = λ some. absurd (omega (arith, some)); whole = one_zero byte bytes [] (is_zero byte e) refl k.whole }
first_kept byte bytes false e k = record { short = omega arith; ends = λ some. e; whole = behind_byte byte bytes [] k.whole }

last_same : (byte next : ℕ) (kept : List ℕ) → get_or (byte ∷ next ∷ kept) (length (byte ∷ next ∷ kept) - 1) 0 ≡ get_or (next ∷ kept) (length (next ∷ kept) - 1) 0
last_same byte next kept =
    let here : length (byte ∷ next ∷ kept) - 1 ≡ suc (length kept) = omega arith in
    let there : length kept ≡ length (next ∷ kept) - 1 = omega arith in
    ap (λ (n : ℕ). get_or (byte ∷ next ∷ kept) n 0) here ∙ ap (λ (n : ℕ). get_or (next ∷ kept) n 0) there

one_kept : (byte : ℕ) (bytes kept : List ℕ) → Kept bytes kept → Kept (byte ∷ bytes) (kept_before byte kept)
one_kept byte bytes [] k = first_kept byte bytes (byte == 0) refl k
one_kept byte bytes (next ∷ kept) k = record {
  short = omega (arith, k.short);
  ends = λ some. ap (λ (last : ℕ). last == 0) (last_same byte next kept) ∙ k.ends (omega arith);
  whole = behind_byte byte bytes (next ∷ kept) k.whole;
}

kept_is : (bytes : List ℕ) → Kept bytes (trimmed bytes)
kept_is [] = record { short = omega arith; ends = λ some. absurd (omega (arith, some)); whole = refl }
kept_is (byte ∷ bytes) = one_kept byte bytes (trimmed bytes) (kept_is bytes)

and_false : (b c : Bool) → c ≡ false → (b && c) ≡ false
and_false true c e = e
and_false false c e = refl

no_zero_end : (kept : List ℕ) → (0 < length kept → (get_or kept (length kept - 1) 0 == 0) ≡ false) → ends_in_zero kept ≡ false
no_zero_end [] h = refl
no_zero_end (byte ∷ kept) h = and_false _ _ (h (omega arith))

fits : (kept : List ℕ) (size : ℕ) → length kept ≤ size → nat_le (length kept) size ≡ true
fits kept size h = grind (arith, nat_tests)

filled : (sector kept : List ℕ) → length sector ≡ 4096 → Kept sector kept → sector_with kept ≡ Ok sector
filled sector kept whole k =
    let few : length kept ≤ 4096 = omega (arith, whole, k.short) in
    ap (λ (b : Bool). cond b (Ok (padded kept)) outside) (and_both (nat_le (length kept) 4096) (not (ends_in_zero kept)) (fits kept 4096 few) (ap not (no_zero_end kept k.ends)))
    ∙ ap (λ (l : List ℕ). Ok l) (ap (λ (n : ℕ). kept ++ replicate (n - length kept) 0) (sym whole) ∙ k.whole)

-- bytes without the zeros are bytes

pub more_bytes : (byte : ℕ) (bytes : List ℕ) → byte ≤ 255 → AreBytes bytes → AreBytes (byte ∷ bytes)
more_bytes byte bytes h hs zero d l = h
more_bytes byte bytes h hs (suc k) d l = hs k d (omega (arith, l))

pub no_bytes : AreBytes []
no_bytes k d l = absurd (omega (arith, l))

bytes_before : (byte : ℕ) (kept : List ℕ) → byte ≤ 255 → AreBytes kept → AreBytes (kept_before byte kept)
bytes_before byte [] h hs = elim (byte == 0) as (λ b. AreBytes (cond b [] (byte ∷ []))) [
  | true ↦ no_bytes
  | false ↦ more_bytes byte [] h no_bytes
]
bytes_before byte (next ∷ kept) h hs = more_bytes byte (next ∷ kept) h hs

kept_bytes : (bytes : List ℕ) → AreBytes bytes → AreBytes (trimmed bytes)
kept_bytes [] h = h
kept_bytes (byte ∷ bytes) h = bytes_before byte (trimmed bytes) (h 0 0 (omega arith)) (kept_bytes bytes (λ k d l. h (suc k) d (omega (arith, l))))

-- sectors

pub sector_is : (sector : List ℕ) → IsSector sector → sector_of (sector_text sector) ≡ Ok sector
sector_is sector is = chain (bytes_of (sector_text sector)) (trimmed sector) sector_with (Ok sector) (bytes_is (trimmed sector) (kept_bytes sector is.bytes)) (filled sector (trimmed sector) is.whole (kept_is sector))

pub sector_free : (sector : List ℕ) → IsSector sector → is_free (sector_text sector) ≡ true
sector_free sector is = bytes_free (trimmed sector) (kept_bytes sector is.bytes)

pub torn_is : (torn : Option (List ℕ)) → IsTorn torn → torn_of (how_text torn) ≡ Ok torn
torn_is None h = refl
torn_is (Some sector) h =
    let text = sector_text sector in
    let is = sector_is sector h in
    let as-sector = then_read (sector_of text) (λ sector. Ok (Some sector)) in
    ap (λ (b : Bool). cond b (Ok None) as-sector) (no_such sector_of text (codes "clean") sector (bytes_eq text (codes "clean")) refl is refl)
    ∙ chain (sector_of text) sector (λ sector. Ok (Some sector)) (Ok (Some sector)) is refl

pub torn_free : (torn : Option (List ℕ)) → IsTorn torn → is_free (how_text torn) ≡ true
torn_free None h = refl
torn_free (Some sector) h = sector_free sector h
