-- Bytes without the zero bytes at their end.
use Rattle.std.proofs.Common.{◌≡◌, ◌-◌, ◌<◌, ◌≤◌, ◌++◌, ℕ, zero, suc, List, [], ◌∷◌, take, get_or, length, refl, sym, ap, ◌∙◌, subst, arith, if◌then◌else◌, Bool}
use Rattle.std.proofs.Math.Seq.{take-suc}
use Rattle.std.proofs.lemmas.Bool.{ne_eqb}
use Rattle.trace_text.specs.Sectors.{kept_before, trimmed}

-- a zero byte behind bytes goes
zero_behind : (bytes : List ℕ) → trimmed (bytes ++ (0 ∷ [])) ≡ trimmed bytes
zero_behind [] = refl
zero_behind (byte ∷ bytes) = ap (kept_before byte) (zero_behind bytes)

kept_whole : (byte : ℕ) (bytes : List ℕ) (last : ℕ) → kept_before byte (bytes ++ (last ∷ [])) ≡ byte ∷ (bytes ++ (last ∷ []))
kept_whole byte [] last = refl
kept_whole byte (next ∷ bytes) last = refl

kept_alone : (last : ℕ) → (last ≡ 0 → ⊥) → kept_before last [] ≡ last ∷ []
kept_alone last other = ap (λ (b : Bool). if b then [] else last ∷ []) (ne_eqb last 0 other)

-- any other byte stays, and all in front of it
other_behind : (bytes : List ℕ) (last : ℕ) → (last ≡ 0 → ⊥) → trimmed (bytes ++ (last ∷ [])) ≡ bytes ++ (last ∷ [])
other_behind [] last other = kept_alone last other
other_behind (byte ∷ bytes) last other = ap (kept_before byte) (other_behind bytes last other) ∙ kept_whole byte bytes last

last_at : (count before : ℕ) (bytes : List ℕ) → count ≡ before → suc count ≤ length bytes → take (suc count) bytes ≡ take before bytes ++ (get_or bytes before 0 ∷ [])
last_at count before bytes is few = subst (λ (n : ℕ). take (suc count) bytes ≡ take n bytes ++ (get_or bytes n 0 ∷ [])) is (take-suc bytes count 0 (omega (arith, few)))

-- the last of so many bytes
last_of : (count : ℕ) (bytes : List ℕ) → 0 < count → count ≤ length bytes → take count bytes ≡ take (count - 1) bytes ++ (get_or bytes (count - 1) 0 ∷ [])
last_of zero bytes some few = absurd (omega (arith, some))
last_of (suc count) bytes some few = last_at count (suc count - 1) bytes (omega arith) few

-- one zero byte less
pub trim_more : (count : ℕ) (bytes : List ℕ) → 0 < count → count ≤ length bytes → get_or bytes (count - 1) 0 ≡ 0 → trimmed (take count bytes) ≡ trimmed bytes → trimmed (take (count - 1) bytes) ≡ trimmed bytes
trim_more count bytes some few is so =
    sym (zero_behind (take (count - 1) bytes)) ∙ ap (λ (b : ℕ). trimmed (take (count - 1) bytes ++ (b ∷ []))) (sym is) ∙ ap trimmed (sym (last_of count bytes some few)) ∙ so

-- the last byte isn't zero
pub trim_ends : (count : ℕ) (bytes : List ℕ) → 0 < count → count ≤ length bytes → (get_or bytes (count - 1) 0 ≡ 0 → ⊥) → trimmed (take count bytes) ≡ trimmed bytes → take count bytes ≡ trimmed bytes
trim_ends count bytes some few other so =
    last_of count bytes some few ∙ sym (other_behind (take (count - 1) bytes) (get_or bytes (count - 1) 0) other) ∙ ap trimmed (sym (last_of count bytes some few)) ∙ so
