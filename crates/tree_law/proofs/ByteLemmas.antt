-- What is read of what was written.
use Rattle.std.proofs.Common.{◌≡◌, ◌≤◌, ◌<◌, ◌+◌, ◌-◌, ℕ, zero, suc, List, [], ◌∷◌, ◌++◌, length, take, drop, replicate, get_or, refl, sym, ap, ◌∙◌, arith, length-append}
use Rattle.std.proofs.lemmas.List.{length-replicate, length-take-le, get_or-take, get_or-append_right, get_or-replicate}
use Rattle.file_bytes.specs.Bytes.{grown, written, read_at}

behind : (xs ys : List ℕ) → drop (length xs) (xs ++ ys) ≡ ys
behind [] ys = refl
behind (x ∷ xs) ys = behind xs ys

front : (xs ys : List ℕ) → take (length xs) (xs ++ ys) ≡ xs
front [] ys = refl
front (x ∷ xs) ys = ap (λ (rest : List ℕ). x ∷ rest) (front xs ys)

in_front : (xs ys : List ℕ) (i : ℕ) → i < length xs → get_or (xs ++ ys) i 0 ≡ get_or xs i 0
in_front [] ys i below = absurd (omega arith)
in_front (x ∷ xs) ys zero below = refl
in_front (x ∷ xs) ys (suc i) below = in_front xs ys i (omega arith)

grown_length : (contents : List ℕ) (size : ℕ) → size ≤ length (grown contents size)
grown_length contents size = omega (arith, length-append contents (replicate (size - length contents) 0), length-replicate {A = ℕ} (size - length contents) 0)

-- as many bytes as lie before the write
before : (contents : List ℕ) (offset : ℕ) (bytes : List ℕ) → length (take offset (grown contents (offset + length bytes))) ≡ offset
before contents offset bytes = length-take-le offset (grown contents (offset + length bytes)) (omega (arith, grown_length contents (offset + length bytes)))

pub read_back : (contents : List ℕ) (offset : ℕ) (bytes : List ℕ) → read_at (written contents offset bytes) offset (length bytes) ≡ bytes
read_back contents offset bytes =
    let first : List ℕ = take offset (grown contents (offset + length bytes)) in
    let rest : List ℕ = bytes ++ drop (offset + length bytes) (grown contents (offset + length bytes)) in
    ap (λ (n : ℕ). take (length bytes) (drop n (first ++ rest))) (sym (before contents offset bytes))
    ∙ ap (λ (bs : List ℕ). take (length bytes) bs) (behind first rest)
    ∙ front bytes (drop (offset + length bytes) (grown contents (offset + length bytes)))

pub gap_is_zero : (contents : List ℕ) (offset : ℕ) (bytes : List ℕ) (i : ℕ) → length contents ≤ i → i < offset → get_or (written contents offset bytes) i 0 ≡ 0
gap_is_zero contents offset bytes i past below =
    in_front (take offset (grown contents (offset + length bytes))) (bytes ++ drop (offset + length bytes) (grown contents (offset + length bytes))) i (omega (arith, before contents offset bytes))
    ∙ get_or-take offset (grown contents (offset + length bytes)) i 0 below
    ∙ get_or-append_right contents (replicate (offset + length bytes - length contents) 0) (length contents) i 0 refl past
    ∙ get_or-replicate {A = ℕ} (offset + length bytes - length contents) (i - length contents) 0 0 (omega arith)
