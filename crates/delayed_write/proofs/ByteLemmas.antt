use Rattle.std.proofs.Common.{◌≡◌, ◌+◌, ◌-◌, ◌*◌, ◌<◌, ◌≤◌, ◌/◌, ◌%◌, ◌⊎◌, inl, inr, ℕ, zero, suc, List, ◌++◌, take, drop, replicate, length, get_or, refl, sym, ap, ◌∙◌, arith, length-append}
use Rattle.std.proofs.lemmas.Bool.{cases_lt}
use Rattle.std.proofs.lemmas.List.{length-take, get_or_append_left, get_or-append_right, get_or-take, get_or-drop, get_or_past, length-replicate, length-take-le}
use Rattle.file_bytes.specs.Bytes.{block_at, grown, resized, written}

-- a byte of zeros, also past them
pub zero_byte : (n i : ℕ) → get_or (replicate {A = ℕ} n 0) i 0 ≡ 0
zero_byte zero i = refl
zero_byte (suc n) zero = refl
zero_byte (suc n) (suc i) = zero_byte n i

-- a byte of contents with zeros behind them
pub zeros_behind : (contents : List ℕ) (n i : ℕ) → get_or (contents ++ replicate n 0) i 0 ≡ get_or contents i 0
zeros_behind contents n i =
    elim (cases_lt i (length contents)) as (λ _. get_or (contents ++ replicate n 0) i 0 ≡ get_or contents i 0) [
      | inl within ↦ get_or_append_left contents (replicate n 0) 0 i within
      | inr past ↦ get_or-append_right contents (replicate n 0) (length contents) i 0 refl past ∙ zero_byte n (i - length contents) ∙ sym (get_or_past contents i 0 past)
    ]

-- a byte that a write doesn't name
pub written_elsewhere : (contents : List ℕ) (offset : ℕ) (bytes : List ℕ) (i : ℕ) → (i < offset) ⊎ (offset + length bytes ≤ i)
    → get_or (written contents offset bytes) i 0 ≡ get_or contents i 0
written_elsewhere contents offset bytes i h =
    let n : ℕ = offset + length bytes - length contents in
    let wide : List ℕ = contents ++ replicate (offset + length bytes - length contents) 0 in
    let reach : offset + length bytes ≤ length (contents ++ replicate (offset + length bytes - length contents) 0)
    = omega (arith, length-append contents (replicate (offset + length bytes - length contents) 0), length-replicate {A = ℕ} (offset + length bytes - length contents) 0) in
    let size : length (take offset (contents ++ replicate (offset + length bytes - length contents) 0)) ≡ offset = length-take-le offset _ (omega arith) in
    elim h as (λ _. get_or (written contents offset bytes) i 0 ≡ get_or contents i 0) [
      | inl below ↦
          get_or_append_left (take offset (grown contents (offset + length bytes))) (bytes ++ drop (offset + length bytes) (grown contents (offset + length bytes))) 0 i (omega arith)
          ∙ get_or-take offset (grown contents (offset + length bytes)) i 0 below
          ∙ zeros_behind contents (offset + length bytes - length contents) i
      | inr above ↦
          get_or-append_right (take offset (grown contents (offset + length bytes))) (bytes ++ drop (offset + length bytes) (grown contents (offset + length bytes))) offset i 0 size (omega arith)
          ∙ get_or-append_right bytes (drop (offset + length bytes) (grown contents (offset + length bytes))) (length bytes) (i - offset) 0 refl (omega arith)
          ∙ get_or-drop (offset + length bytes) (grown contents (offset + length bytes)) (i - offset - length bytes) 0
          ∙ ap (λ (k : ℕ). get_or (grown contents (offset + length bytes)) k 0) (omega arith)
          ∙ zeros_behind contents (offset + length bytes - length contents) i
    ]

-- a byte below the size to which contents are cut off or grown
pub resized_below : (contents : List ℕ) (size i : ℕ) → i < size → get_or (resized contents size) i 0 ≡ get_or contents i 0
resized_below contents size i below = zeros_behind (take size contents) (size - length contents) i ∙ get_or-take size contents i 0 below

-- the size to which contents are cut off or grown
pub length-resized : (contents : List ℕ) (size : ℕ) → length (resized contents size) ≡ size
length-resized contents size =
    omega (arith, length-append (take size contents) (replicate (size - length contents) 0), length-take size contents, length-replicate {A = ℕ} (size - length contents) 0)

-- a byte of its block
pub byte_in_block : (contents : List ℕ) (i : ℕ) → get_or (block_at contents (i / 4096)) (i % 4096) 0 ≡ get_or contents i 0
byte_in_block contents i =
    resized_below (drop (i / 4096 * 4096) contents) 4096 (i % 4096) (omega arith)
    ∙ get_or-drop (i / 4096 * 4096) contents (i % 4096) 0
    ∙ ap (λ (k : ℕ). get_or contents k 0) (omega arith)
