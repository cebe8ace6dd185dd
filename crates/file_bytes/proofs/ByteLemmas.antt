use Rattle.std.proofs.Common.{◌≡◌, ◌+◌, ◌-◌, ◌≤◌, ℕ, List, ◌++◌, take, drop, replicate, length, sym, ap, ◌∙◌, arith}
use Rattle.std.proofs.lemmas.List.{length-take, drop-replicate, take-take, take_all}
use Rattle.file_bytes.specs.Bytes.{overlaid, resized}

-- bytes that are laid over zeros
pub zeros_overlaid : (size : ℕ) (bytes : List ℕ) → length bytes ≤ size → overlaid (replicate size 0) 0 bytes ≡ resized bytes size
zeros_overlaid size bytes within =
    ap (λ (k : ℕ). bytes ++ drop k (replicate {A = ℕ} size 0)) (let e : 0 + length bytes ≡ length bytes = omega arith in e)
    ∙ ap (λ (rest : List ℕ). bytes ++ rest) (drop-replicate (length bytes) size 0)
    ∙ sym (ap (λ (front : List ℕ). front ++ replicate {A = ℕ} (size - length bytes) 0) (take_all size bytes within))

-- contents that are cut off before they are grown
pub resized_front : (contents : List ℕ) (size : ℕ) → resized (take size contents) size ≡ resized contents size
resized_front contents size =
    ap (λ (front : List ℕ). front ++ replicate {A = ℕ} (size - length (take size contents)) 0) (take-take size size contents (omega arith))
    ∙ ap (λ (n : ℕ). take size contents ++ replicate {A = ℕ} n 0) (let e : size - length (take size contents) ≡ size - length contents = omega (arith, length-take size contents) in e)
