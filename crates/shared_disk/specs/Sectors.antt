use Rattle.std.specs.Prelude.{◌≡◌, ℕ, zero, suc, List, [], ◌∷◌, length, All, slice_set, Option, Some, None}
use Rattle.cal_base.specs.Limits as limits

-- a disk's sectors: all of them, each with all its bytes
pub record IsWhole (sectors : List (List ℕ)) : Type 0 where
  pub count : length sectors ≡ limits.sectors
  pub bytes : All (λ sector. length sector ≡ limits.block_size) sectors

-- the sectors after these writes, in order: each puts its bytes into its sector and changes nothing else
abbrev pub written : List (List ℕ) → List (ℕ × List ℕ) → List (List ℕ)
written sectors [] = sectors
written sectors (w ∷ ws) = written (slice_set sectors w.0 w.1) ws

-- what is written where a stop ends these writes: the first k, and of the next one the bytes t, if they are given
abbrev pub left_of : List (ℕ × List ℕ) → ℕ → Option (List ℕ) → List (ℕ × List ℕ)
left_of [] k t = []
left_of (w ∷ ws) zero None = []
left_of (w ∷ ws) zero (Some t) = (w.0, t) ∷ []
left_of (w ∷ ws) (suc k) t = w ∷ left_of ws k t

-- the sectors where a stop ends these writes after the first k, with the bytes t in the sector of the next one, if they are given
abbrev pub cut : List (List ℕ) → List (ℕ × List ℕ) → ℕ → Option (List ℕ) → List (List ℕ)
cut sectors writes k t = written sectors (left_of writes k t)
