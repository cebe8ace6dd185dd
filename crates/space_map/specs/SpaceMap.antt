use Rattle.std.specs.Prelude.{◌≡◌, ◌==◌, ◌<◌, ◌≤◌, ◌*◌, ◌/◌, ◌%◌, ℕ, zero, suc, Bool, true, false, Some, List, [], ◌∷◌, length, slice_get, slice_index}
use Rattle.std.specs.List.{flat_map}
use Rattle.cal_base.specs.Limits.{block_size, map_size}
use Rattle.cal_fields.specs.Padded.{padded}

-- The lowest bits of a byte, the least significant first: a block is free where its bit is 0.
unfoldable pub free_bits : ℕ → ℕ → List Bool
free_bits zero byte = []
free_bits (suc count) byte = (byte % 2 == 0) ∷ free_bits count (byte / 2)

-- for each block whether it is free, eight blocks a byte
unfoldable pub free_blocks : List ℕ → List Bool
free_blocks bytes = flat_map (free_bits 8) bytes

-- A sector spells which blocks are free: the bytes of the map, and zeros behind them.
pub record SpellsMap (sector : List ℕ) (free : List Bool) : Type 0 where
  pub bytes : List ℕ
  pub count : length bytes ≡ map_size
  pub whole : sector ≡ padded block_size bytes
  pub blocks : free ≡ free_blocks bytes

-- a block is free, and none below it
pub record IsLeastFree (free : List Bool) (block : ℕ) : Type 0 where
  pub is_free : slice_get free block ≡ Some true
  pub least : (below : ℕ) → below < block → slice_get free below ≡ Some false

-- the first bytes have no free block
abbrev pub AreFull : List ℕ → ℕ → Type 0
AreFull bytes count = (place : ℕ) → place < count → slice_index bytes place ≡ 255

-- words of eight bytes in the map
abbrev pub map_words : ℕ
map_words = 32

-- no block below the hint, in words of eight bytes, is free
pub record IsHint (bytes : List ℕ) (hint : ℕ) : Type 0 where
  pub within : hint ≤ map_words
  pub full : AreFull bytes (8 * hint)
