use Rattle.std.specs.Prelude.{◌+◌, ◌-◌, ◌*◌, ℕ, List, ◌++◌, length, take, drop, replicate}
use Rattle.cal_base.specs.Limits.{block_size}

-- contents that are cut off at a size, or grown to it by zeros
abbrev pub resized : List ℕ → ℕ → List ℕ
resized contents size = take size contents ++ replicate (size - length contents) 0

-- contents that are grown by zeros to a size, where they are shorter
abbrev pub grown : List ℕ → ℕ → List ℕ
grown contents size = contents ++ replicate (size - length contents) 0

-- contents with bytes laid over them from an offset on
abbrev pub overlaid : List ℕ → ℕ → List ℕ → List ℕ
overlaid contents offset bytes = take offset contents ++ (bytes ++ drop (offset + length bytes) contents)

-- contents after a write: they reach to its end, with zeros in a gap before it, and its bytes are laid over them
abbrev pub written : List ℕ → ℕ → List ℕ → List ℕ
written contents offset bytes = overlaid (grown contents (offset + length bytes)) offset bytes

-- the bytes from an offset on, at most so many, none at or past the end
abbrev pub read_at : List ℕ → ℕ → ℕ → List ℕ
read_at contents offset count = take count (drop offset contents)

-- a block of a file, with zeros past the end of the file
abbrev pub block_at : List ℕ → ℕ → List ℕ
block_at contents index = resized (drop (index * block_size) contents) block_size
