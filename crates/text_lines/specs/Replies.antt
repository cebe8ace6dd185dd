-- The forms of a reply, whatever its call.
use Rattle.std.specs.Prelude.{ℕ, ◌*◌, ◌==◌, ◌&&◌, ◌||◌, Bool, true, false, List, [], ◌∷◌, length, nat_lt, if◌then◌else◌, Result, Ok, Err, codes, bytes_eq}
use Rattle.std.specs.List.{list_all, join_with_byte}
use Rattle.std.specs.Result.{is_ok}
use Rattle.tree_law.specs.NameTest.{is_name}
use Rattle.script.specs.Numbers.{number_in, is_hex_digit}
use Rattle.line_words.specs.Outcome.{outside}
use Rattle.line_words.specs.Places.{number_of}
use Rattle.line_words.specs.declared.read_error.OutOfForm.{OutOfForm}

-- no more words
abbrev pub are_none : List (List ℕ) → Bool
are_none [] = true
are_none (word ∷ more) = false

-- so many bytes, at least one, in one word of hexadecimal digits
abbrev pub are_bytes : ℕ → List (List ℕ) → Bool
are_bytes count [] = false
are_bytes count (word ∷ []) = nat_lt 0 count && (length word == 2 * count) && list_all is_hex_digit word
are_bytes count (word ∷ next ∷ more) = false

-- so many names
abbrev pub are_names : ℕ → List (List ℕ) → Bool
are_names count words = (length words == count) && list_all is_name words

-- behind a count: nothing, so many bytes, or so many names
abbrev pub is_counted : Result ℕ OutOfForm → List (List ℕ) → Bool
is_counted (Ok count) words = are_none words || are_bytes count words || are_names count words
is_counted (Err form) words = false

-- a size
abbrev pub is_size : List (List ℕ) → Bool
is_size [] = false
is_size (word ∷ []) = is_ok (number_of word)
is_size (word ∷ next ∷ more) = false

-- behind `ok`: nothing, `file N`, `dir`, or a count with what it counts
abbrev pub is_outcome : List (List ℕ) → Bool
is_outcome [] = true
is_outcome (word ∷ behind) =
    if bytes_eq word (codes "file") then is_size behind
    else if bytes_eq word (codes "dir") then are_none behind
    else is_counted (number_of word) behind

-- a count of blocks: a number of 16 bits
abbrev pub is_blocks : List ℕ → Bool
is_blocks word = is_ok (number_in 0 65535 word)

-- the free blocks and the needed ones
abbrev pub are_blocks : List (List ℕ) → Bool
are_blocks [] = false
are_blocks (free ∷ []) = false
are_blocks (free ∷ needed ∷ []) = is_blocks free && is_blocks needed
are_blocks (free ∷ needed ∷ other ∷ more) = false

-- the name of a refusal that stands alone and is told of paths
abbrev pub is_path_refusal : List ℕ → Bool
is_path_refusal word =
    bytes_eq word (codes "EEXIST") || bytes_eq word (codes "ENOENT") || bytes_eq word (codes "ENOTDIR")
    || bytes_eq word (codes "EISDIR") || bytes_eq word (codes "ENOTEMPTY") || bytes_eq word (codes "EINVAL")
    || bytes_eq word (codes "EBUSY")

-- the name of a refusal that stands alone and is told of descriptors, sizes or room
abbrev pub is_other_refusal : List ℕ → Bool
is_other_refusal word =
    bytes_eq word (codes "EMFILE") || bytes_eq word (codes "EBADF") || bytes_eq word (codes "EFBIG")
    || bytes_eq word (codes "NOINODE") || bytes_eq word (codes "DIRFULL")

-- a refusal's name, with the blocks behind NOSPACE
abbrev pub is_refusal : List ℕ → List (List ℕ) → Bool
is_refusal word behind =
    if bytes_eq word (codes "NOSPACE") then are_blocks behind
    else (is_path_refusal word || is_other_refusal word) && are_none behind

-- a reply to some call
abbrev pub is_reply : List (List ℕ) → Bool
is_reply [] = false
is_reply (word ∷ behind) = if bytes_eq word (codes "ok") then is_outcome behind else is_refusal word behind

-- a reply as it is written
abbrev pub reply_of : List (List ℕ) → Result (List ℕ) OutOfForm
reply_of words = if is_reply words then Ok (join_with_byte 32 words) else outside
