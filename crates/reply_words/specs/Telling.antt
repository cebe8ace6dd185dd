-- What the words of a reply tell, by what its call tells. A count in front of what it counts is passed over: it is
-- compared where the reply is written anew.
use Rattle.std.specs.Prelude.{ℕ, List, [], ◌∷◌, if◌then◌else◌, Result, Ok, codes, bytes_eq}
use Rattle.std.specs.List.{list_all}
use Rattle.tree_law.specs.NameTest.{is_name}
use Rattle.tree_law.specs.declared.reply.Reply.{Reply}
use Rattle.tree_law.specs.declared.reply.Reply.TheVariants.{Done, Fd, Bytes, Count, File, Dir, Names, Refused}
use Rattle.tree_law.specs.declared.reply.Why.{Why}
use Rattle.tree_law.specs.declared.reply.Why.TheVariants.{Exist, NoEnt, NotDir, IsDir, NotEmpty, Inval, Busy, MFile, BadF, FBig, NoSpace, NoInode, DirFull}
use Rattle.line_words.specs.Outcome.{outside, then_read}
use Rattle.line_words.specs.Values.{number_to, hex_of}
use Rattle.line_words.specs.Words.{words, first_as, last_as}
use Rattle.line_words.specs.declared.read_error.OutOfForm.{OutOfForm}
use Rattle.reply_words.specs.declared.tells.Tells.{Tells}
use Rattle.reply_words.specs.declared.tells.Tells.TheVariants.{Nothing, Descriptor, Contents, Length, Kind, Listing}

-- a refusal that is told of paths
abbrev pub path_why : List ℕ → Result Why OutOfForm
path_why word =
    if bytes_eq word (codes "EEXIST") then Ok Exist
    else if bytes_eq word (codes "ENOENT") then Ok NoEnt
    else if bytes_eq word (codes "ENOTDIR") then Ok NotDir
    else if bytes_eq word (codes "EISDIR") then Ok IsDir
    else if bytes_eq word (codes "ENOTEMPTY") then Ok NotEmpty
    else if bytes_eq word (codes "EINVAL") then Ok Inval
    else outside

-- any other refusal that stands alone
abbrev pub other_why : List ℕ → Result Why OutOfForm
other_why word =
    if bytes_eq word (codes "EBUSY") then Ok Busy
    else if bytes_eq word (codes "EMFILE") then Ok MFile
    else if bytes_eq word (codes "EBADF") then Ok BadF
    else if bytes_eq word (codes "EFBIG") then Ok FBig
    else if bytes_eq word (codes "NOINODE") then Ok NoInode
    else if bytes_eq word (codes "DIRFULL") then Ok DirFull
    else path_why word

-- a count of blocks: a number of 16 bits
abbrev pub blocks_of : List ℕ → Result ℕ OutOfForm
blocks_of word = number_to 65535 word

-- the free blocks and the needed ones
abbrev pub no_space : List (List ℕ) → Result Why OutOfForm
no_space words =
    then_read (first_as blocks_of words) (λ free.
    then_read (last_as blocks_of free.1) (λ needed.
    Ok (NoSpace free.0 needed)))

-- no more words
abbrev pub alone : {T : Type 0} → Result T OutOfForm → List (List ℕ) → Result T OutOfForm
alone read [] = read
alone read (word ∷ more) = outside

-- why a call is refused
abbrev pub why_of : List ℕ → List (List ℕ) → Result Why OutOfForm
why_of word behind = if bytes_eq word (codes "NOSPACE") then no_space behind else alone (other_why word) behind

-- 8 bits, and 32
abbrev pub byte_of : List ℕ → Result ℕ OutOfForm
byte_of word = number_to 255 word

abbrev pub number32_of : List ℕ → Result ℕ OutOfForm
number32_of word = number_to 4294967295 word

-- what stands behind a count
abbrev pub behind_count : List (List ℕ) → Result (List (List ℕ)) OutOfForm
behind_count [] = outside
behind_count (count ∷ behind) = Ok behind

-- the bytes behind their count: none, or a word of hexadecimal digits
abbrev pub bytes_of : List (List ℕ) → Result (List ℕ) OutOfForm
bytes_of [] = Ok []
bytes_of (word ∷ []) = hex_of word
bytes_of (word ∷ next ∷ more) = outside

-- names
abbrev pub names_of : List (List ℕ) → Result (List (List ℕ)) OutOfForm
names_of words = if list_all is_name words then Ok words else outside

-- a file of this size, or a directory
abbrev pub kind_of : List ℕ → List (List ℕ) → Result Reply OutOfForm
kind_of word behind =
    if bytes_eq word (codes "file") then then_read (last_as number32_of behind) (λ size. Ok (File size))
    else if bytes_eq word (codes "dir") then alone (Ok Dir) behind
    else outside

abbrev pub stat_of : List (List ℕ) → Result Reply OutOfForm
stat_of [] = outside
stat_of (word ∷ behind) = kind_of word behind

-- what is told behind `ok`
abbrev pub outcome_of : Tells → List (List ℕ) → Result Reply OutOfForm
outcome_of Nothing words = alone (Ok Done) words
outcome_of Descriptor words = then_read (last_as byte_of words) (λ fd. Ok (Fd fd))
outcome_of Contents words = then_read (behind_count words) (λ behind. then_read (bytes_of behind) (λ bytes. Ok (Bytes bytes)))
outcome_of Length words = then_read (last_as number32_of words) (λ count. Ok (Count count))
outcome_of Kind words = stat_of words
outcome_of Listing words = then_read (behind_count words) (λ behind. then_read (names_of behind) (λ names. Ok (Names names)))

-- a refusal
abbrev pub refusal_of : List ℕ → List (List ℕ) → Result Reply OutOfForm
refusal_of word behind = then_read (why_of word behind) (λ why. Ok (Refused why))

abbrev pub words_said : Tells → List (List ℕ) → Result Reply OutOfForm
words_said told [] = outside
words_said told (word ∷ behind) = if bytes_eq word (codes "ok") then outcome_of told behind else refusal_of word behind

-- what a text tells as a reply to a call that tells this
unfoldable pub reply_said : Tells → List ℕ → Result Reply OutOfForm
reply_said told text = words_said told (words text)
