-- How a reply is written in the text of a run.
use Rattle.std.specs.Prelude.{ℕ, ◌+◌, ◌/◌, ◌%◌, List, [], ◌∷◌, ◌++◌, length, nat_lt, if◌then◌else◌, codes}
use Rattle.std.specs.Fmt.{decimal}
use Rattle.tree_law.specs.declared.reply.Reply.{Reply}
use Rattle.tree_law.specs.declared.reply.Reply.TheVariants.{Done, Fd, Bytes, Count, File, Dir, Names, Refused}
use Rattle.tree_law.specs.declared.reply.Why.{Why}
use Rattle.tree_law.specs.declared.reply.Why.TheVariants.{Exist, NoEnt, NotDir, IsDir, NotEmpty, Inval, Busy, MFile, BadF, FBig, NoSpace, NoInode, DirFull}

-- a hexadecimal digit
abbrev pub hex_digit : ℕ → ℕ
hex_digit nibble = if nat_lt nibble 10 then 48 + nibble else 87 + nibble

-- two digits for each byte, the high half first
abbrev pub hex_text : List ℕ → List ℕ
hex_text [] = []
hex_text (byte ∷ bytes) = hex_digit (byte / 16) ∷ hex_digit (byte % 16) ∷ hex_text bytes

-- each word after a space
abbrev pub spaced : List (List ℕ) → List ℕ
spaced [] = []
spaced (word ∷ words) = 32 ∷ (word ++ spaced words)

-- why a call is refused
abbrev pub why_text : Why → List ℕ
why_text Exist = codes "EEXIST"
why_text NoEnt = codes "ENOENT"
why_text NotDir = codes "ENOTDIR"
why_text IsDir = codes "EISDIR"
why_text NotEmpty = codes "ENOTEMPTY"
why_text Inval = codes "EINVAL"
why_text Busy = codes "EBUSY"
why_text MFile = codes "EMFILE"
why_text BadF = codes "EBADF"
why_text FBig = codes "EFBIG"
why_text (NoSpace free needed) = codes "NOSPACE " ++ decimal free ++ codes " " ++ decimal needed
why_text NoInode = codes "NOINODE"
why_text DirFull = codes "DIRFULL"

-- the count of bytes, and then the bytes in hexadecimal
abbrev pub bytes_text : List ℕ → List ℕ
bytes_text [] = codes "ok 0"
bytes_text (byte ∷ bytes) = codes "ok " ++ decimal (length (byte ∷ bytes)) ++ codes " " ++ hex_text (byte ∷ bytes)

-- how a reply is written
abbrev pub reply_text : Reply → List ℕ
reply_text Done = codes "ok"
reply_text (Fd fd) = codes "ok " ++ decimal fd
reply_text (Bytes bytes) = bytes_text bytes
reply_text (Count count) = codes "ok " ++ decimal count
reply_text (File size) = codes "ok file " ++ decimal size
reply_text Dir = codes "ok dir"
reply_text (Names names) = codes "ok " ++ decimal (length names) ++ spaced names
reply_text (Refused why) = why_text why
