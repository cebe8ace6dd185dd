-- The replies of changes, and the bytes that spell each.
use Rattle.std.specs.Prelude.{◌<◌, ◌^◌, ◌∷◌, ◌++◌, [], ℕ, List}
use Rattle.cal_fields.specs.BigEndian.{big_endian}
use Rattle.tree_law.specs.declared.reply.Reply.{Reply}
use Rattle.tree_law.specs.declared.reply.Reply.TheVariants.{Done, Fd, Bytes, Count, File, Dir, Names, Refused}
use Rattle.tree_law.specs.declared.reply.Why.{Why}
use Rattle.tree_law.specs.declared.reply.Why.TheVariants.{Exist, NoEnt, NotDir, IsDir, NotEmpty, Inval, Busy, MFile, BadF, FBig, NoSpace, NoInode, DirFull}

-- a change is refused so: for what stands, or doesn't stand, on its paths, or for want of room
abbrev pub IsChangeWhy : Why → Type 0
IsChangeWhy Exist = Unit {0}
IsChangeWhy NoEnt = Unit {0}
IsChangeWhy NotDir = Unit {0}
IsChangeWhy IsDir = Unit {0}
IsChangeWhy NotEmpty = Unit {0}
IsChangeWhy Inval = Unit {0}
IsChangeWhy Busy = Unit {0}
IsChangeWhy MFile = ⊥
IsChangeWhy BadF = ⊥
IsChangeWhy FBig = ⊥
IsChangeWhy (NoSpace free needed) = (free < 2 ^ 16) × (needed < 2 ^ 16)
IsChangeWhy NoInode = Unit {0}
IsChangeWhy DirFull = Unit {0}

-- a change is answered so
abbrev pub IsChangeReply : Reply → Type 0
IsChangeReply Done = Unit {0}
IsChangeReply (Fd fd) = ⊥
IsChangeReply (Bytes bytes) = ⊥
IsChangeReply (Count count) = ⊥
IsChangeReply (File size) = ⊥
IsChangeReply Dir = ⊥
IsChangeReply (Names names) = ⊥
IsChangeReply (Refused why) = IsChangeWhy why

-- a byte for the refusal, and for want of blocks the free and the needed ones, two bytes each
abbrev pub why_bytes : Why → List ℕ
why_bytes NoEnt = 1 ∷ []
why_bytes NotDir = 2 ∷ []
why_bytes IsDir = 3 ∷ []
why_bytes Exist = 4 ∷ []
why_bytes Inval = 5 ∷ []
why_bytes NotEmpty = 6 ∷ []
why_bytes Busy = 7 ∷ []
why_bytes (NoSpace free needed) = 11 ∷ (big_endian 2 free ++ big_endian 2 needed)
why_bytes NoInode = 12 ∷ []
why_bytes DirFull = 13 ∷ []
why_bytes MFile = []
why_bytes BadF = []
why_bytes FBig = []

-- bytes of the longest reply of a change
abbrev pub longest_reply : ℕ
longest_reply = 5

-- a change that is carried out is a 0; what is no reply of a change has no bytes
abbrev pub reply_bytes : Reply → List ℕ
reply_bytes Done = 0 ∷ []
reply_bytes (Fd fd) = []
reply_bytes (Bytes bytes) = []
reply_bytes (Count count) = []
reply_bytes (File size) = []
reply_bytes Dir = []
reply_bytes (Names names) = []
reply_bytes (Refused why) = why_bytes why
