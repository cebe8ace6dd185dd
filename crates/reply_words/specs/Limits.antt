-- Which replies can answer a call.
use Rattle.std.specs.Prelude.{ℕ, ◌≤◌, List, All, ⊤}
use Rattle.tree_law.specs.Path.{IsName}
use Rattle.tree_law.specs.declared.call.Call.{Call}
use Rattle.tree_law.specs.declared.call.Call.TheVariants.{Create, Mkdir, Unlink, Rmdir, Rename, Open, Close, Read, Write, Truncate, Stat, Readdir, Fsync}
use Rattle.tree_law.specs.declared.reply.Reply.{Reply}
use Rattle.tree_law.specs.declared.reply.Reply.TheVariants.{Done, Fd, Bytes, Count, File, Dir, Names, Refused}
use Rattle.tree_law.specs.declared.reply.Why.{Why}
use Rattle.tree_law.specs.declared.reply.Why.TheVariants.{Exist, NoEnt, NotDir, IsDir, NotEmpty, Inval, Busy, MFile, BadF, FBig, NoSpace, NoInode, DirFull}
use Rattle.reply_words.specs.declared.tells.Tells.{Tells}
use Rattle.reply_words.specs.declared.tells.Tells.TheVariants.{Nothing, Descriptor, Contents, Length, Kind, Listing}

-- what a call tells
abbrev pub told_by : Call → Tells
told_by (Create path) = Nothing
told_by (Mkdir path) = Nothing
told_by (Unlink path) = Nothing
told_by (Rmdir path) = Nothing
told_by (Rename from to) = Nothing
told_by (Open path mode) = Descriptor
told_by (Close fd) = Nothing
told_by (Read fd offset count) = Contents
told_by (Write fd offset bytes) = Length
told_by (Truncate fd size) = Nothing
told_by (Stat path) = Kind
told_by (Readdir path) = Listing
told_by (Fsync fd) = Nothing

-- the counts of a refusal are numbers of 16 bits
abbrev pub IsWhy : Why → Type 0
IsWhy (NoSpace free needed) = (free ≤ 65535) × (needed ≤ 65535)
IsWhy Exist = ⊤
IsWhy NoEnt = ⊤
IsWhy NotDir = ⊤
IsWhy IsDir = ⊤
IsWhy NotEmpty = ⊤
IsWhy Inval = ⊤
IsWhy Busy = ⊤
IsWhy MFile = ⊤
IsWhy BadF = ⊤
IsWhy FBig = ⊤
IsWhy NoInode = ⊤
IsWhy DirFull = ⊤

-- bytes
abbrev pub AreBytes : List ℕ → Type 0
AreBytes bytes = All (λ byte. byte ≤ 255) bytes

-- a reply that tells this, or a refusal: a descriptor has 8 bits, counts and sizes have 32
abbrev pub IsReplyTelling : Tells → Reply → Type 0
IsReplyTelling told (Refused why) = IsWhy why
IsReplyTelling Nothing Done = ⊤
IsReplyTelling Descriptor (Fd fd) = fd ≤ 255
IsReplyTelling Contents (Bytes bytes) = AreBytes bytes
IsReplyTelling Length (Count count) = count ≤ 4294967295
IsReplyTelling Kind (File size) = size ≤ 4294967295
IsReplyTelling Kind Dir = ⊤
IsReplyTelling Listing (Names names) = All IsName names
IsReplyTelling told reply = ⊥

-- a reply that can answer this call
abbrev pub IsReplyOf : Call → Reply → Type 0
IsReplyOf call reply = IsReplyTelling (told_by call) reply
