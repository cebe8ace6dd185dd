-- A part of a tree, as a client has one: some directories with their entries, the bytes or the sizes of some
-- files, and the client's descriptors. What a part answers by itself is what the whole tree answers.
use Rattle.std.specs.Prelude.{◌+◌, ℕ, nat_eq, List, [], ◌∷◌, ◌++◌, length, map, find, Option, Some, None, option_map, Result, Ok, Err}
use Rattle.cal_base.specs.declared.directory_entry.DirectoryEntry.{DirectoryEntry}
use Rattle.cal_base.specs.declared.directory_entry.EntryKind.{EntryKind}
use Rattle.cal_base.specs.declared.directory_entry.EntryKind.TheVariants.{File as IsFile, Directory as IsDirectory}
use Rattle.cal_base.specs.declared.identity.Ino.{Ino}
use Rattle.std.specs.Cmp.Lexicographic.{pointwise}
use Rattle.file_bytes.specs.Bytes.{read_at}
use Rattle.tree_law.specs.Tree.{root, least_unused}
use Rattle.tree_law.specs.Descriptors.{opened, readable, writable, within_limit}
use Rattle.tree_law.specs.Answer.{made, counted}
use Rattle.tree_law.specs.Needs.{Need, names_read, read_needs, write_needs, want_of}
use Rattle.tree_law.specs.declared.call.Call.{Call}
use Rattle.tree_law.specs.declared.call.Call.TheVariants.{Open, Close, Read, Write, Truncate, Stat, Readdir, Fsync}
use Rattle.tree_law.specs.declared.descriptor.Descriptor.{Descriptor}
use Rattle.tree_law.specs.declared.reply.Reply.{Reply}
use Rattle.tree_law.specs.declared.reply.Reply.TheVariants.{Fd, Bytes, File, Dir, Names as Listed, Refused}
use Rattle.tree_law.specs.declared.reply.Why.{Why}
use Rattle.tree_law.specs.declared.reply.Why.TheVariants.{NoEnt, NotDir, IsDir, MFile}
use Rattle.tree_law.specs.declared.request.Want.{Want}
use Rattle.tree_law.specs.declared.request.Want.TheVariants.{Stat as WantStat, Open as WantOpen, Readdir as WantReaddir, Read as WantRead, Write as WantWrite}

-- of a directory its entries, of a file its bytes or its size, each where the part has it; and the
-- client's descriptors
pub record Part : Type 0 where
  pub entries : Ino → Option (List DirectoryEntry)
  pub contents : Ino → Option (List ℕ)
  pub size : Ino → Option ℕ
  pub table : List (Option Descriptor)

-- an inode, and what it is
abbrev pub Place : Type 0
Place = Ino × EntryKind

abbrev pub place_of : Option DirectoryEntry → Result Place Why
place_of (Some entry) = Ok (entry.ino, entry.kind)
place_of None = Err NoEnt

-- a name among the entries of a directory
abbrev pub found_in : List DirectoryEntry → List ℕ → Result Place Why
found_in entries name = place_of (find (λ entry. pointwise nat_eq entry.name name) entries)

-- a name looked up in an inode; none where the part lacks the entries of a directory
abbrev pub looked_up_in : Part → Ino → EntryKind → List ℕ → Option (Result Place Why)
looked_up_in part ino IsDirectory name = option_map (λ entries. found_in entries name) (part.entries ino)
looked_up_in part ino IsFile name = Some (Err NotDir)

abbrev pub stepped_in : Part → Option (Result Place Why) → List ℕ → Option (Result Place Why)
stepped_in part (Some (Ok place)) name = looked_up_in part place.0 place.1 name
stepped_in part (Some (Err why)) name = Some (Err why)
stepped_in part None name = None

abbrev pub walked_in : Part → Option (Result Place Why) → List (List ℕ) → Option (Result Place Why)
walked_in part at [] = at
walked_in part at (name ∷ names) = walked_in part (stepped_in part at name) names

abbrev pub root_place : Option (Result Place Why)
root_place = Some (Ok (root, IsDirectory))

-- the inode that a path names, or the first refusal; none where the part lacks entries on the way
abbrev pub resolved_in : Part → List (List ℕ) → Option (Result Place Why)
resolved_in part path = walked_in part root_place path

abbrev pub status_in : Part → Ino → EntryKind → Option Reply
status_in part ino IsDirectory = Some Dir
status_in part ino IsFile = option_map (λ size. File size) (part.size ino)

abbrev pub listing_in : Part → Ino → EntryKind → Option Reply
listing_in part ino IsDirectory = option_map (λ entries. Listed (map (λ entry. entry.name) entries)) (part.entries ino)
listing_in part ino IsFile = Some (Refused NotDir)

abbrev pub opened_in : ℕ → EntryKind → Option Reply
opened_in fd IsDirectory = Some (Refused IsDir)
opened_in fd IsFile = Some (Fd fd)

abbrev pub told_in : (Ino → EntryKind → Option Reply) → Option (Result Place Why) → Option Reply
told_in told (Some (Ok place)) = told place.0 place.1
told_in told (Some (Err why)) = Some (Refused why)
told_in told None = None

abbrev pub opening_in : Option ℕ → Option (Result Place Why) → Option Reply
opening_in None at = Some (Refused MFile)
opening_in (Some fd) at = told_in (λ ino kind. opened_in fd kind) at

abbrev pub bytes_in : Part → ℕ → ℕ → Result Ino Why → Option Reply
bytes_in part offset count (Ok ino) = option_map (λ contents. Bytes (read_at contents offset count)) (part.contents ino)
bytes_in part offset count (Err why) = Some (Refused why)

-- the answer that the part gives by itself; none where it lacks something, and to a change of the tree
abbrev pub answer_in : Part → Call → Option Reply
answer_in part (Open path mode) = opening_in (least_unused part.table) (resolved_in part path)
answer_in part (Close fd) = Some (made (opened part.table fd))
answer_in part (Read fd offset len) = bytes_in part offset len (readable part.table fd)
answer_in part (Write fd offset bytes) = Some (counted (length bytes) (within_limit (offset + length bytes) (writable part.table fd)))
answer_in part (Truncate fd size) = Some (made (within_limit size (writable part.table fd)))
answer_in part (Stat path) = told_in (status_in part) (resolved_in part path)
answer_in part (Readdir path) = told_in (listing_in part) (resolved_in part path)
answer_in part (Fsync fd) = Some (made (opened part.table fd))
answer_in part _ = None

abbrev pub look_needs_in : Ino → EntryKind → List Need
look_needs_in ino IsDirectory = names_read ino ∷ []
look_needs_in ino IsFile = []

abbrev pub stat_needs_in : Ino → EntryKind → List Need
stat_needs_in ino IsDirectory = []
stat_needs_in ino IsFile = (ino, 3, 1) ∷ []

abbrev pub open_needs_in : Ino → EntryKind → List Need
open_needs_in ino IsDirectory = []
open_needs_in ino IsFile = (ino, 4, 1) ∷ []

-- Names Read of each directory in which a name is looked up, to the first whose entries the part lacks
abbrev pub walk_needs_in : Part → Option (Result Place Why) → List (List ℕ) → List Need
walk_needs_in part at [] = []
walk_needs_in part (Some (Ok place)) (name ∷ names) = look_needs_in place.0 place.1 ++ walk_needs_in part (looked_up_in part place.0 place.1 name) names
walk_needs_in part (Some (Err why)) (name ∷ names) = []
walk_needs_in part None (name ∷ names) = []

abbrev pub end_needs_in : (Ino → EntryKind → List Need) → Option (Result Place Why) → List Need
end_needs_in needs (Some (Ok place)) = needs place.0 place.1
end_needs_in needs (Some (Err why)) = []
end_needs_in needs None = []

abbrev pub path_needs_in : (Ino → EntryKind → List Need) → Part → List (List ℕ) → List Need
path_needs_in needs part path = walk_needs_in part root_place path ++ end_needs_in needs (resolved_in part path)

abbrev pub needs_of_want_in : Part → Option Want → List Need
needs_of_want_in part (Some (WantStat path)) = path_needs_in stat_needs_in part path
needs_of_want_in part (Some (WantOpen path)) = path_needs_in open_needs_in part path
needs_of_want_in part (Some (WantReaddir path)) = path_needs_in look_needs_in part path
needs_of_want_in part (Some (WantRead ino)) = read_needs ino
needs_of_want_in part (Some (WantWrite ino)) = write_needs ino
needs_of_want_in part None = []

-- the needs of a call as far as the part shows them
abbrev pub needs_in : Part → Call → List Need
needs_in part call = needs_of_want_in part (want_of part.table call)
