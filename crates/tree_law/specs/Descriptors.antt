-- The refusals of the calls that name a descriptor.
use Rattle.std.specs.Prelude.{ℕ, Bool, true, false, List, slice_index_or, Option, Some, None, Result, Ok, Err, nat_lt, if◌then◌else◌}
use Rattle.cal_base.specs.Limits.{file_size}
use Rattle.cal_base.specs.declared.identity.Ino.{Ino}
use Rattle.tree_law.specs.declared.descriptor.Descriptor.{Descriptor}
use Rattle.tree_law.specs.declared.mode.Mode.{Mode}
use Rattle.tree_law.specs.declared.mode.Mode.TheVariants.{R, W, Rw}
use Rattle.tree_law.specs.declared.reply.Why.{Why}
use Rattle.tree_law.specs.declared.reply.Why.TheVariants.{BadF, FBig}

abbrev pub reads : Mode → Bool
reads R = true
reads W = false
reads Rw = true

abbrev pub writes : Mode → Bool
writes R = false
writes W = true
writes Rw = true

abbrev pub always : Mode → Bool
always mode = true

-- the file behind a descriptor: EBADF where it isn't open, or not for this
abbrev pub file_behind : (Mode → Bool) → Option Descriptor → Result Ino Why
file_behind allows None = Err BadF
file_behind allows (Some descriptor) = if allows descriptor.mode then Ok descriptor.ino else Err BadF

-- in a client's descriptors: the file of one that is open; that is open for reading; that is open for writing
abbrev pub opened : List (Option Descriptor) → ℕ → Result Ino Why
opened table fd = file_behind always (slice_index_or table fd None)

abbrev pub readable : List (Option Descriptor) → ℕ → Result Ino Why
readable table fd = file_behind reads (slice_index_or table fd None)

abbrev pub writable : List (Option Descriptor) → ℕ → Result Ino Why
writable table fd = file_behind writes (slice_index_or table fd None)

-- a file that is to reach to this end: EFBIG past 262,144
abbrev pub within_limit : ℕ → Result Ino Why → Result Ino Why
within_limit end (Ok ino) = if nat_lt file_size end then Err FBig else Ok ino
within_limit end (Err why) = Err why
