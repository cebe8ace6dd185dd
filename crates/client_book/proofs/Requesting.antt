-- A request that a client makes for its outstanding call has a spelling, and is of that call.
use Rattle.std.proofs.Common.{◌≡◌, ◌+◌, ◌<◌, ◌^◌, ℕ, Bool, true, false, if◌then◌else◌, Option, Some, None, Result, Ok, Err, length, nat_eq, nat_lt, option_map, slice_index_or, refl, subst, rules}
use Rattle.cal_base.specs.Limits.{file_size, inodes}
use Rattle.cal_base.specs.declared.identity.Ino.{Ino}
use Rattle.client_cache.proofs.KnownLemmas.{open_inside}
use Rattle.client_cache.specs.IsKnown.{IsKnown, IsOpenFile}
use Rattle.client_cache.specs.Known.{Known}
use Rattle.message.specs.Range.{IsNumber, IsWant}
use Rattle.message.specs.declared.message.Message.{Message}
use Rattle.message.specs.declared.message.Message.TheVariants.{Acquire, Change as ChangeMessage}
use Rattle.tree_law.specs.Descriptors.{file_behind, readable, reads, within_limit, writable, writes}
use Rattle.tree_law.specs.Needs.{want_of, want_open, want_read, want_write}
use Rattle.tree_law.specs.Path.{IsPath}
use Rattle.tree_law.specs.Tree.{least_unused}
use Rattle.tree_law.specs.declared.call.Call.{Call}
use Rattle.tree_law.specs.declared.call.Call.TheVariants.{Create, Mkdir, Unlink, Rmdir, Rename, Open, Close, Read, Write, Truncate, Stat, Readdir, Fsync}
use Rattle.tree_law.specs.declared.descriptor.Descriptor.{Descriptor}
use Rattle.tree_law.specs.declared.mode.Mode.{Mode}
use Rattle.tree_law.specs.declared.reply.Why.{Why}
use Rattle.tree_law.specs.declared.reply.Why.TheVariants.{BadF, FBig}
use Rattle.tree_law.specs.declared.request.Want.{Want}
use Rattle.cluster_law.specs.ClientState.{acquire_of, request_of}
use Rattle.client_book.specs.Booked.{sight_of}
use Rattle.client_book.specs.Sound.{IsCalling, IsRequestOf}

-- a file that a call names is of the volume
abbrev IsInside : Result Ino Why → Type 0
IsInside (Ok ino) = ino.0 < inodes
IsInside (Err why) = Unit {0}

-- the file behind a descriptor is of the volume
behind-inside : (allows : Mode → Bool) (o : Option Descriptor) → IsOpenFile o → IsInside (file_behind allows o)
behind-inside allows None inside = record {}
behind-inside allows (Some descriptor) inside = by (allows descriptor.mode)
  where
    by : (b : Bool) → IsInside (if b then Ok descriptor.ino else Err BadF)
    by true = inside
    by false = record {}

-- so it is where the call stays within the limit of a file
limit-inside : (end : ℕ) (file : Result Ino Why) → IsInside file → IsInside (within_limit end file)
limit-inside end (Err why) inside = record {}
limit-inside end (Ok ino) inside = by (nat_lt file_size end)
  where
    by : (b : Bool) → IsInside (if b then Err FBig else Ok ino)
    by true = record {}
    by false = inside

-- what is wanted has a spelling, if anything is
abbrev IsWanted : Option Want → Type 0
IsWanted None = Unit {0}
IsWanted (Some want) = IsWant want

-- what `open` wants has a path
opening-wanted : (fd : Option ℕ) (path : _) → IsPath path → IsWanted (want_open fd path)
opening-wanted None path is = record {}
opening-wanted (Some fd) path is = is

-- what `read` wants is of the volume
reading-wanted : (file : Result Ino Why) → IsInside file → IsWanted (want_read file)
reading-wanted (Err why) inside = record {}
reading-wanted (Ok ino) inside = inside

-- so is what `write` and `truncate` want
writing-wanted : (file : Result Ino Why) → IsInside file → IsWanted (want_write file)
writing-wanted (Err why) inside = record {}
writing-wanted (Ok ino) inside = inside

-- a number is itself
same-number : (n : ℕ) → nat_eq n n ≡ true
same-number n = search rules

-- what is asked for is of the call
acquire-spelled : (number : ℕ) (o : Option Want) (m : Message) → IsNumber number → IsWanted o → option_map (acquire_of number) o ≡ Some m → IsRequestOf number m
acquire-spelled number None m from wanted e = absurd (cc)
acquire-spelled number (Some want) m from wanted e = subst (λ (x : Message). IsRequestOf number x) (given e) (record { spelled = (from, wanted); numbered = same-number number })
  where
    given : Some (Acquire number want) ≡ Some m → Acquire number want ≡ m
    given e = cc

-- a change is sent with its paths
change-spelled : (number : ℕ) (call : Call) (m : Message) → IsRequestOf number (ChangeMessage number call) → Some (ChangeMessage number call) ≡ Some m → IsRequestOf number m
change-spelled number call m is e = subst (λ (x : Message). IsRequestOf number x) (given e) is
  where
    given : Some (ChangeMessage number call) ≡ Some m → ChangeMessage number call ≡ m
    given e = cc

-- the request for a call has a spelling, and is of that call
pub request-spelled : (known : Known) (number : ℕ) (call : Call) (m : Message) → IsKnown known → IsCalling number call → number < 2 ^ 64 → request_of (sight_of known) number call ≡ Some m → IsRequestOf number m
request-spelled known number (Create path) m is calling fits e = change-spelled number (Create path) m (record { spelled = ((calling.from_one, fits), (refl, calling.spelled)); numbered = same-number number }) e
request-spelled known number (Mkdir path) m is calling fits e = change-spelled number (Mkdir path) m (record { spelled = ((calling.from_one, fits), (refl, calling.spelled)); numbered = same-number number }) e
request-spelled known number (Unlink path) m is calling fits e = change-spelled number (Unlink path) m (record { spelled = ((calling.from_one, fits), (refl, calling.spelled)); numbered = same-number number }) e
request-spelled known number (Rmdir path) m is calling fits e = change-spelled number (Rmdir path) m (record { spelled = ((calling.from_one, fits), (refl, calling.spelled)); numbered = same-number number }) e
request-spelled known number (Rename path goal) m is calling fits e = change-spelled number (Rename path goal) m (record { spelled = ((calling.from_one, fits), (refl, calling.spelled)); numbered = same-number number }) e
request-spelled known number (Open path mode) m is calling fits e = acquire-spelled number (want_open (least_unused known.table) path) m (calling.from_one, fits) (opening-wanted (least_unused known.table) path calling.spelled) e
request-spelled known number (Close fd) m is calling fits e = absurd (cc)
request-spelled known number (Read fd offset len) m is calling fits e =
    acquire-spelled number (want_read (readable known.table fd)) m (calling.from_one, fits) (reading-wanted (readable known.table fd) (behind-inside reads (slice_index_or known.table fd None) (open_inside known fd is))) e
request-spelled known number (Write fd offset bytes) m is calling fits e =
    acquire-spelled number (want_write (within_limit (offset + length bytes) (writable known.table fd))) m (calling.from_one, fits)
    (writing-wanted (within_limit (offset + length bytes) (writable known.table fd)) (limit-inside (offset + length bytes) (writable known.table fd) (behind-inside writes (slice_index_or known.table fd None) (open_inside known fd is)))) e
request-spelled known number (Truncate fd size) m is calling fits e =
    acquire-spelled number (want_write (within_limit size (writable known.table fd))) m (calling.from_one, fits)
    (writing-wanted (within_limit size (writable known.table fd)) (limit-inside size (writable known.table fd) (behind-inside writes (slice_index_or known.table fd None) (open_inside known fd is)))) e
request-spelled known number (Stat path) m is calling fits e = acquire-spelled number (want_of known.table (Stat path)) m (calling.from_one, fits) calling.spelled e
request-spelled known number (Readdir path) m is calling fits e = acquire-spelled number (want_of known.table (Readdir path)) m (calling.from_one, fits) calling.spelled e
request-spelled known number (Fsync fd) m is calling fits e = absurd (cc)
