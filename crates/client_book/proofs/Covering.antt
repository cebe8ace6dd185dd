-- A call is covered by what is known exactly where it is by the book.
use Rattle.std.proofs.Common.{◌≡◌, ◌&&◌, ◌||◌, not, ◌∷◌, [], ◌++◌, ◌+◌, ℕ, Bool, true, false, if◌then◌else◌, List, Option, Some, None, Result, Ok, Err, ap, refl, sym, ◌∙◌, nat_le, nat_lt, nat_eq, map, length, find, is_none, is_some, count_by}
use Rattle.std.specs.List.{list_all}
use Rattle.cal_base.specs.declared.identity.Ino.{Ino}
use Rattle.cal_base.specs.declared.directory_entry.EntryKind.{EntryKind}
use Rattle.cal_base.specs.declared.directory_entry.EntryKind.TheVariants.{File as IsFile, Directory as IsDirectory}
use Rattle.client_cache.specs.Covered.{are_met, is_of_file as is_file_number, covered, is_met, is_synced, stays_open, truncate_room, write_room}
use Rattle.client_cache.specs.Holds.{held_number, hold_in}
use Rattle.client_cache.specs.Known.{Known, inode_at, is_flush_of, is_settled, part_of}
use Rattle.client_cache.specs.declared.cached_inode.CachedInode.{CachedInode}
use Rattle.token_kind.specs.Hold.{hold_number}
use Rattle.token_kind.specs.declared.flush.Flush.{Flush}
use Rattle.tree_law.specs.Descriptors.{opened, within_limit, writable}
use Rattle.tree_law.specs.Idle.{opens_it}
use Rattle.tree_law.specs.Needs.{Need, want_of}
use Rattle.tree_law.specs.Part.{Part, Place, end_needs_in, look_needs_in, looked_up_in, needs_in, needs_of_want_in, open_needs_in, stat_needs_in, walk_needs_in}
use Rattle.tree_law.specs.declared.request.Want.{Want}
use Rattle.tree_law.specs.declared.request.Want.TheVariants.{Stat as WantStat, Open as WantOpen, Readdir as WantReaddir, Read as WantRead, Write as WantWrite}
use Rattle.tree_law.specs.declared.call.Call.{Call}
use Rattle.tree_law.specs.declared.call.Call.TheVariants.{Create, Mkdir, Unlink, Rmdir, Rename, Open, Close, Read, Write, Truncate, Stat, Readdir, Fsync}
use Rattle.tree_law.specs.declared.reply.Why.{Why}
use Rattle.token_kind.specs.declared.revoke.Revoke.{Revoke}
use Rattle.cluster_law.specs.Book.{has_room, is_flushing}
use Rattle.cluster_law.specs.Coverage.{is_covered, is_met as is_met_booked, is_of_file, is_synced as is_synced_booked}
use Rattle.cluster_law.specs.Lists.{Each}
use Rattle.cluster_law.specs.Sight.{file_if_any, if_last}
use Rattle.cluster_law.specs.Tokens.{class_numbered, hold_numbered, token_of}
use Rattle.client_book.specs.Booked.{book_of, flushing_of, sight_of}

-- a flush of a file is under way in the book exactly where it is in the cache
found : (ino : Ino) (flushes : List Flush) → is_some (find (λ flush. nat_eq flush.ino.0 ino.0) (map flushing_of flushes)) ≡ not (is_none (find (is_flush_of ino) flushes))
found ino [] = refl
found ino (f ∷ fs) = by (nat_eq f.ino.0 ino.0) (found ino fs)
  where
    by : (b : Bool) → is_some (find (λ flush. nat_eq flush.ino.0 ino.0) (map flushing_of fs)) ≡ not (is_none (find (is_flush_of ino) fs))
        → is_some (if b then Some (flushing_of f) else find (λ flush. nat_eq flush.ino.0 ino.0) (map flushing_of fs)) ≡ not (is_none (if b then Some f else find (is_flush_of ino) fs))
    by true rest = refl
    by false rest = rest

pub settled : (known : Known) (remembered : List Revoke) (ino : Ino) → is_flushing (book_of known remembered) ino ≡ not (is_settled known ino)
settled known remembered ino = found ino known.flushes

-- a need's numbers are those of its token
pub record IsToken (need : Need) : Type 0 where
  pub held : (inode : CachedInode) → held_number inode.holds need.1 ≡ hold_number (hold_in inode.holds (class_numbered need.1))
  pub mode : need.2 ≡ hold_number (hold_numbered need.2)
  pub file : is_file_number need.1 ≡ is_of_file (class_numbered need.1)

each-append : (xs ys : List Need) → Each IsToken xs → Each IsToken ys → Each IsToken (xs ++ ys)
each-append [] ys a b = b
each-append (x ∷ xs) ys a b = (a.0, each-append xs ys a.1 b)

looks : (ino : Ino) (kind : EntryKind) → Each IsToken (look_needs_in ino kind)
looks ino IsDirectory = (record { held = λ h. refl; mode = refl; file = refl }, record {})
looks ino IsFile = record {}

stats : (ino : Ino) (kind : EntryKind) → Each IsToken (stat_needs_in ino kind)
stats ino IsDirectory = record {}
stats ino IsFile = (record { held = λ h. refl; mode = refl; file = refl }, record {})

opens : (ino : Ino) (kind : EntryKind) → Each IsToken (open_needs_in ino kind)
opens ino IsDirectory = record {}
opens ino IsFile = (record { held = λ h. refl; mode = refl; file = refl }, record {})

walks : (part : Part) (at : Option (Result Place Why)) (names : List (List ℕ)) → Each IsToken (walk_needs_in part at names)
walks part at [] = record {}
walks part (Some (Ok place)) (name ∷ names) = each-append (look_needs_in place.0 place.1) _ (looks place.0 place.1) (walks part (looked_up_in part place.0 place.1 name) names)
walks part (Some (Err why)) (name ∷ names) = record {}
walks part None (name ∷ names) = record {}

ends : (needs : Ino → EntryKind → List Need) → ((ino : Ino) (kind : EntryKind) → Each IsToken (needs ino kind)) → (at : Option (Result Place Why)) → Each IsToken (end_needs_in needs at)
ends needs each (Some (Ok place)) = each place.0 place.1
ends needs each (Some (Err why)) = record {}
ends needs each None = record {}

wanted : (part : Part) (want : Option Want) → Each IsToken (needs_of_want_in part want)
wanted part None = record {}
wanted part (Some (WantStat path)) = each-append (walk_needs_in part _ path) _ (walks part _ path) (ends stat_needs_in stats _)
wanted part (Some (WantOpen path)) = each-append (walk_needs_in part _ path) _ (walks part _ path) (ends open_needs_in opens _)
wanted part (Some (WantReaddir path)) = each-append (walk_needs_in part _ path) _ (walks part _ path) (ends look_needs_in looks _)
wanted part (Some (WantRead ino)) = (record { held = λ h. refl; mode = refl; file = refl }, (record { held = λ h. refl; mode = refl; file = refl }, record {}))
wanted part (Some (WantWrite ino)) = (record { held = λ h. refl; mode = refl; file = refl }, (record { held = λ h. refl; mode = refl; file = refl }, record {}))

pub tokens : (known : Known) (call : Call) → Each IsToken (needs_in (part_of known) call)
tokens known call = wanted (part_of known) (want_of known.table call)

-- a need is met by what is known exactly where its token is by the book
unmet : (enough file settled : Bool) → enough && (not file || settled) ≡ enough && not (file && not settled)
unmet false file settled = refl
unmet true true true = refl
unmet true true false = refl
unmet true false settled = refl

pub met : (known : Known) (remembered : List Revoke) (need : Need) → IsToken need → is_met known need ≡ is_met_booked (book_of known remembered) (token_of need)
met known remembered need t =
    let holds = (inode_at known need.0).holds in
    ap (λ n. nat_le need.2 n && (not (is_file_number need.1) || is_settled known need.0)) (t.held (inode_at known need.0))
    ∙ ap (λ m. nat_le m (hold_number (hold_in holds (class_numbered need.1))) && (not (is_file_number need.1) || is_settled known need.0)) t.mode
    ∙ ap (λ b. nat_le (hold_number (hold_numbered need.2)) (hold_number (hold_in holds (class_numbered need.1))) && (not b || is_settled known need.0)) t.file
    ∙ unmet (nat_le (hold_number (hold_numbered need.2)) (hold_number (hold_in holds (class_numbered need.1)))) (is_of_file (class_numbered need.1)) (is_settled known need.0)
    ∙ ap (λ b. nat_le (hold_number (hold_numbered need.2)) (hold_number (hold_in holds (class_numbered need.1))) && not (is_of_file (class_numbered need.1) && b)) (sym (settled known remembered need.0))

pub all-met : (known : Known) (remembered : List Revoke) (needs : List Need) → Each IsToken needs → are_met known needs ≡ list_all (is_met_booked (book_of known remembered)) (map token_of needs)
all-met known remembered [] each = refl
all-met known remembered (need ∷ needs) each = by (is_met known need) (is_met_booked (book_of known remembered) (token_of need)) (met known remembered need each.0) (all-met known remembered needs each.1)
  where
    by : (a b : Bool) → a ≡ b → are_met known needs ≡ list_all (is_met_booked (book_of known remembered)) (map token_of needs)
        → a && are_met known needs ≡ b && list_all (is_met_booked (book_of known remembered)) (map token_of needs)
    by true true e rest = rest
    by false false e rest = refl
    by true false e rest = cc
    by false true e rest = cc

and-true : (b : Bool) → b ≡ b && true
and-true true = refl
and-true false = refl

pub room-written : (known : Known) (remembered : List Revoke) (fd offset : ℕ) (bytes : List ℕ) (file : Result Ino Why) → write_room known offset (length bytes) file ≡ has_room (sight_of known) (book_of known remembered) (Write fd offset bytes) (file_if_any file)
room-written known remembered fd offset bytes (Ok ino) = refl
room-written known remembered fd offset bytes (Err why) = refl

pub room-cut : (known : Known) (remembered : List Revoke) (fd size : ℕ) (file : Result Ino Why) → truncate_room known size file ≡ has_room (sight_of known) (book_of known remembered) (Truncate fd size) (file_if_any file)
room-cut known remembered fd size (Ok ino) = refl
room-cut known remembered fd size (Err why) = refl

none-if : (b : Bool) (ino : Ino) → b ≡ is_none (if b then None else Some ino)
none-if true ino = refl
none-if false ino = refl

stays : (known : Known) (file : Result Ino Why) → stays_open known file ≡ is_none (if_last (sight_of known) (file_if_any file))
stays known (Ok ino) = none-if (nat_lt 1 (count_by (opens_it ino.0) known.table)) ino
stays known (Err why) = refl

not-not : (b : Bool) → b ≡ not (not b)
not-not true = refl
not-not false = refl

syncs : (known : Known) (remembered : List Revoke) (file : Result Ino Why) → is_synced known file ≡ is_synced_booked (sight_of known) (book_of known remembered) (file_if_any file)
syncs known remembered (Ok ino) = ap (λ b. not (inode_at known ino).file.unflushed && b) (not-not (is_settled known ino) ∙ ap not (sym (settled known remembered ino)))
syncs known remembered (Err why) = refl

plain : (known : Known) (remembered : List Revoke) (call : Call) → are_met known (needs_in (part_of known) call) ≡ list_all (is_met_booked (book_of known remembered)) (map token_of (needs_in (part_of known) call)) && true
plain known remembered call = all-met known remembered (needs_in (part_of known) call) (tokens known call) ∙ and-true _

pub covers : (known : Known) (remembered : List Revoke) (call : Call) → covered known call ≡ is_covered (sight_of known) (book_of known remembered) call
unfolding is_covered
covers known remembered (Create path) = refl
covers known remembered (Mkdir path) = refl
covers known remembered (Unlink path) = refl
covers known remembered (Rmdir path) = refl
covers known remembered (Rename path goal) = refl
covers known remembered (Open path mode) = plain known remembered (Open path mode)
covers known remembered (Close fd) = stays known (opened known.table fd)
covers known remembered (Read fd offset len) = plain known remembered (Read fd offset len)
covers known remembered (Write fd offset bytes) =
    ap (λ b. b && write_room known offset (length bytes) (within_limit (offset + length bytes) (writable known.table fd))) (all-met known remembered (needs_in (part_of known) (Write fd offset bytes)) (tokens known (Write fd offset bytes)))
    ∙ ap (λ b. list_all (is_met_booked (book_of known remembered)) (map token_of (needs_in (part_of known) (Write fd offset bytes))) && b) (room-written known remembered fd offset bytes (within_limit (offset + length bytes) (writable known.table fd)))
covers known remembered (Truncate fd size) =
    ap (λ b. b && truncate_room known size (within_limit size (writable known.table fd))) (all-met known remembered (needs_in (part_of known) (Truncate fd size)) (tokens known (Truncate fd size)))
    ∙ ap (λ b. list_all (is_met_booked (book_of known remembered)) (map token_of (needs_in (part_of known) (Truncate fd size))) && b) (room-cut known remembered fd size (within_limit size (writable known.table fd)))
covers known remembered (Stat path) = plain known remembered (Stat path)
covers known remembered (Readdir path) = plain known remembered (Readdir path)
covers known remembered (Fsync fd) = syncs known remembered (opened known.table fd)
