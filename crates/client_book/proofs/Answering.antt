-- What is known changes as the book does, where a flush is done and where a call is answered.
use Rattle.std.proofs.Common.{◌≡◌, ◌&&◌, not, ◌∷◌, [], ◌+◌, ◌<◌, ℕ, Bool, true, false, if◌then◌else◌, List, Option, Some, None, Result, Ok, Err, ap, refl, sym, ◌∙◌, nat_eq, map, filter, length, slice_set, slice_index_or}
use Rattle.std.proofs.lemmas.Bool.{eqb-true}
use Rattle.cal_base.specs.declared.identity.Ino.{Ino}
use Rattle.client_cache.specs.AfterAnswer.{after_answer, with_change, with_file, with_open}
use Rattle.client_cache.specs.Changes.{after_flushed, flush_left, flush_numbered, flushed_inode, is_numbered, left_of, left_with, without_flush as without_known}
use Rattle.client_cache.specs.Covered.{target_of}
use Rattle.client_cache.specs.Holds.{hold_in}
use Rattle.client_cache.specs.Known.{Known, inode_at, nothing_known, part_of}
use Rattle.client_cache.specs.declared.cached_inode.CachedInode.{CachedInode}
use Rattle.delayed_write.specs.Delayed.{Delayed, after_truncate, after_write}
use Rattle.delayed_write.specs.Marks.{no_marks}
use Rattle.token_kind.specs.declared.«class».Class.{Class}
use Rattle.token_kind.specs.declared.«class».Class.TheVariants.{Data, Attr}
use Rattle.token_kind.specs.declared.flush.Flush.{Flush}
use Rattle.token_kind.specs.declared.hold.Hold.{Hold}
use Rattle.tree_law.specs.Descriptors.{within_limit, writable}
use Rattle.tree_law.specs.Part.{resolved_in}
use Rattle.tree_law.specs.Tree.{least_unused}
use Rattle.tree_law.specs.declared.call.Call.{Call}
use Rattle.tree_law.specs.declared.call.Call.TheVariants.{Create, Mkdir, Unlink, Rmdir, Rename, Open, Close, Read, Write, Truncate, Stat, Readdir, Fsync}
use Rattle.tree_law.specs.declared.mode.Mode.{Mode}
use Rattle.tree_law.specs.declared.reply.Why.{Why}
use Rattle.token_kind.specs.declared.revoke.Revoke.{Revoke}
use Rattle.cluster_law.specs.Book.{marks_after, with_hold, with_marks, without_flush}
use Rattle.cluster_law.specs.Sight.{altered, file_if_any}
use Rattle.cluster_law.specs.Tokens.{same_class}
use Rattle.client_book.specs.Booked.{book_of, flushing_of, sight_of}
use Rattle.client_book.proofs.Stating.{left-in, left-marks, put-at, same-books}

-- the holds and the marks where one inode is another
holds-at : (known : Known) (at i : Ino) (k : Class) (inode : CachedInode) (f : Class → Hold) → at.0 < length known.inodes → hold_in inode.holds k ≡ f k
    → hold_in (slice_index_or (slice_set known.inodes at.0 inode) i.0 nothing_known).holds k ≡ (if nat_eq i.0 at.0 then f k else hold_in (inode_at known i).holds k)
holds-at known at i k inode f lt set = ap (λ x. hold_in x.holds k) (put-at known at i inode lt) ∙ by (nat_eq i.0 at.0)
  where
    by : (b : Bool) → hold_in (if b then inode else inode_at known i).holds k ≡ (if b then f k else hold_in (inode_at known i).holds k)
    by true = set
    by false = refl

marks-at : (known : Known) (at i : Ino) (inode : CachedInode) → at.0 < length known.inodes
    → (slice_index_or (slice_set known.inodes at.0 inode) i.0 nothing_known).file.marks ≡ (if nat_eq i.0 at.0 then inode.file.marks else (inode_at known i).file.marks)
marks-at known at i inode lt = ap (λ x. x.file.marks) (put-at known at i inode lt) ∙ by (nat_eq i.0 at.0)
  where
    by : (b : Bool) → (if b then inode else inode_at known i).file.marks ≡ (if b then inode.file.marks else (inode_at known i).file.marks)
    by true = refl
    by false = refl

-- a flush is done
others : (number : ℕ) (flushes : List Flush) → map flushing_of (filter (λ flush. not (is_numbered number flush)) flushes) ≡ filter (λ other. not (nat_eq other.number number)) (map flushing_of flushes)
others number [] = refl
others number (f ∷ fs) = by (nat_eq f.number number) (others number fs)
  where
    by : (b : Bool) → map flushing_of (filter (λ flush. not (is_numbered number flush)) fs) ≡ filter (λ other. not (nat_eq other.number number)) (map flushing_of fs)
        → map flushing_of (if not b then f ∷ filter (λ flush. not (is_numbered number flush)) fs else filter (λ flush. not (is_numbered number flush)) fs)
        ≡ (if not b then flushing_of f ∷ filter (λ other. not (nat_eq other.number number)) (map flushing_of fs) else filter (λ other. not (nat_eq other.number number)) (map flushing_of fs))
    by true rest = rest
    by false rest = ap (λ xs. flushing_of f ∷ xs) rest

left : (known : Known) (remembered : List Revoke) (flush : Flush) → flush.ino.0 < length known.inodes → (inode_at known flush.ino).file.marks ≡ no_marks
    → book_of (flush_left known flush.number (left_of flush)) (filter (λ revoke. not (nat_eq revoke.ino.0 flush.ino.0)) remembered) ≡ without_flush (book_of known remembered) (flushing_of flush)
left known remembered flush lt clear = same-books _ _ holds (others flush.number known.flushes) refl marks refl
  where
    inode : CachedInode
    inode = flushed_inode flush.leave_data flush.leave_attr (inode_at known flush.ino)

    holds : (i : Ino) (k : Class) → hold_in (slice_index_or (slice_set known.inodes flush.ino.0 inode) i.0 nothing_known).holds k ≡ with_hold (with_hold (book_of known remembered).holds flush.ino Data flush.leave_data) flush.ino Attr flush.leave_attr i k
    holds i k =
        holds-at known flush.ino i k inode (λ k. if same_class k Attr then flush.leave_attr else if same_class k Data then flush.leave_data else hold_in (inode_at known flush.ino).holds k) lt
        (left-in Attr k flush.leave_attr (left_with Data flush.leave_data (inode_at known flush.ino)) ∙ ap (λ hold. if same_class k Attr then flush.leave_attr else hold) (left-in Data k flush.leave_data (inode_at known flush.ino)))
        ∙ by (nat_eq i.0 flush.ino.0) refl
      where
        by : (b : Bool) → nat_eq i.0 flush.ino.0 ≡ b
            → (if b then (if same_class k Attr then flush.leave_attr else if same_class k Data then flush.leave_data else hold_in (inode_at known flush.ino).holds k) else hold_in (inode_at known i).holds k)
            ≡ (if b && same_class k Attr then flush.leave_attr else if b && same_class k Data then flush.leave_data else hold_in (inode_at known i).holds k)
        by true e = ap (λ n. if same_class k Attr then flush.leave_attr else if same_class k Data then flush.leave_data else hold_in (slice_index_or known.inodes n nothing_known).holds k) (sym (eqb-true i.0 flush.ino.0 e))
        by false e = refl

    marks : (i : Ino) → (slice_index_or (slice_set known.inodes flush.ino.0 inode) i.0 nothing_known).file.marks ≡ (inode_at known i).file.marks
    marks i = marks-at known flush.ino i inode lt ∙ by (nat_eq i.0 flush.ino.0) refl
      where
        stays : inode.file.marks ≡ (inode_at known flush.ino).file.marks
        stays = left-marks Attr flush.leave_attr (left_with Data flush.leave_data (inode_at known flush.ino)) (record {}) ∙ left-marks Data flush.leave_data (inode_at known flush.ino) clear

        by : (b : Bool) → nat_eq i.0 flush.ino.0 ≡ b → (if b then inode.file.marks else (inode_at known i).file.marks) ≡ (inode_at known i).file.marks
        by true e = stays ∙ ap (λ n. (slice_index_or known.inodes n nothing_known).file.marks) (sym (eqb-true i.0 flush.ino.0 e))
        by false e = refl

pub done : (known : Known) (remembered : List Revoke) (flush : Flush) → flush_numbered known flush.number ≡ Some flush → flush.ino.0 < length known.inodes → (inode_at known flush.ino).file.marks ≡ no_marks
    → book_of (after_flushed known flush.number) (filter (λ revoke. not (nat_eq revoke.ino.0 flush.ino.0)) remembered) ≡ without_flush (book_of known remembered) (flushing_of flush)
done known remembered flush found lt clear =
    ap (λ o. book_of (without_known known flush.number o) (filter (λ revoke. not (nat_eq revoke.ino.0 flush.ino.0)) remembered)) found ∙ left known remembered flush lt clear

-- a call is answered
opens : (known : Known) (remembered : List Revoke) (mode : Mode) (fd : Option ℕ) (file : Option Ino) → book_of (with_open known mode fd file) remembered ≡ book_of known remembered
opens known remembered mode (Some fd) (Some ino) = refl
opens known remembered mode (Some fd) None = refl
opens known remembered mode None file = refl

changes : (known : Known) (remembered : List Revoke) (call : Call) (change : Delayed → Delayed) (file : Result Ino Why) → ((ino : Ino) → file ≡ Ok ino → ino.0 < length known.inodes)
    → ((ino : Ino) → (change (inode_at known ino).file).marks ≡ marks_after (sight_of known) (book_of known remembered) call ino)
    → book_of (with_change known change file) remembered ≡ with_marks (sight_of known) (book_of known remembered) call (file_if_any file)
changes known remembered call change (Err why) lt marked = refl
changes known remembered call change (Ok ino) lt marked = same-books _ _ holds refl refl marks refl
  where
    inode : CachedInode
    inode = with_file (inode_at known ino) (change (inode_at known ino).file)

    holds : (i : Ino) (k : Class) → hold_in (slice_index_or (slice_set known.inodes ino.0 inode) i.0 nothing_known).holds k ≡ hold_in (inode_at known i).holds k
    holds i k = holds-at known ino i k inode (λ k. hold_in (inode_at known ino).holds k) (lt ino refl) refl ∙ by (nat_eq i.0 ino.0) refl
      where
        by : (b : Bool) → nat_eq i.0 ino.0 ≡ b → (if b then hold_in (inode_at known ino).holds k else hold_in (inode_at known i).holds k) ≡ hold_in (inode_at known i).holds k
        by true e = ap (λ n. hold_in (slice_index_or known.inodes n nothing_known).holds k) (sym (eqb-true i.0 ino.0 e))
        by false e = refl

    marks : (i : Ino) → (slice_index_or (slice_set known.inodes ino.0 inode) i.0 nothing_known).file.marks ≡ (if nat_eq i.0 ino.0 then marks_after (sight_of known) (book_of known remembered) call ino else (inode_at known i).file.marks)
    marks i = marks-at known ino i inode (lt ino refl) ∙ ap (λ m. if nat_eq i.0 ino.0 then m else (inode_at known i).file.marks) (marked ino)

pub answers : (known : Known) (remembered : List Revoke) (call : Call) → ((ino : Ino) → altered (sight_of known) call ≡ Some ino → ino.0 < length known.inodes)
    → book_of (after_answer known call) remembered ≡ with_marks (sight_of known) (book_of known remembered) call (altered (sight_of known) call)
answers known remembered (Create path) lt = refl
answers known remembered (Mkdir path) lt = refl
answers known remembered (Unlink path) lt = refl
answers known remembered (Rmdir path) lt = refl
answers known remembered (Rename path goal) lt = refl
answers known remembered (Open path mode) lt = opens known remembered mode (least_unused known.table) (target_of (resolved_in (part_of known) path))
answers known remembered (Close fd) lt = refl
answers known remembered (Read fd offset len) lt = refl
answers known remembered (Write fd offset bytes) lt =
    changes known remembered (Write fd offset bytes) (λ file. after_write file offset bytes) (within_limit (offset + length bytes) (writable known.table fd)) (λ ino e. lt ino (ap file_if_any e)) (λ ino. refl)
answers known remembered (Truncate fd size) lt =
    changes known remembered (Truncate fd size) (λ file. after_truncate file size) (within_limit size (writable known.table fd)) (λ ino e. lt ino (ap file_if_any e)) (λ ino. refl)
answers known remembered (Stat path) lt = refl
answers known remembered (Readdir path) lt = refl
answers known remembered (Fsync fd) lt = refl
