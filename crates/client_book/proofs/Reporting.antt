-- What a cache reports is its book.
use Rattle.std.proofs.Common.{◌≡◌, ◌++◌, ◌∷◌, [], ℕ, zero, suc, Bool, true, false, if◌then◌else◌, List, Option, Some, None, ap, refl, sym, ◌∙◌, nat_eq, map, find, option_map}
use Rattle.cal_base.specs.Limits.{inodes}
use Rattle.cal_base.specs.declared.identity.Ino.{Ino}
use Rattle.client_cache.specs.Holds.{hold_in}
use Rattle.client_cache.specs.Known.{Known, flush_at, inode_at, is_flush_of}
use Rattle.client_cache.specs.Reports.{report_of, reported, reported_at, reported_below, reports}
use Rattle.token_kind.specs.Hold.{is_held as is_held_hold}
use Rattle.token_kind.specs.declared.«class».Class.{Class}
use Rattle.token_kind.specs.declared.«class».Class.TheVariants.{Names, Data, Attr, Open}
use Rattle.token_kind.specs.declared.flush.Flush.{Flush}
use Rattle.token_kind.specs.declared.hold.Hold.{Hold}
use Rattle.token_kind.specs.declared.revoke.Revoke.{Revoke}
use Rattle.cluster_law.specs.Book.{flush_at as flush_booked}
use Rattle.cluster_law.specs.Owed.{report, reported as reported_booked, reported_as, reported_at as at_booked, reported_below as below_booked}
use Rattle.client_book.specs.Booked.{book_of, flushing_of}
use Rattle.client_book.proofs.Hearing.{held-same}

-- the flush of a file that is under way
under-way : (ino : Ino) (flushes : List Flush) → find (λ flush. nat_eq flush.ino.0 ino.0) (map flushing_of flushes) ≡ option_map flushing_of (find (is_flush_of ino) flushes)
under-way ino [] = refl
under-way ino (f ∷ fs) = by (nat_eq f.ino.0 ino.0) (under-way ino fs)
  where
    by : (b : Bool) → find (λ flush. nat_eq flush.ino.0 ino.0) (map flushing_of fs) ≡ option_map flushing_of (find (is_flush_of ino) fs)
        → (if b then Some (flushing_of f) else find (λ flush. nat_eq flush.ino.0 ino.0) (map flushing_of fs)) ≡ option_map flushing_of (if b then Some f else find (is_flush_of ino) fs)
    by true rest = refl
    by false rest = rest

as-booked : (ino : Ino) (cls : Class) (hold : Hold) (flush : Option Flush) → report_of ino cls hold flush ≡ reported_as ino cls hold (option_map flushing_of flush)
as-booked ino Names hold None = refl
as-booked ino Names hold (Some flush) = refl
as-booked ino Data hold None = refl
as-booked ino Data hold (Some flush) = refl
as-booked ino Attr hold None = refl
as-booked ino Attr hold (Some flush) = refl
as-booked ino Open hold None = refl
as-booked ino Open hold (Some flush) = refl

one : (known : Known) (remembered : List Revoke) (ino : Ino) (cls : Class) → reported known ino cls ≡ reported_booked (book_of known remembered) ino cls
one known remembered ino cls =
    let hold = hold_in (inode_at known ino).holds cls in
    ap (λ r. if is_held_hold hold then r ∷ [] else []) (as-booked ino cls hold (flush_at known ino) ∙ ap (reported_as ino cls hold) (sym (under-way ino known.flushes)))
    ∙ ap (λ b. if b then reported_as ino cls hold (flush_booked (book_of known remembered) ino) ∷ [] else []) (sym (held-same hold))

four : (known : Known) (remembered : List Revoke) (ino : Ino) → reported_at known ino ≡ at_booked (book_of known remembered) ino
four known remembered ino = λ i. one known remembered ino Names i ++ (one known remembered ino Data i ++ (one known remembered ino Attr i ++ one known remembered ino Open i))

all-below : (known : Known) (remembered : List Revoke) (n : ℕ) → reported_below known n ≡ below_booked (book_of known remembered) n
unfolding reported_below below_booked
all-below known remembered zero = refl
all-below known remembered (suc n) = λ i. all-below known remembered n i ++ four known remembered (record { 0 = n }) i

pub reports-booked : (known : Known) (remembered : List Revoke) → reports known ≡ report (book_of known remembered)
reports-booked known remembered = all-below known remembered inodes
