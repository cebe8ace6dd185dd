-- A flush that is done: what goes out, and that there are numbers for the flushes behind it.
use Rattle.std.proofs.Common.{◌≡◌, ◌+◌, ◌<◌, ◌≤◌, ◌-◌, ◌^◌, ℕ, not, List, Option, Some, None, ap, refl, sym, subst, ◌∙◌, length, filter, option_map, arith}
use Rattle.std.proofs.lemmas.List.Sums.{count_by-le-length, length-filter}
use Rattle.cal_base.specs.declared.identity.Ino.{Ino}
use Rattle.client_cache.specs.Changes.{flush_numbered}
use Rattle.client_cache.specs.Known.{Known}
use Rattle.token_kind.specs.declared.flush.Flush.{Flush}
use Rattle.token_kind.specs.declared.revoke.Revoke.{Revoke}
use Rattle.outbox.specs.Sending.{Sending, put_all}
use Rattle.client_book.specs.Made.{revoking_behind_in}
use Rattle.client_book.specs.Memory.{Memory, is_behind, revoked_in}
use Rattle.client_book.proofs.Counting.{last-revoked}

-- the file of a flush
abbrev pub file_of : Option Flush → Option Ino
file_of flush = option_map (λ f. f.ino) flush

-- what is in memory before the Revokes behind a flush of a file are carried out
abbrev pub opened_behind : Known → List Revoke → Ino → Memory
opened_behind known remembered ino = record { known = known; remembered = filter (λ revoke. not (is_behind ino revoke)) remembered }

-- where no flush has the number nothing goes out
pub none-out : (m : Memory) (number : ℕ) (s : Sending) → None ≡ file_of (flush_numbered m.known number) → s ≡ put_all s (revoking_behind_in m number (flush_numbered m.known number))
unfolding put_all
none-out m number s e = by (flush_numbered m.known number) e
  where
    by : (o : Option Flush) → None ≡ file_of o → s ≡ put_all s (revoking_behind_in m number o)
    by None e = refl
    by (Some flush) e = absurd (cc)

-- there is room for the Revokes behind a flush where there is for all
pub room-behind : (m after : Memory) (ino : Ino) (behind : List Revoke) → after ≡ opened_behind m.known m.remembered ino → behind ≡ filter (is_behind ino) m.remembered → m.known.last_flush + length m.remembered < 2 ^ 64 - 1
    → after.known.last_flush + length behind < 2 ^ 64 - 1
room-behind m after ino behind opened made room =
    (let few = count_by-le-length (is_behind ino) m.remembered in
    let same = ap length made ∙ length-filter (is_behind ino) m.remembered in
    let last = ap (λ (k : Memory). k.known.last_flush) opened in
    omega (arith, few, same, last, room))

-- a Revoke that is taken takes one number at most
pub room-more : (m after : Memory) (revoke : Revoke) (left rest : ℕ) → left ≡ rest + 1 → after ≡ revoked_in m revoke.ino revoke.items → m.known.last_flush + left < 2 ^ 64 - 1 → after.known.last_flush + rest < 2 ^ 64 - 1
room-more m after revoke left rest less made room =
    (let one = subst (λ (k : Memory). k.known.last_flush ≤ m.known.last_flush + 1) (sym made) (last-revoked m revoke.ino revoke.items) in omega (arith, one, less, room))
