-- What the answers of `next` allow.
use Rattle.std.proofs.Common.{◌≡◌, ◌&&◌, Bool, true, false, Option, Some, None, Result, Ok, Err, cond, refl, sym, ap, subst, ◌∙◌}
use Rattle.std.proofs.lemmas.Bool.{and_parts}
use Rattle.cal_base.specs.declared.identity.Ino.{Ino}
use Rattle.tree_law.specs.declared.call.Call.{Call}
use Rattle.tree_law.specs.declared.call.Call.TheVariants.{Create, Mkdir, Unlink, Rmdir, Rename, Open, Close, Read, Write, Truncate, Stat, Readdir, Fsync}
use Rattle.tree_law.specs.declared.reply.Why.{Why}
use Rattle.client_cache.specs.declared.next_step.Next.{Next}
use Rattle.client_cache.specs.declared.next_step.Next.TheVariants.{Answer, LastClose, Waits, Flushes, Asks}
use Rattle.client_cache.specs.Covered.{covered, is_answerable}
use Rattle.client_cache.specs.Known.{Known, inode_at, is_settled}
use Rattle.client_cache.specs.Next.{file_needed, last_close, needs_flush, next_of, next_on, next_uncovered}
use Rattle.client_cache.proofs.Answerable.{covered_is_answerable}

-- whether the client itself answers
abbrev pub answers : Next → Bool
answers Answer = true
answers (LastClose ino) = true
answers Waits = false
answers (Flushes ino) = false
answers Asks = false

on_never : (known : Known) (first : Bool) (file : Option Ino) → answers (next_on known first file) ≡ false
on_never known first None = refl
on_never known first (Some ino) = by (is_settled known ino) (first && (inode_at known ino).file.unflushed)
  where
    by : (settled due : Bool) → answers (cond settled (cond due (Flushes ino) Asks) Waits) ≡ false
    by true true = refl
    by true false = refl
    by false due = refl

-- of the calls that aren't covered only `close` is answered
uncovered_answers : (known : Known) (call : Call) → answers (next_uncovered known call) ≡ true → is_answerable known call ≡ true
uncovered_answers known (Close fd) e = refl
uncovered_answers known (Create path) e = absurd (cc)
uncovered_answers known (Mkdir path) e = absurd (cc)
uncovered_answers known (Unlink path) e = absurd (cc)
uncovered_answers known (Rmdir path) e = absurd (cc)
uncovered_answers known (Rename path goal) e = absurd (cc)
uncovered_answers known (Open path mode) e = absurd (cc)
uncovered_answers known (Read fd offset len) e = (let no = on_never known false (file_needed known (Read fd offset len)) in absurd (cc))
uncovered_answers known (Write fd offset bytes) e = (let no = on_never known (needs_flush known (Write fd offset bytes)) (file_needed known (Write fd offset bytes)) in absurd (cc))
uncovered_answers known (Truncate fd size) e = (let no = on_never known (needs_flush known (Truncate fd size)) (file_needed known (Truncate fd size)) in absurd (cc))
uncovered_answers known (Stat path) e = (let no = on_never known false (file_needed known (Stat path)) in absurd (cc))
uncovered_answers known (Readdir path) e = absurd (cc)
uncovered_answers known (Fsync fd) e = (let no = on_never known true (file_needed known (Fsync fd)) in absurd (cc))

pub of_answers : (known : Known) (call : Call) → answers (next_of known call) ≡ true → is_answerable known call ≡ true
of_answers known call e = by (covered known call) refl e
  where
    by : (b : Bool) → covered known call ≡ b → answers (cond b Answer (next_uncovered known call)) ≡ true → is_answerable known call ≡ true
    by true is e = covered_is_answerable known call is
    by false is e = uncovered_answers known call e

-- a call that the client answers itself can be answered
pub next_answers : (known : Known) (call : Call) (next : Next) → next ≡ next_of known call → next ≡ Answer → is_answerable known call ≡ true
next_answers known call next e is = of_answers known call (ap answers (sym e ∙ is))

pub next_closes : (known : Known) (call : Call) (next : Next) → next ≡ next_of known call → (ino : Ino) → next ≡ LastClose ino → is_answerable known call ≡ true
next_closes known call next e ino is = of_answers known call (ap answers (sym e ∙ is))

-- the file of which a flush is to start
abbrev pub flushed_file : Next → Option Ino
flushed_file Answer = None
flushed_file (LastClose ino) = None
flushed_file Waits = None
flushed_file (Flushes ino) = Some ino
flushed_file Asks = None

-- a flush may start
abbrev pub Ready : Known → Ino → Type 0
Ready known ino = (is_settled known ino ≡ true) × ((inode_at known ino).file.unflushed ≡ true)

on_ready : (known : Known) (first : Bool) (file : Option Ino) (ino : Ino) → flushed_file (next_on known first file) ≡ Some ino → Ready known ino
on_ready known first None ino e = absurd (cc)
on_ready known first (Some other) ino e = by (is_settled known other) (first && (inode_at known other).file.unflushed) refl refl e
  where
    by : (settled due : Bool) → is_settled known other ≡ settled → (first && (inode_at known other).file.unflushed) ≡ due
        → flushed_file (cond settled (cond due (Flushes other) Asks) Waits) ≡ Some ino → Ready known ino
    by true true s d e = (let same : other ≡ ino = cc in subst (λ (i : Ino). Ready known i) same (s, (and_parts _ _ d).1))
    by true false s d e = absurd (cc)
    by false due s d e = absurd (cc)

close_never : (file : Result Ino Why) (ino : Ino) → flushed_file (last_close file) ≡ Some ino → ⊥
close_never (Ok other) ino e = cc
close_never (Err why) ino e = cc

uncovered_ready : (known : Known) (call : Call) (ino : Ino) → flushed_file (next_uncovered known call) ≡ Some ino → Ready known ino
uncovered_ready known (Close fd) ino e = absurd (close_never _ ino e)
uncovered_ready known (Create path) ino e = absurd (cc)
uncovered_ready known (Mkdir path) ino e = absurd (cc)
uncovered_ready known (Unlink path) ino e = absurd (cc)
uncovered_ready known (Rmdir path) ino e = absurd (cc)
uncovered_ready known (Rename path goal) ino e = absurd (cc)
uncovered_ready known (Open path mode) ino e = absurd (cc)
uncovered_ready known (Read fd offset len) ino e = on_ready known false (file_needed known (Read fd offset len)) ino e
uncovered_ready known (Write fd offset bytes) ino e = on_ready known (needs_flush known (Write fd offset bytes)) (file_needed known (Write fd offset bytes)) ino e
uncovered_ready known (Truncate fd size) ino e = on_ready known (needs_flush known (Truncate fd size)) (file_needed known (Truncate fd size)) ino e
uncovered_ready known (Stat path) ino e = on_ready known false (file_needed known (Stat path)) ino e
uncovered_ready known (Readdir path) ino e = absurd (cc)
uncovered_ready known (Fsync fd) ino e = on_ready known true (file_needed known (Fsync fd)) ino e

of_ready : (known : Known) (call : Call) (ino : Ino) → flushed_file (next_of known call) ≡ Some ino → Ready known ino
of_ready known call ino e = by (covered known call) e
  where
    by : (b : Bool) → flushed_file (cond b Answer (next_uncovered known call)) ≡ Some ino → Ready known ino
    by true e = absurd (cc)
    by false e = uncovered_ready known call ino e

-- a flush that is to start can start
pub next_flushes : (known : Known) (call : Call) (next : Next) → next ≡ next_of known call → (ino : Ino) → next ≡ Flushes ino → (is_settled known ino ≡ true) × ((inode_at known ino).file.unflushed ≡ true)
next_flushes known call next e ino is = of_ready known call ino (ap flushed_file (sym e ∙ is))
