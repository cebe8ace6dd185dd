-- What follows from what a client does with its outstanding call.
use Rattle.std.proofs.Common.{◌≡◌, ◌&&◌, ◌∷◌, [], ◌<◌, Bool, true, false, if◌then◌else◌, Option, Some, None, Result, Ok, Err, ap, refl, subst, sym, ◌∙◌}
use Rattle.std.specs.Option.{option_map}
use Rattle.cal_base.specs.Limits.{inodes}
use Rattle.cal_base.specs.declared.identity.Ino.{Ino}
use Rattle.client_cache.specs.AfterAnswer.{after_answer}
use Rattle.client_cache.specs.Changes.{new_flush}
use Rattle.client_cache.specs.Covered.{covered, stays_open}
use Rattle.client_cache.specs.IsKnown.{IsKnown, IsOpenFile}
use Rattle.client_cache.specs.Known.{Known, inode_at, is_settled}
use Rattle.client_cache.specs.Next.{file_needed, last_close, needs_flush, next_of as next_known, next_on}
use Rattle.client_cache.specs.declared.next_step.Next.{Next}
use Rattle.client_cache.specs.declared.next_step.Next.TheVariants.{Answer, LastClose, Waits, Flushes, Asks}
use Rattle.client_cache.proofs.KnownLemmas.{open_inside}
use Rattle.client_cache.proofs.NextLemmas.{next_flushes}
use Rattle.message.specs.declared.message.Message.TheVariants.{Flush}
use Rattle.token_kind.specs.declared.hold.Hold.TheVariants.{Read as ReadHold}
use Rattle.tree_law.specs.Descriptors.{always, file_behind, opened}
use Rattle.tree_law.specs.declared.call.Call.{Call}
use Rattle.tree_law.specs.declared.call.Call.TheVariants.{Create, Mkdir, Unlink, Rmdir, Rename, Open, Close, Read, Write, Truncate, Stat, Readdir, Fsync}
use Rattle.tree_law.specs.declared.descriptor.Descriptor.{Descriptor}
use Rattle.tree_law.specs.declared.reply.Why.{Why}
use Rattle.cluster_law.specs.ClientState.{own_reply}
use Rattle.cluster_law.specs.Sight.{closed, file_if_any, if_last}
use Rattle.client_book.specs.Booked.{sight_of}
use Rattle.client_book.specs.Client.{ClientValue, finished_in, goes_on_in, lower_open, tried_in, with_known}
use Rattle.client_book.specs.Made.{asking_in, reply_to_in, trying_if_in, trying_in}
use Rattle.client_book.proofs.Fitting.{call-fits}
use Rattle.client_state.specs.Working.{IsDue, answered_with, asked_with, finished_with, open_given_back, own_finish, request_for, with_flush, without_open}

some-is : {A : Type 0} {x y : A} → Some x ≡ Some y → x ≡ y
some-is e = cc

-- a call that isn't covered is answered as a last `close` only where it is a `close`
never-closes : (known : Known) (first : Bool) (file : Option Ino) (ino : Ino) → next_on known first file ≡ LastClose ino → ⊥
never-closes known first None ino e = cc
never-closes known first (Some file) ino e = by (is_settled known file) (first && (inode_at known file).file.unflushed) e
  where
    by : (settled due : Bool) → (if settled then (if due then Flushes file else Asks) else Waits) ≡ LastClose ino → ⊥
    by true true e = cc
    by true false e = cc
    by false due e = cc

closes-file : (known : Known) (file : Result Ino Why) (ino : Ino) → (if stays_open known file then Answer else last_close file) ≡ LastClose ino → if_last (sight_of known) (file_if_any file) ≡ Some ino
closes-file known (Ok i) ino e = by (stays_open known (Ok i)) e
  where
    by : (b : Bool) → (if b then Answer else LastClose i) ≡ LastClose ino → (if b then None else Some i) ≡ Some ino
    by true e = cc
    by false e = cc
closes-file known (Err why) ino e = cc

keeps-file : (known : Known) (file : Result Ino Why) → (if stays_open known file then Answer else last_close file) ≡ Answer → if_last (sight_of known) (file_if_any file) ≡ None
keeps-file known (Ok i) e = by (stays_open known (Ok i)) e
  where
    by : (b : Bool) → (if b then Answer else LastClose i) ≡ Answer → (if b then None else Some i) ≡ None
    by true e = refl
    by false e = cc
keeps-file known (Err why) e = refl

-- what is no `close` never ends as one
not-closed : (known : Known) (call : Call) (next : Next) (ino : Ino) → (next ≡ LastClose ino → ⊥) → (if covered known call then Answer else next) ≡ LastClose ino → ⊥
not-closed known call next ino never e = by (covered known call) e
  where
    by : (b : Bool) → (if b then Answer else next) ≡ LastClose ino → ⊥
    by true e = cc
    by false e = never e

-- the file whose Open a client gives back is the one of which the call closes the last descriptor
pub last-closed : (known : Known) (call : Call) (ino : Ino) → next_known known call ≡ LastClose ino → closed (sight_of known) call ≡ Some ino
last-closed known (Create path) ino e = absurd (cc)
last-closed known (Mkdir path) ino e = absurd (cc)
last-closed known (Unlink path) ino e = absurd (cc)
last-closed known (Rmdir path) ino e = absurd (cc)
last-closed known (Rename path goal) ino e = absurd (cc)
last-closed known (Open path mode) ino e = absurd (not-closed known (Open path mode) Asks ino (λ e. cc) e)
last-closed known (Close fd) ino e = closes-file known (opened known.table fd) ino e
last-closed known (Read fd offset len) ino e = absurd (not-closed known (Read fd offset len) _ ino (never-closes known false (file_needed known (Read fd offset len)) ino) e)
last-closed known (Write fd offset bytes) ino e = absurd (not-closed known (Write fd offset bytes) _ ino (never-closes known (needs_flush known (Write fd offset bytes)) (file_needed known (Write fd offset bytes)) ino) e)
last-closed known (Truncate fd size) ino e = absurd (not-closed known (Truncate fd size) _ ino (never-closes known (needs_flush known (Truncate fd size)) (file_needed known (Truncate fd size)) ino) e)
last-closed known (Stat path) ino e = absurd (not-closed known (Stat path) _ ino (never-closes known (needs_flush known (Stat path)) (file_needed known (Stat path)) ino) e)
last-closed known (Readdir path) ino e = absurd (not-closed known (Readdir path) Asks ino (λ e. cc) e)
last-closed known (Fsync fd) ino e = absurd (not-closed known (Fsync fd) _ ino (never-closes known (needs_flush known (Fsync fd)) (file_needed known (Fsync fd)) ino) e)

-- a call that is answered otherwise closes no last descriptor
pub none-closed : (known : Known) (call : Call) → next_known known call ≡ Answer → closed (sight_of known) call ≡ None
none-closed known (Create path) e = refl
none-closed known (Mkdir path) e = refl
none-closed known (Unlink path) e = refl
none-closed known (Rmdir path) e = refl
none-closed known (Rename path goal) e = refl
none-closed known (Open path mode) e = refl
none-closed known (Close fd) e = keeps-file known (opened known.table fd) e
none-closed known (Read fd offset len) e = refl
none-closed known (Write fd offset bytes) e = refl
none-closed known (Truncate fd size) e = refl
none-closed known (Stat path) e = refl
none-closed known (Readdir path) e = refl
none-closed known (Fsync fd) e = refl

-- that file is of the volume
behind-inside : (d : Option Descriptor) (ino : Ino) → IsOpenFile d → file_if_any (file_behind always d) ≡ Some ino → ino.0 < inodes
behind-inside None ino is e = absurd (cc)
behind-inside (Some d) ino is e = subst (λ (i : Ino). i.0 < inodes) (some-is e) is

last-of : (known : Known) (file : Option Ino) (ino : Ino) → if_last (sight_of known) file ≡ Some ino → file ≡ Some ino
last-of known None ino e = absurd (cc)
last-of known (Some i) ino e = by (stays_open known (Ok i)) e
  where
    by : (b : Bool) → (if b then None else Some i) ≡ Some ino → Some i ≡ Some ino
    by true e = absurd (cc)
    by false e = e

closed-inside : (known : Known) (call : Call) (ino : Ino) → IsKnown known → closed (sight_of known) call ≡ Some ino → ino.0 < inodes
closed-inside known (Create path) ino is e = absurd (cc)
closed-inside known (Mkdir path) ino is e = absurd (cc)
closed-inside known (Unlink path) ino is e = absurd (cc)
closed-inside known (Rmdir path) ino is e = absurd (cc)
closed-inside known (Rename path goal) ino is e = absurd (cc)
closed-inside known (Open path mode) ino is e = absurd (cc)
closed-inside known (Close fd) ino is e = behind-inside _ ino (open_inside known fd is) (last-of known (file_if_any (opened known.table fd)) ino e)
closed-inside known (Read fd offset len) ino is e = absurd (cc)
closed-inside known (Write fd offset bytes) ino is e = absurd (cc)
closed-inside known (Truncate fd size) ino is e = absurd (cc)
closed-inside known (Stat path) ino is e = absurd (cc)
closed-inside known (Readdir path) ino is e = absurd (cc)
closed-inside known (Fsync fd) ino is e = absurd (cc)

-- a last `close` is of a file of the volume, and a flush is due where one is started
pub inside-close : (known : Known) (call : Call) (next : Next) (ino : Ino) → IsKnown known → next ≡ next_known known call → Some next ≡ Some (LastClose ino) → ino.0 < inodes
inside-close known call next ino is e f = closed-inside known call ino is (last-closed known call ino (sym e ∙ some-is f))

pub due-flush : (known : Known) (call : Call) (next : Next) (ino : Ino) → IsKnown known → next ≡ next_known known call → Some next ≡ Some (Flushes ino) → IsDue known ino
due-flush known call next ino is e f =
    let due = next_flushes known call next e ino (some-is f) in
    record { inside = subst (λ n. ino.0 < n) is.inodes ((call-fits known call is.inodes is.open_files).flushes ino (sym e ∙ some-is f)); settled = due.0; unflushed = due.1 }

-- the client after each of these
pub goes-answer : (v : ClientValue) (o : Option Call) → option_map (next_known v.memory.known) o ≡ Some Answer → goes_on_in true None v o ≡ answered_with v o
goes-answer v None e = absurd (cc)
goes-answer v (Some call) e =
    ap (tried_in v call) (some-is e)
    ∙ ap (λ file. with_known (finished_in v) (lower_open (after_answer v.memory.known call) file)) (none-closed v.memory.known call (some-is e))

pub goes-close : (v : ClientValue) (o : Option Call) (ino : Ino) → option_map (next_known v.memory.known) o ≡ Some (LastClose ino) → goes_on_in true None v o ≡ without_open (answered_with v o) ino
goes-close v None ino e = absurd (cc)
goes-close v (Some call) ino e =
    ap (tried_in v call) (some-is e)
    ∙ ap (λ file. with_known (finished_in v) (lower_open (after_answer v.memory.known call) file)) (last-closed v.memory.known call ino (some-is e))

pub goes-wait : (v : ClientValue) (o : Option Call) → option_map (next_known v.memory.known) o ≡ Some Waits → goes_on_in true None v o ≡ v
goes-wait v None e = absurd (cc)
goes-wait v (Some call) e = ap (tried_in v call) (some-is e)

pub goes-flush : (v : ClientValue) (o : Option Call) (ino : Ino) → option_map (next_known v.memory.known) o ≡ Some (Flushes ino) → goes_on_in true None v o ≡ with_flush v ino
goes-flush v None ino e = absurd (cc)
goes-flush v (Some call) ino e = ap (tried_in v call) (some-is e)

pub goes-ask : (v : ClientValue) (o : Option Call) → option_map (next_known v.memory.known) o ≡ Some Asks → goes_on_in true None v o ≡ asked_with v o
goes-ask v None e = absurd (cc)
goes-ask v (Some call) e = ap (tried_in v call) (some-is e)

pub goes-none : (v : ClientValue) (o : Option Call) → option_map (next_known v.memory.known) o ≡ None → goes_on_in true None v o ≡ v
goes-none v None e = refl
goes-none v (Some call) e = absurd (cc)

-- its messages
pub says-answer : (v : ClientValue) (o : Option Call) → option_map (next_known v.memory.known) o ≡ Some Answer → trying_if_in true v o ≡ []
says-answer v None e = refl
says-answer v (Some call) e = ap (trying_in v call) (some-is e)

pub says-close : (v : ClientValue) (o : Option Call) (ino : Ino) → option_map (next_known v.memory.known) o ≡ Some (LastClose ino) → trying_if_in true v o ≡ open_given_back ino ∷ []
says-close v None ino e = absurd (cc)
says-close v (Some call) ino e = ap (trying_in v call) (some-is e)

pub says-wait : (v : ClientValue) (o : Option Call) → option_map (next_known v.memory.known) o ≡ Some Waits → trying_if_in true v o ≡ []
says-wait v None e = refl
says-wait v (Some call) e = ap (trying_in v call) (some-is e)

pub says-flush : (v : ClientValue) (o : Option Call) (ino : Ino) → option_map (next_known v.memory.known) o ≡ Some (Flushes ino) → trying_if_in true v o ≡ Flush (new_flush v.memory.known ino ReadHold ReadHold) ∷ []
says-flush v None ino e = absurd (cc)
says-flush v (Some call) ino e = ap (trying_in v call) (some-is e)

pub says-ask : (v : ClientValue) (o : Option Call) → option_map (next_known v.memory.known) o ≡ Some Asks → trying_if_in true v o ≡ asking_in v.request (request_for v o)
says-ask v None e = absurd (cc)
says-ask v (Some call) e = ap (trying_in v call) (some-is e)

pub says-none : (v : ClientValue) (o : Option Call) → option_map (next_known v.memory.known) o ≡ None → trying_if_in true v o ≡ []
says-none v None e = refl
says-none v (Some call) e = absurd (cc)

-- the call that they finish
pub ends-answer : (v : ClientValue) (o : Option Call) → option_map (next_known v.memory.known) o ≡ Some Answer → finished_with o (reply_to_in true None v o) ≡ own_finish v o
ends-answer v None e = refl
ends-answer v (Some call) e = ap (λ next. finished_with (Some call) (own_reply (sight_of v.memory.known) call next)) (some-is e)

pub ends-close : (v : ClientValue) (o : Option Call) (ino : Ino) → option_map (next_known v.memory.known) o ≡ Some (LastClose ino) → finished_with o (reply_to_in true None v o) ≡ own_finish v o
ends-close v None ino e = refl
ends-close v (Some call) ino e = ap (λ next. finished_with (Some call) (own_reply (sight_of v.memory.known) call next)) (some-is e)

-- whether these leave the call as it is
abbrev pub leaves : Next → Bool
leaves Answer = false
leaves (LastClose ino) = false
leaves Waits = true
leaves (Flushes ino) = true
leaves Asks = true

pub ends-none : (v : ClientValue) (o : Option Call) → option_map (next_known v.memory.known) o ≡ None → finished_with o (reply_to_in true None v o) ≡ None
ends-none v None e = refl
ends-none v (Some call) e = absurd (cc)

pub ends-later : (v : ClientValue) (o : Option Call) (next : Next) → option_map (next_known v.memory.known) o ≡ Some next → leaves next ≡ true → finished_with o (reply_to_in true None v o) ≡ None
ends-later v None next e left = refl
ends-later v (Some call) next e left = ap (λ next. finished_with (Some call) (own_reply (sight_of v.memory.known) call next)) (some-is e) ∙ none next left
  where
    none : (next : Next) → leaves next ≡ true → finished_with (Some call) (own_reply (sight_of v.memory.known) call next) ≡ None
    none Answer left = absurd (cc)
    none (LastClose ino) left = absurd (cc)
    none Waits left = refl
    none (Flushes ino) left = refl
    none Asks left = refl
