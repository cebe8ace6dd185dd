-- How many messages the first acts of a step make for a client, and how many requests wait then.
use Rattle.std.proofs.Common.{◌≡◌, ◌≤◌, ◌+◌, ◌++◌, ◌∷◌, [], ℕ, Bool, true, false, if◌then◌else◌, List, Option, Some, None, length, length-append, ap, refl, subst, sym, ◌∙◌, arith}
use Rattle.std.specs.List.{list_any}
use Rattle.cal_base.specs.Limits as limits
use Rattle.cal_base.specs.declared.identity.ClientId.{ClientId}
use Rattle.message.specs.declared.message.Message.{Message}
use Rattle.message.specs.declared.message.Message.TheVariants.{Acquire, Grant, Refuse, Change, Done, Flush, Flushed, Revoke, Release, Ask, Piece, Wait, Admit}
use Rattle.revocation.specs.Waiting.{queued, same_request}
use Rattle.tree_law.specs.declared.request.Asked.TheVariants.{Want as Wants, Change as Alters}
use Rattle.tree_law.specs.declared.request.Request.{Request}
use Rattle.volume.specs.Volume.{Volume}
use Rattle.volume_names.specs.Named.{AreNamed}
use Rattle.cluster_law.specs.ServerState.{ServerState, arriving, as_request, hearing, is_admitted, taking, uses}
use Rattle.server_book.proofs.Moving.{alike-refl}
use Rattle.server_desk.specs.Desk.{DeskValue, IsLike, with_desk}
use Rattle.server_draft.specs.Acts.{told_to}
use Rattle.server_draft.specs.Draft.{told_or_waiting}
use Rattle.server_draft.specs.declared.draft.Draft.{Draft}
use Rattle.server_reports.specs.Reports.{with_wait}

-- a request that arrives is at most one more in line
arriving-few : (s : ServerState) (r : Request) → length (arriving s r).requests ≤ length s.requests + 1
arriving-few s r = by (is_admitted s)
  where
    queued-few : (stands : Bool) → length (if stands then s.requests else s.requests ++ r ∷ []) ≤ length s.requests + 1
    queued-few true = omega arith
    queued-few false = let both = length-append s.requests (r ∷ []) in omega (arith, both)

    by : (admitted : Bool) → length (if admitted then record s { requests = queued s.requests r } else s).requests ≤ length s.requests + 1
    by true = queued-few (list_any (same_request r) s.requests)
    by false = omega arith

no-more : (n : ℕ) → n ≤ n + 1
no-more n = omega arith

taking-few : (s : ServerState) (client : ClientId) (m : Message) → length (taking s client m).requests ≤ length s.requests + 1
taking-few s client (Acquire number want) = arriving-few s (as_request client number (Wants want))
taking-few s client (Grant number items) = no-more (length s.requests)
taking-few s client (Refuse number free needed) = no-more (length s.requests)
taking-few s client (Change number call) = arriving-few s (as_request client number (Alters call))
taking-few s client (Done number reply) = no-more (length s.requests)
taking-few s client (Flush flush) = no-more (length s.requests)
taking-few s client (Flushed number) = no-more (length s.requests)
taking-few s client (Revoke revoke) = no-more (length s.requests)
taking-few s client (Release release) = no-more (length s.requests)
taking-few s client Ask = no-more (length s.requests)
taking-few s client (Piece piece) = no-more (length s.requests)
taking-few s client (Wait number other) = no-more (length s.requests)
taking-few s client Admit = no-more (length s.requests)

-- a message that is heard puts at most one request in line
hearing-few : (s : ServerState) (client : ClientId) (m : Message) → length (hearing s client m).requests ≤ length s.requests + 1
unfolding hearing
hearing-few s client m = by (uses s client m)
  where
    by : (used : Bool) → length (if used then taking s client m else s).requests ≤ length s.requests + 1
    by true = taking-few s client m
    by false = no-more (length s.requests)

pub heard-few : (old new : DeskValue) (v : Volume) (client : ClientId) (m : Message) → ((server : ServerState) → IsLike old server → v ≡ server.volume → IsLike new (hearing server client m))
    → length new.requests ≤ length old.requests + 1
heard-few old new v client m heard =
    let like = heard (with_desk old v []) (alike-refl (with_desk old v [])) refl in
    let same = ap (λ (requests : List Request). length requests) like.requests in
    let few = hearing-few (with_desk old v []) client m in
    omega (arith, same, few)

-- a draft without an act tells nothing
pub first-waiting : (to : ℕ) (desk : DeskValue) (v : Volume) (first : Draft) → first ≡ record { desk = desk; image = v; acts = [] } → told_or_waiting to first ≡ length desk.requests
unfolding told_to
first-waiting to desk v first is = ap (λ (d : Draft). told_or_waiting to d) is ∙ none (length desk.requests)
  where
    none : (n : ℕ) → 0 + n ≡ n
    none n = omega arith

pub first-named : (desk : DeskValue) (v : Volume) (first : Draft) → first ≡ record { desk = desk; image = v; acts = [] } → AreNamed v → AreNamed first.image
first-named desk v first is names = subst (λ (d : Draft). AreNamed d.image) (sym is) names

-- a Wait leaves the line and the volume
pub waits-requests : (old new : Draft) (client : ClientId) (number : ℕ) (missing : Option ClientId) → new ≡ with_wait old client number missing → new.desk.requests ≡ old.desk.requests
waits-requests old new client number None is = ap (λ (d : Draft). d.desk.requests) is
waits-requests old new client number (Some least) is = ap (λ (d : Draft). d.desk.requests) is

pub waits-named : (old new : Draft) (client : ClientId) (number : ℕ) (missing : Option ClientId) → new ≡ with_wait old client number missing → AreNamed old.image → AreNamed new.image
waits-named old new client number None is names = subst (λ (d : Draft). AreNamed d.image) (sym is) names
waits-named old new client number (Some least) is names = subst (λ (v : Volume). AreNamed v) (sym (ap (λ (d : Draft). d.image) is)) names

-- where no request arrives, what is told or waits grows as what is told does
pub told-grows : (to most : ℕ) (old new : Draft) → told_to to new.acts ≤ told_to to old.acts + most → length new.desk.requests ≤ length old.desk.requests → told_or_waiting to new ≤ told_or_waiting to old + most
told-grows to most old new told waits = omega (arith, told, waits)

pub as-many : (old new : Draft) → new.desk.requests ≡ old.desk.requests → length new.desk.requests ≤ length old.desk.requests
as-many old new same = let length-same = ap (λ (requests : List Request). length requests) same in omega (arith, length-same)

pub told-nothing : (to : ℕ) (old new : Draft) → told_to to new.acts ≡ told_to to old.acts → told_to to new.acts ≤ told_to to old.acts + limits.inodes
told-nothing to old new same = omega (arith, same)

-- a message that is heard and answered
pub answer-few : (to : ℕ) (desk heard : DeskValue) (v : Volume) (first last : Draft) → first ≡ record { desk = heard; image = v; acts = [] } → length heard.requests ≤ length desk.requests + 1
    → told_or_waiting to last ≤ told_or_waiting to first + 1 → told_or_waiting to last ≤ length desk.requests + 2
answer-few to desk heard v first last is more few = let begins = first-waiting to heard v first is in omega (arith, begins, more, few)

-- what a tick removes
pub remove-few : (to : ℕ) (desk : DeskValue) (v : Volume) (first last : Draft) → first ≡ record { desk = desk; image = v; acts = [] } → told_or_waiting to last ≤ told_or_waiting to first + limits.inodes
    → told_or_waiting to last ≤ length desk.requests + limits.inodes
remove-few to desk v first last is few = let begins = first-waiting to desk v first is in omega (arith, begins, few)

-- each of these is within what a step may begin with
pub begin-few : (told waits : ℕ) → told ≡ waits → told ≤ waits + limits.inodes + 1
begin-few told waits same = omega (arith, same)

pub two-few : (told waits : ℕ) → told ≤ waits + 2 → told ≤ waits + limits.inodes + 1
two-few told waits few = omega (arith, few)

pub inodes-few : (told waits : ℕ) → told ≤ waits + limits.inodes → told ≤ waits + limits.inodes + 1
inodes-few told waits few = omega (arith, few)
