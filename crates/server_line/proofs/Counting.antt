-- What a client is told, with the requests that wait.
use Rattle.std.proofs.Common.{◌≡◌, ◌≤◌, ◌<◌, ◌+◌, ◌∷◌, [], ℕ, nat_eq, List, Bool, true, false, Option, drop, length, if◌then◌else◌, sym, ap, subst, true≢false, arith}
use Rattle.std.specs.Prelude.{is_some}
use Rattle.tree_law.specs.declared.request.Request.{Request}
use Rattle.cluster_law.specs.Lists.{first_of}
use Rattle.server_draft.specs.Acts.{tells, told_to}
use Rattle.server_draft.specs.declared.act.Act.{Act}
use Rattle.server_draft.specs.declared.act.Act.TheVariants.{Tells, Commits, Drops}
use Rattle.server_draft.specs.declared.draft.Draft.{Draft}
use Rattle.server_line.specs.Known.{HasHead, IsHead}
use Rattle.server_line.specs.Served.{GrewBy}

-- a known head waits
pub has-head : (draft : Draft) (request : Request) → IsHead draft request → HasHead draft
has-head draft request head = record { admitted = head.admitted; waits = ap (λ (r : Option Request). is_some r) head.head_is }

-- one request less waits
pub fewer-wait : (mid new : Draft) → HasHead mid → new.desk.requests ≡ drop 1 mid.desk.requests → length new.desk.requests < length mid.desk.requests
fewer-wait mid new has gone = subst (λ (rs : List Request). length rs < length mid.desk.requests) (sym gone) (by mid.desk.requests has.waits)
  where
    by : (rs : List Request) → is_some (first_of rs) ≡ true → length (drop 1 rs) < length rs
    by [] e = absurd (true≢false (sym e))
    by (r ∷ rs) e = omega arith

-- an act makes one message for a client at most
tells-one : (to : ℕ) (act : Act) → tells to act ≤ 1
tells-one to (Tells client message) = by (nat_eq client.0 to)
  where
    by : (b : Bool) → (if b then 1 else 0) ≤ 1
    by true = omega arith
    by false = omega arith
tells-one to (Commits commit) = omega arith
tells-one to Drops = omega arith

pub one-more : (old new : List Act) (act : Act) → ((to : ℕ) → told_to to new ≡ told_to to old + tells to act) → (to : ℕ) → told_to to new ≤ told_to to old + 1
one-more old new act count to = let one = tells-one to act in let told = count to in omega arith

-- a message takes the place of the head
pub head-gone : (old new : Draft) → HasHead old → new.desk.requests ≡ drop 1 old.desk.requests → ((to : ℕ) → told_to to new.acts ≤ told_to to old.acts + 1) → GrewBy 0 old new
head-gone old new has gone one to = let fewer = fewer-wait old new has gone in let told = one to in omega arith

-- as many requests wait, and what is told grew
pub told-more : (old new : Draft) (most : ℕ) → new.desk.requests ≡ old.desk.requests → ((to : ℕ) → told_to to new.acts ≤ told_to to old.acts + most) → GrewBy most old new
told-more old new most same more to = let still : length new.desk.requests ≡ length old.desk.requests = ap (λ (rs : List Request). length rs) same in let told = more to in omega arith

pub grew-none : (draft : Draft) → GrewBy 0 draft draft
grew-none draft to = omega arith

-- what grew after heads that are gone
pub grew-on : (old mid new : Draft) (most : ℕ) → GrewBy 0 old mid → GrewBy most mid new → GrewBy most old new
grew-on old mid new most a b to = let before = a to in let after = b to in omega arith

pub grew-most : (old new : Draft) (few most : ℕ) → few ≤ most → GrewBy few old new → GrewBy most old new
grew-most old new few most le grew to = let one = grew to in omega arith
