-- What is asked at each key, where a hold is asked or answered, and where the same is done to two lists.
use Rattle.std.proofs.Common.{◌≡◌, ◌∷◌, [], List, Bool, true, false, not, Option, Some, None, filter, if◌then◌else◌, ap, refl, subst, sym, ◌∙◌, true≢false, nat_le, is_some}
use Rattle.cal_base.specs.declared.identity.ClientId.{ClientId}
use Rattle.cal_base.specs.declared.identity.Ino.{Ino}
use Rattle.revocation.specs.Revokes.{lower_asked}
use Rattle.revocation.specs.Waiting.{Answers, Asks, asked_at, still_asked}
use Rattle.revocation.proofs.Drops.{asked_at-without_client}
use Rattle.token_kind.specs.Hold.{hold_number}
use Rattle.token_kind.specs.declared.«class».Class.{Class}
use Rattle.token_kind.specs.declared.hold.Hold.{Hold}
use Rattle.token_table.specs.Series.{Same}
use Rattle.token_table.specs.Table.{Table, held_of, key_of, same_client, same_key}
use Rattle.token_table.specs.declared.hold_key.HoldKey.{HoldKey}
use Rattle.token_table.proofs.Keys.{same_key-refl, same_key-true}
use Rattle.cluster_law.specs.ServerState.{answered, answered_all, asked_with}

-- the same is asked at each key
abbrev pub AskSame : List (HoldKey × Hold) → List (HoldKey × Hold) → Type 0
AskSame xs ys = (q : HoldKey) → asked_at xs q ≡ asked_at ys q

-- keys are one both ways
flips : (k q : HoldKey) → same_key k q ≡ same_key q k
flips k q = by (same_key k q) (same_key q k) refl refl
  where
    by : (p r : Bool) → same_key k q ≡ p → same_key q k ≡ r → same_key k q ≡ same_key q k
    by true r e f = subst (λ (j : HoldKey). same_key k j ≡ same_key j k) (same_key-true k q e) refl
    by false true e f = absurd (true≢false (sym (same_key-refl k) ∙ ap (same_key k) (sym (same_key-true q k f)) ∙ e))
    by false false e f = e ∙ sym f

-- what is left of what is asked without that at a key
pub asked-without : (k : HoldKey) (es : List (HoldKey × Hold)) (q : HoldKey) → asked_at (filter (λ e. not (same_key k e.0)) es) q ≡ (if same_key k q then None else asked_at es q)
asked-without k [] q = by (same_key k q)
  where
    by : (b : Bool) → ◌≡◌ {A = Option Hold} None (if b then None else None)
    by true = refl
    by false = refl
asked-without k (e ∷ es) q = by (same_key k e.0) (same_key k q) (same_key q e.0) refl refl refl (asked-without k es q)
  where
    agree : same_key q e.0 ≡ true → same_key k q ≡ same_key k e.0
    agree s = ap (same_key k) (same_key-true q e.0 s)

    by : (a b d : Bool) → same_key k e.0 ≡ a → same_key k q ≡ b → same_key q e.0 ≡ d
        → asked_at (filter (λ e. not (same_key k e.0)) es) q ≡ (if same_key k q then None else asked_at es q)
        → asked_at (filter (λ e. not (same_key k e.0)) (e ∷ es)) q ≡ (if same_key k q then None else asked_at (e ∷ es) q)
    by true true d p r s ih = rw (p, ih, r) refl
    by true false true p r s ih = absurd (true≢false (sym p ∙ sym (agree s) ∙ r))
    by true false false p r s ih = rw (p, ih, r, s) refl
    by false true true p r s ih = absurd (true≢false (sym r ∙ agree s ∙ p))
    by false true false p r s ih = rw (p, s, ih, r) refl
    by false false true p r s ih = rw (p, s, r) refl
    by false false false p r s ih = rw (p, s, ih, r) refl

-- what is still asked is what was asked
still-some : (o : Option Hold) (left : Hold) → is_some (still_asked o left) ≡ true → o ≡ still_asked o left
still-some None left e = refl
still-some (Some asked) left e = by (nat_le (hold_number left) (hold_number asked)) e
  where
    by : (b : Bool) → is_some (if b then None else Some asked) ≡ true → ◌≡◌ {A = Option Hold} (Some asked) (if b then None else Some asked)
    by true e = absurd (true≢false (sym e))
    by false e = refl

still-none : (o : Option Hold) (left : Hold) → is_some (still_asked o left) ≡ false → None ≡ still_asked o left
still-none None left e = refl
still-none (Some asked) left e = by (nat_le (hold_number left) (hold_number asked)) e
  where
    by : (b : Bool) → is_some (if b then None else Some asked) ≡ false → ◌≡◌ {A = Option Hold} None (if b then None else Some asked)
    by true e = refl
    by false e = absurd (true≢false e)

-- the law's answer to what is asked of a hold is one, as it is said key by key
pub answers : (asked : List (HoldKey × Hold)) (k : HoldKey) (left : Hold) → Answers asked (answered asked k left) k left
answers asked k left q = by (is_some (still_asked (asked_at asked k) left)) (same_key k q) refl refl
  where
    at : same_key k q ≡ true → (f : Option Hold → Option Hold) → f (asked_at asked k) ≡ still_asked (asked_at asked k) left → f (asked_at asked q) ≡ still_asked (asked_at asked q) left
    at e f p = subst (λ (j : HoldKey). f (asked_at asked j) ≡ still_asked (asked_at asked j) left) (same_key-true k q e) p

    by : (s b : Bool) → is_some (still_asked (asked_at asked k) left) ≡ s → same_key k q ≡ b
        → asked_at (answered asked k left) q ≡ (if same_key k q then still_asked (asked_at asked q) left else asked_at asked q)
    by true true p e = rw (p, e) (at e (λ o. o) (still-some (asked_at asked k) left p))
    by true false p e = rw (p, e) refl
    by false true p e = rw (p, asked-without k asked q, e) (at e (λ o. None) (still-none (asked_at asked k) left p))
    by false false p e = rw (p, asked-without k asked q, e) refl

-- a hold is answered in both; and what is asked of some holds is
pub ask-answered : (xs ys : List (HoldKey × Hold)) (k : HoldKey) (left : Hold) → AskSame xs ys → AskSame (answered xs k left) (answered ys k left)
ask-answered xs ys k left same q =
    answers xs k left q ∙ ap (λ (o : Option Hold). if same_key k q then still_asked o left else o) (same q) ∙ sym (answers ys k left q)

pub ask-answered-all : (t u : Table) (c : ClientId) (ino : Ino) (items : List (Class × Hold)) (xs ys : List (HoldKey × Hold)) → Same t u → AskSame xs ys → AskSame (answered_all t c ino items xs) (answered_all u c ino items ys)
unfolding answered_all
ask-answered-all t u c ino [] xs ys same asks = asks
ask-answered-all t u c ino (item ∷ items) xs ys same asks =
    let k = key_of c ino item.0 in
    ask-answered-all t u c ino items (answered xs k (held_of t c ino item.0)) (answered ys k (held_of u c ino item.0)) same
    (subst (λ (h : Hold). AskSame (answered xs k (held_of t c ino item.0)) (answered ys k h)) (same.holds k) (ask-answered xs ys k (held_of t c ino item.0) asks))

-- a hold is asked to a mode in front of what is asked
pub ask-front : (xs : List (HoldKey × Hold)) (k : HoldKey) (mode : Hold) → Asks xs ((k, mode) ∷ xs) k mode
ask-front xs k mode q = by (same_key q k) refl
  where
    by : (b : Bool) → same_key q k ≡ b → asked_at ((k, mode) ∷ xs) q ≡ (if same_key k q then Some mode else asked_at xs q)
    by true e = rw (flips k q, e) refl
    by false e = rw (flips k q, e) refl

-- holds are asked in both
ask-front-same : (xs ys : List (HoldKey × Hold)) (k : HoldKey) (m n : Hold) → m ≡ n → AskSame xs ys → AskSame ((k, m) ∷ xs) ((k, n) ∷ ys)
ask-front-same xs ys k m n modes same q =
    ask-front xs k m q ∙ (λ i. if same_key k q then Some (modes i) else same q i) ∙ sym (ask-front ys k n q)

pub ask-with : (c : ClientId) (ino : Ino) (items : List (Class × Hold)) (xs ys : List (HoldKey × Hold)) → AskSame xs ys → AskSame (asked_with c ino items xs) (asked_with c ino items ys)
unfolding asked_with
ask-with c ino [] xs ys same = same
ask-with c ino (item ∷ items) xs ys same =
    let k = key_of c ino item.0 in
    ask-with c ino items ((k, lower_asked (asked_at xs k) item.1) ∷ xs) ((k, lower_asked (asked_at ys k) item.1) ∷ ys)
    (ask-front-same xs ys k (lower_asked (asked_at xs k) item.1) (lower_asked (asked_at ys k) item.1) (ap (λ (o : Option Hold). lower_asked o item.1) (same k)) same)

-- nothing is asked of a client in both
pub ask-dropped : (xs ys : List (HoldKey × Hold)) (c : ClientId) → AskSame xs ys → AskSame (filter (λ entry. not (same_client c entry.0.client)) xs) (filter (λ entry. not (same_client c entry.0.client)) ys)
ask-dropped xs ys c same q = asked_at-without_client c xs q ∙ ap (λ (o : Option Hold). if same_client c q.client then None else o) (same q) ∙ sym (asked_at-without_client c ys q)
