-- The sessions in which some clients are asked, client by client.
use Rattle.std.proofs.Common.{◌≡◌, ◌≢◌, ◌<◌, ◌≤◌, ◌∷◌, ◌++◌, ◌&&◌, inl, inr, [], ℕ, zero, suc, Bool, true, false, if◌then◌else◌, List, filter, map, nat_eq, append-nil, ap, refl, subst, sym, ◌∙◌, arith}
use Rattle.std.proofs.lemmas.Bool.{and_right, cases_lt, eq-eqb, ne_eqb}
use Rattle.std.proofs.lemmas.List.Elements.{filter-append}
use Rattle.cal_base.specs.Limits.{clients}
use Rattle.cal_base.specs.declared.identity.ClientId.{ClientId}
use Rattle.cal_base.specs.declared.identity.ServerId.{ServerId}
use Rattle.cal_base.specs.declared.identity.View.{View}
use Rattle.client_sessions.specs.Mail.{AreBetween, IsBetween, is_to, no_session, session_at}
use Rattle.token_table.specs.Blockers.{clients_below}
use Rattle.server_start.specs.Asks.{ask_packet, asked_if, mail_asking}
use Rattle.server_start.proofs.Mailing.{map-at, map-count, untold}

-- a client's session is as it is asked
pub session-is : (id : ServerId) (view : View) (test : ClientId → Bool) (client : ClientId) → client.0 < clients → session_at (mail_asking id view test) client ≡ asked_if id view (test client) client
session-is id view test client within = map-at (λ c. asked_if id view (test c) c) client.0 no_session within

-- and is of the server, the client and the view
pub are-between : (id : ServerId) (view : View) (test : ClientId → Bool) → AreBetween id view (mail_asking id view test)
are-between id view test = record {
  count = map-count (λ c. asked_if id view (test c) c);
  each = λ client within. subst (IsBetween id client view) (sym (session-is id view test client within)) (by client (test client));
}
  where
    by : (client : ClientId) (b : Bool) → IsBetween id client view (asked_if id view b client)
    by client true = record { me = refl; peer = refl; of_view = refl }
    by client false = record { me = refl; peer = refl; of_view = refl }

-- of the clients below a number one is this client, if it is below
abbrev is-one : (ClientId → Bool) → ℕ → ClientId → Bool
is-one p at client = p client && nat_eq client.0 at

last-apart : (p : ClientId → Bool) (at k : ℕ) → k ≢ at → filter (is-one p at) (record { 0 = k } ∷ []) ≡ []
last-apart p at k apart = ap (λ (b : Bool). if b then record { 0 = k } ∷ [] else []) (and_right (p (record { 0 = k })) (nat_eq k at) (ne_eqb k at apart))

past-none : (p : ClientId → Bool) (at k : ℕ) → k ≤ at → filter (is-one p at) (clients_below k) ≡ []
unfolding clients_below
past-none p at zero past = refl
past-none p at (suc k) past =
    filter-append (is-one p at) (clients_below k) (record { 0 = k } ∷ [])
    ∙ ap (λ (cs : List ClientId). cs ++ filter (is-one p at) (record { 0 = k } ∷ [])) (past-none p at k (omega (arith, past)))
    ∙ last-apart p at k (λ same. omega (arith, past, same))

and-true : (a b : Bool) → b ≡ true → (a && b) ≡ a
and-true true b is = is
and-true false b is = refl

only-one : (p : ClientId → Bool) (at k : ℕ) → at < k → filter (is-one p at) (clients_below k) ≡ (if p (record { 0 = at }) then record { 0 = at } ∷ [] else [])
unfolding clients_below
only-one p at zero below = absurd (omega (arith, below))
only-one p at (suc k) below = elim (cases_lt at k) as (λ _. filter (is-one p at) (clients_below k ++ record { 0 = k } ∷ []) ≡ (if p (record { 0 = at }) then record { 0 = at } ∷ [] else [])) [
  | inl lower ↦
      filter-append (is-one p at) (clients_below k) (record { 0 = k } ∷ [])
      ∙ ap (λ (cs : List ClientId). filter (is-one p at) (clients_below k) ++ cs) (last-apart p at k (λ same. omega (arith, lower, same)))
      ∙ append-nil (filter (is-one p at) (clients_below k))
      ∙ only-one p at k lower
  | inr past ↦
      let same : k ≡ at = omega (arith, below, past) in
      filter-append (is-one p at) (clients_below k) (record { 0 = k } ∷ [])
      ∙ ap (λ (cs : List ClientId). cs ++ filter (is-one p at) (record { 0 = k } ∷ [])) (past-none p at k past)
      ∙ ap (λ (b : Bool). if b then record { 0 = k } ∷ [] else []) (and-true (p (record { 0 = k })) (nat_eq k at) (eq-eqb k at same))
      ∙ ap (λ (n : ℕ). if p (record { 0 = n }) then record { 0 = n } ∷ [] else []) same
]

-- one packet goes to a client that is asked, and none to another
pub sent-to : (id : ServerId) (view : View) (test : ClientId → Bool) (client : ClientId) → client.0 < clients → filter (is_to client) (mail_asking id view test).sent ≡ (if test client then ask_packet id view client ∷ [] else [])
sent-to id view test client within =
    untold (ask_packet id view) test (is_to client) (clients_below clients) ∙ ap (λ (cs : List ClientId). map (ask_packet id view) cs) (only-one test client.0 clients within) ∙ by (test client)
  where
    by : (b : Bool) → map (ask_packet id view) (if b then client ∷ [] else []) ≡ (if b then ask_packet id view client ∷ [] else [])
    by true = refl
    by false = refl
