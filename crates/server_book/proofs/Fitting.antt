-- A piece that fits is one that the law uses, and the other way round where the table is one.
use Rattle.std.specs.Prelude.{IsTrue, ◌↔◌}
use Rattle.std.proofs.Common.{◌≡◌, ◌∷◌, [], ◌<◌, ◌≤◌, ◌&&◌, ◌||◌, ◌⊎◌, inl, inr, List, Bool, true, false, not, ℕ, zero, suc, ap, refl, subst, sym, ◌∙◌, arith, true≢false}
use Rattle.std.specs.List.{All, list_all}
use Rattle.std.proofs.lemmas.Bool.{cases_lt, eq-eqb, eqb-true}
use Rattle.std.proofs.lemmas.List.Elements.{All-cons, All-head, All-nil, All-tail}
use Rattle.std.proofs.lemmas.List.Folds.{list_all-append}
use Rattle.cal_base.specs.declared.identity.ClientId.{ClientId}
use Rattle.message.specs.declared.message.Message.TheVariants.{Piece}
use Rattle.rebuild.specs.Collecting.{standing_of}
use Rattle.rebuild.specs.Reports.{Fits, judged}
use Rattle.rebuild.specs.declared.reporting.Reporting.{Reporting}
use Rattle.rebuild.specs.declared.reporting.Reporting.TheVariants.{Unlisted, Listed, Asked, Whole, Purged}
use Rattle.token_kind.specs.Hold.{conflict}
use Rattle.token_kind.specs.declared.piece.Piece.{Piece as PieceRecord}
use Rattle.token_kind.specs.declared.reported.Reported.{Reported}
use Rattle.token_kind.specs.declared.token.Token.{Token}
use Rattle.token_table.specs.Blockers.{blocks, clients_below}
use Rattle.token_table.specs.Table.{IsGrantable, IsTable, Table, held_of, same_client}
use Rattle.token_table.proofs.Grants.{grantable_from_free}
use Rattle.cluster_law.specs.ServerState.{ServerState, is_apart, is_next_piece, last_flush, table_in, uses}

-- a test that all pass
all-pass : {X : Type 0} (p : X → Bool) → ((x : X) → p x ≡ true) → (xs : List X) → list_all p xs ≡ true
all-pass p each [] = refl
all-pass p each (x ∷ xs) = ap (λ (b : Bool). b && list_all p xs) (each x) ∙ all-pass p each xs

-- a token that may be granted is apart from what others hold
grantable-apart : (t : Table) (c : ClientId) (token : Token) → IsGrantable t c token → is_apart t c token ≡ true
grantable-apart t c token may = all-pass (λ d. same_client c d || not (conflict token.hold (held_of t d token.ino token.«class»))) each (clients_below 16)
  where
    each : (d : ClientId) → (same_client c d || not (conflict token.hold (held_of t d token.ino token.«class»))) ≡ true
    each d = by (same_client c d) refl
      where
        by : (b : Bool) → same_client c d ≡ b → (b || not (conflict token.hold (held_of t d token.ino token.«class»))) ≡ true
        by true e = refl
        by false e = ap not (may d e)

holds-apart : (t : Table) (c : ClientId) (flushed : ℕ) (holds : List Reported) → All (λ r. IsGrantable t c (judged flushed r)) holds → list_all (λ hold. is_apart t c (judged flushed hold)) holds ≡ true
holds-apart t c flushed [] all = refl
holds-apart t c flushed (r ∷ rs) all =
    ap (λ (b : Bool). b && list_all (λ hold. is_apart t c (judged flushed hold)) rs) (grantable-apart t c (judged flushed r) (All-head (λ s. IsGrantable t c (judged flushed s)) r rs all))
    ∙ holds-apart t c flushed rs (All-tail (λ s. IsGrantable t c (judged flushed s)) r rs all)

-- a piece that fits is used
pub fits-used : (s : ServerState) (c : ClientId) (piece : PieceRecord) → Fits s.collecting c piece (last_flush s c) → uses s c (Piece piece) ≡ true
fits-used s c piece fits =
    ap (λ (r : Reporting). is_next_piece r piece.index && list_all (λ hold. is_apart (table_in s) c (judged (last_flush s c) hold)) piece.holds) fits.next
    ∙ ap (λ (b : Bool). b && list_all (λ hold. is_apart (table_in s) c (judged (last_flush s c) hold)) piece.holds) (eq-eqb piece.index piece.index refl)
    ∙ holds-apart (table_in s) c (last_flush s c) piece.holds fits.apart

-- both of two tests
both : (a b : Bool) → (a && b) ≡ true → (a ≡ true) × (b ≡ true)
both true b e = (refl, e)
both false b e = absurd (true≢false (sym e))

-- a piece that is the next one
next-is : (r : Reporting) (index : ℕ) → is_next_piece r index ≡ true → r ≡ Asked index
next-is Unlisted index e = absurd (true≢false (sym e))
next-is Listed index e = absurd (true≢false (sym e))
next-is (Asked next) index e = ap (λ n. Asked n) (eqb-true next index e)
next-is Whole index e = absurd (true≢false (sym e))
next-is Purged index e = absurd (true≢false (sym e))

-- what all clients below a number pass, each of them does
each-below : (p : ClientId → Bool) (n k : ℕ) → list_all p (clients_below n) ≡ true → k < n → p (record { 0 = k }) ≡ true
unfolding clients_below
each-below p zero k e lt = absurd (omega arith)
each-below p (suc n) k e lt = by (cases_lt k n) (λ h. each-below p n k parts.0 h)
  where
    parts : (list_all p (clients_below n) ≡ true) × (list_all p (record { 0 = n } ∷ []) ≡ true)
    parts = both (list_all p (clients_below n)) (list_all p (record { 0 = n } ∷ [])) (sym (list_all-append p (clients_below n) (record { 0 = n } ∷ [])) ∙ e)

    by : (k < n) ⊎ (n ≤ k) → (k < n → p (record { 0 = k }) ≡ true) → p (record { 0 = k }) ≡ true
    by (inl h) below = below h
    by (inr ge) below = let same : n ≡ k = omega arith in subst (λ m. p (record { 0 = m }) ≡ true) same (both (p (record { 0 = n })) true parts.1).0

-- a token that is apart from what others hold may be granted, where the table is one
apart-grantable : (t : Table) (c : ClientId) (token : Token) → IsTable t → is_apart t c token ≡ true → IsGrantable t c token
apart-grantable t c token table e = grantable_from_free t table c token free
  where
    free : (k : ℕ) → k < 16 → blocks t c token (record { 0 = k }) ≡ false
    free k lt = by (same_client c (record { 0 = k })) (conflict token.hold (held_of t (record { 0 = k }) token.ino token.«class»)) (each-below (λ d. same_client c d || not (conflict token.hold (held_of t d token.ino token.«class»))) 16 k e lt)
      where
        by : (a b : Bool) → (a || not b) ≡ true → (not a && b) ≡ false
        by true b h = refl
        by false true h = absurd (true≢false (sym h))
        by false false h = refl

apart-holds : (t : Table) (c : ClientId) (flushed : ℕ) (holds : List Reported) → IsTable t → list_all (λ hold. is_apart t c (judged flushed hold)) holds ≡ true → All (λ r. IsGrantable t c (judged flushed r)) holds
apart-holds t c flushed [] table e = All-nil (λ r. IsGrantable t c (judged flushed r))
apart-holds t c flushed (r ∷ rs) table e =
    let parts = both (is_apart t c (judged flushed r)) (list_all (λ hold. is_apart t c (judged flushed hold)) rs) e in
    All-cons (λ s. IsGrantable t c (judged flushed s)) r rs (apart-grantable t c (judged flushed r) table parts.0) (apart-holds t c flushed rs table parts.1)

-- a piece that is used fits
used-fits : (s : ServerState) (c : ClientId) (piece : PieceRecord) → IsTable (table_in s) → uses s c (Piece piece) ≡ true → Fits s.collecting c piece (last_flush s c)
used-fits s c piece table e =
    let parts = both (is_next_piece (standing_of s.collecting c) piece.index) (list_all (λ hold. is_apart (table_in s) c (judged (last_flush s c) hold)) piece.holds) e in
    record { next = next-is (standing_of s.collecting c) piece.index parts.0; apart = apart-holds (table_in s) c (last_flush s c) piece.holds table parts.1 }

pub fits-where-used : (s : ServerState) (c : ClientId) (piece : PieceRecord) → IsTable (table_in s) → IsTrue (uses s c (Piece piece)) ↔ Fits s.collecting c piece (last_flush s c)
fits-where-used s c piece table = (λ e. used-fits s c piece table e, λ fits. fits-used s c piece fits)
