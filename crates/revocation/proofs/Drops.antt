use Rattle.std.proofs.Common.{◌≡◌, List, [], ◌∷◌, Bool, true, false, not, filter, Option, None, if◌then◌else◌, refl, sym, ap, ◌∙◌, true≢false}
use Rattle.cal_base.specs.declared.identity.ClientId.{ClientId}
use Rattle.token_kind.specs.declared.hold.Hold.{Hold}
use Rattle.token_table.specs.declared.hold_key.HoldKey.{HoldKey}
use Rattle.token_table.specs.Table.{same_key, same_client}
use Rattle.token_table.proofs.Keys.{same_key-true}
use Rattle.revocation.specs.Waiting.{asked_at}

-- what is left of what is asked without that of a client
pub asked_at-without_client : (c : ClientId) (es : List (HoldKey × Hold)) (q : HoldKey)
    → asked_at (filter (λ e. not (same_client c e.0.client)) es) q ≡ (if same_client c q.client then None else asked_at es q)
asked_at-without_client c [] q = by (same_client c q.client)
  where
    by : (b : Bool) → ◌≡◌ {A = Option Hold} None (if b then None else None)
    by true = refl
    by false = refl
asked_at-without_client c (e ∷ es) q = by (same_client c e.0.client) (same_client c q.client) (same_key q e.0) refl refl refl (asked_at-without_client c es q)
  where
    agree : same_key q e.0 ≡ true → same_client c q.client ≡ same_client c e.0.client
    agree s = ap (λ (k : HoldKey). same_client c k.client) (same_key-true q e.0 s)

    by : (a b d : Bool) → same_client c e.0.client ≡ a → same_client c q.client ≡ b → same_key q e.0 ≡ d
        → asked_at (filter (λ e. not (same_client c e.0.client)) es) q ≡ (if same_client c q.client then None else asked_at es q)
        → asked_at (filter (λ e. not (same_client c e.0.client)) (e ∷ es)) q ≡ (if same_client c q.client then None else asked_at (e ∷ es) q)
    by true true d p r s ih = rw (p, ih, r) refl
    by true false true p r s ih = absurd (true≢false (sym p ∙ sym (agree s) ∙ r))
    by true false false p r s ih = rw (p, ih, r, s) refl
    by false true true p r s ih = absurd (true≢false (sym r ∙ agree s ∙ p))
    by false true false p r s ih = rw (p, s, ih, r) refl
    by false false true p r s ih = rw (p, s, r) refl
    by false false false p r s ih = rw (p, s, ih, r) refl
