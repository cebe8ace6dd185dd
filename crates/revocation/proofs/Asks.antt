use Rattle.std.proofs.Common.{◌≡◌, Bool, true, false, ◌&&◌, not, Option, Some, if◌then◌else◌, refl, ap, ◌∙◌}
use Rattle.token_kind.specs.declared.blocker.Blocker.{Blocker}
use Rattle.token_kind.specs.declared.hold.Hold.{Hold}
use Rattle.token_table.specs.Blockers.{is_open}
use Rattle.token_table.specs.Table.{same_key}
use Rattle.token_table.specs.declared.hold_key.HoldKey.{HoldKey}
use Rattle.token_table.proofs.Keys.{same_key-true}
use Rattle.revocation.specs.Revokes.{key_of_blocker, lower_asked, asked_with}

-- where one hold is asked to the mode of a blocker, or lower as it was asked, that blocker is asked too
pub asks_one : (f g : HoldKey → Option Hold) (b : Blocker) (mode : Hold) → is_open b.«class» ≡ false → mode ≡ lower_asked (f (key_of_blocker b)) b.asked
    → (q : HoldKey) → g q ≡ (if same_key (key_of_blocker b) q then Some mode else f q) → g q ≡ asked_with q (f q) b
asks_one f g b mode closed e q step = step ∙ by (same_key (key_of_blocker b) q) refl
  where
    by : (s : Bool) → same_key (key_of_blocker b) q ≡ s → (if s then Some mode else f q) ≡ (if not (is_open b.«class») && s then Some (lower_asked (f q) b.asked) else f q)
    by true same = rw closed (ap (λ (h : Hold). Some h) (e ∙ ap (λ (k : HoldKey). lower_asked (f k) b.asked) (same_key-true (key_of_blocker b) q same)))
    by false same = rw closed refl
