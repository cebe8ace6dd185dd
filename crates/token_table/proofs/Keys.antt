use Rattle.std.proofs.Common.{◌≡◌, Bool, true, false, refl, sym, ap, ◌∙◌, true≢false, rules}
use Rattle.cal_base.specs.declared.identity.ClientId.{ClientId}
use Rattle.cal_base.specs.declared.identity.Ino.{Ino}
use Rattle.token_table.specs.declared.hold_key.HoldKey.{HoldKey}
use Rattle.token_table.specs.Table.{same_key, same_client, same_write}

-- keys that are one are equal
pub same_key-true : (a b : HoldKey) → same_key a b ≡ true → a ≡ b
same_key-true a b h = search rules

-- a key is one with itself
pub same_key-refl : (a : HoldKey) → same_key a a ≡ true
same_key-refl a = search rules

pub same_client-true : (c d : ClientId) → same_client c d ≡ true → c ≡ d
same_client-true c d h = search rules

pub same_client-refl : (c : ClientId) → same_client c c ≡ true
same_client-refl c = search rules

pub same_write-true : (v w : ClientId × Ino) → same_write v w ≡ true → v ≡ w
same_write-true v w h = search rules

pub same_write-refl : (v : ClientId × Ino) → same_write v v ≡ true
same_write-refl v = search rules

-- clients that differ do so both ways
pub same_client-false : (c d : ClientId) → same_client c d ≡ false → same_client d c ≡ false
same_client-false c d ne = by (same_client d c) refl
  where
    by : (b : Bool) → same_client d c ≡ b → b ≡ false
    by true e = absurd (true≢false (sym (same_client-refl c) ∙ ap (same_client c) (sym (same_client-true d c e)) ∙ ne))
    by false e = refl

-- and so do writes
pub same_write-false : (v w : ClientId × Ino) → same_write v w ≡ false → same_write w v ≡ false
same_write-false v w ne = by (same_write w v) refl
  where
    by : (b : Bool) → same_write w v ≡ b → b ≡ false
    by true e = absurd (true≢false (sym (same_write-refl v) ∙ ap (same_write v) (sym (same_write-true w v e)) ∙ ne))
    by false e = refl
