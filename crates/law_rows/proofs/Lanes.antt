-- On which lanes a step speaks, and a directory without names.
use Rattle.std.proofs.Common.{◌≡◌, ◌&&◌, ◌∙◌, [], Bool, true, false, IsTrue, ℕ, ap, nat_eq, refl, rules, subst, sym}
use Rattle.std.specs.FinMap as map
use Rattle.std.proofs.lemmas.Bool.{eqb-true}
use Rattle.std.proofs.lemmas.List.{nil_from_length}
use Rattle.tree_law.specs.Names.{Names}

pub not-so : IsTrue false → ⊥
not-so e = search rules

both : (a b : Bool) → a && b ≡ true → (a ≡ true) × (b ≡ true)
both true b e = (refl, e)
both false b e = cc

-- a client's step speaks on its own lane alone
pub of-client : (P : ℕ → ℕ → Type 0) (view : ℕ → ℕ) (c v : ℕ) → nat_eq 0 c && nat_eq v (view c) ≡ true → view 0 ≡ 1 → P 0 1 → P c v
of-client P view c v speaking first p =
    let e = both (nat_eq 0 c) (nat_eq v (view c)) speaking in
    subst (λ d. nat_eq v (view d) ≡ true → P d v) (eqb-true 0 c e.0) (λ same. subst (λ u. P 0 u) (sym (eqb-true v (view 0) same ∙ first)) p) e.1

-- a server's step speaks on all lanes of its view
pub of-server : (P : ℕ → Type 0) (v : ℕ) → nat_eq 1 v ≡ true → P 1 → P v
of-server P v e p = subst P (eqb-true 1 v e) p

pub of-first : (P : ℕ → Type 0) (c : ℕ) → P 0 → (nat_eq 0 c ≡ false → P c) → P c
of-first P c first others = by (nat_eq 0 c) refl
  where
    by : (b : Bool) → nat_eq 0 c ≡ b → P c
    by true e = subst P (eqb-true 0 c e) first
    by false e = others e

-- a directory without names has no entries
pub no-entries : (e : Names) → e ≡ map.empty → map.entries e ≡ []
no-entries e empty = nil_from_length _ (sym (map.len-entries e) ∙ ap map.len empty ∙ map.len-empty _ _)
