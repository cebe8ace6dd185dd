-- What is said of each value among a map's entries, and of what its look-ups find.
use Rattle.std.proofs.Common.{◌≡◌, ◌<◌, ◌==◌, ◌||◌, ℕ, zero, suc, Bool, true, false, List, [], ◌∷◌, All, length, map, get_or, Some, cond, sym, ap, subst, refl, ◌∙◌, arith}
use Rattle.std.specs.Ordering.{eq_by_cmp}
use Rattle.std.specs.List.{list_any}
use Rattle.std.specs.FinMap as finite
use Rattle.std.proofs.lemmas.Bool.{eq-eqb}
use Rattle.std.proofs.lemmas.List.Elements.{All-head, All-tail}
use Rattle.cal_base.specs.declared.identity.Ino.{Ino}
use Rattle.tree_law.specs.Names.{Names}
use Rattle.volume_plan.proofs.Named.{names_have}
use Rattle.volume_plan.proofs.NamesOf.{order}

abbrev Row : Type 0
Row = List (List ℕ × Ino)

row_found : (Q : Ino → Type 0) (row : Row) (name : List ℕ) (ino : Ino) → All (λ (pair : List ℕ × Ino). Q pair.1) row → finite.find order name row ≡ Some ino → Q ino
row_found Q [] name ino all is = absurd (cc)
row_found Q (e ∷ row) name ino all is =
    elim (eq_by_cmp order name e.0) as (λ b. cond b (Some e.1) (finite.find order name row) ≡ Some ino → Q ino) [
      | true ↦ λ found. (let one : e.1 ≡ ino = cc in subst Q one (All-head (λ (pair : List ℕ × Ino). Q pair.1) e row all))
      | false ↦ λ found. row_found Q row name ino (All-tail (λ (pair : List ℕ × Ino). Q pair.1) e row all) found
    ] is

-- what holds of each value holds of one that is found
pub value_found : (Q : Ino → Type 0) (names : Names) (name : List ℕ) (ino : Ino) → All (λ (pair : List ℕ × Ino). Q pair.1) (finite.entries names) → finite.get names name ≡ Some ino → Q ino
value_found Q names name ino all got = row_found Q (finite.entries names) name ino all (sym (finite.get-entries names name) ∙ got)

or_right : (a b : Bool) → b ≡ true → (a || b) ≡ true
or_right true b e = refl
or_right false b e = e

any_here : (row : Row) (k : ℕ) (d : List ℕ × Ino) → k < length row → list_any (λ ino. ino.0 == (get_or row k d).1.0) (map (λ e. e.1) row) ≡ true
any_here [] k d below = absurd (omega arith)
any_here (e ∷ row) zero d below = ap (λ (b : Bool). b || list_any (λ ino. ino.0 == e.1.0) (map (λ e. e.1) row)) (eq-eqb e.1.0 e.1.0 refl)
any_here (e ∷ row) (suc k) d below = or_right (e.1.0 == (get_or row k d).1.0) _ (any_here row k d (omega arith))

-- what holds of all that is found holds of each value
pub each_value : (Q : Ino → Type 0) (names : Names) → ((name : List ℕ) (ino : Ino) → finite.get names name ≡ Some ino → Q ino) → All (λ (pair : List ℕ × Ino). Q pair.1) (finite.entries names)
each_value Q names each k d below =
    let h = names_have names (get_or (finite.entries names) k d).1.0 (any_here (finite.entries names) k d below) in
    each h.name (get_or (finite.entries names) k d).1 h.got
