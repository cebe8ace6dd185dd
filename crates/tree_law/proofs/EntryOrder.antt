-- Names one behind the other, and each before all that follow.
use Rattle.std.proofs.Common.{◌≡◌, ◌<◌, ◌≤◌, ◌∷◌, [], ℕ, zero, suc, true, List, length, All, get_or, refl, arith}
use Rattle.std.specs.Ordering.{is_lt}
use Rattle.std.specs.declared.cmp.Ordering.{Ordering}
use Rattle.std.specs.declared.cmp.Ordering.TheVariants.{Less, Equal, Greater}
use Rattle.std.proofs.lemmas.Cmp.{nat_list_cmp_total}
use Rattle.cal_base.specs.declared.directory_entry.DirectoryEntry.{DirectoryEntry}
use Rattle.tree_law.specs.Entries.{AscendByName, IsBefore, is_before}

pub before-trans : {a b c : List ℕ} → IsBefore a b → IsBefore b c → IsBefore a c
before-trans {a} {b} {c} p q = record { less = nat_list_cmp_total.trans a b c p.less q.less }

less_tests : (o : Ordering) → o ≡ Less → is_lt o ≡ true
less_tests Less e = refl
less_tests Equal e = absurd cc
less_tests Greater e = absurd cc

tests_less : (o : Ordering) → is_lt o ≡ true → o ≡ Less
tests_less Less e = refl
tests_less Equal e = absurd cc
tests_less Greater e = absurd cc

-- the test passes exactly where a name stands before the other
pub before_passes : (a b : List ℕ) → IsBefore a b → is_before a b ≡ true
unfolding is_before
before_passes a b is = less_tests _ is.less

pub passes_before : (a b : List ℕ) → is_before a b ≡ true → IsBefore a b
unfolding is_before
passes_before a b e = record { less = tests_less _ e }

-- no bytes stand before all others
pub none_before : (name : List ℕ) → 1 ≤ length name → IsBefore [] name
none_before [] some = absurd (omega (arith, some))
none_before (x ∷ name) some = record { less = refl }

-- each name stands behind the one before it, and the first behind this one
abbrev pub AscendFrom : List ℕ → List DirectoryEntry → Type 0
AscendFrom before [] = Unit {0}
AscendFrom before (entry ∷ entries) = IsBefore before entry.name × AscendFrom entry.name entries

behind_all : (before : List ℕ) (entries : List DirectoryEntry) → AscendFrom before entries → (j : ℕ) (other : DirectoryEntry) → j < length entries → IsBefore before (get_or entries j other).name
behind_all before [] up j other within = absurd (omega arith)
behind_all before (entry ∷ entries) up zero other within = up.0
behind_all before (entry ∷ entries) up (suc j) other within = before-trans up.0 (behind_all entry.name entries up.1 j other (omega arith))

-- names of which each stands behind the one before it ascend
pub ascend_by : (before : List ℕ) (entries : List DirectoryEntry) → AscendFrom before entries → AscendByName entries
ascend_by before entries up = record { ascending = pairs before entries up }
  where
    pairs : (before : List ℕ) (entries : List DirectoryEntry) → AscendFrom before entries → (i j : ℕ) (other : DirectoryEntry) → i < j → j < length entries
        → IsBefore (get_or entries i other).name (get_or entries j other).name
    pairs before [] up i j other order within = absurd (omega arith)
    pairs before (entry ∷ entries) up i zero other order within = absurd (omega arith)
    pairs before (entry ∷ entries) up zero (suc j) other order within = behind_all entry.name entries up.1 j other (omega arith)
    pairs before (entry ∷ entries) up (suc i) (suc j) other order within = pairs entry.name entries up.1 i j other (omega arith) (omega arith)

-- of names that ascend each stands behind the one before it
pub ascend_from : (before : List ℕ) (entries : List DirectoryEntry) → AscendByName entries → All (λ entry. IsBefore before entry.name) entries → AscendFrom before entries
ascend_from before [] up behind = tt
ascend_from before (entry ∷ entries) up behind =
    let rest : AscendByName entries = record { ascending = λ i j other order within. up.ascending (suc i) (suc j) other (omega arith) (omega arith) } in
    (behind 0 entry (omega arith), ascend_from entry.name entries rest (λ k other within. up.ascending 0 (suc k) other (omega arith) (omega arith)))
