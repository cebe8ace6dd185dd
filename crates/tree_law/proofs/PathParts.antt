-- The parts of a text between its slashes against the names of a path.
use Rattle.std.proofs.Common.{◌≡◌, ◌≢◌, ◌==◌, ◌≤◌, ℕ, true, false, List, [], ◌∷◌, ◌++◌, length, All, slice_index_or, refl, sym, ap, ◌∙◌, append-nil, cond, ◌<◌, arith, subst, append_assoc, length-append}
use Rattle.std.specs.List.{slice_split, onto_first}
use Rattle.std.proofs.lemmas.Grind.{common_steps}
use Rattle.std.proofs.lemmas.Bool.Decides.{nat_tests}
use Rattle.std.proofs.lemmas.List.Elements.{All-cons, All-tail, All-append}
use Rattle.std.proofs.lemmas.List.Splits.{slice_split_none, slice_split_at}
use Rattle.tree_law.specs.Path.{IsPath, IsName, slashed, path_text, IsNoPathText}

-- names were read from the front of the parts, and these parts are left
pub record IsReadSoFar (names left parts : List (List ℕ)) : Type 0 where
  pub all : names ++ left ≡ parts
  pub few : length names ≤ 16
  pub good : All IsName names

is_other : (x : ℕ) → x ≢ 47 → (x == 47) ≡ false
is_other x apart = grind (arith, nat_tests)

without_slash : (name : List ℕ) → IsName name → All (λ byte. (byte == 47) ≡ false) name
without_slash name is = λ k d h. is_other _ (is.graphic k d h).2

-- the parts of a path's text behind its first slash are its names
pub parts_of_slashed : (name : List ℕ) (names : List (List ℕ)) → All IsName (name ∷ names) → slice_split (λ byte. byte == 47) (name ++ slashed names) ≡ name ∷ names
parts_of_slashed name [] good = rw append-nil (slice_split_none (λ byte. byte == 47) name (without_slash name (good 0 [] (omega arith))))
parts_of_slashed name (next ∷ names) good =
    slice_split_at (λ byte. byte == 47) name 47 (next ++ slashed names) (without_slash name (good 0 [] (omega arith))) refl
    ∙ ap (λ (rest : List (List ℕ)). name ∷ rest) (parts_of_slashed next names (All-tail IsName name (next ∷ names) good))

from_tail : (x : ℕ) (parts : List (List ℕ)) (text : List ℕ) → slashed parts ≡ 47 ∷ text → slashed (onto_first x parts) ≡ 47 ∷ (x ∷ text)
from_tail x [] text e = cc
from_tail x (part ∷ parts) text e = cc

-- the parts of a text, each after a slash, are the text after a slash
pub slashed_parts : (text : List ℕ) → slashed (slice_split (λ byte. byte == 47) text) ≡ 47 ∷ text
slashed_parts [] = refl
slashed_parts (x ∷ text) =
    elim (x == 47) as (λ b. (x == 47) ≡ b → slashed (cond b ([] ∷ slice_split (λ byte. byte == 47) text) (onto_first x (slice_split (λ byte. byte == 47) text))) ≡ 47 ∷ (x ∷ text)) [
      | true ↦ λ e. let is : x ≡ 47 = grind (arith, nat_tests) in ap (λ (rest : List ℕ). 47 ∷ rest) (rw is (slashed_parts text))
      | false ↦ λ e. from_tail x _ text (slashed_parts text)
    ] refl

path_text_of_slashed : (names : List (List ℕ)) (text : List ℕ) → slashed names ≡ 47 ∷ text → path_text names ≡ 47 ∷ text
path_text_of_slashed [] text e = cc
path_text_of_slashed (name ∷ names) text e = e

-- all parts were read and are names
pub all_read : (names : List (List ℕ)) (text : List ℕ) → IsReadSoFar names [] (slice_split (λ byte. byte == 47) text) → IsPath names × (path_text names ≡ 47 ∷ text)
all_read names text so =
    let same : names ≡ slice_split (λ byte. byte == 47) text = sym (append-nil names) ∙ so.all in
    (record { to_sixteen = so.few; names = so.good }, path_text_of_slashed names text (ap slashed same ∙ slashed_parts text))

-- a text whose parts are no path is the text of none
pub no_path_text : (text : List ℕ) → 0 < length text → ¬ (IsPath (slice_split (λ byte. byte == 47) text)) → IsNoPathText (47 ∷ text)
no_path_text text some bad [] path e = let same : [] ≡ text = cc in let none : length text ≡ 0 = rw (← same) refl in omega arith
no_path_text text some bad (name ∷ names) path e =
    let same : name ++ slashed names ≡ text = cc in
    bad (subst IsPath (sym (rw (← same) (parts_of_slashed name names path.names))) path)

-- more parts are left than a path has names
pub too_many : (names more : List (List ℕ)) (name left text : List ℕ) → IsReadSoFar names (slice_split (λ byte. byte == 47) left) (slice_split (λ byte. byte == 47) text)
    → slice_split (λ byte. byte == 47) left ≡ name ∷ more → length names ≡ 16 → ¬ (IsPath (slice_split (λ byte. byte == 47) text))
too_many names more name left text so is full path =
    omega (arith, length-append names (slice_split (λ byte. byte == 47) left), ap length is, ap length so.all, path.to_sixteen)

-- a part is no name
pub no_name : (names more : List (List ℕ)) (name left text : List ℕ) → IsReadSoFar names (slice_split (λ byte. byte == 47) left) (slice_split (λ byte. byte == 47) text)
    → slice_split (λ byte. byte == 47) left ≡ name ∷ more → ¬ (IsName name) → ¬ (IsPath (slice_split (λ byte. byte == 47) text))
no_name names more name left text so is bad path =
    let all : names ++ name ∷ more ≡ slice_split (λ byte. byte == 47) text = ap (λ (rest : List (List ℕ)). names ++ rest) (sym is) ∙ so.all in
    let at : slice_index_or (names ++ name ∷ more) (length names) [] ≡ name = grind (arith, common_steps) in
    let is_path : IsPath (names ++ name ∷ more) = subst IsPath (sym all) path in
    bad (subst IsName at (is_path.names (length names) [] (omega (arith, length-append names (name ∷ more)))))

-- one more name is read
pub read_on : (names more left parts longer : List (List ℕ)) (name copy : List ℕ) → IsReadSoFar names left parts → left ≡ name ∷ more → ¬ (length names ≡ 16) → IsName name
    → longer ≡ names ++ copy ∷ [] → copy ≡ name → IsReadSoFar longer more parts
read_on names more left parts longer name copy so is room good pushed copied =
    let one : All IsName (name ∷ []) = All-cons IsName name [] good (λ (k : ℕ) (d : List ℕ) (h : k < 0). absurd (omega arith)) in
    rw (pushed, copied) (record {
      all = append_assoc names (name ∷ []) more ∙ ap (λ (rest : List (List ℕ)). names ++ rest) (sym is) ∙ so.all;
      few = omega (arith, length-append names (name ∷ []), so.few);
      good = All-append IsName names (name ∷ []) so.good one;
    })
