use Rattle.std.proofs.Common.{◌≡◌, ◌==◌, ◌++◌, true, ap, ◌∙◌, ℕ, ◌+◌, ◌≤◌, Bool, List, [], ◌∷◌, take, drop, length, Some, None, sym, subst, arith, position, cond, nat_lt}
use Rattle.std.proofs.lemmas.Bool.Decides.{nat_tests}
use Rattle.std.specs.List.{slice_split, position_or_len}
use Rattle.std.proofs.lemmas.List.{take_rest, take-append-drop, drop_more}
use Rattle.std.proofs.lemmas.List.Splits.{slice_split_first, slice_split_none}
use Rattle.std.proofs.lemmas.List.Sums.{position_or_len_is, fails_before_first}
use Rattle.std.proofs.lemmas.List.Quantifiers.{position-Some}
use Rattle.cal_base.proofs.cut.cut_at.Goals as goal

-- cut at the first place that passes, the list has the parts before it and after it
first_part : (p : ℕ → Bool) (xs : List ℕ) (i : ℕ) → position p xs ≡ Some i → slice_split p xs ≡ take i xs ∷ slice_split p (drop (i + 1) xs)
first_part p xs i e =
    let found = position-Some p xs i 0 e in
    let is : position_or_len p xs ≡ i = position_or_len_is p xs i 0 (omega arith) found.2 (λ _. found.1) in
    subst (λ (k : ℕ). slice_split p xs ≡ take k xs ∷ slice_split p (drop (k + 1) xs)) is (slice_split_first p xs 0 (omega arith))

equal : (a b : ℕ) → (a == b) ≡ true → a ≡ b
equal a b e = grind (arith, nat_tests)

-- the list is what stands before the first such place, the separator, and what stands after it
whole_text : (separator : ℕ) (xs : List ℕ) (i : ℕ) → position (λ byte. byte == separator) xs ≡ Some i → xs ≡ take i xs ++ separator ∷ drop (i + 1) xs
whole_text separator xs i e =
    let found = position-Some (λ byte. byte == separator) xs i 0 e in
    sym (take-append-drop i xs) ∙ ap (λ (rest : List ℕ). take i xs ++ rest) (drop_more xs i 0 found.0 ∙ ap (λ (byte : ℕ). byte ∷ drop (i + 1) xs) (equal _ _ found.1))

at_least : (a b : ℕ) → cond (nat_lt a b) (Some a) None ≡ None → b ≤ a
at_least a b e = grind (arith, nat_tests)

-- where no place passes, the list is its one part
only_part : (p : ℕ → Bool) (xs : List ℕ) → position p xs ≡ None → slice_split p xs ≡ xs ∷ []
only_part p xs e = let all : length xs ≤ position_or_len p xs = at_least _ _ e in slice_split_none p xs (λ k d h. fails_before_first p xs k d (omega arith))

pub returns-in-Some-clause-parts : goal.returns-in-Some-clause-parts
returns-in-Some-clause-parts c = rw take_rest (first_part _ _ _ (sym c.in-Some.ensures))

pub returns-in-Some-clause-whole : goal.returns-in-Some-clause-whole
returns-in-Some-clause-whole c = rw take_rest (whole_text _ _ _ (sym c.in-Some.ensures))

pub returns-in-None-clause-parts : goal.returns-in-None-clause-parts
returns-in-None-clause-parts c = only_part _ _ (sym c.in-None.ensures)
