-- What is cut at a line feed, and what is joined again.
use Rattle.std.proofs.Common.{◌≡◌, ◌≢◌, ◌==◌, ℕ, zero, suc, Bool, true, false, List, [], ◌∷◌, ◌++◌, cond, refl, ap, ◌∙◌, append_assoc, subst, arith}
use Rattle.std.specs.Bool.{⊤}
use Rattle.std.specs.List.{slice_split, onto_first}
use Rattle.std.proofs.lemmas.Bool.Decides.{nat_tests}
use Rattle.judge_run.specs.Texts.{IsUncut}

pub none_uncut : IsUncut []
none_uncut k d l = absurd (omega arith)

more_uncut : (byte : ℕ) (xs : List ℕ) → byte ≢ 10 → IsUncut xs → IsUncut (byte ∷ xs)
more_uncut byte xs other h zero d l = other
more_uncut byte xs other h (suc k) d l = h k d (omega arith)

-- two fronts of a line joined
pub joined_uncut : (xs ys : List ℕ) → IsUncut xs → IsUncut ys → IsUncut (xs ++ ys)
joined_uncut [] ys h g = g
joined_uncut (x ∷ xs) ys h g = more_uncut x (xs ++ ys) (h 0 x (omega arith)) (joined_uncut xs ys (λ k d l. h (suc k) d (omega arith)) g)

abbrev FirstUncut : List (List ℕ) → Type 0
FirstUncut [] = ⊤
FirstUncut (front ∷ more) = IsUncut front

onto : (byte : ℕ) (parts : List (List ℕ)) → byte ≢ 10 → FirstUncut parts → FirstUncut (onto_first byte parts)
onto byte [] other h = more_uncut byte [] other none_uncut
onto byte (part ∷ parts) other h = more_uncut byte part other h

other : (byte : ℕ) → (byte == 10) ≡ false → byte ≢ 10
other byte e = grind (arith, nat_tests)

by_test : (byte : ℕ) (parts : List (List ℕ)) (b : Bool) → (byte == 10) ≡ b → FirstUncut parts → FirstUncut (cond b ([] ∷ parts) (onto_first byte parts))
by_test byte parts true e h = none_uncut
by_test byte parts false e h = onto byte parts (other byte e) h

first_uncut : (text : List ℕ) → FirstUncut (slice_split (λ byte. byte == 10) text)
first_uncut [] = none_uncut
first_uncut (byte ∷ text) = by_test byte (slice_split (λ b. b == 10) text) (byte == 10) refl (first_uncut text)

-- no line feed stands in the first part
pub cut_front : (text front : List ℕ) (more : List (List ℕ)) → slice_split (λ byte. byte == 10) text ≡ front ∷ more → IsUncut front
cut_front text front more e = subst FirstUncut e (first_uncut text)

-- whole lines, the front of a line, and what follows
pub regroup : (text begun front more : List ℕ) → ((text ++ begun) ++ front) ++ more ≡ (text ++ (begun ++ front)) ++ more
regroup text begun front more = ap (λ (l : List ℕ). l ++ more) (append_assoc text begun front)

-- a whole line behind others, and what follows
pub behind_line : (text line behind : List ℕ) → ((text ++ line) ++ (10 ∷ [])) ++ behind ≡ (text ++ line) ++ (10 ∷ behind)
behind_line text line behind = append_assoc (text ++ line) (10 ∷ []) behind

-- three pieces behind a text
pub spread : (text first second third : List ℕ) → ((text ++ first) ++ second) ++ third ≡ text ++ ((first ++ second) ++ third)
spread text first second third = ap (λ (l : List ℕ). l ++ third) (append_assoc text first second) ∙ append_assoc text (first ++ second) third
