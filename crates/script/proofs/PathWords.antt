-- A path's text and its names, both ways.
use Rattle.std.proofs.Common.{◌≡◌, ◌==◌, ◌&&◌, ℕ, Bool, true, false, List, [], ◌∷◌, ◌++◌, length, All, nat_le, refl, sym, ap, ◌∙◌, cond, arith, subst, Ok, Err}
use Rattle.std.specs.List.{slice_split, onto_first}
use Rattle.std.proofs.lemmas.Bool.{and_parts, and_from}
use Rattle.std.proofs.lemmas.Bool.Decides.{nat_tests}
use Rattle.std.proofs.lemmas.List.Sums.{AllPass-from_list_all, list_all-from_AllPass}
use Rattle.tree_law.specs.NameTest.{is_name}
use Rattle.tree_law.specs.Path.{IsPath, IsName, slashed, path_text, IsNoPathText}
use Rattle.tree_law.proofs.NameTests.{name_passes, passes_name}
use Rattle.tree_law.proofs.PathParts.{parts_of_slashed}
use Rattle.script.specs.Places.{names_in, is_path, path_in}
use Rattle.script.specs.declared.bad_line.BadWhy.TheVariants.{Path}

from_tail : (x : ℕ) (parts : List (List ℕ)) (text : List ℕ) → slashed parts ≡ 47 ∷ text → slashed (onto_first x parts) ≡ 47 ∷ (x ∷ text)
from_tail x [] text e = cc
from_tail x (part ∷ parts) text e = cc

slashed_parts : (text : List ℕ) → slashed (slice_split (λ byte. byte == 47) text) ≡ 47 ∷ text
slashed_parts [] = refl
slashed_parts (x ∷ text) =
    elim (x == 47) as (λ b. (x == 47) ≡ b → slashed (cond b ([] ∷ slice_split (λ byte. byte == 47) text) (onto_first x (slice_split (λ byte. byte == 47) text))) ≡ 47 ∷ (x ∷ text)) [
      | true ↦ λ e. let is : x ≡ 47 = grind (arith, nat_tests) in ap (λ (rest : List ℕ). 47 ∷ rest) (rw is (slashed_parts text))
      | false ↦ λ e. from_tail x _ text (slashed_parts text)
    ] refl

path_text_of_slashed : (names : List (List ℕ)) (text : List ℕ) → slashed names ≡ 47 ∷ text → path_text names ≡ 47 ∷ text
path_text_of_slashed [] text e = cc
path_text_of_slashed (name ∷ names) text e = e

-- paths as a test and as a definition

is_a_path : (names : List (List ℕ)) → IsPath names → is_path names ≡ true
is_a_path names is = and_from _ _ (grind (arith, nat_tests, is.to_sixteen)) (list_all-from_AllPass is_name names (λ k d h. name_passes _ (is.names k d h)))

-- names that pass for a path are one
pub path_is : (names : List (List ℕ)) → is_path names ≡ true → IsPath names
path_is names e =
    let both = and_parts _ _ e in
    let few : nat_le (length names) 16 ≡ true = both.0 in
    record { to_sixteen = grind (arith, nat_tests); names = λ k d h. passes_name _ (AllPass-from_list_all is_name names both.1 k d h) }

names_of_slashed : (name : List ℕ) (names : List (List ℕ)) → All IsName (name ∷ names) → names_in (name ++ slashed names) ≡ name ∷ names
names_of_slashed [] names good = absurd (omega (arith, (good 0 [] (omega arith)).from_one))
names_of_slashed (byte ∷ name) names good = parts_of_slashed (byte ∷ name) names good

-- a path is read from its text
pub path_read : (path : List (List ℕ)) → IsPath path → path_in (path_text path) ≡ Ok path
path_read [] is = refl
path_read (name ∷ names) is =
    let split = names_of_slashed name names is.names in
    ap (λ (parts : List (List ℕ)). cond ((47 == 47) && is_path parts) (Ok parts) (Err Path)) split ∙ ap (λ (b : Bool). cond b (Ok (name ∷ names)) (Err Path)) (is_a_path (name ∷ names) is)

-- a path is read from a text that is its own
pub is_read : (path : List (List ℕ)) (text : List ℕ) → IsPath path → path_text path ≡ text → path_in text ≡ Ok path
is_read path text is e = subst (λ (t : List ℕ). path_in t ≡ Ok path) e (path_read path is)

text_of_names : (text : List ℕ) → path_text (names_in text) ≡ 47 ∷ text
text_of_names [] = refl
text_of_names (byte ∷ text) = path_text_of_slashed _ _ (slashed_parts (byte ∷ text))

refused : (byte : ℕ) (text : List ℕ) (b : Bool) → ((byte == 47) && is_path (names_in text)) ≡ b → IsNoPathText (byte ∷ text) → cond b (Ok (names_in text)) (Err Path) ≡ Err Path
refused byte text false e none = refl
refused byte text true e none =
    let both = and_parts _ _ e in
    let equal : (byte == 47) ≡ true = both.0 in
    let slash : byte ≡ 47 = grind (arith, nat_tests) in
    absurd (none (names_in text) (path_is _ both.1) (text_of_names text ∙ ap (λ (first : ℕ). first ∷ text) (sym slash)))

-- a text that is no path's is refused
pub is_refused : (text : List ℕ) → IsNoPathText text → path_in text ≡ Err Path
is_refused [] none = refl
is_refused (byte ∷ text) none = refused byte text _ refl none
