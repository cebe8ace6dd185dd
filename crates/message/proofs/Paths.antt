-- Names, paths and their texts.
use Rattle.std.proofs.Common.{◌≡◌, ◌≢◌, ◌==◌, ◌+◌, ◌<◌, ◌≤◌, ◌∷◌, ◌++◌, [], ℕ, Bool, true, false, List, Some, None, Ok, length, take, All, get_or, refl, sym, ap, ◌∙◌, arith, append_assoc, append-nil, length-append}
use Rattle.std.specs.Prelude.{nat_le, if◌then◌else◌}
use Rattle.std.specs.List.{list_all, slice_split}
use Rattle.std.proofs.lemmas.Bool.Decides.{nat_tests}
use Rattle.std.proofs.lemmas.List.{take_more, take_all}
use Rattle.std.proofs.lemmas.List.Elements.{All-cons, All-nil}
use Rattle.tree_law.specs.NameTest.{is_name}
use Rattle.tree_law.specs.Path.{IsName, IsPath, path_text, slashed}
use Rattle.tree_law.proofs.NameTests.{passes_name}
use Rattle.tree_law.proofs.PathParts.{parts_of_slashed}
use Rattle.message.specs.Reading.{byte_at, take_at, byte_field}
use Rattle.message.specs.Field.{up_to, one_to}
use Rattle.message.specs.Names.{name_at, name_by, path_at}
use Rattle.message.proofs.Parts.{and_ok, bind_ok, meant_ok, many_all}

-- one name more behind a slash
pub slashed-append : (xs : List (List ℕ)) (x : List ℕ) → slashed (xs ++ x ∷ []) ≡ slashed xs ++ (47 ∷ x)
slashed-append [] x = ap (λ (r : List ℕ). 47 ∷ r) (append-nil x)
slashed-append (y ∷ xs) x =
    ap (λ (r : List ℕ). 47 ∷ (y ++ r)) (slashed-append xs x) ∙ ap (λ (r : List ℕ). 47 ∷ r) (sym (append_assoc y (slashed xs) (47 ∷ x)))

pub slashed_more : (names : List (List ℕ)) (i : ℕ) (d name bytes text middle longer : List ℕ) → i < length names → text ≡ slashed (take i names) → name ≡ get_or names i d → bytes ≡ name
    → middle ≡ text ++ 47 ∷ [] → longer ≡ middle ++ bytes → longer ≡ slashed (take (i + 1) names)
slashed_more names i d name bytes text middle longer within so is copied first pushed =
    pushed ∙ ap (λ (r : List ℕ). middle ++ r) (copied ∙ is) ∙ ap (λ (r : List ℕ). r ++ get_or names i d) first
    ∙ append_assoc text (47 ∷ []) (get_or names i d) ∙ ap (λ (r : List ℕ). r ++ (47 ∷ get_or names i d)) so
    ∙ sym (slashed-append (take i names) (get_or names i d)) ∙ ap slashed (sym (take_more names i d within))

pub slashed_all : (names : List (List ℕ)) (i : ℕ) (text : List ℕ) → length names ≤ i → text ≡ slashed (take i names) → text ≡ slashed names
slashed_all names i text all so = so ∙ ap slashed (take_all i names all)

-- but for the root a path is its names, each after a slash
pub path_text_is : (names : List (List ℕ)) → length names ≢ 0 → slashed names ≡ path_text names
path_text_is [] some = absurd (some refl)
path_text_is (name ∷ names) some = refl

pub root_text : (names : List (List ℕ)) → length names ≡ 0 → 47 ∷ [] ≡ path_text names
root_text [] none = refl
root_text (name ∷ names) none = absurd (omega arith)

tail_same : (a b : List ℕ) → 47 ∷ a ≡ 47 ∷ b → a ≡ b
tail_same a b e = cc

no_name_is_empty : (name : List ℕ) (names : List (List ℕ)) → IsPath (name ∷ names) → [] ≡ name ++ slashed names → ⊥
no_name_is_empty name names is e =
    let first : IsName name = is.names 0 [] (omega arith) in
    omega (arith, first.from_one, ap length e, length-append name (slashed names))

-- a text is that of one path
pub same_path : (a b : List (List ℕ)) → IsPath a → IsPath b → path_text a ≡ path_text b → a ≡ b
same_path [] [] is_a is_b e = refl
same_path [] (name ∷ names) is_a is_b e = absurd (no_name_is_empty name names is_b (tail_same _ _ e))
same_path (name ∷ names) [] is_a is_b e = absurd (no_name_is_empty name names is_a (sym (tail_same _ _ e)))
same_path (x ∷ xs) (y ∷ ys) is_a is_b e =
    sym (parts_of_slashed x xs is_a.names) ∙ ap (slice_split (λ byte. byte == 47)) (tail_same _ _ e) ∙ parts_of_slashed y ys is_b.names

pub from_le : (a b : ℕ) → nat_le a b ≡ true → a ≤ b
from_le a b e = grind (arith, nat_tests)

-- a test that a value passed
pub passed : {A : Type 0} (b : Bool) (x y : A) → (if b then Some x else None) ≡ Some y → (b ≡ true) × (x ≡ y)
passed true x y e = (refl, cc)
passed false x y e = absurd cc

-- what is read by a test passes it
pub name_by_passes : (test : List ℕ → Bool) (bytes : List ℕ) (x : List ℕ × List ℕ) → name_by test bytes ≡ Ok x → test x.0 ≡ true
unfolding name_by
name_by_passes test bytes x e =
    let count = bind_ok (byte_field (one_to 27) bytes) _ x e in
    let name = bind_ok (take_at count.0.0 count.0.1) _ x count.2 in
    let is = meant_ok _ _ _ x name.2 in
    let good = passed (test name.0.0) name.0.0 x.0 is.0 in
    rw (← good.1) good.0

-- the names of a path that is read are a path
pub path_is : (bytes rest : List ℕ) (names : List (List ℕ)) → path_at bytes ≡ Ok (names, rest) → IsPath names
unfolding path_at
path_is bytes rest names e =
    let count = bind_ok (byte_field (up_to 16) bytes) _ (names, rest) e in
    let byte = bind_ok (byte_at bytes) _ count.0 count.1 in
    let is = meant_ok _ _ _ count.0 byte.2 in
    let few = passed (nat_le byte.0.0 16) byte.0.0 count.0.0 is.0 in
    let all = many_all {S = Unit {0}} IsName (λ before. name_at) (λ x. tt) (λ s l x read. passes_name x.0 (name_by_passes is_name l x read)) count.0.0 tt count.0.1 (names, rest) count.2 in
    record { to_sixteen = (let le : byte.0.0 ≤ 16 = from_le byte.0.0 16 few.0 in omega (arith, le, few.1, all.0)); names = all.1 }
