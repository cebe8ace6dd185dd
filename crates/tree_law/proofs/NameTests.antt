-- The test of names passes exactly names.
use Rattle.std.proofs.Common.{◌≡◌, ◌≢◌, ◌≤◌, ℕ, Bool, not, true, false, List, [], ◌∷◌, length, nat_le, refl, arith}
use Rattle.std.specs.List.{list_all}
use Rattle.std.proofs.lemmas.Bool.{and_parts, and_from}
use Rattle.std.proofs.lemmas.Bool.Decides.{nat_tests}
use Rattle.std.proofs.lemmas.List.Sums.{AllPass-from_list_all, list_all-from_AllPass}
use Rattle.std.proofs.lemmas.Slice.Eq.{bytes_eq-Decides}
use Rattle.tree_law.specs.NameTest.{is_name, is_name_byte}
use Rattle.tree_law.specs.Path.{IsName, IsNameByte}

is_byte : (byte : ℕ) → IsNameByte byte → is_name_byte byte ≡ true
is_byte byte (low, high, apart) = grind (arith, nat_tests)

byte_is : (byte : ℕ) → is_name_byte byte ≡ true → IsNameByte byte
byte_is byte e = let low : 33 ≤ byte = grind (arith, nat_tests) in let high : byte ≤ 126 = grind (arith, nat_tests) in let apart : byte ≢ 47 = λ same. grind (arith, nat_tests) in (low, high, apart)

not_same : (b : Bool) → (b ≡ true → ⊥) → not b ≡ true
not_same true h = absurd (h refl)
not_same false h = refl

not_so : (b : Bool) → not b ≡ true → b ≡ true → ⊥
not_so true e h = grind arith
not_so false e h = grind arith

-- a name passes the test
pub name_passes : (name : List ℕ) → IsName name → is_name name ≡ true
unfolding is_name
name_passes name is =
    let least : nat_le 1 (length name) ≡ true = grind (arith, nat_tests, is.from_one) in
    let most : nat_le (length name) 27 ≡ true = grind (arith, nat_tests, is.to_twenty_seven) in
    let plain : list_all is_name_byte name ≡ true = list_all-from_AllPass _ name (λ k d h. is_byte _ (is.graphic k d h)) in
    let dot = not_same _ (λ e. is.not_dot ((bytes_eq-Decides name (46 ∷ [])).0 e)) in
    let dots = not_same _ (λ e. is.not_dot_dot ((bytes_eq-Decides name (46 ∷ 46 ∷ [])).0 e)) in
    and_from _ _ (and_from _ _ (and_from _ _ (and_from _ _ least most) plain) dot) dots

-- what passes the test is a name
pub passes_name : (name : List ℕ) → is_name name ≡ true → IsName name
unfolding is_name
passes_name name e =
    let four = and_parts _ _ e in
    let three = and_parts _ _ four.0 in
    let two = and_parts _ _ three.0 in
    let one = and_parts _ _ two.0 in
    let least : nat_le 1 (length name) ≡ true = one.0 in
    let most : nat_le (length name) 27 ≡ true = one.1 in
    record {
      from_one = grind (arith, nat_tests);
      to_twenty_seven = grind (arith, nat_tests);
      graphic = λ k d h. byte_is _ (AllPass-from_list_all _ name two.1 k d h);
      not_dot = λ same. not_so _ three.1 ((bytes_eq-Decides name (46 ∷ [])).1 same);
      not_dot_dot = λ same. not_so _ four.1 ((bytes_eq-Decides name (46 ∷ 46 ∷ [])).1 same);
    }
