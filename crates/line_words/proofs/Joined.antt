-- Words without spaces, and a text of them with one space between each two.
use Rattle.std.proofs.Common.{◌≡◌, ◌==◌, ◌&&◌, ℕ, zero, suc, Bool, true, false, List, [], ◌∷◌, All, not, refl, sym, ap, ◌∙◌, arith}
use Rattle.std.specs.List.{list_all, onto_first, join_with_byte}
use Rattle.std.proofs.lemmas.Bool.{and_parts}
use Rattle.std.proofs.lemmas.List.Splits.{slice_split_none, slice_split_at, slice_split-cons_yes, slice_split-cons_no}
use Rattle.line_words.specs.Words.{words}

-- no byte is a space
abbrev pub is_free : List ℕ → Bool
is_free word = list_all (λ byte. not (byte == 32)) word

abbrev pub are_free : List (List ℕ) → Bool
are_free parts = list_all is_free parts

pub and_both : (a b : Bool) → a ≡ true → b ≡ true → (a && b) ≡ true
and_both true b e f = f
and_both false b e f = e

no_space : (byte : ℕ) → not (byte == 32) ≡ true → (byte == 32) ≡ false
no_space byte h = elim (byte == 32) as (λ b. not b ≡ true → b ≡ false) [
  | true ↦ λ e. sym e
  | false ↦ λ e. refl
] h

no_spaces : (word : List ℕ) → is_free word ≡ true → All (λ byte. (byte == 32) ≡ false) word
no_spaces [] h k d l = absurd (omega arith)
no_spaces (byte ∷ word) h zero d l = no_space byte (and_parts (not (byte == 32)) (is_free word) h).0
no_spaces (byte ∷ word) h (suc k) d l = no_spaces word (and_parts (not (byte == 32)) (is_free word) h).1 k d (omega arith)

-- words without spaces, joined, are cut into the same words
pub words_joined : (first : List ℕ) (more : List (List ℕ)) → are_free (first ∷ more) ≡ true → words (join_with_byte 32 (first ∷ more)) ≡ first ∷ more
words_joined first [] h = slice_split_none (λ byte. byte == 32) first (no_spaces first (and_parts (is_free first) true h).0)
words_joined first (next ∷ more) h =
    let both = and_parts (is_free first) (are_free (next ∷ more)) h in
    slice_split_at (λ byte. byte == 32) first 32 (join_with_byte 32 (next ∷ more)) (no_spaces first both.0) refl ∙ ap (λ (parts : List (List ℕ)). first ∷ parts) (words_joined next more both.1)

onto_free : (byte : ℕ) (parts : List (List ℕ)) → not (byte == 32) ≡ true → are_free parts ≡ true → are_free (onto_first byte parts) ≡ true
onto_free byte [] e h = and_both _ _ (and_both _ _ e refl) refl
onto_free byte (part ∷ parts) e h = let both = and_parts (is_free part) (are_free parts) h in and_both _ _ (and_both _ _ e both.0) both.1

one_more : (byte : ℕ) (text : List ℕ) (b : Bool) → (byte == 32) ≡ b → are_free (words text) ≡ true → are_free (words (byte ∷ text)) ≡ true
one_more byte text true e h = ap are_free (slice_split-cons_yes (λ byte. byte == 32) byte text e) ∙ h
one_more byte text false e h = ap are_free (slice_split-cons_no (λ byte. byte == 32) byte text e) ∙ onto_free byte (words text) (ap not e) h

-- the words of a text have no spaces
pub words_free : (text : List ℕ) → are_free (words text) ≡ true
words_free [] = refl
words_free (byte ∷ text) = one_more byte text (byte == 32) refl (words_free text)
