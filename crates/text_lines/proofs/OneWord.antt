-- A text of hexadecimal digits alone is one word.
use Rattle.std.proofs.Common.{◌≡◌, ◌==◌, ◌*◌, ◌&&◌, ◌<◌, ℕ, zero, suc, Bool, true, false, List, [], ◌∷◌, length, All, nat_lt, refl, sym, ap, ◌∙◌, arith}
use Rattle.std.specs.List.{list_all, join_with_byte}
use Rattle.std.proofs.lemmas.Bool.{and_parts}
use Rattle.std.proofs.lemmas.Bool.Decides.{nat_tests}
use Rattle.std.proofs.lemmas.List.Splits.{length-slice_split, slice_split_none}
use Rattle.script.specs.Numbers.{is_hex_digit}
use Rattle.text_lines.specs.Replies.{are_none, are_bytes}
use Rattle.line_words.specs.Words.{words}
use Rattle.line_words.proofs.Kept.{text_again}

some_left : (parts : List (List ℕ)) → 0 < length parts → are_none parts ≡ false
some_left [] h = absurd (omega arith)
some_left (part ∷ parts) h = refl

-- a text has a word
pub has_words : (text : List ℕ) → are_none (words text) ≡ false
has_words text = some_left (words text) (omega (arith, length-slice_split (λ byte. byte == 32) text))

no_space : (byte : ℕ) → is_hex_digit byte ≡ true → (byte == 32) ≡ false
no_space byte h = grind (arith, nat_tests)

no_spaces : (text : List ℕ) → list_all is_hex_digit text ≡ true → All (λ byte. (byte == 32) ≡ false) text
no_spaces [] h k d l = absurd (omega arith)
no_spaces (byte ∷ text) h zero d l = no_space byte (and_parts (is_hex_digit byte) (list_all is_hex_digit text) h).0
no_spaces (byte ∷ text) h (suc k) d l = no_spaces text (and_parts (is_hex_digit byte) (list_all is_hex_digit text) h).1 k d (omega arith)

one_word : (text : List ℕ) → list_all is_hex_digit text ≡ true → words text ≡ text ∷ []
one_word text h = slice_split_none (λ byte. byte == 32) text (no_spaces text h)

abbrev digits : ℕ → List ℕ → Bool
digits count text = nat_lt 0 count && (length text == 2 * count) && list_all is_hex_digit text

and_false : (b c : Bool) → c ≡ false → (b && c) ≡ false
and_false true c e = e
and_false false c e = refl

-- words of a text with another byte are no bytes
no_bytes : (count : ℕ) (text : List ℕ) (parts : List (List ℕ)) → join_with_byte 32 parts ≡ text → list_all is_hex_digit text ≡ false → are_bytes count parts ≡ false
no_bytes count text [] e h = refl
no_bytes count text (word ∷ []) e h = and_false _ _ (ap (list_all is_hex_digit) e ∙ h)
no_bytes count text (word ∷ next ∷ more) e h = refl

by_digits : (count : ℕ) (text : List ℕ) (b : Bool) → list_all is_hex_digit text ≡ b → digits count text ≡ are_bytes count (words text)
by_digits count text true h = sym (ap (are_bytes count) (one_word text h))
by_digits count text false h = and_false _ _ h ∙ sym (no_bytes count text (words text) (text_again text) h)

-- what is told of the words is told of the text
pub bytes_in : (count : ℕ) (text : List ℕ) → digits count text ≡ are_bytes count (words text)
bytes_in count text = by_digits count text (list_all is_hex_digit text) refl
