-- What is taken of the words that are left: the only one, or all of them as a text.
use Rattle.std.specs.Prelude.{ℕ, List, [], ◌∷◌, Result, Ok}
use Rattle.std.specs.List.{join_with_byte}
use Rattle.line_words.specs.Outcome.{outside}
use Rattle.line_words.specs.declared.read_error.OutOfForm.{OutOfForm}

-- the one word that is left
abbrev pub one_word : List (List ℕ) → Result (List ℕ) OutOfForm
one_word [] = outside
one_word (word ∷ []) = Ok word
one_word (word ∷ next ∷ more) = outside

-- no word is left
abbrev pub alone : {T : Type 0} → T → List (List ℕ) → Result T OutOfForm
alone value [] = Ok value
alone value (word ∷ more) = outside

-- all words that are left, at least one, as they are written
abbrev pub text_left : List (List ℕ) → Result (List ℕ) OutOfForm
text_left [] = outside
text_left (word ∷ more) = Ok (join_with_byte 32 (word ∷ more))
