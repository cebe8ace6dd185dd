-- The words of a line, and what is read from the first of some words.
use Rattle.std.specs.Prelude.{ℕ, ◌==◌, List, [], ◌∷◌, if◌then◌else◌, Option, Some, None, Result, Ok, bytes_eq}
use Rattle.std.specs.Borrow.{Bor}
use Rattle.std.specs.List.{slice_split}
use Rattle.line_words.specs.Outcome.{outside, then_read}
use Rattle.line_words.specs.declared.read_error.OutOfForm.{OutOfForm}

-- the words of a line, one space between each two; between two spaces beside each other is an empty word
abbrev pub words : List ℕ → List (List ℕ)
words line = slice_split (λ byte. byte == 32) line

-- the words of what stands behind a space, if there is one
abbrev pub words_left : Option (Bor (List ℕ)) → List (List ℕ)
words_left None = []
words_left (Some text) = words text.now

-- the first word, read so, and the words behind it
abbrev pub first_as : {T : Type 0} → (List ℕ → Result T OutOfForm) → List (List ℕ) → Result (T × List (List ℕ)) OutOfForm
first_as read [] = outside
first_as read (word ∷ behind) = then_read (read word) (λ value. Ok (value, behind))

-- the words behind the first, which has to be this one
abbrev pub behind_word : List ℕ → List (List ℕ) → Result (List (List ℕ)) OutOfForm
behind_word wanted [] = outside
behind_word wanted (word ∷ behind) = if bytes_eq word wanted then Ok behind else outside

-- the one word that is left, read so
abbrev pub last_as : {T : Type 0} → (List ℕ → Result T OutOfForm) → List (List ℕ) → Result T OutOfForm
last_as read [] = outside
last_as read (word ∷ []) = read word
last_as read (word ∷ next ∷ more) = outside
