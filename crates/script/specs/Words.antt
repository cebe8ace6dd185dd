-- The words of a line, and lines of one, two, three and four words.
use Rattle.std.specs.Prelude.{◌==◌, ℕ, List, [], ◌∷◌, length, nat_lt, Result, Ok, Err}
use Rattle.std.specs.List.{slice_split, filter}
use Rattle.script.specs.declared.bad_line.BadWhy.{BadWhy}
use Rattle.script.specs.declared.bad_line.BadWhy.TheVariants.{Count}

-- the words of a line: its maximal runs of bytes other than space
abbrev pub words : List ℕ → List (List ℕ)
words line = filter (λ part. nat_lt 0 (length part)) (slice_split (λ byte. byte == 32) line)

pub record Two : Type 0 where
  pub first : List ℕ
  pub second : List ℕ

pub record Three : Type 0 where
  pub first : List ℕ
  pub second : List ℕ
  pub third : List ℕ

pub record Four : Type 0 where
  pub first : List ℕ
  pub second : List ℕ
  pub third : List ℕ
  pub fourth : List ℕ

-- no more words
abbrev pub none_of : List (List ℕ) → Result (Unit {0}) BadWhy
none_of [] = Ok tt
none_of (word ∷ more) = Err Count

-- exactly one word
abbrev pub one_of : List (List ℕ) → Result (List ℕ) BadWhy
one_of [] = Err Count
one_of (first ∷ []) = Ok first
one_of (first ∷ second ∷ more) = Err Count

-- exactly two words
abbrev pub two_of : List (List ℕ) → Result Two BadWhy
two_of [] = Err Count
two_of (first ∷ []) = Err Count
two_of (first ∷ second ∷ []) = Ok (record { first = first; second = second })
two_of (first ∷ second ∷ third ∷ more) = Err Count

-- exactly three words
abbrev pub three_of : List (List ℕ) → Result Three BadWhy
three_of [] = Err Count
three_of (first ∷ []) = Err Count
three_of (first ∷ second ∷ []) = Err Count
three_of (first ∷ second ∷ third ∷ []) = Ok (record { first = first; second = second; third = third })
three_of (first ∷ second ∷ third ∷ fourth ∷ more) = Err Count

-- exactly four words
abbrev pub four_of : List (List ℕ) → Result Four BadWhy
four_of [] = Err Count
four_of (first ∷ []) = Err Count
four_of (first ∷ second ∷ []) = Err Count
four_of (first ∷ second ∷ third ∷ []) = Err Count
four_of (first ∷ second ∷ third ∷ fourth ∷ []) = Ok (record { first = first; second = second; third = third; fourth = fourth })
four_of (first ∷ second ∷ third ∷ fourth ∷ fifth ∷ more) = Err Count
