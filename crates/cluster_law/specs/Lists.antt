-- Lists of what happened.
use Rattle.std.specs.Prelude.{if◌then◌else◌, ℕ, zero, suc, Option, Some, None, List, [], ◌∷◌, ◌++◌, Bool, true, false, slice_get}
use Rattle.cal_base.specs.declared.identity.Ino.{Ino}

-- each of a list
abbrev pub Each : {X : Type 0} → (X → Type 0) → List X → Type 0
Each P [] = Unit {0}
Each P (x ∷ xs) = P x × Each P xs

-- the item of a number from 1
abbrev pub numbered : {X : Type 0} → List X → ℕ → Option X
numbered xs zero = None
numbered xs (suc n) = slice_get xs n

-- an option that passes a test
abbrev pub only_if : {X : Type 0} → (X → Bool) → Option X → Option X
only_if test None = None
only_if test (Some x) = if test x then Some x else None

abbrev pub is_empty : {X : Type 0} → List X → Bool
is_empty [] = true
is_empty (x ∷ xs) = false

-- each of a list that stands newest first, with those before it
abbrev pub EachAfter : {X : Type 0} → (List X → X → Type 0) → List X → Type 0
EachAfter P [] = Unit {0}
EachAfter P (x ∷ before) = EachAfter P before × P before x

-- the first of a list
abbrev pub first_of : {X : Type 0} → List X → Option X
first_of [] = None
first_of (x ∷ xs) = Some x

-- the inodes below a number, in order
unfoldable pub inodes_below : ℕ → List Ino
inodes_below zero = []
inodes_below (suc n) = inodes_below n ++ record { 0 = n } ∷ []

-- a list put in order onto one that stands newest first
abbrev pub onto : {X : Type 0} → List X → List X → List X
onto [] old = old
onto (x ∷ xs) old = onto xs (x ∷ old)
