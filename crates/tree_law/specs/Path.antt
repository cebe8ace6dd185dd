-- Names and paths, in the portable part of POSIX.1's rules with limits of this project's own.
use Rattle.std.specs.Prelude.{◌≢◌, ℕ, ◌≤◌, List, [], ◌∷◌, ◌++◌, length, All}

-- a graphic byte of ASCII other than '/'
abbrev pub IsNameByte : ℕ → Type 0
IsNameByte byte = (33 ≤ byte) × (byte ≤ 126) × (byte ≢ 47)

-- 1 to 27 such bytes, and neither "." nor ".."
pub record IsName (name : List ℕ) : Type 0 where
  pub from_one : 1 ≤ length name
  pub to_twenty_seven : length name ≤ 27
  pub graphic : All IsNameByte name
  pub not_dot : name ≢ 46 ∷ []
  pub not_dot_dot : name ≢ 46 ∷ 46 ∷ []

-- the root, or 1 to 16 names
pub record IsPath (path : List (List ℕ)) : Type 0 where
  pub to_sixteen : length path ≤ 16
  pub names : All IsName path

-- each name after a '/'
abbrev pub slashed : List (List ℕ) → List ℕ
slashed [] = []
slashed (name ∷ names) = 47 ∷ (name ++ slashed names)

-- how a path is written: "/" for the root, else each name after a '/'
abbrev pub path_text : List (List ℕ) → List ℕ
path_text [] = 47 ∷ []
path_text (name ∷ names) = slashed (name ∷ names)

-- no path is written so
abbrev pub IsNoPathText : List ℕ → Type 0
IsNoPathText text = (path : List (List ℕ)) → IsPath path → path_text path ≢ text
