use Rattle.std.specs.Prelude.{◌≡◌, ◌≤◌, List, Bool, true, false, Contains}
use Rattle.token_kind.specs.Hold.{hold_number}
use Rattle.token_kind.specs.Kept.{most_left}
use Rattle.token_kind.specs.declared.blocker.Blocker.{Blocker}
use Rattle.cal_base.specs.declared.identity.Ino.{Ino}
use Rattle.token_kind.specs.declared.token.Token.{Token}
use Rattle.token_kind.specs.declared.«class».Class.{Class}
use Rattle.token_kind.specs.declared.«class».Class.TheVariants.{Names, Data, Attr, Open}

-- a class is one of directories
abbrev pub is_of_directory : Class → Bool
is_of_directory Names = true
is_of_directory Data = false
is_of_directory Attr = false
is_of_directory Open = false

-- what blockers may be: each is asked to no more than can be left of its hold, and an inode is a directory or a file
pub record AreAskable (blockers : List Blocker) : Type 0 where
  pub modes : (b : Blocker) → Contains blockers b → hold_number b.asked ≤ most_left b.«class»
  pub kinds : (b d : Blocker) → Contains blockers b → Contains blockers d → b.ino ≡ d.ino → is_of_directory b.«class» ≡ is_of_directory d.«class»

-- what a client may need: Names of directories, and Data, Attr and Open of files, where each inode is a directory or a file
abbrev pub AreNeeds : (Ino → Bool) → List Token → Type 0
AreNeeds is_directory needs = (need : Token) → Contains needs need → is_of_directory need.«class» ≡ is_directory need.ino

-- what a change may touch: Names of directories, and Data, Attr and Open of files, where each inode is a directory or a file
abbrev pub AreTouches : (Ino → Bool) → List (Ino × Class) → Type 0
AreTouches is_directory touches = (touch : Ino × Class) → Contains touches touch → is_of_directory touch.1 ≡ is_directory touch.0
