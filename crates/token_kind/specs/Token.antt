-- Which holds a class can have, and what a report may say of one.
use Rattle.std.specs.Prelude.{◌≡◌, ◌<◌, ◌^◌, Bool, true}
use Rattle.cal_base.specs.Limits.{inodes}
use Rattle.token_kind.specs.Class.{has_write}
use Rattle.token_kind.specs.Hold.{is_held}
use Rattle.token_kind.specs.declared.«class».Class.{Class}
use Rattle.token_kind.specs.declared.hold.Hold.{Hold}
use Rattle.token_kind.specs.declared.hold.Hold.TheVariants.{None as Nothing, Read, Write}
use Rattle.token_kind.specs.declared.reported.Reported.{Reported}
use Rattle.token_kind.specs.declared.token.Token.{Token}

-- a hold of this class can be so: Write of Data and Attr alone
abbrev pub may_hold : Class → Hold → Bool
may_hold cls Nothing = true
may_hold cls Read = true
may_hold cls Write = has_write cls

-- what a token is: its class can be held so
abbrev pub IsToken : Token → Type 0
IsToken token = may_hold token.«class» token.hold ≡ true

-- the class of a reported hold can be held so, and as the hold's flush leaves it
pub record HasModes (r : Reported) : Type 0 where
  pub hold : IsToken r.token
  pub leave : may_hold r.token.«class» r.leave ≡ true

-- what a report may say of a hold: it is one, of an inode of the volume; and a flush, whose number is
-- not 0, may be outstanding, without which nothing is left
pub record IsReported (r : Reported) : Type 0 where
  pub ino : r.token.ino.0 < inodes
  pub held : is_held r.token.hold ≡ true
  pub modes : HasModes r
  pub flush : r.flush < 2 ^ 64
  pub no_flush : r.flush ≡ 0 → r.leave ≡ Nothing
