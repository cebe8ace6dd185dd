use Rattle.std.specs.Prelude.{ℕ, Bool, true, false}
use Rattle.token_kind.specs.declared.«class».Class.{Class}
use Rattle.token_kind.specs.declared.«class».Class.TheVariants.{Names, Data, Attr, Open}

-- the number by which messages name a class
abbrev pub class_number : Class → ℕ
class_number Names = 1
class_number Data = 2
class_number Attr = 3
class_number Open = 4

-- a hold of this class can be Write
abbrev pub has_write : Class → Bool
has_write Names = false
has_write Data = true
has_write Attr = true
has_write Open = false
