-- What calls need and changes touch, as tokens.
use Rattle.std.specs.Prelude.{ℕ, zero, suc, Bool, nat_eq}
use Rattle.cal_base.specs.declared.identity.Ino.{Ino}
use Rattle.token_kind.specs.Class.{class_number}
use Rattle.token_kind.specs.declared.«class».Class.TheVariants.{Names, Data, Attr, Open}
use Rattle.token_kind.specs.declared.«class».Class.{Class}
use Rattle.token_kind.specs.declared.hold.Hold.TheVariants.{None as Nothing, Read, Write}
use Rattle.token_kind.specs.declared.hold.Hold.{Hold}
use Rattle.token_kind.specs.declared.token.Token.{Token}
use Rattle.tree_law.specs.Needs.{Need, Touch}

-- the class and the hold that a number stands for
abbrev pub class_numbered : ℕ → Class
class_numbered zero = Names
class_numbered (suc zero) = Names
class_numbered (suc (suc zero)) = Data
class_numbered (suc (suc (suc zero))) = Attr
class_numbered (suc (suc (suc (suc n)))) = Open

abbrev pub hold_numbered : ℕ → Hold
hold_numbered zero = Nothing
hold_numbered (suc zero) = Read
hold_numbered (suc (suc n)) = Write

abbrev pub same_class : Class → Class → Bool
same_class a b = nat_eq (class_number a) (class_number b)

-- a need of the tree as a token, and a touch with its class
abbrev pub token_of : Need → Token
token_of need = record { ino = need.0; «class» = class_numbered need.1; hold = hold_numbered need.2 }

abbrev pub touch_of : Touch → Ino × Class
touch_of touch = (touch.0, class_numbered touch.1)
