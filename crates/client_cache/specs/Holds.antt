-- What a client holds of one inode, by class.
use Rattle.std.specs.Prelude.{ℕ, nat_eq, if◌then◌else◌}
use Rattle.token_kind.specs.Hold.{hold_number}
pub use Rattle.token_kind.specs.Hold.{is_held}
use Rattle.token_kind.specs.declared.«class».Class.{Class}
use Rattle.token_kind.specs.declared.«class».Class.TheVariants.{Names, Data, Attr, Open}
use Rattle.token_kind.specs.declared.hold.Hold.{Hold}
use Rattle.token_kind.specs.declared.hold.Hold.TheVariants.{None as Nothing}
use Rattle.client_cache.specs.declared.holds.Holds.{Holds}

-- the hold in a class
abbrev pub hold_in : Holds → Class → Hold
hold_in holds Names = holds.names
hold_in holds Data = holds.contents
hold_in holds Attr = holds.attr
hold_in holds Open = holds.«open»

-- the holds, with another one in a class
abbrev pub with_hold : Holds → Class → Hold → Holds
with_hold holds Names hold = record { names = hold; contents = holds.contents; attr = holds.attr; «open» = holds.«open» }
with_hold holds Data hold = record { names = holds.names; contents = hold; attr = holds.attr; «open» = holds.«open» }
with_hold holds Attr hold = record { names = holds.names; contents = holds.contents; attr = hold; «open» = holds.«open» }
with_hold holds Open hold = record { names = holds.names; contents = holds.contents; attr = holds.attr; «open» = hold }

-- nothing is held
abbrev pub no_holds : Holds
no_holds = record { names = Nothing; contents = Nothing; attr = Nothing; «open» = Nothing }

-- the number of the hold in the class with a number: 1 Names, 2 Data, 3 Attr, 4 Open
abbrev pub held_number : Holds → ℕ → ℕ
held_number holds number =
    if nat_eq number 1 then hold_number holds.names
    else if nat_eq number 2 then hold_number holds.contents
    else if nat_eq number 3 then hold_number holds.attr
    else if nat_eq number 4 then hold_number holds.«open»
    else 0
