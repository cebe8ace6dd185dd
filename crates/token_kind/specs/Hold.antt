use Rattle.std.specs.Prelude.{ℕ, Bool, true, false}
use Rattle.token_kind.specs.declared.hold.Hold.{Hold}
use Rattle.token_kind.specs.declared.hold.Hold.TheVariants.{None as Nothing, Read, Write}

-- the number by which messages name a hold; holds are ordered by it
abbrev pub hold_number : Hold → ℕ
hold_number Nothing = 0
hold_number Read = 1
hold_number Write = 2

-- something is held
abbrev pub is_held : Hold → Bool
is_held Nothing = false
is_held Read = true
is_held Write = true

-- the lesser of two holds
abbrev pub lesser_of : Hold → Hold → Hold
lesser_of Nothing b = Nothing
lesser_of Read Nothing = Nothing
lesser_of Read Read = Read
lesser_of Read Write = Read
lesser_of Write b = b

-- holds of two clients, in one class on one inode, conflict: one is Write, and the other is not none
abbrev pub conflict : Hold → Hold → Bool
conflict Nothing b = false
conflict Read Nothing = false
conflict Read Read = false
conflict Read Write = true
conflict Write Nothing = false
conflict Write Read = true
conflict Write Write = true
