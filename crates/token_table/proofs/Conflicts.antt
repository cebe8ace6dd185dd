use Rattle.std.proofs.Common.{◌≡◌, true, false, refl}
use Rattle.token_kind.specs.Hold.{conflict, lesser_of}
use Rattle.token_kind.specs.declared.«class».Class.{Class}
use Rattle.token_kind.specs.declared.hold.Hold.{Hold}
use Rattle.token_kind.specs.declared.hold.Hold.TheVariants.{None as Nothing, Read, Write}
use Rattle.token_table.specs.Table.{is_held, may_hold}

-- none conflicts with nothing
pub conflict-none : (a : Hold) → conflict a Nothing ≡ false
conflict-none Nothing = refl
conflict-none Read = refl
conflict-none Write = refl

-- a conflict goes both ways
pub conflict-comm : (a b : Hold) → conflict a b ≡ conflict b a
conflict-comm Nothing Nothing = refl
conflict-comm Nothing Read = refl
conflict-comm Nothing Write = refl
conflict-comm Read Nothing = refl
conflict-comm Read Read = refl
conflict-comm Read Write = refl
conflict-comm Write Nothing = refl
conflict-comm Write Read = refl
conflict-comm Write Write = refl

-- what conflicts with no hold does not once it is lowered
pub conflict-lesser_of : (a to b : Hold) → conflict a b ≡ false → conflict (lesser_of a to) b ≡ false
conflict-lesser_of Nothing to b h = refl
conflict-lesser_of Read Nothing b h = refl
conflict-lesser_of Read Read b h = h
conflict-lesser_of Read Write b h = h
conflict-lesser_of Write Nothing b h = refl
conflict-lesser_of Write Read Nothing h = refl
conflict-lesser_of Write Read Read h = refl
conflict-lesser_of Write Read Write h = h
conflict-lesser_of Write Write b h = h

-- what is held once it is lowered was held
pub is_held-lesser_of : (a to : Hold) → is_held (lesser_of a to) ≡ true → is_held a ≡ true
is_held-lesser_of Nothing to h = h
is_held-lesser_of Read to h = refl
is_held-lesser_of Write to h = refl

-- what a class can be held as it can also be held lower
pub may_hold-lesser_of : (cls : Class) (a to : Hold) → may_hold cls a ≡ true → may_hold cls (lesser_of a to) ≡ true
may_hold-lesser_of cls Nothing to h = h
may_hold-lesser_of cls Read Nothing h = refl
may_hold-lesser_of cls Read Read h = refl
may_hold-lesser_of cls Read Write h = refl
may_hold-lesser_of cls Write Nothing h = refl
may_hold-lesser_of cls Write Read h = refl
may_hold-lesser_of cls Write Write h = h
