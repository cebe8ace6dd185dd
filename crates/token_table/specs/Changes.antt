use Rattle.std.specs.Prelude.{◌≡◌, List, [], ◌∷◌, ◌++◌, Bool, true, false, not, filter, if◌then◌else◌}
use Rattle.cal_base.specs.declared.identity.ClientId.{ClientId}
use Rattle.cal_base.specs.declared.identity.Ino.{Ino}
use Rattle.token_kind.specs.declared.«class».Class.{Class}
use Rattle.token_kind.specs.declared.hold.Hold.{Hold}
use Rattle.token_kind.specs.declared.hold.Hold.TheVariants.{None as Nothing}
use Rattle.token_table.specs.declared.hold_key.HoldKey.{HoldKey}
use Rattle.token_table.specs.Table.{Table, same_client, same_key, same_write, key_of, hold_at, held_of, is_data_write}

-- the order of writes without one of them
abbrev pub without : List (ClientId × Ino) → ClientId × Ino → List (ClientId × Ino)
without writes write = filter (λ w. not (same_write write w)) writes

-- the order of writes, where a hold was a Data Write hold or not, and is one or not: what became one goes to the end
abbrev pub reordered : List (ClientId × Ino) → ClientId × Ino → Bool → Bool → List (ClientId × Ino)
reordered writes write true true = writes
reordered writes write true false = without writes write
reordered writes write false true = writes ++ write ∷ []
reordered writes write false false = writes

-- the holds are as before, but for one
abbrev pub Puts : List (HoldKey × Hold) → List (HoldKey × Hold) → HoldKey → Hold → Type 0
Puts old new key hold = (q : HoldKey) → hold_at new q ≡ (if same_key key q then hold else hold_at old q)

-- one hold is set, and all others are as before; a hold that becomes Data Write goes to the end of the order of writes
pub record Sets (old new : Table) (c : ClientId) (ino : Ino) (cls : Class) (hold : Hold) : Type 0 where
  pub holds : Puts old.holds new.holds (key_of c ino cls) hold
  pub order : new.writes ≡ reordered old.writes (c, ino) (is_data_write cls (held_of old c ino cls)) (is_data_write cls hold)

-- a client holds nothing more, and all others hold what they did, in the same order of writes
pub record Drops (old new : Table) (c : ClientId) : Type 0 where
  pub holds : (d : ClientId) (ino : Ino) (cls : Class) → held_of new d ino cls ≡ (if same_client c d then Nothing else held_of old d ino cls)
  pub order : new.writes ≡ filter (λ w. not (same_client c w.0)) old.writes
