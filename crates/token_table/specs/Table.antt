use Rattle.std.specs.Prelude.{◌<◌, ◌≡◌, List, Bool, true, false, ◌&&◌, nat_eq, unwrap_or, count_by, if◌then◌else◌}
use Rattle.std.specs.Map.{lookup}
use Rattle.cal_base.specs.Limits.{clients, inodes}
use Rattle.cal_base.specs.declared.identity.ClientId.{ClientId}
use Rattle.cal_base.specs.declared.identity.Ino.{Ino}
use Rattle.token_kind.specs.Hold.{conflict}
pub use Rattle.token_kind.specs.Hold.{is_held}
pub use Rattle.token_kind.specs.Token.{IsToken, may_hold}
use Rattle.token_kind.specs.declared.«class».Class.{Class}
use Rattle.token_kind.specs.declared.«class».Class.TheVariants.{Names, Data, Attr, Open}
use Rattle.token_kind.specs.declared.hold.Hold.{Hold}
use Rattle.token_kind.specs.declared.hold.Hold.TheVariants.{None as Nothing, Read, Write}
use Rattle.token_kind.specs.declared.token.Token.{Token}
use Rattle.token_table.specs.declared.hold_key.HoldKey.{HoldKey}
use Rattle.token_table.specs.contracts.hold_key.HoldKeyPartialEq.TheImpl as key_eq

-- the holds, each under whose it is and of what; the Data Write holds, in the order in which they became Write
pub record Table : Type 0 where
  pub holds : List (HoldKey × Hold)
  pub writes : List (ClientId × Ino)

-- whose hold it is, and of what
abbrev pub key_of : ClientId → Ino → Class → HoldKey
key_of c ino cls = record { client = c; ino = ino; «class» = cls }

-- two keys are one
abbrev pub same_key : HoldKey → HoldKey → Bool
same_key = (key_eq.ghosts).eq

-- two clients are one
abbrev pub same_client : ClientId → ClientId → Bool
same_client c d = nat_eq c.0 d.0

-- two clients and inodes are the same
abbrev pub same_write : ClientId × Ino → ClientId × Ino → Bool
same_write v w = same_client v.0 w.0 && nat_eq v.1.0 w.1.0

-- what stands under a key among holds
abbrev pub hold_at : List (HoldKey × Hold) → HoldKey → Hold
hold_at holds key = unwrap_or (lookup (same_key key) holds) Nothing

-- what a client holds in a class on an inode
abbrev pub held_of : Table → ClientId → Ino → Class → Hold
held_of t c ino cls = hold_at t.holds (key_of c ino cls)

-- a hold in a class is a Data Write hold
abbrev pub is_data_write : Class → Hold → Bool
is_data_write Names hold = false
is_data_write Data Nothing = false
is_data_write Data Read = false
is_data_write Data Write = true
is_data_write Attr hold = false
is_data_write Open hold = false

-- a client's hold may become that of a token: it conflicts with no hold of another client
abbrev pub IsGrantable : Table → ClientId → Token → Type 0
IsGrantable t c token = (d : ClientId) → same_client c d ≡ false → conflict token.hold (held_of t d token.ino token.«class») ≡ false

-- the rule of a table: no two clients hold conflicting tokens; each Data Write hold stands once in the order of writes,
-- with nothing else; holds are of the cluster's clients and the volume's inodes; Names and Open are never Write
pub record IsTable (t : Table) : Type 0 where
  pub apart : (c d : ClientId) (ino : Ino) (cls : Class) → same_client c d ≡ false → conflict (held_of t c ino cls) (held_of t d ino cls) ≡ false
  pub listed : (c : ClientId) (ino : Ino) → count_by (same_write (c, ino)) t.writes ≡ (if is_data_write Data (held_of t c ino Data) then 1 else 0)
  pub within : (c : ClientId) (ino : Ino) (cls : Class) → is_held (held_of t c ino cls) ≡ true → (c.0 < clients) × (ino.0 < inodes)
  pub modes : (c : ClientId) (ino : Ino) (cls : Class) → may_hold cls (held_of t c ino cls) ≡ true
