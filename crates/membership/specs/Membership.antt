use Rattle.std.specs.Prelude.{ℕ, List, Option, None, Some, Result, Ok, Err, if◌then◌else◌, nat_lt, slice_get, slice_set, replicate}
use Rattle.cal_base.specs.Limits.{clients}
use Rattle.cal_base.specs.declared.identity.ClientId.{ClientId}
use Rattle.cal_base.specs.declared.identity.ServerId.{ServerId}
use Rattle.cal_base.specs.declared.identity.ServerId.TheVariants.{A}
use Rattle.cal_base.specs.declared.identity.View.{View}
use Rattle.membership.specs.declared.not_so.NotSo.{NotSo}
use Rattle.membership.specs.declared.not_so.NotSo.TheVariants.{NoSuch, Dead, Alive}
use Rattle.membership.specs.declared.standing.Standing.{Standing}
use Rattle.membership.specs.declared.standing.Standing.TheVariants.{Runs, Crashed, Gone}

-- the count of clients; where each stands, client 0 first; the view that is open, and its server
pub record Membership : Type 0 where
  pub clients : ℕ
  pub standings : List Standing
  pub view : View
  pub server : ServerId

-- as the format leaves it: all clients run, in view 1 of server A
abbrev pub formed : ℕ → Membership
formed count = record { clients = count; standings = replicate clients Runs; view = record { 0 = 1 }; server = A }

-- where a client stands; none: there is no such client
abbrev pub standing_of : Membership → ClientId → Option Standing
standing_of m c = if nat_lt c.0 m.clients then slice_get m.standings c.0 else None

-- a client crashed: it may be declared gone since
abbrev pub HasCrashed : Option Standing → Type 0
HasCrashed None = ⊥
HasCrashed (Some Runs) = ⊥
HasCrashed (Some Crashed) = Unit {0}
HasCrashed (Some Gone) = Unit {0}

-- a client is declared gone
abbrev pub IsDeclared : Option Standing → Type 0
IsDeclared None = ⊥
IsDeclared (Some Runs) = ⊥
IsDeclared (Some Crashed) = ⊥
IsDeclared (Some Gone) = Unit {0}

-- what the crash of a client is answered
abbrev pub answer_of_crash : Option Standing → Result (Unit {0}) NotSo
answer_of_crash None = Err NoSuch
answer_of_crash (Some Runs) = Ok tt
answer_of_crash (Some Crashed) = Err Dead
answer_of_crash (Some Gone) = Err Dead

-- what the declaration of a client is answered: only one that crashed is declared, and once
abbrev pub answer_of_declare : Option Standing → Result (Unit {0}) NotSo
answer_of_declare None = Err NoSuch
answer_of_declare (Some Runs) = Err Alive
answer_of_declare (Some Crashed) = Ok tt
answer_of_declare (Some Gone) = Err Dead

-- one client stands elsewhere, and all else is the same
abbrev pub with_standing : Membership → ClientId → Standing → Membership
with_standing m c standing = record m { standings = slice_set m.standings c.0 standing }
