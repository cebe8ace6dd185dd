-- What the numbers of fields mean.
use Rattle.std.specs.Prelude.{◌==◌, ℕ, Bool, true, false, List, Option, Some, None, nat_lt, nat_le, if◌then◌else◌, ◌&&◌}
use Rattle.cal_base.specs.Limits.{clients, inodes}
use Rattle.cal_base.specs.declared.identity.ClientId.{ClientId}
use Rattle.cal_base.specs.declared.identity.Ino.{Ino}
use Rattle.cal_base.specs.declared.directory_entry.EntryKind.{EntryKind}
use Rattle.cal_base.specs.declared.directory_entry.EntryKind.TheVariants.{File, Directory}
use Rattle.token_kind.specs.Class.{has_write}
use Rattle.token_kind.specs.declared.«class».Class.{Class}
use Rattle.token_kind.specs.declared.«class».Class.TheVariants.{Names, Data, Attr, Open}
use Rattle.token_kind.specs.declared.hold.Hold.{Hold}
use Rattle.token_kind.specs.declared.hold.Hold.TheVariants.{None as Nothing, Read, Write}
use Rattle.message.specs.Reading.{Read as Reading, byte_field, number_field}

-- the number itself, where the test allows it
abbrev pub allowed : (ℕ → Bool) → ℕ → Option ℕ
allowed test number = if test number then Some number else None

-- a number from 1 on
abbrev pub from_one : ℕ → Option ℕ
from_one number = allowed (nat_lt 0) number

-- a number up to a limit
abbrev pub up_to : ℕ → ℕ → Option ℕ
up_to limit number = allowed (λ n. nat_le n limit) number

-- a number from 1 up to a limit
abbrev pub one_to : ℕ → ℕ → Option ℕ
one_to limit number = allowed (λ n. nat_lt 0 n && nat_le n limit) number

-- a client of the cluster, an inode of the volume
abbrev pub client_of : ℕ → Option ClientId
client_of number = if nat_lt number clients then Some (record { 0 = number }) else None

abbrev pub inode_of : ℕ → Option Ino
inode_of number = if nat_lt number inodes then Some (record { 0 = number }) else None

-- 1 is yes, 0 is no
unfoldable pub flag_of : ℕ → Option Bool
flag_of number = if number == 0 then Some false else if number == 1 then Some true else None

unfoldable pub entry_kind_of : ℕ → Option EntryKind
entry_kind_of number = if number == 1 then Some File else if number == 2 then Some Directory else None

unfoldable pub class_of : ℕ → Option Class
class_of number =
    if number == 1 then Some Names
    else if number == 2 then Some Data
    else if number == 3 then Some Attr
    else if number == 4 then Some Open
    else None

-- a class behind those that came before, up to a last one
abbrev pub next_class_of : ℕ → ℕ → ℕ → Option Class
next_class_of last before number = if nat_lt before number && nat_le number last then class_of number else None

-- none, Read, or of a class that has it Write
unfoldable pub hold_of : Class → ℕ → Option Hold
hold_of of number =
    if number == 0 then Some Nothing
    else if number == 1 then Some Read
    else if number == 2 && has_write of then Some Write
    else None

-- a hold that is one: Read or Write
abbrev pub held_of : Class → ℕ → Option Hold
held_of of number = if number == 0 then None else hold_of of number

-- what may be kept: none, or of a class that has Write also Read
unfoldable pub kept_of : Class → ℕ → Option Hold
kept_of of number =
    if number == 0 then Some Nothing
    else if number == 1 && has_write of then Some Read
    else None

-- what a flush leaves of a hold; none where there is no flush
abbrev pub left_of : Class → ℕ → ℕ → Option Hold
left_of of flush number = if flush == 0 && nat_lt 0 number then None else hold_of of number

-- Names and Open are always fresh
abbrev pub fresh_of : Class → ℕ → Option Bool
fresh_of of number = if number == 0 && (if has_write of then false else true) then None else flag_of number

abbrev pub call_number_at : List ℕ → Reading ℕ
call_number_at = number_field 8 from_one

abbrev pub inode_at : List ℕ → Reading Ino
inode_at = number_field 4 inode_of

abbrev pub client_at : List ℕ → Reading ClientId
client_at = byte_field client_of

-- a size in bytes, up to a limit
abbrev pub size_at : ℕ → List ℕ → Reading ℕ
size_at limit = number_field 4 (up_to limit)

abbrev pub flag_at : List ℕ → Reading Bool
flag_at = byte_field flag_of

abbrev pub class_at : List ℕ → Reading Class
class_at = byte_field class_of
