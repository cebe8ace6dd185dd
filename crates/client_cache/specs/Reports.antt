-- A client's report of what it holds.
use Rattle.std.specs.Prelude.{◌≡◌, ◌≤◌, ◌<◌, ◌+◌, ◌*◌, ℕ, zero, suc, true, All, Contains, List, [], ◌∷◌, ◌++◌, length, Option, Some, None, if◌then◌else◌}
use Rattle.std.specs.List.{AllPairs}
use Rattle.cal_base.specs.Limits.{inodes}
use Rattle.cal_base.specs.declared.identity.Ino.{Ino}
use Rattle.token_kind.specs.Class.{class_number}
use Rattle.token_kind.specs.Token.{IsReported}
use Rattle.token_kind.specs.declared.«class».Class.{Class}
use Rattle.token_kind.specs.declared.«class».Class.TheVariants.{Names, Data, Attr, Open}
use Rattle.token_kind.specs.declared.flush.Flush.{Flush}
use Rattle.token_kind.specs.declared.hold.Hold.{Hold}
use Rattle.token_kind.specs.declared.hold.Hold.TheVariants.{None as Nothing}
use Rattle.token_kind.specs.declared.reported.Reported.{Reported}
use Rattle.token_kind.specs.declared.token.Token.{Token}
use Rattle.client_cache.specs.Holds.{hold_in, is_held}
use Rattle.client_cache.specs.Known.{Known, flush_at, inode_at}

-- the number of a flush as a report has it: 0 for none, and with Names and Open
abbrev pub flush_number : Class → Option Flush → ℕ
flush_number Names flush = 0
flush_number Data None = 0
flush_number Data (Some flush) = flush.number
flush_number Attr None = 0
flush_number Attr (Some flush) = flush.number
flush_number Open flush = 0

-- what a flush leaves of a class
abbrev pub flush_leaves : Class → Option Flush → Hold
flush_leaves Names flush = Nothing
flush_leaves Data None = Nothing
flush_leaves Data (Some flush) = flush.leave_data
flush_leaves Attr None = Nothing
flush_leaves Attr (Some flush) = flush.leave_attr
flush_leaves Open flush = Nothing

abbrev pub report_of : Ino → Class → Hold → Option Flush → Reported
report_of ino cls hold flush = record { token = record { ino = ino; «class» = cls; hold = hold }; flush = flush_number cls flush; leave = flush_leaves cls flush }

-- the hold of a class, as it was before an outstanding flush, with the number of that flush and what it leaves
abbrev pub report_at : Known → Ino → Class → Reported
report_at known ino cls = report_of ino cls (hold_in (inode_at known ino).holds cls) (flush_at known ino)

-- the same, where something is held
abbrev pub reported : Known → Ino → Class → List Reported
reported known ino cls = if is_held (hold_in (inode_at known ino).holds cls) then report_at known ino cls ∷ [] else []

-- the holds of an inode, by class
abbrev pub reported_at : Known → Ino → List Reported
reported_at known ino = reported known ino Names ++ (reported known ino Data ++ (reported known ino Attr ++ reported known ino Open))

-- the holds of the inodes below n, by inode, then class
unfoldable pub reported_below : Known → ℕ → List Reported
reported_below known zero = []
reported_below known (suc n) = reported_below known n ++ reported_at known (record { 0 = n })

-- all holds
abbrev pub reports : Known → List Reported
reports known = reported_below known inodes

-- the place of a class on an inode, by inode, then class; there are four classes
abbrev pub class_place : Token → ℕ
class_place token = token.ino.0 * 4 + class_number token.«class»

-- a hold stands before another in a report
abbrev pub IsListedBefore : Reported → Reported → Type 0
IsListedBefore a b = class_place a.token < class_place b.token

-- a report lists exactly the holds, each as it is reported, by inode, then class, and so each once; each is
-- one that a message spells, and there is one for each class on each inode at most
pub record IsReport (known : Known) (holds : List Reported) : Type 0 where
  pub formed : All IsReported holds
  pub each : All (λ r. r ≡ report_at known r.token.ino r.token.«class») holds
  pub all : (ino : Ino) (cls : Class) → is_held (hold_in (inode_at known ino).holds cls) ≡ true → Contains holds (report_at known ino cls)
  pub order : AllPairs IsListedBefore holds
  pub few : length holds ≤ inodes * 4
