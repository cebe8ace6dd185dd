use Rattle.std.specs.Prelude.{◌+◌, ◌*◌, ◌≡◌, ◌++◌, ℕ, Bool, true, false, ◌&&◌, nat_eq, if◌then◌else◌, List, [], ◌∷◌, Option, Some, None}
use Rattle.shared_disk.specs.Map.{at_gate, at_header, first_content}
use Rattle.shared_disk.specs.Disk.{Disk}
use Rattle.shared_disk.specs.Sectors.{written}
use Rattle.journal.specs.Layout.{open_gate, closed_gate, opens, header_of, contents_at, outside, sector, is_header, spelled}

-- the writes of a commit, in order
abbrev pub commit_writes : List (ℕ × List ℕ) → List (ℕ × List ℕ)
commit_writes homes = (at_header, header_of homes) ∷ (contents_at first_content homes ++ (at_gate, open_gate) ∷ (homes ++ (at_gate, closed_gate) ∷ []))

-- how many writes a commit of so many homes makes
abbrev pub commit_length : ℕ → ℕ
commit_length homes = 2 * homes + 3

-- no transaction is under way: the gate is closed
abbrev pub IsClosed : List (List ℕ) → Type 0
IsClosed sectors = opens (sector sectors at_gate) ≡ false

-- the volume's sectors as a replay leaves them; none where an open gate's header is outside its grammar
abbrev pub replayed : List (List ℕ) → Option (List (List ℕ))
replayed sectors =
    if opens (sector sectors at_gate) then (if is_header (sector sectors at_header) then Some (outside (written sectors (spelled sectors))) else None) else Some (outside sectors)

-- this write opens the gate
abbrev pub opens_gate : ℕ → List ℕ → Bool
opens_gate at bytes = nat_eq at at_gate && opens bytes

-- one of these writes left the gate open
abbrev pub opened : List (ℕ × List ℕ) → Bool
opened [] = false
opened (w ∷ ws) = if opens_gate w.0 w.1 then true else opened ws

-- the volume with the homes of a transaction where these writes opened the gate, else as it was
abbrev pub before_or_after : List (List ℕ) → List (ℕ × List ℕ) → List (ℕ × List ℕ) → List (List ℕ)
before_or_after sectors homes made = if opened made then written (outside sectors) homes else outside sectors

-- a call changed a disk with these sectors by some writes, which replay to the volume with the homes
-- where one of them opened the gate, and else to the volume as it was
pub record IsBeforeOrAfter (sectors : List (List ℕ)) (homes : List (ℕ × List ℕ)) (old new : Disk) : Type 0 where
  pub made : List (ℕ × List ℕ)
  pub changes : new.changes ≡ old.changes ++ made
  pub left : new.sectors ≡ Some (written sectors made)
  pub replays : replayed (written sectors made) ≡ Some (before_or_after sectors homes made)

-- the gate is closed, and the volume has the homes
pub record IsCommitted (sectors : List (List ℕ)) (homes : List (ℕ × List ℕ)) (new : Disk) : Type 0 where
  pub sectors_now : List (List ℕ)
  pub told : new.sectors ≡ Some sectors_now
  pub closed : IsClosed sectors_now
  pub outside_is : outside sectors_now ≡ written (outside sectors) homes
