-- A test of what is shown at a number gives a number of the volume.
use Rattle.std.proofs.Common.{◌<◌, ◌≡◌, ◌==◌, ℕ, Bool, true, false, List, [], ◌∷◌, Option, Some, None, IfOk, Result, Ok, Err, is_some, nat_le, refl, sym, subst, inl, inr, arith, if◌then◌else◌}
use Rattle.cal_base.specs.Limits as limits
use Rattle.std.proofs.lemmas.Bool.{cases_lt}
use Rattle.std.specs.FinMap as map
use Rattle.tree_law.specs.Resolve.{as_directory, as_empty_directory, as_file, file_named, judged, last_of, new_place, parent_of, prefix_of, removable, resolved, room_for}
use Rattle.tree_law.specs.declared.node.Node.TheVariants.{Directory, Regular}
use Rattle.tree_law.specs.declared.reply.Why.{Why}
use Rattle.tree_law.specs.declared.reply.Why.TheVariants.{Exist, DirFull, NotEmpty}
use Rattle.cal_base.specs.declared.identity.Ino.{Ino}
use Rattle.tree_law.specs.Tree.{node_at}
use Rattle.tree_law.specs.declared.node.Node.{Node}
use Rattle.volume.specs.Volume.{Volume}
use Rattle.volume_edit.specs.Edit.{IsVolume}
use Rattle.volume_plan.specs.Shown.{shown}
use Rattle.image.proofs.Shown.{none_shown}

-- what is shown stands at one of 512 numbers
within_of : (v : Volume) (ino : Ino) (node : Node) → IsVolume v → node_at (shown v) ino ≡ Some node → ino.0 < limits.inodes
within_of v ino node is e =
    elim (cases_lt ino.0 512) [
      | inl below ↦ omega arith
      | inr past ↦
          let none = none_shown v ino is past in
          absurd (cc)
    ]

-- a test that gives the number of a node alone
abbrev Gives : Option Node → Ino → Result Ino Why → Type 0
Gives (Some node) ino r = IfOk r (λ (at : Ino). at ≡ ino)
Gives None ino r = IfOk r (λ (at : Ino). ⊥)

given : (b : Bool) (why : Why) (ino : Ino) → IfOk (if b then Ok ino else Err why) (λ (at : Ino). at ≡ ino)
given true why ino = refl
given false why ino = tt

given_else : (b : Bool) (why : Why) (r : Result Ino Why) (ino : Ino) → IfOk r (λ (at : Ino). at ≡ ino) → IfOk (if b then Err why else r) (λ (at : Ino). at ≡ ino)
given_else true why r ino is = tt
given_else false why r ino is = is

file_gives : (node : Option Node) (ino : Ino) → Gives node ino (as_file node ino)
file_gives (Some (Directory names)) ino = tt
file_gives (Some (Regular file)) ino = refl
file_gives None ino = tt

directory_gives : (node : Option Node) (ino : Ino) → Gives node ino (as_directory node ino)
directory_gives (Some (Directory names)) ino = refl
directory_gives (Some (Regular file)) ino = tt
directory_gives None ino = tt

empty_gives : (node : Option Node) (ino : Ino) → Gives node ino (as_empty_directory node ino)
empty_gives (Some (Directory names)) ino = given (map.len names == 0) NotEmpty ino
empty_gives (Some (Regular file)) ino = tt
empty_gives None ino = tt

room_gives : (name : List ℕ) (node : Option Node) (ino : Ino) → Gives node ino (room_for name node ino)
room_gives name (Some (Directory names)) ino = given_else (is_some (map.get names name)) Exist _ ino (given_else (nat_le 1024 (map.len names)) DirFull (Ok ino) ino refl)
room_gives name (Some (Regular file)) ino = tt
room_gives name None ino = tt

within_by : (v : Volume) (ino : Ino) (node : Option Node) (r : Result Ino Why) → IsVolume v → node ≡ node_at (shown v) ino → Gives node ino r → IfOk r (λ at. at.0 < limits.inodes)
within_by v ino (Some node) (Ok at) is e gives = subst (λ (i : Ino). i.0 < limits.inodes) (sym gives) (within_of v ino node is (sym e))
within_by v ino (Some node) (Err why) is e gives = tt
within_by v ino None (Ok at) is e gives = absurd gives
within_by v ino None (Err why) is e gives = tt

-- a test that gives the number of the node at which resolving ends gives one of the volume
judged_within : (test : Option Node → Ino → Result Ino Why) (v : Volume) (end : Result Ino Why) → ((node : Option Node) (ino : Ino) → Gives node ino (test node ino)) → IsVolume v → IfOk (judged test (shown v) end) (λ (at : Ino). at.0 < limits.inodes)
judged_within test v (Ok ino) gives is = within_by v ino (node_at (shown v) ino) (test (node_at (shown v) ino) ino) is refl (gives (node_at (shown v) ino) ino)
judged_within test v (Err why) gives is = tt

pub parent_within : (v : Volume) (path : List (List ℕ)) {r : Result Ino Why} → IsVolume v → r ≡ parent_of (shown v) path → IfOk r (λ (at : Ino). at.0 < limits.inodes)
parent_within v path is e = subst (λ (r : Result Ino Why). IfOk r (λ (at : Ino). at.0 < limits.inodes)) (sym e) (judged_within as_directory v (resolved (shown v) (prefix_of path)) directory_gives is)

pub file_within : (v : Volume) (path : List (List ℕ)) {r : Result Ino Why} → IsVolume v → r ≡ file_named (shown v) path → IfOk r (λ (at : Ino). at.0 < limits.inodes)
file_within v path is e = subst (λ (r : Result Ino Why). IfOk r (λ (at : Ino). at.0 < limits.inodes)) (sym e) (judged_within as_file v (resolved (shown v) path) file_gives is)

place_within : (v : Volume) (path : List (List ℕ)) → IsVolume v → IfOk (new_place (shown v) path) (λ (at : Ino). at.0 < limits.inodes)
place_within v [] is = tt
place_within v (name ∷ names) is = judged_within (room_for (last_of (name ∷ names))) v (resolved (shown v) (prefix_of (name ∷ names))) (room_gives (last_of (name ∷ names))) is

pub new_within : (v : Volume) (path : List (List ℕ)) {r : Result Ino Why} → IsVolume v → r ≡ new_place (shown v) path → IfOk r (λ (at : Ino). at.0 < limits.inodes)
new_within v path is e = subst (λ (r : Result Ino Why). IfOk r (λ (at : Ino). at.0 < limits.inodes)) (sym e) (place_within v path is)

goes_within : (v : Volume) (path : List (List ℕ)) → IsVolume v → IfOk (removable (shown v) path) (λ (at : Ino). at.0 < limits.inodes)
goes_within v [] is = tt
goes_within v (name ∷ names) is = judged_within as_empty_directory v (resolved (shown v) (name ∷ names)) empty_gives is

pub removable_within : (v : Volume) (path : List (List ℕ)) {r : Result Ino Why} → IsVolume v → r ≡ removable (shown v) path → IfOk r (λ (at : Ino). at.0 < limits.inodes)
removable_within v path is e = subst (λ (r : Result Ino Why). IfOk r (λ (at : Ino). at.0 < limits.inodes)) (sym e) (goes_within v path is)
