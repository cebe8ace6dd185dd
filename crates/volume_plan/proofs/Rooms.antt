-- Where the tree that a volume shows has room for a name.
use Rattle.std.proofs.Common.{◌≡◌, ◌<◌, ℕ, Bool, true, false, List, [], ◌∷◌, Option, Some, None, Result, Ok, Err, is_some, nat_le, refl, subst, arith, if◌then◌else◌}
use Rattle.cal_base.specs.Limits as limits
use Rattle.std.proofs.lemmas.Bool.Decides.{nat_tests}
use Rattle.std.specs.FinMap as map
use Rattle.cal_base.specs.declared.identity.Ino.{Ino}
use Rattle.directory.specs.Directory.{IsAbsent, entry_count}
use Rattle.inode.specs.declared.inode.Kind.{Kind}
use Rattle.inode.specs.declared.inode.Kind.TheVariants.{Free, File, Dir}
use Rattle.tree_law.specs.Resolve.{judged, last_of, new_place, prefix_of, resolved, room_for}
use Rattle.tree_law.specs.Tree.{node_at}
use Rattle.tree_law.specs.declared.node.Node.{Node}
use Rattle.tree_law.specs.declared.reply.Why.{Why}
use Rattle.tree_law.specs.declared.reply.Why.TheVariants.{Exist, DirFull}
use Rattle.volume.specs.Volume.{Slots, Volume, slots_of}
use Rattle.volume_edit.specs.Edit.{HasSlots, IsSized, IsVolume, free_inode, inode_at}
use Rattle.volume_plan.specs.Shown.{names_of, shown, shown_as}
use Rattle.volume_plan.proofs.EditParts.{directory_within, get_there}
use Rattle.volume_plan.proofs.NamesOf.{got_absent, names_of-len}
use Rattle.volume_plan.proofs.ShownNodes.{shown_at}

-- an inode is a directory, whose slots are those of one
pub record IsListed (v : Volume) (number : ℕ) : Type 0 where
  pub kind : (inode_at v.inodes number).kind ≡ Dir
  pub sized : IsSized (inode_at v.inodes number) (slots_of v number)

pub listed : (v : Volume) (number : ℕ) → IsVolume v → (inode_at v.inodes number).kind ≡ Dir → IsListed v number
listed v number is kind =
    let below = directory_within v number is kind in
    let count = is.inode_count in
    let has = is.directories number (inode_at v.inodes number) (get_there v.inodes number free_inode (omega arith)) in
    record { kind = kind; sized = subst (λ (k : Kind). HasSlots k (inode_at v.inodes number) (slots_of v number)) kind has }

-- a directory has room for one more name
pub record HasRoom (v : Volume) (place : Ino) (name : List ℕ) : Type 0 where
  pub listed : IsListed v place.0
  pub absent : IsAbsent (slots_of v place.0) name
  pub few : entry_count (slots_of v place.0) < limits.directory_entries

record Chosen (o : Option Ino) (full : Bool) (ino place : Ino) : Type 0 where
  none : o ≡ None
  room : full ≡ false
  same : ino ≡ place

chosen : (o : Option Ino) (full : Bool) (ino place : Ino) → (if is_some o then Err Exist else (if full then Err DirFull else Ok ino)) ≡ Ok place → Chosen o full ino place
chosen (Some other) full ino place e = absurd (cc)
chosen None true ino place e = absurd (cc)
chosen None false ino place e = record { none = refl; room = refl; same = (let same : ino ≡ place = cc in same) }

record Found (k : Kind) (slots : Slots) (name : List ℕ) (ino place : Ino) : Type 0 where
  kind : k ≡ Dir
  chosen : Chosen (map.get (names_of slots) name) (nat_le 1024 (map.len (names_of slots))) ino place

found : (kind : Kind) (named : Bool) (slots : Slots) (name : List ℕ) (ino place : Ino) → room_for name (shown_as kind named slots) ino ≡ Ok place → Found kind slots name ino place
found Free named slots name ino place e = absurd (cc)
found File true slots name ino place e = absurd (cc)
found File false slots name ino place e = absurd (cc)
found Dir named slots name ino place e = record { kind = refl; chosen = chosen (map.get (names_of slots) name) (nat_le 1024 (map.len (names_of slots))) ino place e }

room_here : (v : Volume) (name : List ℕ) (ino place : Ino) → IsVolume v → room_for name (node_at (shown v) ino) ino ≡ Ok place → HasRoom v place name
room_here v name ino place is e =
    let f = found (inode_at v.inodes ino.0).kind (inode_at v.inodes ino.0).named (slots_of v ino.0) name ino place (subst (λ (n : Option Node). room_for name n ino ≡ Ok place) (shown_at v ino.0 is) e) in
    let l = listed v ino.0 is f.kind in
    let d = l.sized.directory.distinct in
    let len = names_of-len (slots_of v ino.0) d in
    let room = f.chosen.room in
    subst (λ (p : Ino). HasRoom v p name) f.chosen.same (record {
      listed = l;
      absent = got_absent (slots_of v ino.0) name d f.chosen.none;
      few = grind (arith, nat_tests);
    })

room_at : (v : Volume) (name : List ℕ) (at : Result Ino Why) (place : Ino) → IsVolume v → judged (room_for name) (shown v) at ≡ Ok place → HasRoom v place name
room_at v name (Ok ino) place is e = room_here v name ino place is e
room_at v name (Err why) place is e = absurd (cc)

-- a new place has room for the last name of a path
pub new_place_room : (v : Volume) (path : List (List ℕ)) (place : Ino) → IsVolume v → new_place (shown v) path ≡ Ok place → HasRoom v place (last_of path)
new_place_room v [] place is e = absurd (cc)
new_place_room v (name ∷ names) place is e = room_at v (last_of (name ∷ names)) (resolved (shown v) (prefix_of (name ∷ names))) place is e
