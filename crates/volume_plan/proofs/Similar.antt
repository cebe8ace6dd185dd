-- Where a volume stands for a tree, the tree that it shows resolves as that tree.
use Rattle.std.proofs.Common.{◌≡◌, ◌<◌, ℕ, zero, suc, Bool, true, List, [], ◌∷◌, length, get_or, slice_get, Option, Some, None, Ok, ok_or, inl, inr, refl, sym, ap, subst, ◌∙◌, arith}
use Rattle.cal_base.specs.Limits as limits
use Rattle.std.specs.FinMap as map
use Rattle.std.proofs.lemmas.Option.{slice_get-get_or}
use Rattle.cal_base.specs.declared.identity.Ino.{Ino}
use Rattle.directory.specs.Block.{IsEntry}
use Rattle.directory.specs.Directory.{Names as NamesInode}
use Rattle.inode.specs.declared.inode.Inode.{Inode}
use Rattle.inode.specs.declared.inode.Kind.{Kind}
use Rattle.inode.specs.declared.inode.Kind.TheVariants.{File, Dir}
use Rattle.tree_facts.proofs.Entries.{is_named_by}
use Rattle.tree_law.specs.Idle.{is_named}
use Rattle.tree_law.specs.Names.{Names}
use Rattle.tree_law.specs.Needs.{needs_of_want, touches}
use Rattle.tree_law.specs.Rename.{move_of}
use Rattle.tree_law.specs.Resolve.{file_named, looked_up, new_place, parent_of, removable, resolved}
use Rattle.tree_law.specs.Tree.{Tree, node_at, root}
use Rattle.tree_law.specs.declared.call.Call.{Call}
use Rattle.tree_law.specs.declared.node.Node.{Node}
use Rattle.tree_law.specs.declared.node.Node.TheVariants.{Directory, Regular}
use Rattle.tree_law.specs.declared.reply.Why.TheVariants.{NoEnt}
use Rattle.tree_law.specs.declared.request.Want.{Want}
use Rattle.volume.specs.Stands.{StandsForDirectory, StandsForNode}
use Rattle.volume.specs.Volume.{Slots, Volume, slots_of}
use Rattle.volume_edit.specs.Edit.{HasSlots, IsSized, IsVolume, free_inode, inode_at}
use Rattle.volume_plan.specs.Shown.{names_of, shown, shown_as, shown_nodes}
use Rattle.volume_plan.proofs.Alike.{AreAlike, AreSimilar, EndAlike, Meet, MoveAlike, files_alike, moves_alike, new_places_alike, parents_alike, removable_alike, resolved_alike, touches_alike, wants_alike}
use Rattle.volume_plan.proofs.Fits.{StandForNodes}
use Rattle.volume_plan.proofs.NamesOf.{got_names, names_got, one_map_by}

-- ---- what the volume shows at a number

shown_there : (inodes : List Inode) (directories : List Slots) (number : ℕ) (inode : Inode) → slice_get inodes number ≡ Some inode → number < length directories
    → get_or (shown_nodes inodes directories) number None ≡ shown_as inode.kind inode.named (get_or directories number [])
unfolding shown_nodes
shown_there [] directories number inode there within = absurd (cc)
shown_there (x ∷ inodes) [] number inode there within = absurd (omega arith)
shown_there (x ∷ inodes) (slots ∷ directories) zero inode there within = (let one : x ≡ inode = cc in ap (λ (y : Inode). shown_as y.kind y.named slots) one)
shown_there (x ∷ inodes) (slots ∷ directories) (suc number) inode there within = shown_there inodes directories number inode there (omega arith)

pub inode_there : (v : Volume) → IsVolume v → (number : ℕ) → number < limits.inodes → slice_get v.inodes number ≡ Some (inode_at v.inodes number)
inode_there v is number within = (let count = is.inode_count in slice_get-get_or v.inodes number free_inode (omega arith))

pub shown_at : (v : Volume) → IsVolume v → (number : ℕ) → number < limits.inodes
    → node_at (shown v) (record { 0 = number }) ≡ shown_as (inode_at v.inodes number).kind (inode_at v.inodes number).named (slots_of v number)
shown_at v is number within = (let count = is.directory_count in shown_there v.inodes v.directories number (inode_at v.inodes number) (inode_there v is number within) (omega arith))

pub node_there : (sectors : List (List ℕ)) (v : Volume) (tree : Tree) → IsVolume v → StandForNodes sectors v tree → (ino : Ino) → ino.0 < limits.inodes
    → StandsForNode sectors v tree ino.0 (inode_at v.inodes ino.0) (node_at tree ino)
node_there sectors v tree is stand ino within = stand.node ino.0 (inode_at v.inodes ino.0) (inode_there v is ino.0 within)

-- ---- directories

-- a directory of the tree: its inode, its slots and their names
pub record IsDirectoryAt (v : Volume) (number : ℕ) (names : Names) : Type 0 where
  pub kind : (inode_at v.inodes number).kind ≡ Dir
  pub sized : IsSized (inode_at v.inodes number) (slots_of v number)
  pub same : names_of (slots_of v number) ≡ names

-- an inode that is a directory has slots of one
pub sized_at : (v : Volume) → IsVolume v → (number : ℕ) → number < limits.inodes → (inode_at v.inodes number).kind ≡ Dir → IsSized (inode_at v.inodes number) (slots_of v number)
sized_at v is number within kind = subst (λ (k : Kind). HasSlots k (inode_at v.inodes number) (slots_of v number)) kind (is.directories number (inode_at v.inodes number) (inode_there v is number within))

stands_directory : (v : Volume) → IsVolume v → (number : ℕ) → number < limits.inodes → (names : Names) → StandsForDirectory (inode_at v.inodes number) (slots_of v number) names → IsDirectoryAt v number names
stands_directory v is number within names s =
    let sized = sized_at v is number within s.kind in
    record {
      kind = s.kind;
      sized = sized;
      same = one_map_by (names_of (slots_of v number)) names
          (λ name ino got. (s.entries name ino).1 (got_names (slots_of v number) name ino got))
          (λ name ino got. names_got (slots_of v number) name ino sized.directory.distinct ((s.entries name ino).0 got));
    }

pub directory_there : (sectors : List (List ℕ)) (v : Volume) (tree : Tree) → IsVolume v → StandForNodes sectors v tree → (ino : Ino) (names : Names) → ino.0 < limits.inodes
    → node_at tree ino ≡ Some (Directory names) → IsDirectoryAt v ino.0 names
directory_there sectors v tree is stand ino names within at =
    stands_directory v is ino.0 within names (subst (StandsForNode sectors v tree ino.0 (inode_at v.inodes ino.0)) at (node_there sectors v tree is stand ino within))

-- ---- the shown tree has the shape of the tree

-- what an inode shows, beside what it stands for, where the tree has a name for it or it is a directory
shown_alike : (sectors : List (List ℕ)) (v : Volume) (tree : Tree) → IsVolume v → (number : ℕ) → number < limits.inodes → is_named tree number ≡ true → (node : Option Node)
    → StandsForNode sectors v tree number (inode_at v.inodes number) node → AreAlike (shown_as (inode_at v.inodes number).kind (inode_at v.inodes number).named (slots_of v number)) node
shown_alike sectors v tree is number within named (Some (Directory names)) s =
    let there = stands_directory v is number within names s in
    subst (λ (k : Kind). AreAlike (shown_as k (inode_at v.inodes number).named (slots_of v number)) (Some (Directory names))) (sym s.kind) there.same
shown_alike sectors v tree is number within named (Some (Regular file)) s =
    subst (λ (k : Kind). AreAlike (shown_as k (inode_at v.inodes number).named (slots_of v number)) (Some (Regular file))) (sym s.kind)
    (subst (λ (b : Bool). AreAlike (shown_as File b (slots_of v number)) (Some (Regular file))) (sym (s.named ∙ named)) tt)
shown_alike sectors v tree is number within named None (inl free) =
    subst (λ (k : Kind). AreAlike (shown_as k (inode_at v.inodes number).named (slots_of v number)) None) (sym free) tt
shown_alike sectors v tree is number within named None (inr orphan) =
    subst (λ (k : Kind). AreAlike (shown_as k (inode_at v.inodes number).named (slots_of v number)) None) (sym orphan.0)
    (subst (λ (b : Bool). AreAlike (shown_as File b (slots_of v number)) None) (sym orphan.1) tt)

pub meets_named : (sectors : List (List ℕ)) (v : Volume) (tree : Tree) → IsVolume v → StandForNodes sectors v tree → (ino : Ino) → ino.0 < limits.inodes → is_named tree ino.0 ≡ true → Meet (shown v) tree ino
meets_named sectors v tree is stand ino within named = record {
  within = within;
  alike = subst (λ (node : Option Node). AreAlike node (node_at tree ino)) (sym (shown_at v is ino.0 within)) (shown_alike sectors v tree is ino.0 within named (node_at tree ino) (node_there sectors v tree is stand ino within));
}

-- the root is a directory on both sides
root_alike : (sectors : List (List ℕ)) (v : Volume) (tree : Tree) → IsVolume v → (node : Option Node) → StandsForNode sectors v tree 0 (inode_at v.inodes 0) node
    → AreAlike (shown_as (inode_at v.inodes 0).kind (inode_at v.inodes 0).named (slots_of v 0)) node
root_alike sectors v tree is (Some (Directory names)) s =
    let there = stands_directory v is 0 (omega arith) names s in
    subst (λ (k : Kind). AreAlike (shown_as k (inode_at v.inodes 0).named (slots_of v 0)) (Some (Directory names))) (sym s.kind) there.same
root_alike sectors v tree is (Some (Regular file)) s = (let r = is.root in let k = s.kind in absurd (cc))
root_alike sectors v tree is None (inl free) = (let r = is.root in absurd (cc))
root_alike sectors v tree is None (inr orphan) = (let r = is.root in let k = orphan.0 in absurd (cc))

pub meets_root : (sectors : List (List ℕ)) (v : Volume) (tree : Tree) → IsVolume v → StandForNodes sectors v tree → Meet (shown v) tree root
meets_root sectors v tree is stand = record {
  within = omega arith;
  alike = subst (λ (node : Option Node). AreAlike node (node_at tree root)) (sym (shown_at v is 0 (omega arith))) (root_alike sectors v tree is (node_at tree root) (node_there sectors v tree is stand root (omega arith)));
}

found_some : (found : Option Ino) (ino : Ino) → ok_or found NoEnt ≡ Ok ino → found ≡ Some ino
found_some (Some other) ino is = cc
found_some None ino is = absurd (cc)

-- a name of a directory of the tree is an entry of the directory's slots
pub record IsEntryThere (v : Volume) (at : ℕ) (name : List ℕ) (ino : Ino) : Type 0 where
  pub kind : (inode_at v.inodes at).kind ≡ Dir
  pub sized : IsSized (inode_at v.inodes at) (slots_of v at)
  pub stands : NamesInode (slots_of v at) name ino.0
  pub got : map.get (names_of (slots_of v at)) name ≡ Some ino
  pub entry : IsEntry (record { name = name; ino = ino })

pub entry_there : (sectors : List (List ℕ)) (v : Volume) (tree : Tree) → IsVolume v → StandForNodes sectors v tree → (at : Ino) (name : List ℕ) (ino : Ino) → at.0 < limits.inodes
    → looked_up (node_at tree at) name ≡ Ok ino → IsEntryThere v at.0 name ino
entry_there sectors v tree is stand at name ino within found = at_node (node_at tree at) refl found
  where
    at_node : (node : Option Node) → node_at tree at ≡ node → looked_up node name ≡ Ok ino → IsEntryThere v at.0 name ino
    at_node (Some (Directory names)) here found =
        let there = directory_there sectors v tree is stand at names within here in
        let got : map.get (names_of (slots_of v at.0)) name ≡ Some ino = ap (λ (m : Names). map.get m name) there.same ∙ found_some (map.get names name) ino found in
        let stands = got_names (slots_of v at.0) name ino got in
        record { kind = there.kind; sized = there.sized; stands = stands; got = got; entry = there.sized.directory.entries stands.place (record { name = name; ino = ino }) stands.there }
    at_node (Some (Regular file)) here found = absurd (cc)
    at_node None here found = absurd (cc)

pub shown_similar : (sectors : List (List ℕ)) (v : Volume) (tree : Tree) → IsVolume v → StandForNodes sectors v tree → AreSimilar (shown v) tree
shown_similar sectors v tree is stand = record {
  at_root = meets_root sectors v tree is stand;
  below = λ at name ino within found.
      (let there = entry_there sectors v tree is stand at name ino within found in
      let few = there.entry.to_511 in
      meets_named sectors v tree is stand ino (omega arith) (is_named_by tree at.0 name ino found));
}

-- ---- so it resolves as the tree, and a change moves and touches the same

module _ (sectors : List (List ℕ)) (v : Volume) (tree : Tree) (is : IsVolume v) (stand : StandForNodes sectors v tree) where
  similar : AreSimilar (shown v) tree
  similar = shown_similar sectors v tree is stand

  pub same_resolved : (path : List (List ℕ)) → EndAlike (shown v) tree (resolved (shown v) path) (resolved tree path)
  same_resolved path = resolved_alike (shown v) tree similar path

  pub same_new_place : (path : List (List ℕ)) → EndAlike (shown v) tree (new_place (shown v) path) (new_place tree path)
  same_new_place path = new_places_alike (shown v) tree similar path

  pub same_file_named : (path : List (List ℕ)) → EndAlike (shown v) tree (file_named (shown v) path) (file_named tree path)
  same_file_named path = files_alike (shown v) tree similar path

  pub same_parent_of : (path : List (List ℕ)) → EndAlike (shown v) tree (parent_of (shown v) path) (parent_of tree path)
  same_parent_of path = parents_alike (shown v) tree similar path

  pub same_removable : (path : List (List ℕ)) → EndAlike (shown v) tree (removable (shown v) path) (removable tree path)
  same_removable path = removable_alike (shown v) tree similar path

  pub same_move_of : (path goal : List (List ℕ)) → MoveAlike (shown v) tree (move_of (shown v) path goal) (move_of tree path goal)
  same_move_of path goal = moves_alike (shown v) tree similar path goal

  pub same_touches : (call : Call) → touches (shown v) call ≡ touches tree call
  same_touches call = touches_alike (shown v) tree similar call

  pub same_needs : (want : Want) → needs_of_want (shown v) want ≡ needs_of_want tree want
  same_needs want = wants_alike (shown v) tree similar want
