-- The edits of `unlink` and `rmdir` keep a volume within its grammar.
use Rattle.std.proofs.Common.{◌≡◌, ◌≢◌, ◌==◌, ◌≤◌, ◌<◌, ◌∷◌, [], ℕ, Bool, true, false, List, length, Option, Some, None, Result, Ok, Err, ok_or, refl, sym, ap, subst, inl, arith, if◌then◌else◌}
use Rattle.cal_base.specs.Limits as limits
use Rattle.std.proofs.lemmas.Bool.Decides.{nat_tests}
use Rattle.std.specs.Ordering.{nat_cmp}
use Rattle.std.specs.Cmp.Lexicographic.{slice_cmp}
use Rattle.std.specs.FinMap as map
use Rattle.tree_law.specs.Names.{Names}
use Rattle.cal_base.specs.declared.directory_entry.EntryKind.TheVariants.{File as IsFile, Directory as IsDirectory}
use Rattle.cal_base.specs.declared.identity.ClientId.{ClientId}
use Rattle.cal_base.specs.declared.identity.Ino.{Ino}
use Rattle.directory.specs.Block.{IsEntry, entry_at}
use Rattle.inode.specs.Inode.{IsInode, KindAllows}
use Rattle.inode.specs.declared.inode.Inode.{Inode}
use Rattle.inode.specs.declared.inode.Kind.{Kind}
use Rattle.inode.specs.declared.inode.Kind.TheVariants.{Free, File, Dir}
use Rattle.tree_facts.proofs.Entries.{NamesIt}
use Rattle.tree_facts.proofs.Paths.{judged_directory, judged_file, last_looked}
use Rattle.tree_law.specs.Needs.{Touch}
use Rattle.tree_law.specs.PartOf.{kind_of}
use Rattle.tree_law.specs.Resolve.{as_empty_directory, file_named, judged, last_of, looked_up, parent_of, prefix_of, removable, resolved}
use Rattle.tree_law.specs.Tree.{node_at, root}
use Rattle.tree_law.specs.declared.node.Node.{Node}
use Rattle.tree_law.specs.declared.reply.Reply.TheVariants.{Done}
use Rattle.tree_law.specs.declared.reply.Why.{Why}
use Rattle.tree_law.specs.declared.reply.Why.TheVariants.{NoEnt, NotEmpty}
use Rattle.volume.specs.Volume.{Slots, Volume, slots_of}
use Rattle.volume_edit.specs.Edit.{HasSlots, IsEdit, IsInodeEdit, IsVolume, free_inode, inode_at}
use Rattle.volume_plan.specs.Plans.{inode_gone, is_opened, nameless, place_of, removing, removing_at}
use Rattle.volume_plan.specs.Shown.{names_of, shown, shown_as}
use Rattle.volume_plan.proofs.EditParts.{answered_is, directory_within, free_is, get_there, is_other}
use Rattle.volume_plan.proofs.NamesOf.{entry_of, place_of-got, taken_below}
use Rattle.volume_plan.proofs.PlanEdits.{InRange, standing_edit}
use Rattle.volume_plan.proofs.ChangeWhys.{Refuses, file_named_refuses, parent_of_refuses, removable_refuses}
use Rattle.volume_plan.proofs.Rooms.{IsListed, listed}
use Rattle.volume_plan.proofs.ShownNodes.{shown_at}

-- a directory names an inode
pub record NamedIn (v : Volume) (place : Ino) (name : List ℕ) (ino : Ino) : Type 0 where
  pub listed : IsListed v place.0
  pub there : entry_at (slots_of v place.0) (place_of (slots_of v place.0) name) ≡ Some (entry_of name ino)
  pub got : map.get (names_of (slots_of v place.0)) name ≡ Some ino

record Looked (k : Kind) (slots : Slots) (name : List ℕ) (ino : Ino) : Type 0 where
  kind : k ≡ Dir
  got : map.get (names_of slots) name ≡ Some ino

found : (o : Option Ino) (ino : Ino) → ok_or o NoEnt ≡ Ok ino → o ≡ Some ino
found (Some other) ino e = (let same : other ≡ ino = cc in ap (λ (i : Ino). Some i) same)
found None ino e = absurd (cc)

looked : (k : Kind) (named : Bool) (slots : Slots) (name : List ℕ) (ino : Ino) → looked_up (shown_as k named slots) name ≡ Ok ino → Looked k slots name ino
looked Free named slots name ino e = absurd (cc)
looked File true slots name ino e = absurd (cc)
looked File false slots name ino e = absurd (cc)
looked Dir named slots name ino e = record { kind = refl; got = found (map.get (names_of slots) name) ino e }

pub named_in : (v : Volume) (place : Ino) (name : List ℕ) (ino : Ino) → IsVolume v → NamesIt (node_at (shown v) place) name ino → NamedIn v place name ino
named_in v place name ino is e =
    let l = looked (inode_at v.inodes place.0).kind (inode_at v.inodes place.0).named (slots_of v place.0) name ino (subst (λ (n : Option Node). looked_up n name ≡ Ok ino) (shown_at v place.0 is) e) in
    let d = listed v place.0 is l.kind in
    record { listed = d; there = place_of-got (slots_of v place.0) name ino d.sized.directory.distinct l.got; got = l.got }

pub entry_is : (v : Volume) (place : Ino) (name : List ℕ) (ino : Ino) → NamedIn v place name ino → IsEntry (entry_of name ino)
entry_is v place name ino n = n.listed.sized.directory.entries (place_of (slots_of v place.0) name) (entry_of name ino) n.there

pub entry_within : (v : Volume) (place : Ino) (name : List ℕ) (ino : Ino) → NamedIn v place name ino → place_of (slots_of v place.0) name < length (slots_of v place.0)
entry_within v place name ino n = taken_below (slots_of v place.0) (place_of (slots_of v place.0) name) (entry_of name ino) n.there

-- what is left of an inode without a name is an inode, without entries
pub record IsLeft (left : Inode) : Type 0 where
  pub inode : IsInode left
  pub empty : HasSlots left.kind left []

left_free : IsLeft free_inode
left_free = record { inode = free_is; empty = refl }

pub nameless_is : (k : Kind) (inode : Inode) (opened : Bool) → inode.kind ≡ k → IsInode inode → IsLeft (nameless k inode opened)
nameless_is Free inode opened kind is = left_free
nameless_is Dir inode opened kind is = left_free
nameless_is File inode false kind is = left_free
nameless_is File inode true kind is =
    let allows = subst (λ (k : Kind). KindAllows k inode) kind is.allowed in
    record {
      inode = record {
        count = is.count;
        pointers = is.pointers;
        allowed = subst (λ (k : Kind). KindAllows k (nameless File inode true)) (sym kind) (record { size = allows.size; holes = allows.holes });
      };
      empty = subst (λ (k : Kind). HasSlots k (nameless File inode true) []) (sym kind) refl;
    }

pub gone_edit : (v : Volume) (opened : List Ino) (ino : Ino) → IsVolume v → 1 ≤ ino.0 → ino.0 < limits.inodes → IsInodeEdit (inode_gone v opened ino)
gone_edit v opened ino is from_one to_511 =
    let count = is.inode_count in
    let l = nameless_is (inode_at v.inodes ino.0).kind (inode_at v.inodes ino.0) (is_opened opened ino) refl (is.inodes ino.0 (inode_at v.inodes ino.0) (get_there v.inodes ino.0 free_inode (omega arith))) in
    record { from_one = from_one; to_511 = to_511; inode = l.inode; empty = l.empty }

-- an entry goes, and what it named, which is another inode than the directory
pub removing_edit : (v : Volume) (client : ClientId) (number : ℕ) (opened : List Ino) (touched : List Touch) (place ino : Ino) (name : List ℕ) → IsVolume v → InRange client number → NamedIn v place name ino → ino.0 ≢ place.0
    → IsEdit v (removing v client number opened touched place ino name).edit
removing_edit v client number opened touched place ino name is r n apart =
    let entry = entry_is v place name ino n in
    record {
      some = inl refl;
      slot = answered_is v client number Done is r.known r.from_one r.fits tt;
      inode = gone_edit v opened ino is entry.from_one (let few = entry.to_511 in omega arith);
      growth = tt;
      leaving = record {
        directory = record { to_511 = directory_within v place.0 is n.listed.kind; kind = n.listed.kind; stays = is_other ino.0 place.0 apart };
        within = entry_within v place name ino n;
      };
      entering = tt;
    }

pub record Removes (v : Volume) (place ino : Ino) (name : List ℕ) : Type 0 where
  pub named : NamedIn v place name ino
  pub apart : ino.0 ≢ place.0

removing_at_edit : (v : Volume) (client : ClientId) (number : ℕ) (opened : List Ino) (touched : List Touch) (at file : Result Ino Why) (name : List ℕ) → IsVolume v → InRange client number → Refuses at → Refuses file
    → ((place ino : Ino) → at ≡ Ok place → file ≡ Ok ino → Removes v place ino name) → IsEdit v (removing_at v client number opened touched at file name).edit
removing_at_edit v client number opened touched (Ok place) (Ok ino) name is r p q there = let t = there place ino refl refl in removing_edit v client number opened touched place ino name is r t.named t.apart
removing_at_edit v client number opened touched (Err why) (Ok ino) name is r p q there = standing_edit v client number why is r p
removing_at_edit v client number opened touched (Ok place) (Err why) name is r p q there = standing_edit v client number why is r q
removing_at_edit v client number opened touched (Err other) (Err why) name is r p q there = standing_edit v client number why is r q

-- a number at which the volume shows a file, or a directory
file_shown : (k : Kind) (named : Bool) (slots : Slots) → kind_of (shown_as k named slots) ≡ Some IsFile → k ≡ File
file_shown Free named slots e = absurd (cc)
file_shown File named slots e = refl
file_shown Dir named slots e = absurd (cc)

pub file_kind : (v : Volume) (ino : Ino) → IsVolume v → kind_of (node_at (shown v) ino) ≡ Some IsFile → (inode_at v.inodes ino.0).kind ≡ File
file_kind v ino is e = file_shown (inode_at v.inodes ino.0).kind (inode_at v.inodes ino.0).named (slots_of v ino.0) (subst (λ (n : Option Node). kind_of n ≡ Some IsFile) (shown_at v ino.0 is) e)

directory_shown : (k : Kind) (named : Bool) (slots : Slots) → kind_of (shown_as k named slots) ≡ Some IsDirectory → k ≡ Dir
directory_shown Free named slots e = absurd (cc)
directory_shown File true slots e = absurd (cc)
directory_shown File false slots e = absurd (cc)
directory_shown Dir named slots e = refl

pub directory_kind : (v : Volume) (ino : Ino) → IsVolume v → kind_of (node_at (shown v) ino) ≡ Some IsDirectory → (inode_at v.inodes ino.0).kind ≡ Dir
directory_kind v ino is e = directory_shown (inode_at v.inodes ino.0).kind (inode_at v.inodes ino.0).named (slots_of v ino.0) (subst (λ (n : Option Node). kind_of n ≡ Some IsDirectory) (shown_at v ino.0 is) e)

pub root_kind : (v : Volume) → IsVolume v → kind_of (node_at (shown v) root) ≡ Some IsDirectory
root_kind v is = subst (λ (n : Option Node). kind_of n ≡ Some IsDirectory) (sym (shown_at v 0 is)) (shown_dir (inode_at v.inodes 0).kind (inode_at v.inodes 0).named (slots_of v 0) is.root)
  where
    shown_dir : (k : Kind) (named : Bool) (slots : Slots) → k ≡ Dir → kind_of (shown_as k named slots) ≡ Some IsDirectory
    shown_dir Free named slots e = absurd (cc)
    shown_dir File named slots e = absurd (cc)
    shown_dir Dir named slots e = refl

unlinked : (v : Volume) (path : List (List ℕ)) (place ino : Ino) → IsVolume v → parent_of (shown v) path ≡ Ok place → file_named (shown v) path ≡ Ok ino → Removes v place ino (last_of path)
unlinked v [] place ino is up e =
    let f = judged_file (shown v) (resolved (shown v) []) ino e in
    let same : root ≡ ino = (let both : Ok root ≡ Ok ino = f.0 in cc) in
    let kind : kind_of (node_at (shown v) root) ≡ Some IsFile = subst (λ (i : Ino). kind_of (node_at (shown v) i) ≡ Some IsFile) (sym same) f.1 in
    let dir = root_kind v is in
    absurd (cc)
unlinked v (name ∷ names) place ino is up e =
    let f = judged_file (shown v) (resolved (shown v) (name ∷ names)) ino e in
    let d = judged_directory (shown v) (resolved (shown v) (prefix_of (name ∷ names))) place up in
    let n = named_in v place (last_of (name ∷ names)) ino is (last_looked (shown v) name names place ino d.0 f.0) in
    let dir = n.listed.kind in
    let file = file_kind v ino is f.1 in
    record { named = n; apart = λ same. (let kinds : (inode_at v.inodes ino.0).kind ≡ (inode_at v.inodes place.0).kind = ap (λ (k : ℕ). (inode_at v.inodes k).kind) same in absurd (cc)) }

pub unlink_edit : (v : Volume) (client : ClientId) (number : ℕ) (opened : List Ino) (touched : List Touch) (path : List (List ℕ)) → IsVolume v → InRange client number
    → IsEdit v (removing_at v client number opened touched (parent_of (shown v) path) (file_named (shown v) path) (last_of path)).edit
unlink_edit v client number opened touched path is r =
    removing_at_edit v client number opened touched (parent_of (shown v) path) (file_named (shown v) path) (last_of path) is r (parent_of_refuses (shown v) path) (file_named_refuses (shown v) path)
    (λ place ino up e. unlinked v path place ino is up e)

-- an empty directory shows no name
record Emptied (k : Kind) (slots : Slots) : Type 0 where
  kind : k ≡ Dir
  none : map.len (names_of slots) ≡ 0

found_empty : (k : Kind) (named : Bool) (slots : Slots) (at ino : Ino) → as_empty_directory (shown_as k named slots) at ≡ Ok ino → (at ≡ ino) × Emptied k slots
found_empty Free named slots at ino e = absurd (cc)
found_empty File true slots at ino e = absurd (cc)
found_empty File false slots at ino e = absurd (cc)
found_empty Dir named slots at ino e =
    elim (map.len (names_of slots) == 0) as (λ b. (map.len (names_of slots) == 0) ≡ b → (if b then Ok at else Err NotEmpty) ≡ Ok ino → (at ≡ ino) × Emptied Dir slots) [
      | true ↦ λ is r. ((let same : at ≡ ino = cc in same), record { kind = refl; none = grind (arith, nat_tests) })
      | false ↦ λ is r. absurd (cc)
    ] refl e

pub no_name : (slots : Slots) (name : List ℕ) (ino : Ino) → map.len (names_of slots) ≡ 0 → map.get (names_of slots) name ≡ Some ino → ⊥
no_name slots name ino none got =
    let empty = map.empty_of_len (names_of slots) none in
    let nothing : map.get (map.empty {X = Ino} {R = slice_cmp nat_cmp}) name ≡ None = map.get-empty (slice_cmp nat_cmp) name in
    let both : map.get (names_of slots) name ≡ map.get (map.empty {X = Ino} {R = slice_cmp nat_cmp}) name = ap (λ (m : Names). map.get m name) empty in
    absurd (cc)

removable_here : (v : Volume) (at ino place : Ino) (name : List ℕ) → IsVolume v → as_empty_directory (node_at (shown v) at) at ≡ Ok ino → NamedIn v place name ino → ino.0 ≢ place.0
removable_here v at ino place name is e n same =
    let f = found_empty (inode_at v.inodes at.0).kind (inode_at v.inodes at.0).named (slots_of v at.0) at ino (subst (λ (node : Option Node). as_empty_directory node at ≡ Ok ino) (shown_at v at.0 is) e) in
    let none : map.len (names_of (slots_of v ino.0)) ≡ 0 = subst (λ (i : Ino). map.len (names_of (slots_of v i.0)) ≡ 0) f.0 f.1.none in
    let here : map.len (names_of (slots_of v place.0)) ≡ 0 = subst (λ (k : ℕ). map.len (names_of (slots_of v k)) ≡ 0) same none in
    no_name (slots_of v place.0) name ino here n.got

judged_empty : (v : Volume) (r : Result Ino Why) (ino place : Ino) (name : List ℕ) → IsVolume v → judged as_empty_directory (shown v) r ≡ Ok ino → (r ≡ Ok ino → NamedIn v place name ino) → Removes v place ino name
judged_empty v (Ok at) ino place name is e there =
    let f = found_empty (inode_at v.inodes at.0).kind (inode_at v.inodes at.0).named (slots_of v at.0) at ino (subst (λ (node : Option Node). as_empty_directory node at ≡ Ok ino) (shown_at v at.0 is) e) in
    let n = there (ap (λ (i : Ino). Ok i) f.0) in
    record { named = n; apart = removable_here v at ino place name is e n }
judged_empty v (Err why) ino place name is e there = absurd (cc)

removed : (v : Volume) (path : List (List ℕ)) (place ino : Ino) → IsVolume v → parent_of (shown v) path ≡ Ok place → removable (shown v) path ≡ Ok ino → Removes v place ino (last_of path)
removed v [] place ino is up e = absurd (cc)
removed v (name ∷ names) place ino is up e =
    let d = judged_directory (shown v) (resolved (shown v) (prefix_of (name ∷ names))) place up in
    judged_empty v (resolved (shown v) (name ∷ names)) ino place (last_of (name ∷ names)) is e (λ found. named_in v place (last_of (name ∷ names)) ino is (last_looked (shown v) name names place ino d.0 found))

pub rmdir_edit : (v : Volume) (client : ClientId) (number : ℕ) (opened : List Ino) (touched : List Touch) (path : List (List ℕ)) → IsVolume v → InRange client number
    → IsEdit v (removing_at v client number opened touched (parent_of (shown v) path) (removable (shown v) path) (last_of path)).edit
rmdir_edit v client number opened touched path is r =
    removing_at_edit v client number opened touched (parent_of (shown v) path) (removable (shown v) path) (last_of path) is r (parent_of_refuses (shown v) path) (removable_refuses (shown v) path)
    (λ place ino up e. removed v path place ino is up e)
