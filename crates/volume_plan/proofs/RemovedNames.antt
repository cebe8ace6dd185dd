-- What `unlink` and `rmdir` leave of a tree.
use Rattle.std.proofs.Common.{◌≡◌, ◌≢◌, ◌≤◌, ◌<◌, ◌==◌, ℕ, zero, suc, true, false, List, [], ◌∷◌, length, get_or, Option, Some, None, Ok, Err, ok_or, is_none, refl, sym, ap, subst, ◌∙◌, arith, eqb-true, if◌then◌else◌}
use Rattle.cal_base.specs.Limits as limits
use Rattle.std.proofs.lemmas.List.{get_or-set_other, get_or-set_same, length-set}
use Rattle.std.specs.FinMap as finite
use Rattle.cal_base.specs.declared.directory_entry.EntryKind.TheVariants.{File as IsFile, Directory as IsDirectory}
use Rattle.cal_base.specs.declared.identity.ClientId.{ClientId}
use Rattle.cal_base.specs.declared.identity.Ino.{Ino}
use Rattle.tree_facts.proofs.Entries.{NamesIt}
use Rattle.tree_facts.proofs.NameChanges.{HasNoNames}
use Rattle.tree_facts.proofs.OneName.{OneNamed}
use Rattle.tree_facts.proofs.OneNameKept.{nameless_taken}
use Rattle.tree_law.proofs.IdleLemmas.{node_of}
use Rattle.tree_law.specs.After.{take_name, without_name}
use Rattle.tree_law.specs.FileState.{FileState}
use Rattle.tree_law.specs.Idle.{is_named, names_it, with_node}
use Rattle.tree_law.specs.Names.{Names}
use Rattle.tree_law.specs.PartOf.{kind_of}
use Rattle.tree_law.specs.Resolve.{as_empty_directory}
use Rattle.tree_law.specs.Tree.{Tree, node_at, writer_of}
use Rattle.tree_law.specs.declared.node.Node.{Node}
use Rattle.tree_law.specs.declared.node.Node.TheVariants.{Directory, Regular}
use Rattle.tree_law.specs.declared.reply.Why.TheVariants.{NoEnt, NotEmpty}
use Rattle.volume.specs.Stands.{StandsForNode}
use Rattle.volume.specs.Volume.{Volume}
use Rattle.volume_edit.specs.Edit.{IsVolume, inode_at}
use Rattle.volume_plan.proofs.Fits.{StandForNodes}
use Rattle.volume_plan.proofs.Gone.{a_directory, a_file}
use Rattle.volume_plan.proofs.NamesOf.{order}
use Rattle.volume_plan.proofs.Named.{nameless, names_have, never, take_named_other, with_node_named}
use Rattle.volume_plan.proofs.RemovedNodes.{Removed}
use Rattle.volume_plan.proofs.Similar.{directory_there, node_there}

-- what stands among the nodes stands at a number below their count
pub there_within : (nodes : List (Option Node)) (number : ℕ) (node : Node) → get_or nodes number None ≡ Some node → number < length nodes
there_within [] number node at = absurd (cc)
there_within (place ∷ nodes) zero node at = omega arith
there_within (place ∷ nodes) (suc number) node at = (let rest = there_within nodes number node at in omega arith)

-- a directory with its names; a file with its state
pub record IsDirectoryNode (node : Option Node) : Type 0 where
  pub names : Names
  pub is : node ≡ Some (Directory names)

pub record IsFileNode (node : Option Node) : Type 0 where
  pub file : FileState
  pub is : node ≡ Some (Regular file)

pub directory_node : (node : Option Node) → kind_of node ≡ Some IsDirectory → IsDirectoryNode node
directory_node (Some (Directory names)) kind = record { names = names; is = refl }
directory_node (Some (Regular file)) kind = absurd (cc)
directory_node None kind = absurd (cc)

pub file_node : (node : Option Node) → kind_of node ≡ Some IsFile → IsFileNode node
file_node (Some (Directory names)) kind = absurd (cc)
file_node (Some (Regular file)) kind = record { file = file; is = refl }
file_node None kind = absurd (cc)

pub found_name : (found : Option Ino) (ino : Ino) → ok_or found NoEnt ≡ Ok ino → found ≡ Some ino
found_name (Some other) ino is = cc
found_name None ino is = absurd (cc)

-- a name of a directory of the tree, and what it stands for
pub record Named (tree : Tree) (place ino : Ino) (name : List ℕ) : Type 0 where
  pub names : Names
  pub here : node_at tree place ≡ Some (Directory names)
  pub got : finite.get names name ≡ Some ino
  pub place_511 : place.0 < limits.inodes
  pub from_one : 1 ≤ ino.0
  pub to_511 : ino.0 < limits.inodes

pub named_there : (tree : Tree) (place ino : Ino) (name : List ℕ) → OneNamed tree.nodes → kind_of (node_at tree place) ≡ Some IsDirectory → NamesIt (node_at tree place) name ino → Named tree place ino name
named_there tree place ino name all kind is =
    let d = directory_node (node_at tree place) kind in
    let n = all.number place.0 name ino is in
    let count = all.count in
    record {
      names = d.names;
      here = d.is;
      got = found_name (finite.get d.names name) ino (subst (λ (node : Option Node). NamesIt node name ino) d.is is);
      place_511 = (let below = there_within tree.nodes place.0 (Directory d.names) d.is in omega arith);
      from_one = n.from_one;
      to_511 = (let few = n.to_511 in omega arith);
    }

pub names_it_by : (tree : Tree) (place ino : Ino) (name : List ℕ) → Named tree place ino name → NamesIt (node_at tree place) name ino
names_it_by tree place ino name n = subst (λ (node : Option Node). NamesIt node name ino) (sym n.here) (ap (λ (found : Option Ino). ok_or found NoEnt) n.got)

-- ---- the tree without the name

taken_here : (tree : Tree) (place ino : Ino) (name : List ℕ) → OneNamed tree.nodes → (n : Named tree place ino name) → node_of (take_name tree place name) place.0 ≡ Some (Directory (finite.remove n.names name))
taken_here tree place ino name all n =
    get_or-set_same tree.nodes place.0 (without_name (node_at tree place) name) None (there_within tree.nodes place.0 (Directory n.names) n.here)
    ∙ ap (λ (node : Option Node). without_name node name) n.here

taken_other : (tree : Tree) (place : Ino) (name : List ℕ) (number : ℕ) → number ≢ place.0 → node_of (take_name tree place name) number ≡ node_of tree number
taken_other tree place name number apart = get_or-set_other tree.nodes place.0 number (without_name (node_at tree place) name) None apart

-- all other numbers are named as before, and what the name stood for isn't
taken_named : (tree : Tree) (place ino : Ino) (name : List ℕ) → Named tree place ino name → (number : ℕ) → number ≢ ino.0 → is_named (take_name tree place name) number ≡ is_named tree number
taken_named tree place ino name n number apart =
    take_named_other tree place name number (λ x is same. (let both : Ok x ≡ Ok ino = sym is ∙ names_it_by tree place ino name n in let one : x ≡ ino = cc in apart (sym same ∙ ap (λ (i : Ino). i.0) one)))

taken_nameless : (tree : Tree) (place ino : Ino) (name : List ℕ) → OneNamed tree.nodes → Named tree place ino name → is_named (take_name tree place name) ino.0 ≡ false
taken_nameless tree place ino name all n =
    nameless (take_name tree place name) ino.0 (λ at step is. nameless_taken tree place ino name all (names_it_by tree place ino name n) at step ino is refl)

-- ---- a file loses its name

pub flushed_file : (node : Option Node) (file : FileState) → node ≡ Some (Regular file) → is_none (writer_of node) ≡ true → file.writer ≡ None
flushed_file node file at flushed = no_writer file.writer (ap (λ (n : Option Node). is_none (writer_of n)) (sym at) ∙ flushed)
  where
    no_writer : (writer : Option ClientId) → is_none writer ≡ true → writer ≡ None
    no_writer (Some client) is = absurd (cc)
    no_writer None is = refl

pub file_removed : (sectors : List (List ℕ)) (v : Volume) (tree : Tree) (place ino : Ino) (name : List ℕ) → IsVolume v → StandForNodes sectors v tree → OneNamed tree.nodes → Named tree place ino name
    → kind_of (node_at tree ino) ≡ Some IsFile → is_none (writer_of (node_at tree ino)) ≡ true → Removed sectors v tree (take_name tree place name) place ino name
file_removed sectors v tree place ino name is stand all n kind flushed =
    let f = file_node (node_at tree ino) kind in
    let apart : ino.0 ≢ place.0 = λ same. (let both : Some (Regular f.file) ≡ Some (Directory n.names) = sym f.is ∙ ap (node_of tree) same ∙ n.here in absurd (cc)) in
    record {
      place_511 = n.place_511;
      from_one = n.from_one;
      to_511 = (let few = n.to_511 in omega arith);
      apart = apart;
      names = n.names;
      here = n.here;
      got = n.got;
      left = taken_here tree place ino name all n;
      others = λ number from gone. taken_other tree place name number from;
      named = taken_named tree place ino name n;
      loses = a_file f.file
          (subst (λ (node : Option Node). StandsForNode sectors v tree ino.0 (inode_at v.inodes ino.0) node) f.is (node_there sectors v tree is stand ino (let few = n.to_511 in omega arith)))
          (flushed_file (node_at tree ino) f.file f.is flushed)
          (taken_other tree place name ino.0 apart ∙ f.is)
          (taken_nameless tree place ino name all n);
    }

-- ---- an empty directory goes with its name

pub record IsEmptyNode (node : Option Node) : Type 0 where
  pub names : Names
  pub is : node ≡ Some (Directory names)
  pub empty : finite.len names ≡ 0

pub no_name : (node : Option Node) → IsEmptyNode node → HasNoNames node
no_name node e name ino is =
    let none : finite.get e.names name ≡ None = ap (λ (m : Names). finite.get m name) (finite.empty_of_len e.names e.empty) ∙ finite.get-empty order name in
    let no : Err NoEnt ≡ Ok ino = sym (ap (λ (found : Option Ino). ok_or found NoEnt) none) ∙ subst (λ (n : Option Node). NamesIt n name ino) e.is is in
    absurd (cc)

pub names_no_number : (node : Option Node) (number : ℕ) → IsEmptyNode node → names_it number node ≡ false
names_no_number node number e = ap (names_it number) e.is ∙ never (names_it number (Some (Directory e.names))) (λ is.
    (let one = names_have e.names number is in no_name (Some (Directory e.names)) (record { names = e.names; is = refl; empty = e.empty }) one.name (record { 0 = number }) (ap (λ (found : Option Ino). ok_or found NoEnt) one.got)))

pub empty_node : (node : Option Node) (at ino : Ino) → as_empty_directory node at ≡ Ok ino → IsEmptyNode node
empty_node (Some (Directory names)) at ino is =
    elim (finite.len names == 0) as (λ b. (finite.len names == 0) ≡ b → (if b then Ok at else Err NotEmpty) ≡ Ok ino → IsEmptyNode (Some (Directory names))) [
      | true ↦ λ e yes. record { names = names; is = refl; empty = eqb-true (finite.len names) 0 e }
      | false ↦ λ e no. absurd (cc)
    ] refl is
empty_node (Some (Regular file)) at ino is = absurd (cc)
empty_node None at ino is = absurd (cc)

pub directory_removed : (sectors : List (List ℕ)) (v : Volume) (tree : Tree) (place ino : Ino) (name : List ℕ) → IsVolume v → StandForNodes sectors v tree → OneNamed tree.nodes → Named tree place ino name
    → IsEmptyNode (node_at tree ino) → Removed sectors v tree (with_node (take_name tree place name) ino.0 None) place ino name
directory_removed sectors v tree place ino name is stand all n e =
    let less : Tree = take_name tree place name in
    let apart : ino.0 ≢ place.0 = λ same. no_name (node_at tree ino) e name ino (subst (λ (k : ℕ). NamesIt (node_of tree k) name ino) (sym same) (names_it_by tree place ino name n)) in
    let within : ino.0 < limits.inodes = (let few = n.to_511 in omega arith) in
    record {
      place_511 = n.place_511;
      from_one = n.from_one;
      to_511 = (let few = n.to_511 in omega arith);
      apart = apart;
      names = n.names;
      here = n.here;
      got = n.got;
      left = get_or-set_other less.nodes ino.0 place.0 None None (λ same. apart (sym same)) ∙ taken_here tree place ino name all n;
      others = λ number from gone. get_or-set_other less.nodes ino.0 number None None gone ∙ taken_other tree place name number from;
      named = λ number gone. with_node_named less ino.0 number None (sym (ap (names_it number) (taken_other tree place name ino.0 apart) ∙ names_no_number (node_at tree ino) number e)) ∙ taken_named tree place ino name n number gone;
      loses = a_directory
          (directory_there sectors v tree is stand ino e.names within e.is).kind
          (get_or-set_same less.nodes ino.0 None None (let count = all.count in let same = length-set tree.nodes place.0 (without_name (node_at tree place) name) in omega arith));
    }
