-- Walking a path in a tree in which the directories on the way still name each other.
use Rattle.std.proofs.Common.{◌≡◌, ◌==◌, ◌-◌, ℕ, true, false, List, [], ◌∷◌, length, take, get_or, arith, Option, Some, None, Result, Ok, Err, refl, sym, ap, ◌∙◌, subst, if◌then◌else◌}
use Rattle.std.specs.FinMap as map
use Rattle.cal_base.specs.declared.directory_entry.EntryKind.TheVariants.{File as IsFile, Directory as IsDirectory}
use Rattle.cal_base.specs.declared.identity.Ino.{Ino}
use Rattle.tree_law.specs.Tree.{Tree, root, node_at}
use Rattle.tree_law.specs.PartOf.{kind_of}
use Rattle.tree_law.specs.Resolve.{prefix_of, last_of, looked_up, stepped, walked, resolved, judged, as_file, as_directory, as_empty_directory, file_named, parent_of}
use Rattle.tree_law.specs.declared.node.Node.{Node}
use Rattle.tree_law.specs.declared.node.Node.TheVariants.{Directory, Regular}
use Rattle.tree_law.specs.declared.reply.Why.{Why}
use Rattle.tree_law.specs.declared.reply.Why.TheVariants.{NotEmpty}
use Rattle.tree_law.proofs.Walks.{refused_walk}
use Rattle.tree_facts.proofs.Entries.{NamesIt, is_directory_by}

-- the last step of a walk
walked_at : (tree : Tree) (at : Result Ino Why) (name : List ℕ) (names : List (List ℕ)) → walked tree at (name ∷ names) ≡ stepped tree (walked tree at (take (length names) (name ∷ names))) (get_or (name ∷ names) (length names) [])
walked_at tree at name [] = refl
walked_at tree at name (other ∷ names) = walked_at tree (stepped tree at name) other names

pub walked_last : (tree : Tree) (at : Result Ino Why) (name : List ℕ) (names : List (List ℕ)) → walked tree at (name ∷ names) ≡ stepped tree (walked tree at (prefix_of (name ∷ names))) (last_of (name ∷ names))
walked_last tree at name names =
    let before_last : length names ≡ length (name ∷ names) - 1 = omega arith in
    walked_at tree at name names ∙ ap (λ (k : ℕ). stepped tree (walked tree at (take k (name ∷ names))) (get_or (name ∷ names) k [])) before_last

found_file : (node : Option Node) (at ino : Ino) → as_file node at ≡ Ok ino → (at ≡ ino) × (kind_of node ≡ Some IsFile)
found_file (Some (Directory names)) at ino is = absurd (cc)
found_file (Some (Regular file)) at ino is = (cc, refl)
found_file None at ino is = absurd (cc)

found_directory : (node : Option Node) (at ino : Ino) → as_directory node at ≡ Ok ino → (at ≡ ino) × (kind_of node ≡ Some IsDirectory)
found_directory (Some (Directory names)) at ino is = (cc, refl)
found_directory (Some (Regular file)) at ino is = absurd (cc)
found_directory None at ino is = absurd (cc)

pub judged_file : (tree : Tree) (found : Result Ino Why) (ino : Ino) → judged as_file tree found ≡ Ok ino → (found ≡ Ok ino) × (kind_of (node_at tree ino) ≡ Some IsFile)
judged_file tree (Ok at) ino is =
    let f = found_file (node_at tree at) at ino is in
    (ap (λ (i : Ino). Ok i) f.0, subst (λ (i : Ino). kind_of (node_at tree i) ≡ Some IsFile) f.0 f.1)
judged_file tree (Err why) ino is = absurd (cc)

pub judged_directory : (tree : Tree) (found : Result Ino Why) (ino : Ino) → judged as_directory tree found ≡ Ok ino → (found ≡ Ok ino) × (kind_of (node_at tree ino) ≡ Some IsDirectory)
judged_directory tree (Ok at) ino is =
    let f = found_directory (node_at tree at) at ino is in
    (ap (λ (i : Ino). Ok i) f.0, subst (λ (i : Ino). kind_of (node_at tree i) ≡ Some IsDirectory) f.0 f.1)
judged_directory tree (Err why) ino is = absurd (cc)

file_there : (node : Option Node) (ino : Ino) → kind_of node ≡ Some IsFile → as_file node ino ≡ Ok ino
file_there (Some (Directory names)) ino is = absurd (cc)
file_there (Some (Regular file)) ino is = refl
file_there None ino is = absurd (cc)

pub names_file : (tree : Tree) (path : List (List ℕ)) (ino : Ino) → resolved tree path ≡ Ok ino → kind_of (node_at tree ino) ≡ Some IsFile → file_named tree path ≡ Ok ino
names_file tree path ino is file = ap (judged as_file tree) is ∙ file_there (node_at tree ino) ino file

-- the last name of a path is one in its parent
pub last_looked : (tree : Tree) (name : List ℕ) (names : List (List ℕ)) (place ino : Ino) → resolved tree (prefix_of (name ∷ names)) ≡ Ok place → resolved tree (name ∷ names) ≡ Ok ino → NamesIt (node_at tree place) (last_of (name ∷ names)) ino
last_looked tree name names place ino up is =
    ap (λ (r : Result Ino Why). stepped tree r (last_of (name ∷ names))) (sym up) ∙ sym (walked_last tree (Ok root) name names) ∙ is

pub looked_last : (tree : Tree) (name : List ℕ) (names : List (List ℕ)) (place : Ino) (found : Result Ino Why) → resolved tree (prefix_of (name ∷ names)) ≡ Ok place → looked_up (node_at tree place) (last_of (name ∷ names)) ≡ found → resolved tree (name ∷ names) ≡ found
looked_last tree name names place found up is =
    walked_last tree (Ok root) name names ∙ ap (λ (r : Result Ino Why). stepped tree r (last_of (name ∷ names))) up ∙ is

-- after a refusal no walk ends anywhere
refused : (tree : Tree) (why : Why) (names : List (List ℕ)) (place : Ino) → walked tree (Err why) names ≡ Ok place → ⊥
refused tree why names place is = let no : Err why ≡ Ok place = sym (refused_walk tree why names) ∙ is in absurd (cc)

first_step : (tree : Tree) (at place : Ino) (name : List ℕ) (names : List (List ℕ)) (r : Result Ino Why) → looked_up (node_at tree at) name ≡ r → walked tree r names ≡ Ok place → kind_of (node_at tree at) ≡ Some IsDirectory
first_step tree at place name names (Ok next) looked is = is_directory_by (node_at tree at) name next looked
first_step tree at place name names (Err why) looked is = absurd (refused tree why names place is)

-- a walk that ends at a directory begins at one
begins : (tree : Tree) (at place : Ino) (names : List (List ℕ)) → walked tree (Ok at) names ≡ Ok place → kind_of (node_at tree place) ≡ Some IsDirectory → kind_of (node_at tree at) ≡ Some IsDirectory
begins tree at place [] is directory = let same : place ≡ at = cc in subst (λ (i : Ino). kind_of (node_at tree i) ≡ Some IsDirectory) same directory
begins tree at place (name ∷ names) is directory = first_step tree at place name names (looked_up (node_at tree at) name) refl is

-- each name of a directory stands for the same directory as in another tree
abbrev pub KeepsDirectories : Tree → Tree → Type 0
KeepsDirectories tree later = (at next : Ino) (name : List ℕ) → NamesIt (node_at tree at) name next → kind_of (node_at tree next) ≡ Some IsDirectory → NamesIt (node_at later at) name next

same_step : (tree later : Tree) (at place : Ino) (name : List ℕ) (names : List (List ℕ)) (r : Result Ino Why) → KeepsDirectories tree later → kind_of (node_at tree place) ≡ Some IsDirectory
    → ((next : Ino) → walked tree (Ok next) names ≡ Ok place → walked later (Ok next) names ≡ Ok place)
    → looked_up (node_at tree at) name ≡ r → walked tree r names ≡ Ok place → walked later (looked_up (node_at later at) name) names ≡ Ok place
same_step tree later at place name names (Err why) keeps directory rest looked is = absurd (refused tree why names place is)
same_step tree later at place name names (Ok next) keeps directory rest looked is =
    let there : NamesIt (node_at later at) name next = keeps at next name looked (begins tree next place names is directory) in
    ap (λ (r : Result Ino Why). walked later r names) there ∙ rest next is

-- such a tree has the same directories on the way to one
same_walk : (tree later : Tree) (at place : Ino) (names : List (List ℕ)) → KeepsDirectories tree later → kind_of (node_at tree place) ≡ Some IsDirectory → walked tree (Ok at) names ≡ Ok place → walked later (Ok at) names ≡ Ok place
same_walk tree later at place [] keeps directory is = is
same_walk tree later at place (name ∷ names) keeps directory is =
    same_step tree later at place name names (looked_up (node_at tree at) name) keeps directory (λ next. same_walk tree later next place names keeps directory) refl is

pub same_directory : (tree later : Tree) (path : List (List ℕ)) (place : Ino) → KeepsDirectories tree later → kind_of (node_at tree place) ≡ Some IsDirectory → resolved tree path ≡ Ok place → resolved later path ≡ Ok place
same_directory tree later path place keeps directory is = same_walk tree later root place path keeps directory is

-- what a path other than the root names has a name in the directory above
pub record HasParent (tree : Tree) (path : List (List ℕ)) (ino : Ino) : Type 0 where
  pub place : Ino
  pub up : resolved tree (prefix_of path) ≡ Ok place
  pub parent : parent_of tree path ≡ Ok place
  pub directory : kind_of (node_at tree place) ≡ Some IsDirectory
  pub named : NamesIt (node_at tree place) (last_of path) ino

directory_there : (node : Option Node) (ino : Ino) → kind_of node ≡ Some IsDirectory → as_directory node ino ≡ Ok ino
directory_there (Some (Directory names)) ino is = refl
directory_there (Some (Regular file)) ino is = absurd (cc)
directory_there None ino is = absurd (cc)

parent_by : (tree : Tree) (path : List (List ℕ)) (ino : Ino) (above : Result Ino Why) → resolved tree (prefix_of path) ≡ above → stepped tree above (last_of path) ≡ Ok ino → HasParent tree path ino
parent_by tree path ino (Ok place) up is =
    let directory : kind_of (node_at tree place) ≡ Some IsDirectory = is_directory_by (node_at tree place) (last_of path) ino is in
    record {
      place = place;
      up = up;
      parent = ap (judged as_directory tree) up ∙ directory_there (node_at tree place) place directory;
      directory = directory;
      named = is;
    }
parent_by tree path ino (Err why) up is = absurd (cc)

pub has_parent : (tree : Tree) (name : List ℕ) (names : List (List ℕ)) (ino : Ino) → resolved tree (name ∷ names) ≡ Ok ino → HasParent tree (name ∷ names) ino
has_parent tree name names ino is = parent_by tree (name ∷ names) ino (resolved tree (prefix_of (name ∷ names))) refl (sym (walked_last tree (Ok root) name names) ∙ is)

found_empty : (node : Option Node) (at ino : Ino) → as_empty_directory node at ≡ Ok ino → at ≡ ino
found_empty (Some (Directory names)) at ino is =
    elim (map.len names == 0) as (λ b. (if b then Ok at else Err NotEmpty) ≡ Ok ino → at ≡ ino) [
      | true ↦ λ e. cc
      | false ↦ λ e. absurd (cc)
    ] is
found_empty (Some (Regular file)) at ino is = absurd (cc)
found_empty None at ino is = absurd (cc)

pub judged_empty : (tree : Tree) (found : Result Ino Why) (ino : Ino) → judged as_empty_directory tree found ≡ Ok ino → found ≡ Ok ino
judged_empty tree (Ok at) ino is = ap (λ (i : Ino). Ok i) (found_empty (node_at tree at) at ino is)
judged_empty tree (Err why) ino is = absurd (cc)
