-- A file that is renamed.
use Rattle.std.proofs.Common.{◌≡◌, ◌≢◌, ◌==◌, ◌&&◌, ℕ, Bool, true, false, not, List, [], ◌∷◌, Option, Some, None, Result, Ok, Err, get_or, refl, sym, ap, ◌∙◌, subst, eqb-true, eq-eqb, if◌then◌else◌, nat_eq}
use Rattle.std.specs.Cmp.Lexicographic.{pointwise}
use Rattle.std.proofs.lemmas.Slice.Eq.{bytes_eq-Decides}
use Rattle.cal_base.specs.declared.directory_entry.EntryKind.TheVariants.{File as IsFile, Directory as IsDirectory}
use Rattle.cal_base.specs.declared.identity.ClientId.{ClientId}
use Rattle.cal_base.specs.declared.identity.Ino.{Ino}
use Rattle.tree_law.specs.Tree.{Tree, node_at, table_of}
use Rattle.tree_law.specs.PartOf.{kind_of}
use Rattle.tree_law.specs.Resolve.{prefix_of, last_of, looked_up, resolved, judged, as_file, file_named, parent_of}
use Rattle.tree_law.specs.Rename.{is_directory, is_full_directory, is_at_or_below, replacing, landing, moving, moving_to, move_of}
use Rattle.tree_law.specs.Idle.{is_idle, is_open, is_named, is_flushed_file, with_node, swept}
use Rattle.tree_law.specs.After.{put_name, take_name, without_replaced, with_move}
use Rattle.tree_law.specs.Answer.{answer, moved}
use Rattle.tree_law.specs.Legal.{after}
use Rattle.tree_law.specs.declared.descriptor.Descriptor.{Descriptor}
use Rattle.tree_law.specs.declared.node.Node.{Node}
use Rattle.tree_law.specs.declared.node.Node.TheVariants.{Directory, Regular}
use Rattle.tree_law.specs.declared.call.Call.TheVariants.{Rename}
use Rattle.tree_law.specs.declared.rename.Move.{Move}
use Rattle.tree_law.specs.declared.reply.Reply.TheVariants.{Done}
use Rattle.tree_law.specs.declared.reply.Why.{Why}
use Rattle.tree_law.specs.declared.reply.Why.TheVariants.{NoEnt, Inval, DirFull}
use Rattle.tree_law.specs.declared.entry.Entry.TheVariants.{Call as Called}
use Rattle.tree_law.proofs.IdleLemmas.{node_of, swept_tables}
use Rattle.tree_facts.proofs.Entries.{NamesIt, is_named_by, is_directory_by, put_names_it, still_names_it, names_it_too, names_none, put_leaves, take_leaves}
use Rattle.tree_facts.proofs.Paths.{KeepsDirectories, judged_file, judged_directory, last_looked, looked_last, names_file, same_directory}
use Rattle.tree_facts.proofs.Reading.{not_idle, still_there}

-- the names stand for two entries
abbrev pub AreTwo : Ino → Ino → List ℕ → List ℕ → Type 0
AreTwo from place name goal = from.0 ≡ place.0 → name ≢ goal

-- a file stands as before, the last name of the goal stands for it and the former one for nothing, and the
-- directories on the way are as before
record Landed (tree later : Tree) (from place ino : Ino) (name goal : List ℕ) : Type 0 where
  file : node_at later ino ≡ node_at tree ino
  named : NamesIt (node_at later place) goal ino
  taken : AreTwo from place name goal → looked_up (node_at later from) name ≡ Err NoEnt
  keeps : KeepsDirectories tree later
  source : kind_of (node_at later from) ≡ Some IsDirectory

not_directory : (node : Option Node) → kind_of node ≢ Some IsDirectory → is_directory node ≡ false
not_directory (Some (Directory names)) other = absurd (other refl)
not_directory (Some (Regular file)) other = refl
not_directory None other = refl

one_inode : (place : Option Node) (name : List ℕ) (a b : Ino) → NamesIt place name a → NamesIt place name b → a ≡ b
one_inode place name a b first second = let same : Ok a ≡ Ok b = sym first ∙ second in cc

not_both : (tree : Tree) (a b : Ino) → a ≡ b → kind_of (node_at tree a) ≡ Some IsFile → kind_of (node_at tree b) ≡ Some IsDirectory → ⊥
not_both tree a b same file directory = let both : kind_of (node_at tree a) ≡ Some IsDirectory = ap (λ (i : Ino). kind_of (node_at tree i)) same ∙ directory in absurd (cc)

-- a name that is put in a directory for a file, and the former one taken
placed : (tree : Tree) (from place ino : Ino) (name goal : List ℕ) → kind_of (node_at tree ino) ≡ Some IsFile → kind_of (node_at tree place) ≡ Some IsDirectory → NamesIt (node_at tree from) name ino
    → AreTwo from place name goal → ((other : Ino) → NamesIt (node_at tree place) goal other → kind_of (node_at tree other) ≢ Some IsDirectory)
    → Landed tree (take_name (put_name tree place goal ino) from name) from place ino name goal
placed tree from place ino name goal file directory named apart former =
    let there : Tree = put_name tree place goal ino in
    let put = put_leaves tree.nodes place.0 ino.0 goal ino in
    let taken = take_leaves there.nodes from.0 ino.0 name in
    let dir : kind_of (node_at there from) ≡ Some IsDirectory = (put_leaves tree.nodes place.0 from.0 goal ino).1 ∙ is_directory_by (node_at tree from) name ino named in
    record {
      taken = λ two. names_none there.nodes from.0 name dir;
      source = (take_leaves there.nodes from.0 from.0 name).1 ∙ dir;
      file = taken.0 (put.1 ∙ file) ∙ put.0 file;
      named = still_names_it there.nodes from.0 place.0 name goal ino apart (put_names_it tree.nodes place.0 goal ino directory);
      keeps = λ at next step names is.
          still_names_it there.nodes from.0 at.0 name step next
          (λ e same. not_both tree ino next (one_inode (node_at tree at) step ino next (subst (λ (n : List ℕ). NamesIt (node_at tree at) n ino) same (subst (λ (k : ℕ). NamesIt (node_of tree k) name ino) e named)) names) file is)
          (names_it_too tree.nodes place.0 at.0 goal step ino next
          (λ e same. former next (subst (λ (n : List ℕ). NamesIt (node_at tree place) n next) (sym same) (subst (λ (k : ℕ). NamesIt (node_of tree k) step next) (sym e) names)) is) names);
    }

-- no directory is replaced, so nothing else goes
replaced_stays : (tree : Tree) (ino : Ino) → is_directory (node_at tree ino) ≡ false → without_replaced tree (Some ino) ≡ tree
replaced_stays tree ino is = ap (λ (b : Bool). if b then with_node tree ino.0 None else tree) is

replacing_file : (node other : Option Node) (move : Move) → kind_of node ≡ Some IsFile → moved (replacing node other move) ≡ Done → (replacing node other move ≡ Ok move) × (kind_of other ≢ Some IsDirectory)
replacing_file (Some (Directory names)) other move file done = absurd (cc)
replacing_file (Some (Regular state)) (Some (Directory others)) move file done = absurd (cc)
replacing_file (Some (Regular state)) (Some (Regular other)) move file done = (refl, λ is. absurd (cc))
replacing_file (Some (Regular state)) None move file done = (refl, λ is. absurd (cc))
replacing_file None other move file done = absurd (cc)

same_kind_later : (tree : Tree) (from place ino target : Ino) (name goal : List ℕ) → kind_of (node_at (take_name (put_name tree place goal ino) from name) target) ≡ kind_of (node_at tree target)
same_kind_later tree from place ino target name goal =
    (take_leaves (put_name tree place goal ino).nodes from.0 target.0 name).1 ∙ (put_leaves tree.nodes place.0 target.0 goal ino).1

landing_lands : (tree : Tree) (from place ino : Ino) (name goal : List ℕ) (found : Result Ino Why) → looked_up (node_at tree place) goal ≡ found
    → kind_of (node_at tree ino) ≡ Some IsFile → kind_of (node_at tree place) ≡ Some IsDirectory → NamesIt (node_at tree from) name ino → AreTwo from place name goal
    → moved (landing tree from place ino found) ≡ Done → Landed tree (with_move tree (landing tree from place ino found) name goal) from place ino name goal
landing_lands tree from place ino name goal (Ok target) looked file directory named apart done =
    let move : Move = record { from = from; to = place; ino = ino; replaced = Some target; is_same = false } in
    let less : Tree = take_name (put_name tree place goal ino) from name in
    let may = replacing_file (node_at tree ino) (node_at tree target) move file done in
    let stays : without_replaced less (Some target) ≡ less =
    replaced_stays less target (not_directory (node_at less target) (λ is. may.1 (sym (same_kind_later tree from place ino target name goal) ∙ is))) in
    subst (λ (m : Result Move Why). Landed tree (with_move tree m name goal) from place ino name goal) (sym may.0)
    (subst (λ (t : Tree). Landed tree t from place ino name goal) (sym stays)
    (placed tree from place ino name goal file directory named apart (λ other names is.
    may.1 (ap (λ (i : Ino). kind_of (node_at tree i)) (one_inode (node_at tree place) goal target other looked names) ∙ is))))
landing_lands tree from place ino name goal (Err why) looked file directory named apart done =
    let move : Move = record { from = from; to = place; ino = ino; replaced = None; is_same = false } in
    elim (not (from.0 == place.0) && is_full_directory (node_at tree place)) as (λ b. moved (if b then Err DirFull else Ok move) ≡ Done → Landed tree (with_move tree (if b then Err DirFull else Ok move) name goal) from place ino name goal) [
      | true ↦ λ e. absurd (cc)
      | false ↦ λ e. placed tree from place ino name goal file directory named apart (λ other names is. let no : Err why ≡ Ok other = sym looked ∙ names in absurd (cc))
    ] done

both_true : (a b : Bool) → (a && b) ≡ true → (a ≡ true) × (b ≡ true)
both_true true b e = (refl, e)
both_true false b e = absurd (cc)

moving_lands : (tree : Tree) (path goal : List (List ℕ)) (ino from place : Ino)
    → kind_of (node_at tree ino) ≡ Some IsFile → kind_of (node_at tree place) ≡ Some IsDirectory → NamesIt (node_at tree from) (last_of path) ino
    → moved (moving tree path goal ino from place) ≡ Done → Landed tree (with_move tree (moving tree path goal ino from place) (last_of path) (last_of goal)) from place ino (last_of path) (last_of goal)
moving_lands tree path goal ino from place file directory named done =
    let name : List ℕ = last_of path in
    let last : List ℕ = last_of goal in
    let decides = bytes_eq-Decides name last in
    let same_move : Move = record { from = from; to = place; ino = ino; replaced = None; is_same = true } in
    let landed : Result Move Why = landing tree from place ino (looked_up (node_at tree place) last) in
    let below : Bool = is_at_or_below (prefix_of goal) path in
    elim ((from.0 == place.0) && pointwise nat_eq name last) as (λ b. ((from.0 == place.0) && pointwise nat_eq name last) ≡ b
    → moved (if b then Ok same_move else (if is_directory (node_at tree ino) && below then Err Inval else landed)) ≡ Done
    → Landed tree (with_move tree (if b then Ok same_move else (if is_directory (node_at tree ino) && below then Err Inval else landed)) name last) from place ino name last) [
      | true ↦ λ e done. (let both = both_true (from.0 == place.0) (pointwise nat_eq name last) e in
          record {
            file = refl;
            named = subst (λ (k : ℕ). NamesIt (node_of tree k) last ino) (eqb-true from.0 place.0 both.0) (subst (λ (n : List ℕ). NamesIt (node_at tree from) n ino) (decides.0 both.1) named);
            taken = λ two. absurd (two (eqb-true from.0 place.0 both.0) (decides.0 both.1));
            source = is_directory_by (node_at tree from) name ino named;
            keeps = λ at next step names is. names;
          })
      | false ↦ λ e. subst (λ (b : Bool). moved (if b && below then Err Inval else landed) ≡ Done → Landed tree (with_move tree (if b && below then Err Inval else landed) name last) from place ino name last)
          (sym (not_directory (node_at tree ino) (λ is. absurd (cc))))
          (landing_lands tree from place ino name last (looked_up (node_at tree place) last) refl file directory named
          (λ here same. let both : ((from.0 == place.0) && pointwise nat_eq name last) ≡ true = (λ i. eq-eqb from.0 place.0 here i && decides.1 same i) in absurd (cc)))
    ] refl done

-- a rename of a file that is carried out
record Moves (tree later : Tree) (path goal : List (List ℕ)) (ino : Ino) : Type 0 where
  from : Ino
  place : Ino
  above : parent_of tree path ≡ Ok from
  beyond : parent_of tree goal ≡ Ok place
  out_of : resolved tree (prefix_of path) ≡ Ok from
  source : kind_of (node_at tree from) ≡ Some IsDirectory
  into : resolved tree (prefix_of goal) ≡ Ok place
  directory : kind_of (node_at tree place) ≡ Some IsDirectory
  landed : Landed tree later from place ino (last_of path) (last_of goal)

to_moves : (tree : Tree) (name : List ℕ) (names : List (List ℕ)) (goal : List (List ℕ)) (ino : Ino) (a b : Result Ino Why) → resolved tree (name ∷ names) ≡ Ok ino → kind_of (node_at tree ino) ≡ Some IsFile
    → parent_of tree (name ∷ names) ≡ a → parent_of tree goal ≡ b → moved (moving_to tree (name ∷ names) goal (Ok ino) a b) ≡ Done
    → Moves tree (with_move tree (moving_to tree (name ∷ names) goal (Ok ino) a b) (last_of (name ∷ names)) (last_of goal)) (name ∷ names) goal ino
to_moves tree name names goal ino (Ok from) (Ok place) is file up into done =
    let above = judged_directory tree (resolved tree (prefix_of (name ∷ names))) from up in
    let beyond = judged_directory tree (resolved tree (prefix_of goal)) place into in
    record {
      from = from;
      place = place;
      above = up;
      beyond = into;
      out_of = above.0;
      source = above.1;
      into = beyond.0;
      directory = beyond.1;
      landed = moving_lands tree (name ∷ names) goal ino from place file beyond.1 (last_looked tree name names from ino above.0 is) done;
    }
to_moves tree name names goal ino (Ok from) (Err why) is file up into done = absurd (cc)
to_moves tree name names goal ino (Err why) b is file up into done = absurd (cc)

moves : (tree : Tree) (path goal : List (List ℕ)) (ino : Ino) → file_named tree path ≡ Ok ino → moved (move_of tree path goal) ≡ Done
    → Moves tree (with_move tree (move_of tree path goal) (last_of path) (last_of goal)) path goal ino
moves tree [] goal ino named done = absurd (cc)
moves tree (name ∷ names) [] ino named done = absurd (cc)
moves tree (name ∷ names) (other ∷ others) ino named done =
    let file = judged_file tree (resolved tree (name ∷ names)) ino named in
    let goal : List (List ℕ) = other ∷ others in
    subst (λ (r : Result Ino Why). moved (moving_to tree (name ∷ names) goal r (parent_of tree (name ∷ names)) (parent_of tree goal)) ≡ Done
    → Moves tree (with_move tree (moving_to tree (name ∷ names) goal r (parent_of tree (name ∷ names)) (parent_of tree goal)) (last_of (name ∷ names)) (last_of goal)) (name ∷ names) goal ino) (sym file.0)
    (to_moves tree name names goal ino (parent_of tree (name ∷ names)) (parent_of tree goal) file.0 file.1 refl refl) done

-- ---- and the tree is swept

pub not_idle_named : (tree : Tree) (k : ℕ) → is_named tree k ≡ true → is_idle tree k ≡ false
not_idle_named tree k is =
    elim (is_flushed_file (node_of tree k)) as (λ b. (b && not (is_open tree k) && not (is_named tree k)) ≡ false) [
      | true ↦ elim (is_open tree k) as (λ b. (true && not b && not (is_named tree k)) ≡ false) [
        | true ↦ refl
        | false ↦ ap not is
      ]
      | false ↦ refl
    ]

directory_busy : (node : Option Node) → kind_of node ≡ Some IsDirectory → is_flushed_file node ≡ false
directory_busy (Some (Directory names)) is = refl
directory_busy (Some (Regular file)) is = absurd (cc)
directory_busy None is = refl

names_swept : (tree : Tree) (at ino : Ino) (name : List ℕ) → NamesIt (node_at tree at) name ino → NamesIt (node_at (swept tree) at) name ino
names_swept tree at ino name is =
    let busy : is_idle tree at.0 ≡ false = not_idle tree at.0 (directory_busy (node_at tree at) (is_directory_by (node_at tree at) name ino is)) in
    subst (λ (node : Option Node). NamesIt node name ino) (sym (still_there tree at.0 busy)) is

none_swept : (tree : Tree) (at : Ino) (name : List ℕ) → kind_of (node_at tree at) ≡ Some IsDirectory → looked_up (node_at tree at) name ≡ Err NoEnt → looked_up (node_at (swept tree) at) name ≡ Err NoEnt
none_swept tree at name directory is =
    let busy : is_idle tree at.0 ≡ false = not_idle tree at.0 (directory_busy (node_at tree at) directory) in
    subst (λ (node : Option Node). looked_up node name ≡ Err NoEnt) (sym (still_there tree at.0 busy)) is

swept_landed : (tree less : Tree) (from place ino : Ino) (name goal : List ℕ) → Landed tree less from place ino name goal → Landed tree (swept less) from place ino name goal
swept_landed tree less from place ino name goal landed = record {
  file = still_there less ino.0 (not_idle_named less ino.0 (is_named_by less place.0 goal ino landed.named)) ∙ landed.file;
  named = names_swept less place ino goal landed.named;
  taken = λ two. none_swept less from name landed.source (landed.taken two);
  keeps = λ at next step names is. names_swept less at next step (landed.keeps at next step names is);
  source = ap kind_of (still_there less from.0 (not_idle less from.0 (directory_busy (node_at less from) landed.source))) ∙ landed.source;
}

-- the tree after a rename
abbrev pub later : Tree → ClientId → ℕ → List (List ℕ) → List (List ℕ) → Tree
later tree client number path goal = after tree (Called client number (Rename path goal) Done None)

pub renamed_file : (tree : Tree) (client : ClientId) (number : ℕ) (path goal : List (List ℕ)) (ino : Ino) → file_named tree path ≡ Ok ino → answer tree client (Rename path goal) ≡ Done
    → node_at (later tree client number path goal) ino ≡ node_at tree ino
renamed_file tree client number path goal ino named done =
    let m = moves tree path goal ino named done in
    (swept_landed tree (with_move tree (move_of tree path goal) (last_of path) (last_of goal)) m.from m.place ino (last_of path) (last_of goal) m.landed).file

goal_names : (tree less : Tree) (path : List (List ℕ)) (name : List ℕ) (names : List (List ℕ)) (ino : Ino) → kind_of (node_at tree ino) ≡ Some IsFile → Moves tree less path (name ∷ names) ino → file_named (swept less) (name ∷ names) ≡ Ok ino
goal_names tree less path name names ino file m =
    let landed = swept_landed tree less m.from m.place ino (last_of path) (last_of (name ∷ names)) m.landed in
    let up : resolved (swept less) (prefix_of (name ∷ names)) ≡ Ok m.place = same_directory tree (swept less) (prefix_of (name ∷ names)) m.place landed.keeps m.directory m.into in
    names_file (swept less) (name ∷ names) ino (looked_last (swept less) name names m.place (Ok ino) up landed.named) (ap kind_of landed.file ∙ file)

path_names : (tree less : Tree) (name : List ℕ) (names goal : List (List ℕ)) (ino : Ino) → (parent_of tree (name ∷ names) ≡ parent_of tree goal → last_of (name ∷ names) ≢ last_of goal) → Moves tree less (name ∷ names) goal ino → file_named (swept less) (name ∷ names) ≡ Err NoEnt
path_names tree less name names goal ino two m =
    let landed = swept_landed tree less m.from m.place ino (last_of (name ∷ names)) (last_of goal) m.landed in
    let up : resolved (swept less) (prefix_of (name ∷ names)) ≡ Ok m.from = same_directory tree (swept less) (prefix_of (name ∷ names)) m.from landed.keeps m.source m.out_of in
    ap (judged as_file (swept less)) (looked_last (swept less) name names m.from (Err NoEnt) up
    (landed.taken (λ here. two (m.above ∙ ap (λ (n : ℕ). Ok (record { 0 = n })) here ∙ sym m.beyond))))

pub renamed_goal : (tree : Tree) (client : ClientId) (number : ℕ) (path goal : List (List ℕ)) (ino : Ino) → file_named tree path ≡ Ok ino → answer tree client (Rename path goal) ≡ Done
    → file_named (later tree client number path goal) goal ≡ Ok ino
renamed_goal tree client number [] goal ino named done = absurd (cc)
renamed_goal tree client number (name ∷ names) [] ino named done = absurd (cc)
renamed_goal tree client number (name ∷ names) (other ∷ others) ino named done =
    goal_names tree (with_move tree (move_of tree (name ∷ names) (other ∷ others)) (last_of (name ∷ names)) (last_of (other ∷ others))) (name ∷ names) other others ino
    (judged_file tree (resolved tree (name ∷ names)) ino named).1 (moves tree (name ∷ names) (other ∷ others) ino named done)

pub renamed_path : (tree : Tree) (client : ClientId) (number : ℕ) (path goal : List (List ℕ)) (ino : Ino) → file_named tree path ≡ Ok ino → answer tree client (Rename path goal) ≡ Done
    → (parent_of tree path ≡ parent_of tree goal → last_of path ≢ last_of goal) → file_named (later tree client number path goal) path ≡ Err NoEnt
renamed_path tree client number [] goal ino named done two = absurd (cc)
renamed_path tree client number (name ∷ names) goal ino named done two =
    path_names tree (with_move tree (move_of tree (name ∷ names) goal) (last_of (name ∷ names)) (last_of goal)) name names goal ino two (moves tree (name ∷ names) goal ino named done)

replaced_tables : (tree : Tree) (replaced : Option Ino) → (without_replaced tree replaced).tables ≡ tree.tables
replaced_tables tree None = refl
replaced_tables tree (Some ino) = elim (is_directory (node_at tree ino)) as (λ b. (if b then with_node tree ino.0 None else tree).tables ≡ tree.tables) [ true ↦ refl | false ↦ refl ]

move_tables : (tree : Tree) (move : Result Move Why) (name goal : List ℕ) → (with_move tree move name goal).tables ≡ tree.tables
move_tables tree (Ok move) name goal =
    let less : Tree = take_name (put_name tree move.to goal move.ino) move.from name in
    elim move.is_same as (λ b. (if b then tree else without_replaced less move.replaced).tables ≡ tree.tables) [ true ↦ refl | false ↦ replaced_tables less move.replaced ]
move_tables tree (Err why) name goal = refl

pub renamed_tables : (tree : Tree) (client other : ClientId) (number : ℕ) (path goal : List (List ℕ)) → table_of (later tree client number path goal) other ≡ table_of tree other
renamed_tables tree client other number path goal =
    ap (λ (tables : List (List (Option Descriptor))). get_or tables other.0 [])
    (swept_tables (with_move tree (move_of tree path goal) (last_of path) (last_of goal)) 512 ∙ move_tables tree (move_of tree path goal) (last_of path) (last_of goal))
