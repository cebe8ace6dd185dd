-- In the tree of a legal history each descriptor is of a file.
use Rattle.std.proofs.Common.{◌≡◌, ◌≢◌, ◌⊎◌, ◌==◌, ◌||◌, ◌+◌, inl, inr, ℕ, zero, suc, Bool, true, false, List, [], ◌∷◌, length, replicate, Option, Some, None, Result, Ok, Err, get_or, set, refl, sym, ap, ◌∙◌, subst, eqb-true, eq-eqb, if◌then◌else◌}
use Rattle.std.specs.List.{list_any}
use Rattle.cal_base.specs.declared.directory_entry.EntryKind.TheVariants.{File as IsFile, Directory as IsDirectory}
use Rattle.cal_base.specs.declared.identity.ClientId.{ClientId}
use Rattle.cal_base.specs.declared.identity.Ino.{Ino}
use Rattle.file_bytes.specs.Bytes.{resized, written}
use Rattle.tree_law.specs.FileState.{is_writer, kept_file}
use Rattle.tree_law.specs.Tree.{Tree, node_at, table_of, descriptor_at, least_unused, no_descriptors, empty_tree, empty_file, empty_directory}
use Rattle.tree_law.specs.PartOf.{kind_of, IsKind}
use Rattle.tree_law.specs.Resolve.{new_place, file_named, removable, resolved, parent_of, last_of}
use Rattle.tree_law.specs.Rename.{is_directory, move_of}
use Rattle.tree_law.specs.Descriptors.{writable, within_limit}
use Rattle.tree_law.specs.Idle.{opens_it, with_node, swept}
use Rattle.tree_law.specs.After.{with_name, without_name, take_name, put_name, with_entry, without_entry, without_directory, without_replaced, with_move, with_open, with_bytes, changed_node, flushed_node, restored_node, without_client, carried_out}
use Rattle.tree_law.specs.Legal.{after, tree_of, IsLegal, IsNext, IsNextCall, IsNewInode}
use Rattle.tree_law.specs.declared.call.Call.{Call}
use Rattle.tree_law.specs.declared.call.Call.TheVariants.{Create, Mkdir, Unlink, Rmdir, Rename, Open, Close, Read, Write, Truncate, Stat, Readdir, Fsync}
use Rattle.tree_law.specs.declared.descriptor.Descriptor.{Descriptor}
use Rattle.tree_law.specs.declared.mode.Mode.{Mode}
use Rattle.tree_law.specs.declared.node.Node.{Node}
use Rattle.tree_law.specs.declared.node.Node.TheVariants.{Directory, Regular}
use Rattle.tree_law.specs.declared.rename.Move.{Move}
use Rattle.tree_law.specs.declared.reply.Reply.{Reply}
use Rattle.tree_law.specs.declared.reply.Reply.TheVariants.{Done, Fd, Bytes, Count, File, Dir, Names as Listed, Refused}
use Rattle.tree_law.specs.declared.reply.Why.{Why}
use Rattle.tree_law.specs.declared.entry.Entry.{Entry}
use Rattle.tree_law.specs.declared.entry.Entry.TheVariants.{Call as Called, Flush, Purge}
use Rattle.tree_law.proofs.IdleLemmas.{node_of, swept_tables}
use Rattle.tree_facts.proofs.EachNode.{Tables, Each, Bears, Makes, IsDone, set_each, each_swept, each_called, unswept}
use Rattle.tree_facts.proofs.Paths.{judged_file}
use Rattle.tree_facts.proofs.SoundNodes.{restored_each}
use Rattle.tree_facts.proofs.Writers.{new_free}

-- some client has what stands at this number open
abbrev IsOpened : Tables → ℕ → Type 0
IsOpened tables k = list_any (list_any (opens_it k)) tables ≡ true

-- what is open is a file
abbrev OpensFiles : Tables → ℕ → Option Node → Type 0
OpensFiles tables k node = IsOpened tables k → kind_of node ≡ Some IsFile

or_case : (a b : Bool) → (a || b) ≡ true → (a ≡ true) ⊎ (b ≡ true)
or_case true b is = inl refl
or_case false b is = inr is

or_left : (a b : Bool) → a ≡ true → (a || b) ≡ true
or_left true b is = refl
or_left false b is = absurd (cc)

or_right : (a b : Bool) → b ≡ true → (a || b) ≡ true
or_right true b is = refl
or_right false b is = is

-- what passes a test after a place was set is what was set there, or was there before
any_set : {A : Type 0} (p : A → Bool) (xs : List A) (m : ℕ) (new : A) → list_any p (set xs m new) ≡ true → (p new ≡ true) ⊎ (list_any p xs ≡ true)
any_set p [] m new is = inr is
any_set p (x ∷ xs) zero new is = elim (or_case (p new) (list_any p xs) is) [ inl here ↦ inl here | inr later ↦ inr (or_right (p x) (list_any p xs) later) ]
any_set p (x ∷ xs) (suc m) new is = elim (or_case (p x) (list_any p (set xs m new)) is) [
  | inl here ↦ inr (or_left (p x) (list_any p xs) here)
  | inr later ↦ elim (any_set p xs m new later) [ inl set ↦ inl set | inr old ↦ inr (or_right (p x) (list_any p xs) old) ]
]

-- what stands at a place and passes a test is found
any_at : {A : Type 0} (p : A → Bool) (xs : List A) (m : ℕ) (d : A) → p d ≡ false → p (get_or xs m d) ≡ true → list_any p xs ≡ true
any_at p [] m d fails is = absurd (cc)
any_at p (x ∷ xs) zero d fails is = or_left (p x) (list_any p xs) is
any_at p (x ∷ xs) (suc m) d fails is = or_right (p x) (list_any p xs) (any_at p xs m d fails is)

any_same : {A : Type 0} (p : A → Bool) (n : ℕ) (x : A) → list_any p (replicate n x) ≡ true → p x ≡ true
any_same p zero x is = absurd (cc)
any_same p (suc n) x is = elim (or_case (p x) (list_any p (replicate n x)) is) [ inl here ↦ here | inr later ↦ any_same p n x later ]

-- a descriptor set in a client's table: it opens, or it was open before
opened_set : (tables : Tables) (client fd k : ℕ) (new : Option Descriptor) → IsOpened (set tables client (set (get_or tables client []) fd new)) k → (opens_it k new ≡ true) ⊎ IsOpened tables k
opened_set tables client fd k new is = elim (any_set (list_any (opens_it k)) tables client (set (get_or tables client []) fd new) is) [
  | inl here ↦ elim (any_set (opens_it k) (get_or tables client []) fd new here) [
    | inl this ↦ inl this
    | inr old ↦ inr (any_at (list_any (opens_it k)) tables client [] refl old)
  ]
  | inr before ↦ inr before
]

kind_named : (node : Option Node) (name : List ℕ) (ino : Ino) → kind_of (with_name node name ino) ≡ kind_of node
kind_named (Some (Directory names)) name ino = refl
kind_named (Some (Regular file)) name ino = refl
kind_named None name ino = refl

kind_unnamed : (node : Option Node) (name : List ℕ) → kind_of (without_name node name) ≡ kind_of node
kind_unnamed (Some (Directory names)) name = refl
kind_unnamed (Some (Regular file)) name = refl
kind_unnamed None name = refl

kind_changed : (client : ClientId) (change : List ℕ → List ℕ) (node : Option Node) → kind_of (changed_node client change node) ≡ kind_of node
kind_changed client change (Some (Directory names)) = refl
kind_changed client change (Some (Regular file)) = refl
kind_changed client change None = refl

kind_flushed : (node : Option Node) → kind_of (flushed_node node) ≡ kind_of node
kind_flushed (Some (Directory names)) = refl
kind_flushed (Some (Regular file)) = refl
kind_flushed None = refl

kind_restored : (client : ClientId) (node : Option Node) → kind_of (restored_node client node) ≡ kind_of node
kind_restored client (Some (Directory names)) = refl
kind_restored client (Some (Regular file)) = refl
kind_restored client None = refl

no_file : (node : Option Node) → is_directory node ≡ true → kind_of node ≡ Some IsFile → ⊥
no_file (Some (Directory names)) is file = absurd (cc)
no_file (Some (Regular file)) is kind = absurd (cc)
no_file None is file = absurd (cc)

nothing_there : (node : Option Node) → node ≡ None → kind_of node ≡ Some IsFile → ⊥
nothing_there (Some node) is file = absurd (cc)
nothing_there None is file = absurd (cc)

not_both : {b : Bool} → b ≡ false → b ≡ true → ⊥
not_both f t = absurd (cc)

bears_open : (tables : Tables) → Bears (OpensFiles tables) tables
bears_open tables = record {
  named = λ k node name ino is opened. kind_named node name ino ∙ is opened;
  unnamed = λ k node name is opened. kind_unnamed node name ∙ is opened;
  removed = λ k node directory is opened. absurd (no_file node directory (is opened));
  idle = λ k node flushed closed is opened. absurd (not_both closed opened);
}

-- a call that neither opens nor closes leaves all descriptors
entry_tables : (tree : Tree) (place : Result Ino Why) (name : List ℕ) (new : Option Ino) (node : Node) → (with_entry tree place name new node).tables ≡ tree.tables
entry_tables tree (Ok place) name (Some ino) node = refl
entry_tables tree (Ok place) name None node = refl
entry_tables tree (Err why) name new node = refl

gone_tables : (tree : Tree) (place : Result Ino Why) (path : List (List ℕ)) → (without_entry tree place path).tables ≡ tree.tables
gone_tables tree (Ok place) [] = refl
gone_tables tree (Ok place) (name ∷ names) = refl
gone_tables tree (Err why) path = refl

rmdir_tables : (tree : Tree) (ino place : Result Ino Why) (path : List (List ℕ)) → (without_directory tree ino place path).tables ≡ tree.tables
rmdir_tables tree (Ok ino) place path = gone_tables tree place path
rmdir_tables tree (Err why) place path = refl

replaced_tables : (tree : Tree) (replaced : Option Ino) → (without_replaced tree replaced).tables ≡ tree.tables
replaced_tables tree None = refl
replaced_tables tree (Some ino) = elim (is_directory (node_at tree ino)) as (λ b. (if b then with_node tree ino.0 None else tree).tables ≡ tree.tables) [ true ↦ refl | false ↦ refl ]

move_tables : (tree : Tree) (move : Result Move Why) (name goal : List ℕ) → (with_move tree move name goal).tables ≡ tree.tables
move_tables tree (Ok move) name goal =
    let less : Tree = take_name (put_name tree move.to goal move.ino) move.from name in
    elim move.is_same as (λ b. (if b then tree else without_replaced less move.replaced).tables ≡ tree.tables) [ true ↦ refl | false ↦ replaced_tables less move.replaced ]
move_tables tree (Err why) name goal = refl

bytes_tables : (tree : Tree) (client : ClientId) (change : List ℕ → List ℕ) (file : Result Ino Why) → (with_bytes tree client change file).tables ≡ tree.tables
bytes_tables tree client change (Ok ino) = refl
bytes_tables tree client change (Err why) = refl

abbrev AllFiles : Tree → Type 0
AllFiles tree = Each (OpensFiles tree.tables) tree

as_before : (tree : Tree) (tables : Tables) → tables ≡ tree.tables → AllFiles tree → Each (OpensFiles tables) tree
as_before tree tables same all = subst (λ (ts : Tables). Each (OpensFiles ts) tree) (sym same) all

opened_file : (tree : Tree) (client : ClientId) (fd : Option ℕ) (file : Result Ino Why) (mode : Mode) → ((ino : Ino) → file ≡ Ok ino → kind_of (node_at tree ino) ≡ Some IsFile) → AllFiles tree
    → Each (OpensFiles (with_open tree client fd file mode).tables) tree
opened_file tree client (Some fd) (Ok ino) mode is all k opened = elim (opened_set tree.tables client.0 fd k (Some (record { ino = ino; mode = mode })) opened) [
  | inl this ↦ subst (λ (n : ℕ). kind_of (node_of tree n) ≡ Some IsFile) (eqb-true ino.0 k this) (is ino refl)
  | inr before ↦ all k before
]
opened_file tree client (Some fd) (Err why) mode is all k opened = all k opened
opened_file tree client None file mode is all k opened = all k opened

closed_file : (tree : Tree) (client : ClientId) (fd : ℕ) → AllFiles tree → Each (OpensFiles (set tree.tables client.0 (set (table_of tree client) fd None))) tree
closed_file tree client fd all k opened = elim (opened_set tree.tables client.0 fd k None opened) [ inl this ↦ absurd (cc) | inr before ↦ all k before ]

-- before the call is carried out, what will be open is a file
will_open : (tree : Tree) (client : ClientId) (call : Call) (new : Option Ino) → AllFiles tree → Each (OpensFiles (unswept tree client call new).tables) tree
will_open tree client (Create path) new all = as_before tree _ (entry_tables tree (new_place tree path) (last_of path) new empty_file) all
will_open tree client (Mkdir path) new all = as_before tree _ (entry_tables tree (new_place tree path) (last_of path) new empty_directory) all
will_open tree client (Unlink path) new all = as_before tree _ (gone_tables tree (parent_of tree path) path) all
will_open tree client (Rmdir path) new all = as_before tree _ (rmdir_tables tree (removable tree path) (parent_of tree path) path) all
will_open tree client (Rename path goal) new all = as_before tree _ (move_tables tree (move_of tree path goal) (last_of path) (last_of goal)) all
will_open tree client (Open path mode) new all =
    opened_file tree client (least_unused (table_of tree client)) (file_named tree path) mode (λ ino is. (judged_file tree (resolved tree path) ino is).1) all
will_open tree client (Close fd) new all = closed_file tree client fd all
will_open tree client (Read fd offset len) new all = all
will_open tree client (Write fd offset bytes) new all =
    as_before tree _ (bytes_tables tree client (λ contents. written contents offset bytes) (within_limit (offset + length bytes) (writable (table_of tree client) fd))) all
will_open tree client (Truncate fd size) new all = as_before tree _ (bytes_tables tree client (λ contents. resized contents size) (within_limit size (writable (table_of tree client) fd))) all
will_open tree client (Stat path) new all = all
will_open tree client (Readdir path) new all = all
will_open tree client (Fsync fd) new all = all

carried_tables : (tree : Tree) (client : ClientId) (call : Call) (new : Option Ino) → (carried_out tree client call new).tables ≡ (unswept tree client call new).tables
carried_tables tree client (Create path) new = swept_tables _ 512
carried_tables tree client (Mkdir path) new = swept_tables _ 512
carried_tables tree client (Unlink path) new = swept_tables _ 512
carried_tables tree client (Rmdir path) new = swept_tables _ 512
carried_tables tree client (Rename path goal) new = swept_tables _ 512
carried_tables tree client (Open path mode) new = swept_tables _ 512
carried_tables tree client (Close fd) new = swept_tables _ 512
carried_tables tree client (Read fd offset len) new = refl
carried_tables tree client (Write fd offset bytes) new = swept_tables _ 512
carried_tables tree client (Truncate fd size) new = swept_tables _ 512
carried_tables tree client (Stat path) new = refl
carried_tables tree client (Readdir path) new = refl
carried_tables tree client (Fsync fd) new = refl

makes_files : (tree : Tree) (client : ClientId) (call : Call) (reply : Reply) (new : Option Ino) (tables : Tables) → IsNextCall tree client call reply new → Each (OpensFiles tables) tree → Makes (OpensFiles tables) tree client call new
makes_files tree client call reply new tables next each = record {
  file = λ ino e opened. refl;
  directory = λ ino e opened. absurd (nothing_there (node_at tree ino) (new_free tree call reply ino (subst (λ (o : Option Ino). IsNewInode tree call reply o) e next.new_inode)) (each ino.0 opened));
  written = λ fd offset bytes ino e is opened. kind_changed client (λ contents. written contents offset bytes) (node_at tree ino) ∙ each ino.0 opened;
  resized = λ fd size ino e is opened. kind_changed client (λ contents. resized contents size) (node_at tree ino) ∙ each ino.0 opened;
}

carried_files : (tree : Tree) (client : ClientId) (call : Call) (reply : Reply) (new : Option Ino) → IsNextCall tree client call reply new → AllFiles tree → AllFiles (carried_out tree client call new)
carried_files tree client call reply new next all =
    let tables : Tables = (unswept tree client call new).tables in
    let before : Each (OpensFiles tables) tree = will_open tree client call new all in
    subst (λ (ts : Tables). Each (OpensFiles ts) (carried_out tree client call new)) (sym (carried_tables tree client call new))
    (each_called (OpensFiles tables) tree client call Done new (λ ts e. subst (λ (t : Tables). Bears (OpensFiles t) ts) e (bears_open ts)) (λ is_done. makes_files tree client call reply new tables next before) before)

call_files : (tree : Tree) (client : ClientId) (number : ℕ) (call : Call) (reply told : Reply) (new : Option Ino) → IsNextCall tree client call told new → AllFiles tree → AllFiles (after tree (Called client number call reply new))
call_files tree client number call Done told new next all = carried_files tree client call told new next all
call_files tree client number call (Fd fd) told new next all = carried_files tree client call told new next all
call_files tree client number call (Bytes bytes) told new next all = carried_files tree client call told new next all
call_files tree client number call (Count count) told new next all = carried_files tree client call told new next all
call_files tree client number call (File size) told new next all = carried_files tree client call told new next all
call_files tree client number call Dir told new next all = carried_files tree client call told new next all
call_files tree client number call (Listed names) told new next all = carried_files tree client call told new next all
call_files tree client number call (Refused why) told new next all = all

swept_files : (tree : Tree) → AllFiles tree → AllFiles (swept tree)
swept_files tree all = subst (λ (ts : Tables). Each (OpensFiles ts) (swept tree)) (sym (swept_tables tree 512)) (each_swept (OpensFiles tree.tables) tree (bears_open tree.tables) all)

purged_files : (tree : Tree) (client : ClientId) → AllFiles tree → AllFiles (without_client tree client)
purged_files tree client all = restored_each (OpensFiles (set tree.tables client.0 no_descriptors)) client tree.nodes (λ k opened. kind_restored client (node_of tree k) ∙ still k (any_set (list_any (opens_it k)) tree.tables client.0 no_descriptors opened)) where
  still : (k : ℕ) → (list_any (opens_it k) no_descriptors ≡ true) ⊎ IsOpened tree.tables k → kind_of (node_of tree k) ≡ Some IsFile
  still k (inl none) = absurd (cc)
  still k (inr opened) = all k opened

entry_files : (tree : Tree) (entry : Entry) → IsNext tree entry → AllFiles tree → AllFiles (after tree entry)
entry_files tree (Called client number call reply new) next all = call_files tree client number call reply reply new next all
entry_files tree (Flush client ino) next all =
    swept_files (with_node tree ino.0 (flushed_node (node_at tree ino))) (set_each (OpensFiles tree.tables) tree.nodes ino.0 _ (λ opened. kind_flushed (node_at tree ino) ∙ all ino.0 opened) all)
entry_files tree (Purge client) next all = swept_files (without_client tree client) (purged_files tree client all)

none_opened : (k : ℕ) → IsOpened (replicate 16 (replicate 32 None)) k → ⊥
none_opened k opened = shut (any_same (opens_it k) 32 None (any_same (list_any (opens_it k)) 16 (replicate 32 None) opened)) where
  shut : false ≡ true → ⊥
  shut e = cc

empty_files : AllFiles empty_tree
unfolding empty_tree
empty_files = λ k opened. absurd (none_opened k opened)

all_files : (history : List Entry) → IsLegal history → AllFiles (tree_of history)
all_files [] legal = empty_files
all_files (entry ∷ earlier) legal = entry_files (tree_of earlier) entry legal.0 (all_files earlier legal.1)

same_number : (n : ℕ) → (n == n) ≡ true
same_number n = eq-eqb n n refl

-- each descriptor of a history is of a file
pub history_descriptors : (history : List Entry) (client : ClientId) (fd : ℕ) (descriptor : Descriptor) → IsLegal history → descriptor_at (tree_of history) client fd ≡ Some descriptor → IsKind (tree_of history) descriptor.ino IsFile
history_descriptors history client fd descriptor legal is =
    let n : ℕ = descriptor.ino.0 in
    let tree : Tree = tree_of history in
    let here : opens_it n (descriptor_at tree client fd) ≡ true = ap (opens_it n) is ∙ same_number n in
    all_files history legal n (any_at (list_any (opens_it n)) tree.tables client.0 [] refl (any_at (opens_it n) (table_of tree client) fd None refl here))
