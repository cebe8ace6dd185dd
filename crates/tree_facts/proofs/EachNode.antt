-- A fact on what stands at each number that an entry keeps.
use Rattle.std.proofs.Common.{◌≡◌, ◌&&◌, ◌==◌, inl, inr, ℕ, zero, suc, Bool, true, false, not, List, [], ◌∷◌, length, Option, Some, None, Result, Ok, Err, get_or, set, refl, sym, ap, ◌∙◌, subst, if◌then◌else◌, ◌+◌}
use Rattle.std.specs.List.{list_any}
use Rattle.std.specs.FinMap as finite
use Rattle.std.proofs.lemmas.Bool.{cases_lt}
use Rattle.cal_base.specs.declared.identity.ClientId.{ClientId}
use Rattle.cal_base.specs.declared.identity.Ino.{Ino}
use Rattle.file_bytes.specs.Bytes.{resized, written}
use Rattle.tree_law.specs.Names.{Names}
use Rattle.tree_law.specs.Tree.{Tree, node_at, table_of, least_unused, empty_file, empty_directory}
use Rattle.tree_law.specs.Resolve.{new_place, file_named, removable, parent_of, last_of, resolved, judged, as_empty_directory}
use Rattle.tree_law.specs.Rename.{is_directory, move_of}
use Rattle.tree_law.specs.Descriptors.{writable, within_limit}
use Rattle.tree_law.specs.Idle.{is_idle, is_open, is_named, is_flushed_file, opens_it, with_node, swept}
use Rattle.tree_law.specs.After.{with_name, without_name, put_name, take_name, with_entry, without_entry, without_directory, without_replaced, with_move, with_open, with_descriptor, changed_node, with_bytes, carried_out, after_call}
use Rattle.tree_law.specs.declared.call.Call.{Call}
use Rattle.tree_law.specs.declared.call.Call.TheVariants.{Create, Mkdir, Unlink, Rmdir, Rename, Open, Close, Read, Write, Truncate, Stat, Readdir, Fsync}
use Rattle.tree_law.specs.declared.descriptor.Descriptor.{Descriptor}
use Rattle.tree_law.specs.declared.mode.Mode.{Mode}
use Rattle.tree_law.specs.declared.node.Node.{Node}
use Rattle.tree_law.specs.declared.node.Node.TheVariants.{Directory, Regular}
use Rattle.tree_law.specs.declared.rename.Move.{Move}
use Rattle.tree_law.specs.declared.reply.Reply.{Reply}
use Rattle.tree_law.specs.declared.reply.Reply.TheVariants.{Done, Fd, Bytes, Count, File, Dir, Names as Listed, Refused}
use Rattle.tree_law.specs.declared.reply.Why.{Why}
use Rattle.tree_law.specs.declared.reply.Why.TheVariants.{NotEmpty}
use Rattle.tree_law.proofs.IdleLemmas.{node_of, swept_node, swept_node_above, swept_tables}

abbrev pub Tables : Type 0
Tables = List (List (Option Descriptor))

-- the fact holds of what stands at each number
abbrev pub Each : (ℕ → Option Node → Type 0) → Tree → Type 0
Each P tree = (k : ℕ) → P k (node_of tree k)

-- it stays where names come and go, where a directory is removed, and where an idle file goes
pub record Bears (P : ℕ → Option Node → Type 0) (tables : Tables) : Type 0 where
  pub named : (k : ℕ) (node : Option Node) (name : List ℕ) (ino : Ino) → P k node → P k (with_name node name ino)
  pub unnamed : (k : ℕ) (node : Option Node) (name : List ℕ) → P k node → P k (without_name node name)
  pub removed : (k : ℕ) (node : Option Node) → is_directory node ≡ true → P k node → P k None
  pub idle : (k : ℕ) (node : Option Node) → is_flushed_file node ≡ true → list_any (list_any (opens_it k)) tables ≡ false → P k node → P k None

pub set_each : (P : ℕ → Option Node → Type 0) (nodes : List (Option Node)) (m : ℕ) (node : Option Node) → P m node → ((k : ℕ) → P k (get_or nodes k None)) → (k : ℕ) → P k (get_or (set nodes m node) k None)
set_each P [] m node new each k = each k
set_each P (x ∷ xs) zero node new each zero = new
set_each P (x ∷ xs) zero node new each (suc k) = each (suc k)
set_each P (x ∷ xs) (suc m) node new each zero = each zero
set_each P (x ∷ xs) (suc m) node new each (suc k) = set_each (λ n. P (suc n)) xs m node new (λ n. each (suc n)) k

idle_part : (a b c : Bool) → (a && not b && not c) ≡ true → (a ≡ true) × (b ≡ false)
idle_part true true c is = absurd (cc)
idle_part true false c is = (refl, refl)
idle_part false b c is = absurd (cc)

idle_gone : (P : ℕ → Option Node → Type 0) (tree : Tree) (k : ℕ) → Bears P tree.tables → P k (node_of tree k) → P k (if is_idle tree k then None else node_of tree k)
idle_gone P tree k bears here =
    elim (is_idle tree k) as (λ b. is_idle tree k ≡ b → P k (if b then None else node_of tree k)) [
      | true ↦ λ e. let parts = idle_part (is_flushed_file (node_of tree k)) (is_open tree k) (is_named tree k) e in bears.idle k (node_of tree k) parts.0 parts.1 here
      | false ↦ λ e. here
    ] refl

pub each_swept : (P : ℕ → Option Node → Type 0) (tree : Tree) → Bears P tree.tables → Each P tree → Each P (swept tree)
each_swept P tree bears each k = elim (cases_lt k 512) [
  | inl below ↦ subst (λ (node : Option Node). P k node) (sym (swept_node tree 512 k below)) (idle_gone P tree k bears (each k))
  | inr above ↦ subst (λ (node : Option Node). P k node) (sym (swept_node_above tree 512 k above)) (each k)
]

each_put : (P : ℕ → Option Node → Type 0) (tables : Tables) (tree : Tree) (place : Ino) (name : List ℕ) (ino : Ino) → Bears P tables → Each P tree → Each P (put_name tree place name ino)
each_put P tables tree place name ino bears each = set_each P tree.nodes place.0 _ (bears.named place.0 (node_at tree place) name ino (each place.0)) each

each_taken : (P : ℕ → Option Node → Type 0) (tables : Tables) (tree : Tree) (place : Ino) (name : List ℕ) → Bears P tables → Each P tree → Each P (take_name tree place name)
each_taken P tables tree place name bears each = set_each P tree.nodes place.0 _ (bears.unnamed place.0 (node_at tree place) name (each place.0)) each

each_entry : (P : ℕ → Option Node → Type 0) (tables : Tables) (tree : Tree) (place : Result Ino Why) (name : List ℕ) (new : Option Ino) (node : Node) → Bears P tables
    → ((ino : Ino) → new ≡ Some ino → P ino.0 (Some node)) → Each P tree → Each P (with_entry tree place name new node)
each_entry P tables tree (Ok place) name (Some ino) node bears made each = set_each P (put_name tree place name ino).nodes ino.0 (Some node) (made ino refl) (each_put P tables tree place name ino bears each)
each_entry P tables tree (Ok place) name None node bears made each = each
each_entry P tables tree (Err why) name new node bears made each = each

each_gone : (P : ℕ → Option Node → Type 0) (tables : Tables) (tree : Tree) (place : Result Ino Why) (path : List (List ℕ)) → Bears P tables → Each P tree → Each P (without_entry tree place path)
each_gone P tables tree (Ok place) [] bears each = each
each_gone P tables tree (Ok place) (name ∷ names) bears each = each_taken P tables tree place (last_of (name ∷ names)) bears each
each_gone P tables tree (Err why) path bears each = each

each_rmdir : (P : ℕ → Option Node → Type 0) (tables : Tables) (tree : Tree) (ino place : Result Ino Why) (path : List (List ℕ)) → ((at : Ino) → ino ≡ Ok at → is_directory (node_at tree at) ≡ true)
    → Bears P tables → Each P tree → Each P (without_directory tree ino place path)
each_rmdir P tables tree (Ok ino) place path is bears each =
    set_each P (without_entry tree place path).nodes ino.0 None (bears.removed ino.0 (node_at tree ino) (is ino refl) (each ino.0)) (each_gone P tables tree place path bears each)
each_rmdir P tables tree (Err why) place path is bears each = each

each_replaced : (P : ℕ → Option Node → Type 0) (tables : Tables) (tree : Tree) (replaced : Option Ino) → Bears P tables → Each P tree → Each P (without_replaced tree replaced)
each_replaced P tables tree None bears each = each
each_replaced P tables tree (Some ino) bears each = elim (is_directory (node_at tree ino)) as (λ b. is_directory (node_at tree ino) ≡ b → Each P (if b then with_node tree ino.0 None else tree)) [
  | true ↦ λ e. set_each P tree.nodes ino.0 None (bears.removed ino.0 (node_at tree ino) e (each ino.0)) each
  | false ↦ λ e. each
] refl

each_moved : (P : ℕ → Option Node → Type 0) (tables : Tables) (tree : Tree) (move : Result Move Why) (name goal : List ℕ) → Bears P tables → Each P tree → Each P (with_move tree move name goal)
each_moved P tables tree (Ok move) name goal bears each =
    let there : Tree = put_name tree move.to goal move.ino in
    let less : Tree = take_name there move.from name in
    elim move.is_same as (λ b. Each P (if b then tree else without_replaced less move.replaced)) [
      | true ↦ each
      | false ↦ each_replaced P tables less move.replaced bears (each_taken P tables there move.from name bears (each_put P tables tree move.to goal move.ino bears each))
    ]
each_moved P tables tree (Err why) name goal bears each = each

each_opened : (P : ℕ → Option Node → Type 0) (tree : Tree) (client : ClientId) (fd : Option ℕ) (file : Result Ino Why) (mode : Mode) → Each P tree → Each P (with_open tree client fd file mode)
each_opened P tree client (Some fd) (Ok ino) mode each = each
each_opened P tree client (Some fd) (Err why) mode each = each
each_opened P tree client None file mode each = each

each_bytes : (P : ℕ → Option Node → Type 0) (tree : Tree) (client : ClientId) (change : List ℕ → List ℕ) (file : Result Ino Why)
    → ((ino : Ino) → file ≡ Ok ino → P ino.0 (changed_node client change (node_at tree ino))) → Each P tree → Each P (with_bytes tree client change file)
each_bytes P tree client change (Ok ino) changed each = set_each P tree.nodes ino.0 _ (changed ino refl) each
each_bytes P tree client change (Err why) changed each = each

empty_directory_is : (node : Option Node) (at ino : Ino) → as_empty_directory node at ≡ Ok ino → (is_directory node ≡ true) × (at ≡ ino)
empty_directory_is (Some (Directory names)) at ino is =
    (refl, elim (finite.len names == 0) as (λ b. (if b then Ok at else Err NotEmpty) ≡ Ok ino → at ≡ ino) [ true ↦ λ e. cc | false ↦ λ e. absurd (cc) ] is)
empty_directory_is (Some (Regular file)) at ino is = absurd (cc)
empty_directory_is None at ino is = absurd (cc)

judged_directory_is : (tree : Tree) (found : Result Ino Why) (ino : Ino) → judged as_empty_directory tree found ≡ Ok ino → is_directory (node_at tree ino) ≡ true
judged_directory_is tree (Ok at) ino is =
    let both = empty_directory_is (node_at tree at) at ino is in
    subst (λ (i : Ino). is_directory (node_at tree i) ≡ true) both.1 both.0
judged_directory_is tree (Err why) ino is = absurd (cc)

removable_is : (tree : Tree) (path : List (List ℕ)) (ino : Ino) → removable tree path ≡ Ok ino → is_directory (node_at tree ino) ≡ true
removable_is tree [] ino is = absurd (cc)
removable_is tree (name ∷ names) ino is = judged_directory_is tree (resolved tree (name ∷ names)) ino is

-- the tree that a call makes, before idle files go
abbrev pub unswept : Tree → ClientId → Call → Option Ino → Tree
unswept tree client (Create path) new = with_entry tree (new_place tree path) (last_of path) new empty_file
unswept tree client (Mkdir path) new = with_entry tree (new_place tree path) (last_of path) new empty_directory
unswept tree client (Unlink path) new = without_entry tree (parent_of tree path) path
unswept tree client (Rmdir path) new = without_directory tree (removable tree path) (parent_of tree path) path
unswept tree client (Rename path goal) new = with_move tree (move_of tree path goal) (last_of path) (last_of goal)
unswept tree client (Open path mode) new = with_open tree client (least_unused (table_of tree client)) (file_named tree path) mode
unswept tree client (Close fd) new = with_descriptor tree client fd None
unswept tree client (Read fd offset len) new = tree
unswept tree client (Write fd offset bytes) new = with_bytes tree client (λ contents. written contents offset bytes) (within_limit (offset + length bytes) (writable (table_of tree client) fd))
unswept tree client (Truncate fd size) new = with_bytes tree client (λ contents. resized contents size) (within_limit size (writable (table_of tree client) fd))
unswept tree client (Stat path) new = tree
unswept tree client (Readdir path) new = tree
unswept tree client (Fsync fd) new = tree

-- the fact holds of what a call makes or changes
pub record Makes (P : ℕ → Option Node → Type 0) (tree : Tree) (client : ClientId) (call : Call) (new : Option Ino) : Type 0 where
  pub file : (ino : Ino) → new ≡ Some ino → P ino.0 (Some empty_file)
  pub directory : (ino : Ino) → new ≡ Some ino → P ino.0 (Some empty_directory)
  pub written : (fd offset : ℕ) (bytes : List ℕ) (ino : Ino) → call ≡ Write fd offset bytes → within_limit (offset + length bytes) (writable (table_of tree client) fd) ≡ Ok ino
      → P ino.0 (changed_node client (λ contents. written contents offset bytes) (node_at tree ino))
  pub resized : (fd size : ℕ) (ino : Ino) → call ≡ Truncate fd size → within_limit size (writable (table_of tree client) fd) ≡ Ok ino
      → P ino.0 (changed_node client (λ contents. resized contents size) (node_at tree ino))

each_carried : (P : ℕ → Option Node → Type 0) (tree : Tree) (client : ClientId) (call : Call) (new : Option Ino) → ((tables : Tables) → tables ≡ (unswept tree client call new).tables → Bears P tables) → Makes P tree client call new → Each P tree
    → Each P (carried_out tree client call new)
each_carried P tree client (Create path) new bears makes each =
    let next : Tree = with_entry tree (new_place tree path) (last_of path) new empty_file in
    each_swept P next (bears next.tables refl) (each_entry P next.tables tree (new_place tree path) (last_of path) new empty_file (bears next.tables refl) makes.file each)
each_carried P tree client (Mkdir path) new bears makes each =
    let next : Tree = with_entry tree (new_place tree path) (last_of path) new empty_directory in
    each_swept P next (bears next.tables refl) (each_entry P next.tables tree (new_place tree path) (last_of path) new empty_directory (bears next.tables refl) makes.directory each)
each_carried P tree client (Unlink path) new bears makes each =
    let next : Tree = without_entry tree (parent_of tree path) path in
    each_swept P next (bears next.tables refl) (each_gone P next.tables tree (parent_of tree path) path (bears next.tables refl) each)
each_carried P tree client (Rmdir path) new bears makes each =
    let next : Tree = without_directory tree (removable tree path) (parent_of tree path) path in
    each_swept P next (bears next.tables refl) (each_rmdir P next.tables tree (removable tree path) (parent_of tree path) path (removable_is tree path) (bears next.tables refl) each)
each_carried P tree client (Rename path goal) new bears makes each =
    let next : Tree = with_move tree (move_of tree path goal) (last_of path) (last_of goal) in
    each_swept P next (bears next.tables refl) (each_moved P next.tables tree (move_of tree path goal) (last_of path) (last_of goal) (bears next.tables refl) each)
each_carried P tree client (Open path mode) new bears makes each =
    let next : Tree = with_open tree client (least_unused (table_of tree client)) (file_named tree path) mode in
    each_swept P next (bears next.tables refl) (each_opened P tree client (least_unused (table_of tree client)) (file_named tree path) mode each)
each_carried P tree client (Close fd) new bears makes each = each_swept P (with_descriptor tree client fd None) (bears (with_descriptor tree client fd None).tables refl) each
each_carried P tree client (Read fd offset len) new bears makes each = each
each_carried P tree client (Write fd offset bytes) new bears makes each =
    let file : Result Ino Why = within_limit (offset + length bytes) (writable (table_of tree client) fd) in
    let next : Tree = with_bytes tree client (λ contents. written contents offset bytes) file in
    each_swept P next (bears next.tables refl) (each_bytes P tree client (λ contents. written contents offset bytes) file (λ ino is. makes.written fd offset bytes ino refl is) each)
each_carried P tree client (Truncate fd size) new bears makes each =
    let file : Result Ino Why = within_limit size (writable (table_of tree client) fd) in
    let next : Tree = with_bytes tree client (λ contents. resized contents size) file in
    each_swept P next (bears next.tables refl) (each_bytes P tree client (λ contents. resized contents size) file (λ ino is. makes.resized fd size ino refl is) each)
each_carried P tree client (Stat path) new bears makes each = each
each_carried P tree client (Readdir path) new bears makes each = each
each_carried P tree client (Fsync fd) new bears makes each = each

-- a call that isn't refused leaves the tree that it makes
abbrev pub IsDone : Reply → Type 0
IsDone (Refused why) = ⊥
IsDone _ = Unit {0}

-- a call keeps the fact
pub each_called : (P : ℕ → Option Node → Type 0) (tree : Tree) (client : ClientId) (call : Call) (reply : Reply) (new : Option Ino) → ((tables : Tables) → tables ≡ (unswept tree client call new).tables → Bears P tables)
    → (IsDone reply → Makes P tree client call new) → Each P tree → Each P (after_call tree client call reply new)
each_called P tree client call Done new bears makes each = each_carried P tree client call new bears (makes tt) each
each_called P tree client call (Fd fd) new bears makes each = each_carried P tree client call new bears (makes tt) each
each_called P tree client call (Bytes bytes) new bears makes each = each_carried P tree client call new bears (makes tt) each
each_called P tree client call (Count count) new bears makes each = each_carried P tree client call new bears (makes tt) each
each_called P tree client call (File size) new bears makes each = each_carried P tree client call new bears (makes tt) each
each_called P tree client call Dir new bears makes each = each_carried P tree client call new bears (makes tt) each
each_called P tree client call (Listed names) new bears makes each = each_carried P tree client call new bears (makes tt) each
each_called P tree client call (Refused why) new bears makes each = each
