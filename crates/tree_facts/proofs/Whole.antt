-- A file without unflushed writes lasts as it is.
use Rattle.std.proofs.Common.{◌≡◌, inl, inr, ℕ, zero, suc, true, false, List, [], ◌∷◌, map, Option, Some, None, Result, Ok, Err, get_or, set, replicate, refl, sym, ap, ◌∙◌, subst, if◌then◌else◌}
use Rattle.std.proofs.lemmas.Bool.{cases_lt}
use Rattle.cal_base.specs.declared.identity.ClientId.{ClientId}
use Rattle.cal_base.specs.declared.identity.Ino.{Ino}
use Rattle.tree_law.specs.FileState.{is_writer, kept_file}
use Rattle.tree_law.specs.Tree.{Tree, node_at, contents_of, writer_of, empty_tree, first_nodes, empty_file, empty_directory}
use Rattle.tree_law.specs.Rename.{is_directory}
use Rattle.tree_law.specs.Idle.{is_idle, with_node, swept}
use Rattle.tree_law.specs.After.{with_name, without_name, put_name, take_name, with_entry, without_entry, without_directory, without_replaced, with_move, with_open, changed_node, with_bytes, flushed_node, restored_node, without_client, carried_out}
use Rattle.tree_law.specs.Legal.{after, after_call, tree_of, IsLegal}
use Rattle.tree_law.specs.declared.call.Call.{Call}
use Rattle.tree_law.specs.declared.call.Call.TheVariants.{Create, Mkdir, Unlink, Rmdir, Rename, Open, Close, Read, Write, Truncate, Stat, Readdir, Fsync}
use Rattle.tree_law.specs.declared.mode.Mode.{Mode}
use Rattle.tree_law.specs.declared.node.Node.{Node}
use Rattle.tree_law.specs.declared.node.Node.TheVariants.{Directory, Regular}
use Rattle.tree_law.specs.declared.rename.Move.{Move}
use Rattle.tree_law.specs.declared.reply.Reply.{Reply}
use Rattle.tree_law.specs.declared.reply.Reply.TheVariants.{Done, Fd, Bytes, Count, File, Dir, Names as Listed, Refused}
use Rattle.tree_law.specs.declared.reply.Why.{Why}
use Rattle.tree_law.specs.declared.entry.Entry.{Entry}
use Rattle.tree_law.specs.declared.entry.Entry.TheVariants.{Call as Called, Flush, Purge}
use Rattle.tree_law.proofs.IdleLemmas.{node_of, swept_node, swept_node_above}
use Rattle.tree_law.specs.Kept.{kept_node, kept_tree}
use Rattle.tree_law.specs.PartOf.{kind_of}
use Rattle.cal_base.specs.declared.directory_entry.EntryKind.TheVariants.{File as IsFile}
use Rattle.tree_facts.specs.Lasting.{LastsWhole, last_flushed}
use Rattle.tree_facts.proofs.Keeping.{Lasts}
use Rattle.tree_facts.proofs.LastFlush.{history_lasts}

abbrev pub AllWhole : Tree → Type 0
AllWhole tree = (k : ℕ) → LastsWhole (node_of tree k)

setting : (nodes : List (Option Node)) (m k : ℕ) (next : Option Node) → LastsWhole next → LastsWhole (get_or nodes k None) → LastsWhole (get_or (set nodes m next) k None)
setting [] m k next new old = old
setting (place ∷ nodes) zero zero next new old = new
setting (place ∷ nodes) zero (suc k) next new old = old
setting (place ∷ nodes) (suc m) zero next new old = old
setting (place ∷ nodes) (suc m) (suc k) next new old = setting nodes m k next new old

with_whole : (tree : Tree) (m : ℕ) (next : Option Node) → LastsWhole next → AllWhole tree → AllWhole (with_node tree m next)
with_whole tree m next new all = λ k. setting tree.nodes m k next new (all k)

name_put : (node : Option Node) (name : List ℕ) (ino : Ino) → LastsWhole node → LastsWhole (with_name node name ino)
name_put (Some (Directory names)) name ino whole = tt
name_put (Some (Regular file)) name ino whole = whole
name_put None name ino whole = tt

name_taken : (node : Option Node) (name : List ℕ) → LastsWhole node → LastsWhole (without_name node name)
name_taken (Some (Directory names)) name whole = tt
name_taken (Some (Regular file)) name whole = whole
name_taken None name whole = tt

changed : (client : ClientId) (change : List ℕ → List ℕ) (node : Option Node) → LastsWhole (changed_node client change node)
changed client change (Some (Directory names)) = tt
changed client change (Some (Regular file)) = λ none. absurd (cc)
changed client change None = tt

flushed : (node : Option Node) → LastsWhole (flushed_node node)
flushed (Some (Directory names)) = tt
flushed (Some (Regular file)) = λ none. refl
flushed None = tt

restored : (client : ClientId) (node : Option Node) → LastsWhole node → LastsWhole (restored_node client node)
restored client (Some (Directory names)) whole = tt
restored client (Some (Regular file)) whole = elim (is_writer file.writer client) as (λ b. LastsWhole (Some (Regular (if b then kept_file file else file)))) [ true ↦ λ none. refl | false ↦ whole ]
restored client None whole = tt

all_restored : (client : ClientId) (nodes : List (Option Node)) (k : ℕ) → LastsWhole (get_or nodes k None) → LastsWhole (get_or (map (restored_node client) nodes) k None)
all_restored client [] k whole = whole
all_restored client (place ∷ nodes) zero whole = restored client place whole
all_restored client (place ∷ nodes) (suc k) whole = all_restored client nodes k whole

sweep : (tree : Tree) → AllWhole tree → AllWhole (swept tree)
sweep tree all k = elim (cases_lt k 512) [
  | inl below ↦ subst (λ (node : Option Node). LastsWhole node) (sym (swept_node tree 512 k below))
      (elim (is_idle tree k) as (λ b. LastsWhole (if b then None else node_of tree k)) [ true ↦ tt | false ↦ all k ])
  | inr above ↦ subst (λ (node : Option Node). LastsWhole node) (sym (swept_node_above tree 512 k above)) (all k)
]

put : (tree : Tree) (place : Ino) (name : List ℕ) (ino : Ino) → AllWhole tree → AllWhole (put_name tree place name ino)
put tree place name ino all = with_whole tree place.0 _ (name_put (node_at tree place) name ino (all place.0)) all

taken : (tree : Tree) (place : Ino) (name : List ℕ) → AllWhole tree → AllWhole (take_name tree place name)
taken tree place name all = with_whole tree place.0 _ (name_taken (node_at tree place) name (all place.0)) all

entry_made : (tree : Tree) (place : Result Ino Why) (name : List ℕ) (new : Option Ino) (node : Node) → LastsWhole (Some node) → AllWhole tree → AllWhole (with_entry tree place name new node)
entry_made tree (Ok place) name (Some made) node whole all = with_whole (put_name tree place name made) made.0 (Some node) whole (put tree place name made all)
entry_made tree (Ok place) name None node whole all = all
entry_made tree (Err why) name new node whole all = all

entry_gone : (tree : Tree) (place : Result Ino Why) (path : List (List ℕ)) → AllWhole tree → AllWhole (without_entry tree place path)
entry_gone tree (Ok place) [] all = all
entry_gone tree (Ok place) (name ∷ names) all = taken tree place _ all
entry_gone tree (Err why) path all = all

directory_gone : (tree : Tree) (ino place : Result Ino Why) (path : List (List ℕ)) → AllWhole tree → AllWhole (without_directory tree ino place path)
directory_gone tree (Ok ino) place path all = with_whole (without_entry tree place path) ino.0 None tt (entry_gone tree place path all)
directory_gone tree (Err why) place path all = all

replaced_gone : (tree : Tree) (replaced : Option Ino) → AllWhole tree → AllWhole (without_replaced tree replaced)
replaced_gone tree None all = all
replaced_gone tree (Some ino) all = elim (is_directory (node_at tree ino)) as (λ b. AllWhole (if b then with_node tree ino.0 None else tree)) [
  | true ↦ with_whole tree ino.0 None tt all
  | false ↦ all
]

entry_moved : (tree : Tree) (move : Result Move Why) (name goal : List ℕ) → AllWhole tree → AllWhole (with_move tree move name goal)
entry_moved tree (Ok move) name goal all =
    let there : Tree = put_name tree move.to goal move.ino in
    let less : Tree = take_name there move.from name in
    elim move.is_same as (λ b. AllWhole (if b then tree else without_replaced less move.replaced)) [
      | true ↦ all
      | false ↦ replaced_gone less move.replaced (taken there move.from name (put tree move.to goal move.ino all))
    ]
entry_moved tree (Err why) name goal all = all

file_opened : (tree : Tree) (client : ClientId) (fd : Option ℕ) (file : Result Ino Why) (mode : Mode) → AllWhole tree → AllWhole (with_open tree client fd file mode)
file_opened tree client (Some fd) (Ok ino) mode all = all
file_opened tree client (Some fd) (Err why) mode all = all
file_opened tree client None file mode all = all

bytes_written : (tree : Tree) (client : ClientId) (change : List ℕ → List ℕ) (file : Result Ino Why) → AllWhole tree → AllWhole (with_bytes tree client change file)
bytes_written tree client change (Ok ino) all = with_whole tree ino.0 _ (changed client change (node_at tree ino)) all
bytes_written tree client change (Err why) all = all

carried : (tree : Tree) (client : ClientId) (call : Call) (new : Option Ino) → AllWhole tree → AllWhole (carried_out tree client call new)
carried tree client (Create path) new all = sweep _ (entry_made tree _ _ new empty_file (λ none. refl) all)
carried tree client (Mkdir path) new all = sweep _ (entry_made tree _ _ new empty_directory tt all)
carried tree client (Unlink path) new all = sweep _ (entry_gone tree _ path all)
carried tree client (Rmdir path) new all = sweep _ (directory_gone tree _ _ path all)
carried tree client (Rename path goal) new all = sweep _ (entry_moved tree _ _ _ all)
carried tree client (Open path mode) new all = sweep _ (file_opened tree client _ _ mode all)
carried tree client (Close fd) new all = sweep _ all
carried tree client (Read fd offset len) new all = all
carried tree client (Write fd offset bytes) new all = sweep _ (bytes_written tree client _ _ all)
carried tree client (Truncate fd size) new all = sweep _ (bytes_written tree client _ _ all)
carried tree client (Stat path) new all = all
carried tree client (Readdir path) new all = all
carried tree client (Fsync fd) new all = all

called : (tree : Tree) (client : ClientId) (call : Call) (reply : Reply) (new : Option Ino) → AllWhole tree → AllWhole (after_call tree client call reply new)
called tree client call Done new all = carried tree client call new all
called tree client call (Fd fd) new all = carried tree client call new all
called tree client call (Bytes bytes) new all = carried tree client call new all
called tree client call (Count count) new all = carried tree client call new all
called tree client call (File size) new all = carried tree client call new all
called tree client call Dir new all = carried tree client call new all
called tree client call (Listed names) new all = carried tree client call new all
called tree client call (Refused why) new all = all

entered : (tree : Tree) (entry : Entry) → AllWhole tree → AllWhole (after tree entry)
entered tree (Called client number call reply new) all = called tree client call reply new all
entered tree (Flush client ino) all = sweep _ (with_whole tree ino.0 _ (flushed (node_at tree ino)) all)
entered tree (Purge client) all = sweep (without_client tree client) (λ k. all_restored client tree.nodes k (all k))

same_there : {A : Type 0} (a : A) (n k : ℕ) → get_or (replicate n a) k a ≡ a
same_there a zero k = refl
same_there a (suc n) zero = refl
same_there a (suc n) (suc k) = same_there a n k

first_whole : (k : ℕ) → LastsWhole (get_or first_nodes k None)
unfolding first_nodes
first_whole zero = tt
first_whole (suc k) = subst (λ (node : Option Node). LastsWhole node) (sym (same_there {A = Option Node} None 511 k)) tt

empty_whole : AllWhole empty_tree
unfolding empty_tree
empty_whole = first_whole

all_whole : (history : List Entry) → AllWhole (tree_of history)
all_whole [] = empty_whole
all_whole (entry ∷ earlier) = entered (tree_of earlier) entry (all_whole earlier)

pub history_whole : (history : List Entry) (ino : Ino) → LastsWhole (node_at (tree_of history) ino)
history_whole history ino = all_whole history ino.0

whole_bytes : (node : Option Node) (bytes : List ℕ) → LastsWhole node → Lasts node bytes → kind_of node ≡ Some IsFile → writer_of node ≡ None → contents_of node ≡ bytes
whole_bytes (Some (Directory names)) bytes whole lasts file none = absurd (cc)
whole_bytes (Some (Regular file)) bytes whole lasts is none = sym (whole none) ∙ lasts
whole_bytes None bytes whole lasts file none = absurd (cc)

pub history_bytes : (history : List Entry) (ino : Ino) → IsLegal history → kind_of (node_at (tree_of history) ino) ≡ Some IsFile → writer_of (node_at (tree_of history) ino) ≡ None → contents_of (node_at (tree_of history) ino) ≡ last_flushed history ino
history_bytes history ino legal file none = whole_bytes (node_at (tree_of history) ino) (last_flushed history ino) (history_whole history ino) (history_lasts history ino legal) file none

kept_same : (node : Option Node) → LastsWhole node → writer_of node ≡ None → kept_node node ≡ node
kept_same (Some (Directory names)) whole none = refl
kept_same (Some (Regular file)) whole none = λ i. Some (Regular (record { contents = whole none i; kept = file.kept; writer = sym none i }))
kept_same None whole none = refl

kept_all : (nodes : List (Option Node)) → ((k : ℕ) → LastsWhole (get_or nodes k None)) → ((k : ℕ) → writer_of (get_or nodes k None) ≡ None) → map kept_node nodes ≡ nodes
kept_all [] whole none = refl
kept_all (place ∷ nodes) whole none =
    let here : kept_node place ≡ place = kept_same place (whole zero) (none zero) in
    let rest : map kept_node nodes ≡ nodes = kept_all nodes (λ k. whole (suc k)) (λ k. none (suc k)) in
    λ i. here i ∷ rest i

pub history_kept : (history : List Entry) → ((ino : Ino) → writer_of (node_at (tree_of history) ino) ≡ None) → kept_tree (tree_of history) ≡ tree_of history
history_kept history none =
    ap (λ (nodes : List (Option Node)). record { nodes = nodes; tables = (tree_of history).tables; purged = (tree_of history).purged })
    (kept_all (tree_of history).nodes (all_whole history) (λ k. none (record { 0 = k })))
