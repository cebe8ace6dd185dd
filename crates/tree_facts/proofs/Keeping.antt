-- What lasts of a file is as before, but for a flush.
use Rattle.std.proofs.Common.{◌≡◌, ◌≢◌, inl, inr, ℕ, zero, suc, true, false, List, [], ◌∷◌, map, Option, Some, None, IfSome, Result, Ok, Err, get_or, set, refl, sym, ap, ◌∙◌, subst, if◌then◌else◌}
use Rattle.std.proofs.lemmas.Bool.{cases_lt}
use Rattle.cal_base.specs.declared.identity.ClientId.{ClientId}
use Rattle.cal_base.specs.declared.identity.Ino.{Ino}
use Rattle.tree_law.specs.FileState.{is_writer, kept_file}
use Rattle.tree_law.specs.Tree.{Tree, node_at, contents_of}
use Rattle.tree_law.specs.Rename.{is_directory}
use Rattle.tree_law.specs.Idle.{is_idle, with_node, swept}
use Rattle.tree_law.specs.After.{with_name, without_name, put_name, take_name, with_entry, without_entry, without_directory, without_replaced, with_move, with_open, changed_node, with_bytes, flushed_node, restored_node, without_client, carried_out}
use Rattle.tree_law.specs.Legal.{after}
use Rattle.tree_law.specs.declared.call.Call.{Call}
use Rattle.tree_law.specs.declared.call.Call.TheVariants.{Create, Mkdir, Unlink, Rmdir, Rename, Open, Close, Read, Write, Truncate, Stat, Readdir, Fsync}
use Rattle.tree_law.specs.declared.mode.Mode.{Mode}
use Rattle.tree_law.specs.declared.node.Node.{Node}
use Rattle.tree_law.specs.declared.node.Node.TheVariants.{Directory, Regular}
use Rattle.tree_law.specs.declared.rename.Move.{Move}
use Rattle.tree_law.specs.declared.reply.Reply.{Reply}
use Rattle.tree_law.specs.declared.reply.Reply.TheVariants.{Done, Fd, Bytes, Count, File, Dir, Names as Listed, Refused}
use Rattle.tree_law.specs.declared.reply.Why.{Why}
use Rattle.tree_law.specs.declared.entry.Entry.TheVariants.{Call as Called, Flush, Purge}
use Rattle.tree_law.proofs.IdleLemmas.{node_of, swept_node, swept_node_above}
use Rattle.tree_facts.specs.Lasting.{kept_of, LastsAsBefore}

pub as_before : (node : Option Node) → LastsAsBefore node node
as_before (Some (Directory names)) = tt
as_before (Some (Regular file)) = refl
as_before None = tt

then_kept : (place : Option (List ℕ)) (middle later : Option (List ℕ)) → IfSome middle (λ kept. place ≡ Some kept) → IfSome later (λ kept. middle ≡ Some kept) → IfSome later (λ kept. place ≡ Some kept)
then_kept place middle None first second = tt
then_kept place (Some bytes) (Some kept) first second = first ∙ second
then_kept place None (Some kept) first second = absurd (cc)

and_then : (before middle later : Option Node) → LastsAsBefore before middle → LastsAsBefore middle later → LastsAsBefore before later
and_then before middle later first second = then_kept (kept_of before) (kept_of middle) (kept_of later) first second

-- a tree leaves what lasts of the file of a number in another
abbrev pub Leaves : Tree → Tree → ℕ → Type 0
Leaves tree later k = LastsAsBefore (node_of tree k) (node_of later k)

pub sweeping : (tree : Tree) (k : ℕ) → Leaves tree (swept tree) k
sweeping tree k = elim (cases_lt k 512) [
  | inl below ↦ subst (λ (node : Option Node). LastsAsBefore (node_of tree k) node) (sym (swept_node tree 512 k below))
      (elim (is_idle tree k) as (λ b. LastsAsBefore (node_of tree k) (if b then None else node_of tree k)) [ true ↦ tt | false ↦ as_before (node_of tree k) ])
  | inr above ↦ subst (λ (node : Option Node). LastsAsBefore (node_of tree k) node) (sym (swept_node_above tree 512 k above)) (as_before (node_of tree k))
]

then_swept : (tree later : Tree) (k : ℕ) → Leaves tree later k → Leaves tree (swept later) k
then_swept tree later k first = and_then (node_of tree k) (node_of later k) (node_of (swept later) k) first (sweeping later k)

-- another node at a number, of which the same lasts
putting : (nodes : List (Option Node)) (m k : ℕ) (next : Option Node) → LastsAsBefore (get_or nodes m None) next → LastsAsBefore (get_or nodes k None) (get_or (set nodes m next) k None)
putting [] m k next same = tt
putting (place ∷ nodes) zero zero next same = same
putting (place ∷ nodes) zero (suc k) next same = as_before (get_or nodes k None)
putting (place ∷ nodes) (suc m) zero next same = as_before place
putting (place ∷ nodes) (suc m) (suc k) next same = putting nodes m k next same

putting_elsewhere : (nodes : List (Option Node)) (m k : ℕ) (next : Option Node) → k ≢ m → LastsAsBefore (get_or nodes k None) (get_or (set nodes m next) k None)
putting_elsewhere [] m k next apart = tt
putting_elsewhere (place ∷ nodes) zero zero next apart = absurd (apart refl)
putting_elsewhere (place ∷ nodes) zero (suc k) next apart = as_before (get_or nodes k None)
putting_elsewhere (place ∷ nodes) (suc m) zero next apart = as_before place
putting_elsewhere (place ∷ nodes) (suc m) (suc k) next apart = putting_elsewhere nodes m k next (λ e. apart (ap suc e))

name_put : (node : Option Node) (name : List ℕ) (ino : Ino) → LastsAsBefore node (with_name node name ino)
name_put (Some (Directory names)) name ino = tt
name_put (Some (Regular file)) name ino = refl
name_put None name ino = tt

name_taken : (node : Option Node) (name : List ℕ) → LastsAsBefore node (without_name node name)
name_taken (Some (Directory names)) name = tt
name_taken (Some (Regular file)) name = refl
name_taken None name = tt

bytes_changed : (client : ClientId) (change : List ℕ → List ℕ) (node : Option Node) → LastsAsBefore node (changed_node client change node)
bytes_changed client change (Some (Directory names)) = tt
bytes_changed client change (Some (Regular file)) = refl
bytes_changed client change None = tt

put : (tree : Tree) (place : Ino) (name : List ℕ) (ino : Ino) (k : ℕ) → Leaves tree (put_name tree place name ino) k
put tree place name ino k = putting tree.nodes place.0 k _ (name_put (node_at tree place) name ino)

taken : (tree : Tree) (place : Ino) (name : List ℕ) (k : ℕ) → Leaves tree (take_name tree place name) k
taken tree place name k = putting tree.nodes place.0 k _ (name_taken (node_at tree place) name)

gone : (tree : Tree) (m k : ℕ) → Leaves tree (with_node tree m None) k
gone tree m k = putting tree.nodes m k None tt

entry_made : (tree : Tree) (place : Result Ino Why) (name : List ℕ) (new : Option Ino) (node : Node) (ino : Ino) → new ≢ Some ino → Leaves tree (with_entry tree place name new node) ino.0
entry_made tree (Ok place) name (Some made) node ino other =
    and_then _ _ _ (put tree place name made ino.0)
    (putting_elsewhere (put_name tree place name made).nodes made.0 ino.0 (Some node) (λ e. other (ap (λ (n : ℕ). Some (record { 0 = n })) (sym e))))
entry_made tree (Ok place) name None node ino other = as_before (node_at tree ino)
entry_made tree (Err why) name new node ino other = as_before (node_at tree ino)

entry_gone : (tree : Tree) (place : Result Ino Why) (path : List (List ℕ)) (k : ℕ) → Leaves tree (without_entry tree place path) k
entry_gone tree (Ok place) [] k = as_before (node_of tree k)
entry_gone tree (Ok place) (name ∷ names) k = taken tree place _ k
entry_gone tree (Err why) path k = as_before (node_of tree k)

directory_gone : (tree : Tree) (ino place : Result Ino Why) (path : List (List ℕ)) (k : ℕ) → Leaves tree (without_directory tree ino place path) k
directory_gone tree (Ok ino) place path k = and_then _ _ _ (entry_gone tree place path k) (gone (without_entry tree place path) ino.0 k)
directory_gone tree (Err why) place path k = as_before (node_of tree k)

replaced_gone : (tree : Tree) (replaced : Option Ino) (k : ℕ) → Leaves tree (without_replaced tree replaced) k
replaced_gone tree None k = as_before (node_of tree k)
replaced_gone tree (Some ino) k = elim (is_directory (node_at tree ino)) as (λ b. Leaves tree (if b then with_node tree ino.0 None else tree) k) [
  | true ↦ gone tree ino.0 k
  | false ↦ as_before (node_of tree k)
]

entry_moved : (tree : Tree) (move : Result Move Why) (name goal : List ℕ) (k : ℕ) → Leaves tree (with_move tree move name goal) k
entry_moved tree (Ok move) name goal k =
    let there : Tree = put_name tree move.to goal move.ino in
    let less : Tree = take_name there move.from name in
    elim move.is_same as (λ b. Leaves tree (if b then tree else without_replaced less move.replaced) k) [
      | true ↦ as_before (node_of tree k)
      | false ↦ and_then _ _ _ (put tree move.to goal move.ino k) (and_then _ _ _ (taken there move.from name k) (replaced_gone less move.replaced k))
    ]
entry_moved tree (Err why) name goal k = as_before (node_of tree k)

file_opened : (tree : Tree) (client : ClientId) (fd : Option ℕ) (file : Result Ino Why) (mode : Mode) (k : ℕ) → Leaves tree (with_open tree client fd file mode) k
file_opened tree client (Some fd) (Ok ino) mode k = as_before (node_of tree k)
file_opened tree client (Some fd) (Err why) mode k = as_before (node_of tree k)
file_opened tree client None file mode k = as_before (node_of tree k)

bytes_written : (tree : Tree) (client : ClientId) (change : List ℕ → List ℕ) (file : Result Ino Why) (k : ℕ) → Leaves tree (with_bytes tree client change file) k
bytes_written tree client change (Ok ino) k = putting tree.nodes ino.0 k _ (bytes_changed client change (node_at tree ino))
bytes_written tree client change (Err why) k = as_before (node_of tree k)

carried : (tree : Tree) (client : ClientId) (call : Call) (new : Option Ino) (ino : Ino) → new ≢ Some ino → Leaves tree (carried_out tree client call new) ino.0
carried tree client (Create path) new ino other = then_swept tree _ ino.0 (entry_made tree _ _ new _ ino other)
carried tree client (Mkdir path) new ino other = then_swept tree _ ino.0 (entry_made tree _ _ new _ ino other)
carried tree client (Unlink path) new ino other = then_swept tree _ ino.0 (entry_gone tree _ path ino.0)
carried tree client (Rmdir path) new ino other = then_swept tree _ ino.0 (directory_gone tree _ _ path ino.0)
carried tree client (Rename path goal) new ino other = then_swept tree _ ino.0 (entry_moved tree _ _ _ ino.0)
carried tree client (Open path mode) new ino other = then_swept tree _ ino.0 (file_opened tree client _ _ mode ino.0)
carried tree client (Close fd) new ino other = sweeping _ ino.0
carried tree client (Read fd offset len) new ino other = as_before (node_at tree ino)
carried tree client (Write fd offset bytes) new ino other = then_swept tree _ ino.0 (bytes_written tree client _ _ ino.0)
carried tree client (Truncate fd size) new ino other = then_swept tree _ ino.0 (bytes_written tree client _ _ ino.0)
carried tree client (Stat path) new ino other = as_before (node_at tree ino)
carried tree client (Readdir path) new ino other = as_before (node_at tree ino)
carried tree client (Fsync fd) new ino other = as_before (node_at tree ino)

-- a call leaves what lasts of each file but the one that it makes
pub called : (tree : Tree) (client : ClientId) (number : ℕ) (call : Call) (reply : Reply) (new : Option Ino) (ino : Ino) → new ≢ Some ino → LastsAsBefore (node_at tree ino) (node_at (after tree (Called client number call reply new)) ino)
called tree client number call Done new ino other = carried tree client call new ino other
called tree client number call (Fd fd) new ino other = carried tree client call new ino other
called tree client number call (Bytes bytes) new ino other = carried tree client call new ino other
called tree client number call (Count count) new ino other = carried tree client call new ino other
called tree client number call (File size) new ino other = carried tree client call new ino other
called tree client number call Dir new ino other = carried tree client call new ino other
called tree client number call (Listed names) new ino other = carried tree client call new ino other
called tree client number call (Refused why) new ino other = as_before (node_at tree ino)

-- these bytes last of a node, where it is a file
abbrev pub Lasts : Option Node → List ℕ → Type 0
Lasts node bytes = IfSome (kept_of node) (λ kept. kept ≡ bytes)

carried_over : (before later : Option (List ℕ)) (bytes : List ℕ) → IfSome later (λ kept. before ≡ Some kept) → IfSome before (λ kept. kept ≡ bytes) → IfSome later (λ kept. kept ≡ bytes)
carried_over before None bytes same lasts = tt
carried_over (Some old) (Some kept) bytes same lasts = absurd_or same lasts where
  absurd_or : Some old ≡ Some kept → old ≡ bytes → kept ≡ bytes
  absurd_or same lasts = cc
carried_over None (Some kept) bytes same lasts = absurd (cc)

pub still : (before later : Option Node) (bytes : List ℕ) → LastsAsBefore before later → Lasts before bytes → Lasts later bytes
still before later bytes same lasts = carried_over (kept_of before) (kept_of later) bytes same lasts

flushed_bytes : (node : Option Node) → Lasts (flushed_node node) (contents_of node)
flushed_bytes (Some (Directory names)) = tt
flushed_bytes (Some (Regular file)) = refl
flushed_bytes None = tt

flushed_here : (nodes : List (Option Node)) (m : ℕ) → Lasts (get_or (set nodes m (flushed_node (get_or nodes m None))) m None) (contents_of (get_or nodes m None))
flushed_here [] m = tt
flushed_here (place ∷ nodes) zero = flushed_bytes place
flushed_here (place ∷ nodes) (suc m) = flushed_here nodes m

-- a flush makes the present bytes last
pub flushing : (tree : Tree) (client : ClientId) (ino : Ino) → Lasts (node_at (after tree (Flush client ino)) ino) (contents_of (node_at tree ino))
flushing tree client ino =
    let less : Tree = with_node tree ino.0 (flushed_node (node_at tree ino)) in
    still (node_of less ino.0) (node_of (swept less) ino.0) (contents_of (node_at tree ino)) (sweeping less ino.0) (flushed_here tree.nodes ino.0)

pub flushing_other : (tree : Tree) (client : ClientId) (file ino : Ino) → ino.0 ≢ file.0 → LastsAsBefore (node_at tree ino) (node_at (after tree (Flush client file)) ino)
flushing_other tree client file ino apart = then_swept tree (with_node tree file.0 (flushed_node (node_at tree file))) ino.0 (putting_elsewhere tree.nodes file.0 ino.0 _ apart)

restoring : (client : ClientId) (node : Option Node) → LastsAsBefore node (restored_node client node)
restoring client (Some (Directory names)) = tt
restoring client (Some (Regular file)) = elim (is_writer file.writer client) as (λ b. Some file.kept ≡ Some ((if b then kept_file file else file).kept)) [ true ↦ refl | false ↦ refl ]
restoring client None = tt

restoring_all : (client : ClientId) (nodes : List (Option Node)) (k : ℕ) → LastsAsBefore (get_or nodes k None) (get_or (map (restored_node client) nodes) k None)
restoring_all client [] k = tt
restoring_all client (place ∷ nodes) zero = restoring client place
restoring_all client (place ∷ nodes) (suc k) = restoring_all client nodes k

-- a purge leaves what lasts of all files
pub purging : (tree : Tree) (client : ClientId) (ino : Ino) → LastsAsBefore (node_at tree ino) (node_at (after tree (Purge client)) ino)
purging tree client ino = then_swept tree (without_client tree client) ino.0 (restoring_all client tree.nodes ino.0)
