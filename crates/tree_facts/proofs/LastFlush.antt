-- What lasts of a file of a history is what it held at its last flush.
use Rattle.std.proofs.Common.{◌≡◌, ◌==◌, ℕ, zero, suc, true, false, List, [], ◌∷◌, Option, Some, None, Result, Ok, Err, get_or, set, replicate, refl, sym, subst, eqb-true, if◌then◌else◌}
use Rattle.std.proofs.lemmas.Bool.{eqb-false}
use Rattle.cal_base.specs.declared.identity.ClientId.{ClientId}
use Rattle.cal_base.specs.declared.identity.Ino.{Ino}
use Rattle.tree_law.specs.Tree.{Tree, node_at, contents_of, empty_tree, first_nodes, empty_file, empty_directory}
use Rattle.tree_law.specs.Idle.{swept}
use Rattle.tree_law.specs.After.{put_name, with_entry}
use Rattle.tree_law.specs.Legal.{after, tree_of, IsLegal, IsNewInode}
use Rattle.tree_law.specs.Resolve.{new_place, last_of}
use Rattle.tree_law.specs.declared.call.Call.{Call}
use Rattle.tree_law.specs.declared.call.Call.TheVariants.{Create, Mkdir, Unlink, Rmdir, Rename, Open, Close, Read, Write, Truncate, Stat, Readdir, Fsync}
use Rattle.tree_law.specs.declared.node.Node.{Node}
use Rattle.tree_law.specs.declared.reply.Reply.{Reply}
use Rattle.tree_law.specs.declared.reply.Reply.TheVariants.{Done, Fd, Bytes, Count, File, Dir, Names as Listed, Refused}
use Rattle.tree_law.specs.declared.reply.Why.{Why}
use Rattle.tree_law.specs.declared.entry.Entry.{Entry}
use Rattle.tree_law.specs.declared.entry.Entry.TheVariants.{Call as Called, Flush, Purge}
use Rattle.tree_law.proofs.IdleLemmas.{node_of}
use Rattle.tree_facts.specs.Lasting.{is_made, last_flushed}
use Rattle.tree_facts.proofs.Keeping.{Lasts, still, sweeping, called, flushing, flushing_other, purging}

same_there : {A : Type 0} (a : A) (n k : ℕ) → get_or (replicate n a) k a ≡ a
same_there a zero k = refl
same_there a (suc n) zero = refl
same_there a (suc n) (suc k) = same_there a n k

first_lasts : (k : ℕ) → Lasts (get_or first_nodes k None) []
unfolding first_nodes
first_lasts zero = tt
first_lasts (suc k) = subst (λ (node : Option Node). Lasts node []) (sym (same_there {A = Option Node} None 511 k)) tt

empty_lasts : (ino : Ino) → Lasts (node_at empty_tree ino) []
unfolding empty_tree
empty_lasts ino = first_lasts ino.0

made_there : (nodes : List (Option Node)) (m : ℕ) (node : Node) → Lasts (Some node) [] → Lasts (get_or (set nodes m (Some node)) m None) []
made_there [] m node new = tt
made_there (place ∷ nodes) zero node new = new
made_there (place ∷ nodes) (suc m) node new = made_there nodes m node new

entry_lasts : (tree : Tree) (place : Result Ino Why) (name : List ℕ) (made : Ino) (node : Node) → Lasts (Some node) [] → node_at tree made ≡ None → Lasts (node_of (with_entry tree place name (Some made) node) made.0) []
entry_lasts tree (Ok place) name made node new free = made_there (put_name tree place name made).nodes made.0 node new
entry_lasts tree (Err why) name made node new free = subst (λ (there : Option Node). Lasts there []) (sym free) tt

-- nothing lasts of a file that was just made
made_lasts : (tree : Tree) (place : Result Ino Why) (name : List ℕ) (made : Ino) (node : Node) → Lasts (Some node) [] → node_at tree made ≡ None → Lasts (node_of (swept (with_entry tree place name (Some made) node)) made.0) []
made_lasts tree place name made node new free =
    let longer : Tree = with_entry tree place name (Some made) node in
    still (node_of longer made.0) (node_of (swept longer) made.0) [] (sweeping longer made.0) (entry_lasts tree place name made node new free)

file_made : (tree : Tree) (client : ClientId) (number : ℕ) (path : List (List ℕ)) (reply : Reply) (made : Ino) → IsNewInode tree (Create path) reply (Some made) → Lasts (node_at (after tree (Called client number (Create path) reply (Some made))) made) []
file_made tree client number path Done made free = made_lasts tree (new_place tree path) (last_of path) made empty_file refl free.free
file_made tree client number path (Fd fd) made free = absurd (cc)
file_made tree client number path (Bytes bytes) made free = absurd (cc)
file_made tree client number path (Count count) made free = absurd (cc)
file_made tree client number path (File size) made free = absurd (cc)
file_made tree client number path Dir made free = absurd (cc)
file_made tree client number path (Listed names) made free = absurd (cc)
file_made tree client number path (Refused why) made free = absurd (cc)

directory_made : (tree : Tree) (client : ClientId) (number : ℕ) (path : List (List ℕ)) (reply : Reply) (made : Ino) → IsNewInode tree (Mkdir path) reply (Some made) → Lasts (node_at (after tree (Called client number (Mkdir path) reply (Some made))) made) []
directory_made tree client number path Done made free = made_lasts tree (new_place tree path) (last_of path) made empty_directory tt free.free
directory_made tree client number path (Fd fd) made free = absurd (cc)
directory_made tree client number path (Bytes bytes) made free = absurd (cc)
directory_made tree client number path (Count count) made free = absurd (cc)
directory_made tree client number path (File size) made free = absurd (cc)
directory_made tree client number path Dir made free = absurd (cc)
directory_made tree client number path (Listed names) made free = absurd (cc)
directory_made tree client number path (Refused why) made free = absurd (cc)

fresh : (tree : Tree) (client : ClientId) (number : ℕ) (call : Call) (reply : Reply) (made : Ino) → IsNewInode tree call reply (Some made) → Lasts (node_at (after tree (Called client number call reply (Some made))) made) []
fresh tree client number (Create path) reply made new = file_made tree client number path reply made new
fresh tree client number (Mkdir path) reply made new = directory_made tree client number path reply made new
fresh tree client number (Unlink path) reply made new = absurd (cc)
fresh tree client number (Rmdir path) reply made new = absurd (cc)
fresh tree client number (Rename path goal) reply made new = absurd (cc)
fresh tree client number (Open path mode) reply made new = absurd (cc)
fresh tree client number (Close fd) reply made new = absurd (cc)
fresh tree client number (Read fd offset len) reply made new = absurd (cc)
fresh tree client number (Write fd offset bytes) reply made new = absurd (cc)
fresh tree client number (Truncate fd size) reply made new = absurd (cc)
fresh tree client number (Stat path) reply made new = absurd (cc)
fresh tree client number (Readdir path) reply made new = absurd (cc)
fresh tree client number (Fsync fd) reply made new = absurd (cc)

call_lasts : (tree : Tree) (client : ClientId) (number : ℕ) (call : Call) (reply : Reply) (new : Option Ino) (ino : Ino) (bytes : List ℕ) → IsNewInode tree call reply new → Lasts (node_at tree ino) bytes
    → Lasts (node_at (after tree (Called client number call reply new)) ino) (if is_made new ino then [] else bytes)
call_lasts tree client number call reply None ino bytes new lasts = still _ _ bytes (called tree client number call reply None ino (λ e. absurd (cc))) lasts
call_lasts tree client number call reply (Some made) ino bytes new lasts =
    elim (made.0 == ino.0) as (λ b. (made.0 == ino.0) ≡ b → Lasts (node_at (after tree (Called client number call reply (Some made))) ino) (if b then [] else bytes)) [
      | true ↦ λ e. subst (λ (n : ℕ). Lasts (node_at (after tree (Called client number call reply (Some made))) (record { 0 = n })) []) (eqb-true made.0 ino.0 e) (fresh tree client number call reply made new)
      | false ↦ λ e. still _ _ bytes (called tree client number call reply (Some made) ino (λ same. absurd (eqb-false made.0 ino.0 e (cc)))) lasts
    ] refl

flush_lasts : (tree : Tree) (client : ClientId) (file ino : Ino) (bytes : List ℕ) → Lasts (node_at tree ino) bytes
    → Lasts (node_at (after tree (Flush client file)) ino) (if file.0 == ino.0 then contents_of (node_at tree ino) else bytes)
flush_lasts tree client file ino bytes lasts =
    elim (file.0 == ino.0) as (λ b. (file.0 == ino.0) ≡ b → Lasts (node_at (after tree (Flush client file)) ino) (if b then contents_of (node_at tree ino) else bytes)) [
      | true ↦ λ e. subst (λ (n : ℕ). Lasts (node_at (after tree (Flush client file)) (record { 0 = n })) (contents_of (node_at tree (record { 0 = n })))) (eqb-true file.0 ino.0 e) (flushing tree client file)
      | false ↦ λ e. still _ _ bytes (flushing_other tree client file ino (λ same. absurd (eqb-false file.0 ino.0 e (sym same)))) lasts
    ] refl

pub history_lasts : (history : List Entry) (ino : Ino) → IsLegal history → Lasts (node_at (tree_of history) ino) (last_flushed history ino)
history_lasts [] ino legal = empty_lasts ino
history_lasts (Called client number call reply new ∷ earlier) ino legal = call_lasts (tree_of earlier) client number call reply new ino (last_flushed earlier ino) legal.0.new_inode (history_lasts earlier ino legal.1)
history_lasts (Flush client file ∷ earlier) ino legal = flush_lasts (tree_of earlier) client file ino (last_flushed earlier ino) (history_lasts earlier ino legal.1)
history_lasts (Purge client ∷ earlier) ino legal = still _ _ (last_flushed earlier ino) (purging (tree_of earlier) client ino) (history_lasts earlier ino legal.1)
