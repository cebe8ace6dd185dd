-- No entry leaves an idle file.
use Rattle.std.proofs.Common.{◌≡◌, ◌<◌, ◌&&◌, ℕ, zero, suc, Bool, false, not, List, [], ◌∷◌, Option, None, get_or, replicate, refl, ap}
use Rattle.cal_base.specs.declared.identity.ClientId.{ClientId}
use Rattle.cal_base.specs.declared.identity.Ino.{Ino}
use Rattle.tree_law.specs.Tree.{Tree, empty_tree, first_nodes}
use Rattle.tree_law.specs.Idle.{is_idle, is_open, is_named, is_flushed_file}
use Rattle.tree_law.specs.Legal.{after, after_call, tree_of}
use Rattle.tree_law.specs.After.{carried_out}
use Rattle.tree_law.specs.declared.node.Node.{Node}
use Rattle.tree_law.specs.declared.call.Call.{Call}
use Rattle.tree_law.specs.declared.call.Call.TheVariants.{Create, Mkdir, Unlink, Rmdir, Rename, Open, Close, Read, Write, Truncate, Stat, Readdir, Fsync}
use Rattle.tree_law.specs.declared.reply.Reply.{Reply}
use Rattle.tree_law.specs.declared.reply.Reply.TheVariants.{Done, Fd, Bytes, Count, File, Dir, Names as Listed, Refused}
use Rattle.tree_law.specs.declared.entry.Entry.{Entry}
use Rattle.tree_law.specs.declared.entry.Entry.TheVariants.{Call as Called, Flush, Purge}
use Rattle.tree_law.proofs.IdleLemmas.{swept_clean}

abbrev pub IsClean : Tree → Type 0
IsClean tree = (number : ℕ) → number < 512 → is_idle tree number ≡ false

carried_clean : (tree : Tree) (client : ClientId) (call : Call) (new : Option Ino) → IsClean tree → IsClean (carried_out tree client call new)
carried_clean tree client (Create path) new clean = swept_clean _ 512
carried_clean tree client (Mkdir path) new clean = swept_clean _ 512
carried_clean tree client (Unlink path) new clean = swept_clean _ 512
carried_clean tree client (Rmdir path) new clean = swept_clean _ 512
carried_clean tree client (Rename path goal) new clean = swept_clean _ 512
carried_clean tree client (Open path mode) new clean = swept_clean _ 512
carried_clean tree client (Close fd) new clean = swept_clean _ 512
carried_clean tree client (Read fd offset len) new clean = clean
carried_clean tree client (Write fd offset bytes) new clean = swept_clean _ 512
carried_clean tree client (Truncate fd size) new clean = swept_clean _ 512
carried_clean tree client (Stat path) new clean = clean
carried_clean tree client (Readdir path) new clean = clean
carried_clean tree client (Fsync fd) new clean = clean

call_clean : (tree : Tree) (client : ClientId) (call : Call) (reply : Reply) (new : Option Ino) → IsClean tree → IsClean (after_call tree client call reply new)
call_clean tree client call Done new clean = carried_clean tree client call new clean
call_clean tree client call (Fd fd) new clean = carried_clean tree client call new clean
call_clean tree client call (Bytes bytes) new clean = carried_clean tree client call new clean
call_clean tree client call (Count count) new clean = carried_clean tree client call new clean
call_clean tree client call (File size) new clean = carried_clean tree client call new clean
call_clean tree client call Dir new clean = carried_clean tree client call new clean
call_clean tree client call (Listed names) new clean = carried_clean tree client call new clean
call_clean tree client call (Refused why) new clean = clean

entry_clean : (tree : Tree) (entry : Entry) → IsClean tree → IsClean (after tree entry)
entry_clean tree (Called client number call reply new) clean = call_clean tree client call reply new clean
entry_clean tree (Flush client ino) clean = swept_clean _ 512
entry_clean tree (Purge client) clean = swept_clean _ 512

same_there : {A : Type 0} (a : A) (n k : ℕ) → get_or (replicate n a) k a ≡ a
same_there a zero k = refl
same_there a (suc n) zero = refl
same_there a (suc n) (suc k) = same_there a n k

first_is_no_file : (k : ℕ) → is_flushed_file (get_or first_nodes k None) ≡ false
unfolding first_nodes
first_is_no_file zero = refl
first_is_no_file (suc k) = ap is_flushed_file (same_there {A = Option Node} None 511 k)

empty_clean : IsClean empty_tree
unfolding empty_tree
empty_clean = λ k below. ap (λ (b : Bool). b && not (is_open empty_tree k) && not (is_named empty_tree k)) (first_is_no_file k)

-- no file of the tree of a history is idle
pub history_clean : (history : List Entry) → IsClean (tree_of history)
history_clean [] = empty_clean
history_clean (entry ∷ earlier) = entry_clean (tree_of earlier) entry (history_clean earlier)
