-- In a legal history a change leaves what it doesn't touch.
use Rattle.std.proofs.Common.{◌≡◌, ◌≢◌, inl, inr, ℕ, true, List, Option, Some, None, Result, Ok, Err, IfSome, refl, sym, subst}
use Rattle.cal_base.specs.declared.identity.ClientId.{ClientId}
use Rattle.cal_base.specs.declared.identity.Ino.{Ino}
use Rattle.tree_law.specs.Change.{is_change}
use Rattle.tree_law.specs.Tree.{Tree, node_at, empty_file, empty_directory, IsFree}
use Rattle.tree_law.specs.Resolve.{new_place, file_named, removable}
use Rattle.tree_law.specs.Rename.{move_of}
use Rattle.tree_law.specs.After.{carried_out}
use Rattle.tree_law.specs.Answer.{answer, made}
use Rattle.tree_law.specs.Legal.{IsLegal, IsNext, IsNextCall, IsAllowed, IsMade, after, after_call, tree_of}
use Rattle.tree_law.specs.declared.call.Call.{Call}
use Rattle.tree_law.specs.declared.call.Call.TheVariants.{Create, Mkdir, Unlink, Rmdir, Rename, Open, Close, Read, Write, Truncate, Stat, Readdir, Fsync}
use Rattle.tree_law.specs.declared.entry.Entry.{Entry}
use Rattle.tree_law.specs.declared.entry.Entry.TheVariants.{Call as Called}
use Rattle.tree_law.specs.declared.reply.Reply.{Reply}
use Rattle.tree_law.specs.declared.reply.Reply.TheVariants.{Done, Fd, Bytes, Count, File, Dir, Names as Listed, Refused}
use Rattle.tree_law.specs.declared.reply.Why.{Why}
use Rattle.tree_law.proofs.Histories.{IsClean, history_clean}
use Rattle.tree_facts.proofs.EachNode.{IsDone}
use Rattle.tree_facts.proofs.OneName.{OneNamed}
use Rattle.tree_facts.proofs.OneNameKept.{one_named}
use Rattle.tree_touches.specs.Touching.{IsUntouched}
use Rattle.tree_touches.proofs.Changes.{made_stays, unlinked_stays, removed_stays, moved_stays}
use Rattle.tree_touches.proofs.Staying.{swept_stays}

-- the new inode of a call was free
abbrev WasFree : Tree → Option Ino → Type 0
WasFree tree new = IfSome new (IsFree tree)

none_made : (tree : Tree) (new : Option Ino) → new ≡ None → WasFree tree new
none_made tree new none = subst (λ (n : Option Ino). WasFree tree n) (sym none) tt

done_made : (tree : Tree) (new : Option Ino) → IsMade tree Done new → WasFree tree new
done_made tree (Some ino) free = free
done_made tree None free = tt

was_free : (tree : Tree) (reply : Reply) (new : Option Ino) → IsMade tree reply new → WasFree tree new
was_free tree Done new is = done_made tree new is
was_free tree (Fd fd) new is = none_made tree new is
was_free tree (Bytes bytes) new is = none_made tree new is
was_free tree (Count count) new is = none_made tree new is
was_free tree (File size) new is = none_made tree new is
was_free tree Dir new is = none_made tree new is
was_free tree (Listed names) new is = none_made tree new is
was_free tree (Refused why) new is = none_made tree new is

-- a reply that isn't a refusal is the tree's own
own_answer : (tree : Tree) (client : ClientId) (call : Call) (reply : Reply) → IsDone reply → IsAllowed tree client call reply → reply ≡ answer tree client call
own_answer tree client call reply done (inl own) = own
own_answer tree client call Done done (inr want) = absurd want
own_answer tree client call (Fd fd) done (inr want) = absurd want
own_answer tree client call (Bytes bytes) done (inr want) = absurd want
own_answer tree client call (Count count) done (inr want) = absurd want
own_answer tree client call (File size) done (inr want) = absurd want
own_answer tree client call Dir done (inr want) = absurd want
own_answer tree client call (Listed names) done (inr want) = absurd want
own_answer tree client call (Refused why) done (inr want) = absurd done

record IsFound (found : Result Ino Why) : Type 0 where
  ino : Ino
  is : found ≡ Ok ino

made_found : (found : Result Ino Why) (reply : Reply) → IsDone reply → reply ≡ made found → IsFound found
made_found (Ok ino) reply done is = record { ino = ino; is = refl }
made_found (Err why) reply done is = absurd (subst IsDone is done)

carried_stays : (tree : Tree) (client : ClientId) (call : Call) (reply : Reply) (new : Option Ino) (ino : Ino) → IsClean tree → OneNamed tree.nodes → IsDone reply → IsNextCall tree client call reply new → is_change call ≡ true → IsUntouched tree call ino → new ≢ Some ino
    → node_at (carried_out tree client call new) ino ≡ node_at tree ino
carried_stays tree client (Create path) reply new ino clean all done next change misses other =
    swept_stays tree _ ino.0 clean (made_stays tree path (new_place tree path) new empty_file ino.0 refl (was_free tree reply new next.new_inode) misses other)
carried_stays tree client (Mkdir path) reply new ino clean all done next change misses other =
    swept_stays tree _ ino.0 clean (made_stays tree path (new_place tree path) new empty_directory ino.0 refl (was_free tree reply new next.new_inode) misses other)
carried_stays tree client (Unlink path) reply new ino clean all done next change misses other =
    let found = made_found (file_named tree path) reply done (own_answer tree client (Unlink path) reply done next.allowed) in
    swept_stays tree _ ino.0 clean (unlinked_stays tree path found.ino ino.0 found.is misses)
carried_stays tree client (Rmdir path) reply new ino clean all done next change misses other = swept_stays tree _ ino.0 clean (removed_stays tree path (removable tree path) ino.0 refl misses)
carried_stays tree client (Rename path goal) reply new ino clean all done next change misses other = swept_stays tree _ ino.0 clean (moved_stays tree path goal (move_of tree path goal) ino.0 all refl misses)
carried_stays tree client (Open path mode) reply new ino clean all done next change misses other = absurd (cc)
carried_stays tree client (Close fd) reply new ino clean all done next change misses other = absurd (cc)
carried_stays tree client (Read fd offset len) reply new ino clean all done next change misses other = absurd (cc)
carried_stays tree client (Write fd offset bytes) reply new ino clean all done next change misses other = absurd (cc)
carried_stays tree client (Truncate fd size) reply new ino clean all done next change misses other = absurd (cc)
carried_stays tree client (Stat path) reply new ino clean all done next change misses other = absurd (cc)
carried_stays tree client (Readdir path) reply new ino clean all done next change misses other = absurd (cc)
carried_stays tree client (Fsync fd) reply new ino clean all done next change misses other = absurd (cc)

called_stays : (tree : Tree) (client : ClientId) (call : Call) (reply : Reply) (new : Option Ino) (ino : Ino) → IsClean tree → OneNamed tree.nodes → IsNextCall tree client call reply new → is_change call ≡ true → IsUntouched tree call ino → new ≢ Some ino
    → node_at (after_call tree client call reply new) ino ≡ node_at tree ino
called_stays tree client call Done new ino clean all next change misses other = carried_stays tree client call Done new ino clean all tt next change misses other
called_stays tree client call (Fd fd) new ino clean all next change misses other = carried_stays tree client call (Fd fd) new ino clean all tt next change misses other
called_stays tree client call (Bytes bytes) new ino clean all next change misses other = carried_stays tree client call (Bytes bytes) new ino clean all tt next change misses other
called_stays tree client call (Count count) new ino clean all next change misses other = carried_stays tree client call (Count count) new ino clean all tt next change misses other
called_stays tree client call (File size) new ino clean all next change misses other = carried_stays tree client call (File size) new ino clean all tt next change misses other
called_stays tree client call Dir new ino clean all next change misses other = carried_stays tree client call Dir new ino clean all tt next change misses other
called_stays tree client call (Listed names) new ino clean all next change misses other = carried_stays tree client call (Listed names) new ino clean all tt next change misses other
called_stays tree client call (Refused why) new ino clean all next change misses other = refl

pub untouched_stays : (history : List Entry) (client : ClientId) (number : ℕ) (call : Call) (reply : Reply) (new : Option Ino) (ino : Ino)
    → IsLegal history → IsNext (tree_of history) (Called client number call reply new) → is_change call ≡ true → IsUntouched (tree_of history) call ino → new ≢ Some ino
    → node_at (after (tree_of history) (Called client number call reply new)) ino ≡ node_at (tree_of history) ino
untouched_stays history client number call reply new ino legal next change misses other =
    called_stays (tree_of history) client call reply new ino (history_clean history) (one_named history legal) next change misses other
