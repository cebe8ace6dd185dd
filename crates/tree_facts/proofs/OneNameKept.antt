-- Each entry of a legal history leaves no inode with two names.
use Rattle.std.proofs.Common.{◌≡◌, ◌≢◌, ◌<◌, ◌⊎◌, inl, inr, arith, ℕ, zero, suc, true, false, List, [], ◌∷◌, length, Option, Some, None, Result, Ok, Err, IfSome, IsSomeAnd, ok_or, get_or, set, replicate, refl, sym, ap, ◌∙◌, subst, if◌then◌else◌}
use Rattle.std.proofs.lemmas.List.{length-set, length-map, length-replicate}
use Rattle.std.specs.FinMap as finite
use Rattle.cal_base.specs.declared.identity.ClientId.{ClientId}
use Rattle.cal_base.specs.declared.identity.Ino.{Ino}
use Rattle.tree_law.specs.Tree.{Tree, node_at, empty_tree, first_nodes, empty_file, empty_directory, IsFree}
use Rattle.tree_law.specs.PartOf.{kind_of}
use Rattle.tree_law.specs.Resolve.{new_place, parent_of, last_of, resolved, removable}
use Rattle.tree_law.specs.Rename.{is_directory, move_of}
use Rattle.tree_law.specs.Idle.{with_node}
use Rattle.tree_law.specs.After.{put_name, take_name, with_entry, without_entry, without_directory, without_replaced, with_move, with_open, with_bytes, flushed_node, restored_node, without_client, carried_out}
use Rattle.tree_law.specs.Legal.{after_call, tree_of, IsLegal, IsMade, IsNewInode}
use Rattle.tree_law.specs.declared.call.Call.{Call}
use Rattle.tree_law.specs.declared.call.Call.TheVariants.{Create, Mkdir, Unlink, Rmdir, Rename, Open, Close, Read, Write, Truncate, Stat, Readdir, Fsync}
use Rattle.tree_law.specs.declared.entry.Entry.{Entry}
use Rattle.tree_law.specs.declared.entry.Entry.TheVariants.{Call as Called, Flush, Purge}
use Rattle.tree_law.specs.declared.mode.Mode.{Mode}
use Rattle.tree_law.specs.declared.node.Node.{Node}
use Rattle.tree_law.specs.declared.node.Node.TheVariants.{Directory, Regular}
use Rattle.tree_law.specs.declared.rename.Move.{Move}
use Rattle.tree_law.specs.declared.reply.Reply.{Reply}
use Rattle.tree_law.specs.declared.reply.Reply.TheVariants.{Done, Fd, Bytes, Count, File, Dir, Names as Listed, Refused}
use Rattle.tree_law.specs.declared.reply.Why.{Why}
use Rattle.tree_law.specs.declared.reply.Why.TheVariants.{NoEnt}
use Rattle.tree_law.proofs.IdleLemmas.{node_of}
use Rattle.tree_facts.specs.OneName.{StandsFor, IsTaken, IsSameName}
use Rattle.tree_facts.proofs.Entries.{NamesIt, order, put_leaves, take_leaves}
use Rattle.tree_facts.proofs.NameChanges.{IsThere, HasNoNames, IsPutAt, IsOlderAt, names_put, names_taken, names_set, there_set, changed_alike, flushed_alike, set_alike, all_alike}
use Rattle.tree_facts.proofs.Moves.{moves_by, replaced_stood}
use Rattle.tree_facts.proofs.Paths.{has_parent, judged_empty}
use Rattle.tree_facts.proofs.OneName.{OneNamed, PutFor, IsNameless, taken, emptied, sweep, put_one, same_names}

-- ---- `create`, `mkdir`: an entry for a free number

older_or_put : (nodes : List (Option Node)) (m k : ℕ) (put name : List ℕ) (new ino : Ino) → IsPutAt m k put name new ino ⊎ IsOlderAt nodes m k put name ino → IsPutAt m k put name new ino ⊎ NamesIt (get_or nodes k None) name ino
older_or_put nodes m k put name new ino (inl is) = inl is
older_or_put nodes m k put name new ino (inr older) = inr older.1

not_older : (nodes : List (Option Node)) (m k : ℕ) (put name : List ℕ) (new : Ino) → (NamesIt (get_or nodes k None) name new → ⊥) → IsPutAt m k put name new new ⊎ IsOlderAt nodes m k put name new → IsPutAt m k put name new new
not_older nodes m k put name new none (inl is) = is
not_older nodes m k put name new none (inr older) = absurd (none older.1)

set_there : (nodes : List (Option Node)) (m : ℕ) (node : Node) → m < length nodes → IsThere (get_or (set nodes m (Some node)) m None)
set_there [] m node below = absurd (omega arith)
set_there (place ∷ nodes) zero (Directory names) below = λ e. absurd (cc)
set_there (place ∷ nodes) zero (Regular file) below = λ e. absurd (cc)
set_there (place ∷ nodes) (suc m) node below = set_there nodes m node (omega arith)

entry_put : (tree : Tree) (place : Ino) (name : List ℕ) (new : Ino) (node : Node) → HasNoNames (Some node) → IsFree tree new → OneNamed tree.nodes → PutFor tree.nodes (with_node (put_name tree place name new) new.0 (Some node)).nodes place.0 name new
entry_put tree place name new node none free all =
    let there : Tree = put_name tree place name new in
    record {
      count = length-set there.nodes new.0 (Some node) ∙ length-set tree.nodes place.0 _;
      known = λ k goal ino is. older_or_put tree.nodes place.0 k name goal new ino (names_put tree.nodes place.0 k name goal new ino (names_set there.nodes new.0 k (Some node) goal ino none is).1);
      kept = λ k is. there_set there.nodes new.0 k (Some node) (λ same. is (ap (λ (n : ℕ). kind_of (node_of tree n)) (sym same) ∙ ap kind_of free.free))
          (λ no. is (sym (put_leaves tree.nodes place.0 k name new).1 ∙ no));
      number = record { from_one = free.from_one; to_511 = free.to_511 };
      new_there = set_there there.nodes new.0 node (let count : length there.nodes ≡ 512 = length-set tree.nodes place.0 _ ∙ all.count in omega (arith, count, free.to_511));
      nameless = λ k goal is. not_older tree.nodes place.0 k name goal new (λ old. all.there k goal new old (ap kind_of free.free))
          (names_put tree.nodes place.0 k name goal new new (names_set there.nodes new.0 k (Some node) goal new none is).1);
    }

entry_made : (tree : Tree) (place : Result Ino Why) (name : List ℕ) (new : Option Ino) (node : Node) → HasNoNames (Some node) → IfSome new (IsFree tree) → OneNamed tree.nodes → OneNamed (with_entry tree place name new node).nodes
entry_made tree (Ok place) name (Some ino) node none free all =
    put_one tree.nodes (with_node (put_name tree place name ino) ino.0 (Some node)).nodes place.0 name ino (entry_put tree place name ino node none free all) all
entry_made tree (Ok place) name None node none free all = all
entry_made tree (Err why) name new node none free all = all

file_nameless : HasNoNames (Some empty_file)
file_nameless name ino is = absurd (cc)

directory_nameless : HasNoNames (Some empty_directory)
directory_nameless name ino is = let no : Err NoEnt ≡ Ok ino = sym (ap (λ (found : Option Ino). ok_or found NoEnt) (finite.get-empty order name)) ∙ is in absurd (cc)

-- ---- `unlink`, `rmdir`: a name goes, and what it stood for may go

entry_gone : (tree : Tree) (place : Result Ino Why) (path : List (List ℕ)) → OneNamed tree.nodes → OneNamed (without_entry tree place path).nodes
entry_gone tree (Ok place) [] all = all
entry_gone tree (Ok place) (name ∷ names) all = taken tree place (last_of (name ∷ names)) all
entry_gone tree (Err why) path all = all

-- what a name stood for has none when that is taken
pub nameless_taken : (tree : Tree) (place ino : Ino) (name : List ℕ) → OneNamed tree.nodes → NamesIt (node_at tree place) name ino → IsNameless (take_name tree place name).nodes ino.0
nameless_taken tree place ino name all named k goal other is same =
    let older = names_taken tree.nodes place.0 k name goal other is in
    let one = all.one place.0 k name goal ino named (subst (λ (i : Ino). NamesIt (node_of tree k) goal i) (ap (λ (n : ℕ). record { 0 = n }) (sym same)) older.1) in
    older.0 one.0 one.1

directory_gone : (tree : Tree) (place ino : Ino) (name : List ℕ) → NamesIt (node_at tree place) name ino → OneNamed tree.nodes → OneNamed (with_node (take_name tree place name) ino.0 None).nodes
directory_gone tree place ino name named all = emptied (take_name tree place name).nodes ino.0 (nameless_taken tree place ino name all named) (taken tree place name all)

-- ---- `rename`: a name comes, one goes, and a directory that is replaced goes

-- a name after a move is the new one, or an older one that is neither the former nor the goal
pub record MovedName (tree : Tree) (from to ino : Ino) (name goal : List ℕ) (k : ℕ) (step : List ℕ) (next : Ino) : Type 0 where
  pub not_former : from.0 ≡ k → name ≢ step
  pub known : IsPutAt to.0 k goal step ino next ⊎ IsOlderAt tree.nodes to.0 k goal step next

pub names_moved : (tree : Tree) (from to ino : Ino) (name goal : List ℕ) (k : ℕ) (step : List ℕ) (next : Ino) → NamesIt (node_of (take_name (put_name tree to goal ino) from name) k) step next → MovedName tree from to ino name goal k step next
names_moved tree from to ino name goal k step next is =
    let less = names_taken (put_name tree to goal ino).nodes from.0 k name step next is in
    record { not_former = less.0; known = names_put tree.nodes to.0 k goal step ino next less.1 }

moved_here : (tree : Tree) (from to ino : Ino) (name goal : List ℕ) (k : ℕ) (step : List ℕ) → OneNamed tree.nodes → NamesIt (node_at tree from) name ino → MovedName tree from to ino name goal k step ino → IsPutAt to.0 k goal step ino ino
moved_here tree from to ino name goal k step all named m =
    not_older tree.nodes to.0 k goal step ino (λ old. (let one = all.one from.0 k name step ino named old in m.not_former one.0 one.1)) m.known

entry_moved : (tree : Tree) (from to ino : Ino) (name goal : List ℕ) → OneNamed tree.nodes → NamesIt (node_at tree from) name ino → PutFor tree.nodes (take_name (put_name tree to goal ino) from name).nodes to.0 goal ino
entry_moved tree from to ino name goal all named =
    let there : Tree = put_name tree to goal ino in
    let kept : (k : ℕ) → IsThere (node_of tree k) → IsThere (node_of (take_name there from name) k) =
    λ k is no. is (sym (put_leaves tree.nodes to.0 k goal ino).1 ∙ sym (take_leaves there.nodes from.0 k name).1 ∙ no) in
    record {
      count = length-set there.nodes from.0 _ ∙ length-set tree.nodes to.0 _;
      known = λ k step next is. older_or_put tree.nodes to.0 k goal step ino next (names_moved tree from to ino name goal k step next is).known;
      kept = kept;
      number = all.number from.0 name ino named;
      new_there = kept ino.0 (all.there from.0 name ino named);
      nameless = λ k step is. moved_here tree from to ino name goal k step all named (names_moved tree from to ino name goal k step ino is);
    }

not_named : (tree : Tree) (from to ino : Ino) (name goal : List ℕ) (k : ℕ) (step : List ℕ) (next : Ino) → OneNamed tree.nodes → NamesIt (node_at tree from) name ino → NamesIt (node_at tree to) goal next
    → (from.0 ≡ k → name ≢ step) → IsPutAt to.0 k goal step ino next ⊎ IsOlderAt tree.nodes to.0 k goal step next → ⊥
not_named tree from to ino name goal k step next all named stood apart (inl put) =
    let one = all.one from.0 to.0 name goal ino named (subst (λ (i : Ino). NamesIt (node_at tree to) goal i) (sym put.1.1) stood) in
    apart (one.0 ∙ put.0) (one.1 ∙ put.1.0)
not_named tree from to ino name goal k step next all named stood apart (inr older) =
    let one = all.one to.0 k goal step next stood older.1 in
    older.0 one.0 one.1

-- what the goal stood for has no name then
pub nameless_moved : (tree : Tree) (from to ino target : Ino) (name goal : List ℕ) → OneNamed tree.nodes → NamesIt (node_at tree from) name ino → NamesIt (node_at tree to) goal target → IsNameless (take_name (put_name tree to goal ino) from name).nodes target.0
nameless_moved tree from to ino target name goal all named stood k step next is same =
    let m = names_moved tree from to ino name goal k step next is in
    let to_next : NamesIt (node_at tree to) goal next = subst (λ (n : ℕ). NamesIt (node_at tree to) goal (record { 0 = n })) same stood in
    not_named tree from to ino name goal k step next all named to_next m.not_former m.known

replaced_gone : (tree : Tree) (replaced : Option Ino) → IfSome replaced (λ target. IsNameless tree.nodes target.0) → OneNamed tree.nodes → OneNamed (without_replaced tree replaced).nodes
replaced_gone tree None nameless all = all
replaced_gone tree (Some target) nameless all = elim (is_directory (node_at tree target)) as (λ b. OneNamed (if b then with_node tree target.0 None else tree).nodes) [
  | true ↦ emptied tree.nodes target.0 nameless all
  | false ↦ all
]

nameless_then : (tree : Tree) (from to ino : Ino) (replaced : Option Ino) (name goal : List ℕ) → OneNamed tree.nodes → NamesIt (node_at tree from) name ino → IfSome replaced (NamesIt (node_at tree to) goal)
    → IfSome replaced (λ target. IsNameless (take_name (put_name tree to goal ino) from name).nodes target.0)
nameless_then tree from to ino None name goal all named stood = tt
nameless_then tree from to ino (Some target) name goal all named stood = nameless_moved tree from to ino target name goal all named stood

move_kept : (tree : Tree) (path goal : List (List ℕ)) (found : Result Move Why) → move_of tree path goal ≡ found → OneNamed tree.nodes → OneNamed (with_move tree found (last_of path) (last_of goal)).nodes
move_kept tree path goal (Ok move) is all =
    let m = moves_by tree path goal move is in
    let name : List ℕ = last_of path in
    let last : List ℕ = last_of goal in
    let less : Tree = take_name (put_name tree move.to last move.ino) move.from name in
    elim move.is_same as (λ b. OneNamed (if b then tree else without_replaced less move.replaced).nodes) [
      | true ↦ all
      | false ↦ replaced_gone less move.replaced (nameless_then tree move.from move.to move.ino move.replaced name last all m.named (replaced_stood tree path goal move m))
          (put_one tree.nodes less.nodes move.to.0 last move.ino (entry_moved tree move.from move.to move.ino name last all m.named) all)
    ]
move_kept tree path goal (Err why) is all = all

removed : (tree : Tree) (name : List ℕ) (names : List (List ℕ)) (found : Result Ino Why) → removable tree (name ∷ names) ≡ found → OneNamed tree.nodes → OneNamed (without_directory tree found (parent_of tree (name ∷ names)) (name ∷ names)).nodes
removed tree name names (Ok ino) is all =
    let p = has_parent tree name names ino (judged_empty tree (resolved tree (name ∷ names)) ino is) in
    subst (λ (above : Result Ino Why). OneNamed (without_directory tree (Ok ino) above (name ∷ names)).nodes) (sym p.parent) (directory_gone tree p.place ino (last_of (name ∷ names)) p.named all)
removed tree name names (Err why) is all = all

removal_kept : (tree : Tree) (path : List (List ℕ)) → OneNamed tree.nodes → OneNamed (without_directory tree (removable tree path) (parent_of tree path) path).nodes
removal_kept tree [] all = all
removal_kept tree (name ∷ names) all = removed tree name names (removable tree (name ∷ names)) refl all

-- ---- other entries leave all names

opened_kept : (tree : Tree) (client : ClientId) (fd : Option ℕ) (file : Result Ino Why) (mode : Mode) → OneNamed tree.nodes → OneNamed (with_open tree client fd file mode).nodes
opened_kept tree client (Some fd) (Ok ino) mode all = all
opened_kept tree client (Some fd) (Err why) mode all = all
opened_kept tree client None file mode all = all

bytes_kept : (tree : Tree) (client : ClientId) (change : List ℕ → List ℕ) (file : Result Ino Why) → OneNamed tree.nodes → OneNamed (with_bytes tree client change file).nodes
bytes_kept tree client change (Ok ino) all =
    same_names tree.nodes (with_bytes tree client change (Ok ino)).nodes (length-set tree.nodes ino.0 _) (λ k. set_alike tree.nodes ino.0 k _ (changed_alike client change (node_at tree ino))) all
bytes_kept tree client change (Err why) all = all

flush_kept : (tree : Tree) (ino : Ino) → OneNamed tree.nodes → OneNamed (with_node tree ino.0 (flushed_node (node_at tree ino))).nodes
flush_kept tree ino all = same_names tree.nodes (with_node tree ino.0 (flushed_node (node_at tree ino))).nodes (length-set tree.nodes ino.0 _) (λ k. set_alike tree.nodes ino.0 k _ (flushed_alike (node_at tree ino))) all

purge_kept : (tree : Tree) (client : ClientId) → OneNamed tree.nodes → OneNamed (without_client tree client).nodes
purge_kept tree client all = same_names tree.nodes (without_client tree client).nodes (length-map tree.nodes (restored_node client)) (λ k. all_alike client tree.nodes k) all

-- ---- every entry

-- the new inode of a call was free
abbrev WasFree : Tree → Option Ino → Type 0
WasFree tree new = IfSome new (IsFree tree)

was_made : (tree : Tree) (new : Option Ino) → IsSomeAnd new (IsFree tree) → WasFree tree new
was_made tree (Some ino) free = free
was_made tree None free = tt

none_made : (tree : Tree) (new : Option Ino) → new ≡ None → WasFree tree new
none_made tree new none = subst (λ (n : Option Ino). WasFree tree n) (sym none) tt

was_free : (tree : Tree) (reply : Reply) (new : Option Ino) → IsMade tree reply new → WasFree tree new
was_free tree Done new is = was_made tree new is
was_free tree (Fd fd) new is = none_made tree new is
was_free tree (Bytes bytes) new is = none_made tree new is
was_free tree (Count count) new is = none_made tree new is
was_free tree (File size) new is = none_made tree new is
was_free tree Dir new is = none_made tree new is
was_free tree (Listed names) new is = none_made tree new is
was_free tree (Refused why) new is = none_made tree new is

carried : (tree : Tree) (client : ClientId) (call : Call) (reply : Reply) (new : Option Ino) → IsNewInode tree call reply new → OneNamed tree.nodes → OneNamed (carried_out tree client call new).nodes
carried tree client (Create path) reply new is all = sweep _ (entry_made tree (new_place tree path) (last_of path) new empty_file file_nameless (was_free tree reply new is) all)
carried tree client (Mkdir path) reply new is all = sweep _ (entry_made tree (new_place tree path) (last_of path) new empty_directory directory_nameless (was_free tree reply new is) all)
carried tree client (Unlink path) reply new is all = sweep _ (entry_gone tree (parent_of tree path) path all)
carried tree client (Rmdir path) reply new is all = sweep _ (removal_kept tree path all)
carried tree client (Rename path goal) reply new is all = sweep _ (move_kept tree path goal (move_of tree path goal) refl all)
carried tree client (Open path mode) reply new is all = sweep _ (opened_kept tree client _ _ mode all)
carried tree client (Close fd) reply new is all = sweep _ all
carried tree client (Read fd offset len) reply new is all = all
carried tree client (Write fd offset bytes) reply new is all = sweep _ (bytes_kept tree client _ _ all)
carried tree client (Truncate fd size) reply new is all = sweep _ (bytes_kept tree client _ _ all)
carried tree client (Stat path) reply new is all = all
carried tree client (Readdir path) reply new is all = all
carried tree client (Fsync fd) reply new is all = all

called : (tree : Tree) (client : ClientId) (call : Call) (reply : Reply) (new : Option Ino) → IsNewInode tree call reply new → OneNamed tree.nodes → OneNamed (after_call tree client call reply new).nodes
called tree client call Done new is all = carried tree client call Done new is all
called tree client call (Fd fd) new is all = carried tree client call (Fd fd) new is all
called tree client call (Bytes bytes) new is all = carried tree client call (Bytes bytes) new is all
called tree client call (Count count) new is all = carried tree client call (Count count) new is all
called tree client call (File size) new is all = carried tree client call (File size) new is all
called tree client call Dir new is all = carried tree client call Dir new is all
called tree client call (Listed names) new is all = carried tree client call (Listed names) new is all
called tree client call (Refused why) new is all = all

first_count : length first_nodes ≡ 512
unfolding first_nodes
first_count = ap suc (length-replicate {A = Option Node} 511 None)

same_there : {A : Type 0} (a : A) (n k : ℕ) → get_or (replicate n a) k a ≡ a
same_there a zero k = refl
same_there a (suc n) zero = refl
same_there a (suc n) (suc k) = same_there a n k

first_nameless : (k : ℕ) → HasNoNames (get_or first_nodes k None)
unfolding first_nodes
first_nameless zero = directory_nameless
first_nameless (suc k) = subst HasNoNames (sym (same_there {A = Option Node} None 511 k)) (λ name ino is. absurd (cc))

empty_named : OneNamed empty_tree.nodes
unfolding empty_tree
empty_named = record {
  count = first_count;
  number = λ k name ino is. absurd (first_nameless k name ino is);
  there = λ k name ino is. absurd (first_nameless k name ino is);
  one = λ j k name goal ino is and. absurd (first_nameless j name ino is);
}

pub one_named : (history : List Entry) → IsLegal history → OneNamed (tree_of history).nodes
one_named [] legal = empty_named
one_named (Called client number call reply new ∷ earlier) legal = called (tree_of earlier) client call reply new legal.0.new_inode (one_named earlier legal.1)
one_named (Flush client ino ∷ earlier) legal = sweep _ (flush_kept (tree_of earlier) ino (one_named earlier legal.1))
one_named (Purge client ∷ earlier) legal = sweep _ (purge_kept (tree_of earlier) client (one_named earlier legal.1))

pub history_taken : (history : List Entry) (directory ino : Ino) (name : List ℕ) → IsLegal history → StandsFor (tree_of history) directory name ino → IsTaken (tree_of history) ino
history_taken history directory ino name legal is =
    let all = one_named history legal in
    let number = all.number directory.0 name ino is in
    record { from_one = number.from_one; to_511 = number.to_511; there = λ none. all.there directory.0 name ino is (ap kind_of none) }

pub history_one : (history : List Entry) (directory other ino : Ino) (name goal : List ℕ) → IsLegal history → StandsFor (tree_of history) directory name ino → StandsFor (tree_of history) other goal ino → IsSameName directory other name goal
history_one history directory other ino name goal legal is and =
    let one = (one_named history legal).one directory.0 other.0 name goal ino is and in
    record { directories = one.0; names = one.1 }
