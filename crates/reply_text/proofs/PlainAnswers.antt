-- The tree's own answers tell no want of room.
use Rattle.std.proofs.Common.{◌+◌, ℕ, Bool, true, false, List, [], ◌∷◌, Option, Some, None, Result, Ok, Err, ok_or, length, get_or, if◌then◌else◌}
use Rattle.cal_base.specs.declared.identity.ClientId.{ClientId}
use Rattle.cal_base.specs.declared.identity.Ino.{Ino}
use Rattle.tree_law.specs.Tree.{Tree, node_at, root, table_of}
use Rattle.tree_law.specs.Resolve.{as_directory, as_empty_directory, as_file, file_named, judged, last_of, looked_up, new_place, parent_of, prefix_of, removable, resolved, room_for, stepped, walked}
use Rattle.tree_law.specs.Rename.{landing, move_of, moving, moving_to, replacing}
use Rattle.tree_law.specs.Descriptors.{always, file_behind, opened, readable, reads, within_limit, writable, writes}
use Rattle.tree_law.specs.Answer.{answer, bytes_of, counted, listing_of, made, moved, opened_as, status_of, told_at}
use Rattle.tree_law.specs.declared.descriptor.Descriptor.{Descriptor}
use Rattle.tree_law.specs.declared.mode.Mode.{Mode}
use Rattle.tree_law.specs.declared.node.Node.{Node}
use Rattle.tree_law.specs.declared.node.Node.TheVariants.{Directory, Regular}
use Rattle.tree_law.specs.declared.call.Call.{Call}
use Rattle.tree_law.specs.declared.call.Call.TheVariants.{Create, Mkdir, Unlink, Rmdir, Rename, Open, Close, Read, Write, Truncate, Stat, Readdir, Fsync}
use Rattle.tree_law.specs.declared.rename.Move.{Move}
use Rattle.tree_law.specs.declared.reply.Reply.{Reply}
use Rattle.tree_law.specs.declared.reply.Why.{Why}
use Rattle.tree_law.specs.declared.reply.Why.TheVariants.{BadF, DirFull, Exist, FBig, Inval, NoEnt, NotEmpty}
use Rattle.reply_text.specs.Plain.{IsPlainReply, IsPlainWhy}

-- a refusal, if it is one, tells no want of room
abbrev IsPlain : Result Ino Why → Type 0
IsPlain (Ok ino) = Unit {0}
IsPlain (Err why) = IsPlainWhy why

abbrev IsPlainMove : Result Move Why → Type 0
IsPlainMove (Ok move) = Unit {0}
IsPlainMove (Err why) = IsPlainWhy why

plain_or : (found : Option Ino) → IsPlain (ok_or found NoEnt)
plain_or None = tt
plain_or (Some ino) = tt

plain_look_up : (node : Option Node) (name : List ℕ) → IsPlain (looked_up node name)
plain_look_up (Some (Directory names)) name = plain_or _
plain_look_up (Some (Regular file)) name = tt
plain_look_up None name = tt

plain_step : (tree : Tree) (at : Result Ino Why) (name : List ℕ) → IsPlain at → IsPlain (stepped tree at name)
plain_step tree (Ok ino) name plain = plain_look_up (node_at tree ino) name
plain_step tree (Err why) name plain = plain

plain_walk : (tree : Tree) (names : List (List ℕ)) (at : Result Ino Why) → IsPlain at → IsPlain (walked tree at names)
plain_walk tree [] at plain = plain
plain_walk tree (name ∷ names) at plain = plain_walk tree names (stepped tree at name) (plain_step tree at name plain)

plain_resolved : (tree : Tree) (path : List (List ℕ)) → IsPlain (resolved tree path)
plain_resolved tree path = plain_walk tree path (Ok root) tt

-- what a test of the inode says is plain where the test is
plain_judged : (test : Option Node → Ino → Result Ino Why) → ((node : Option Node) (ino : Ino) → IsPlain (test node ino)) → (tree : Tree) (at : Result Ino Why) → IsPlain at → IsPlain (judged test tree at)
plain_judged test each tree (Ok ino) plain = each (node_at tree ino) ino
plain_judged test each tree (Err why) plain = plain

plain_choice : (stands full : Bool) (ino : Ino) → IsPlain (if stands then Err Exist else (if full then Err DirFull else Ok ino))
plain_choice true full ino = tt
plain_choice false true ino = tt
plain_choice false false ino = tt

plain_room : (name : List ℕ) (node : Option Node) (ino : Ino) → IsPlain (room_for name node ino)
plain_room name (Some (Directory names)) ino = plain_choice _ _ ino
plain_room name (Some (Regular file)) ino = tt
plain_room name None ino = tt

plain_file : (node : Option Node) (ino : Ino) → IsPlain (as_file node ino)
plain_file (Some (Directory names)) ino = tt
plain_file (Some (Regular file)) ino = tt
plain_file None ino = tt

plain_directory : (node : Option Node) (ino : Ino) → IsPlain (as_directory node ino)
plain_directory (Some (Directory names)) ino = tt
plain_directory (Some (Regular file)) ino = tt
plain_directory None ino = tt

plain_empty : (empty : Bool) (ino : Ino) → IsPlain (if empty then Ok ino else Err NotEmpty)
plain_empty true ino = tt
plain_empty false ino = tt

plain_empty_directory : (node : Option Node) (ino : Ino) → IsPlain (as_empty_directory node ino)
plain_empty_directory (Some (Directory names)) ino = plain_empty _ ino
plain_empty_directory (Some (Regular file)) ino = tt
plain_empty_directory None ino = tt

plain_place : (tree : Tree) (path : List (List ℕ)) → IsPlain (new_place tree path)
plain_place tree [] = tt
plain_place tree (name ∷ names) = plain_judged (room_for (last_of (name ∷ names))) (plain_room (last_of (name ∷ names))) tree _ (plain_resolved tree (prefix_of (name ∷ names)))

plain_named : (tree : Tree) (path : List (List ℕ)) → IsPlain (file_named tree path)
plain_named tree path = plain_judged as_file plain_file tree _ (plain_resolved tree path)

plain_removable : (tree : Tree) (path : List (List ℕ)) → IsPlain (removable tree path)
plain_removable tree [] = tt
plain_removable tree (name ∷ names) = plain_judged as_empty_directory plain_empty_directory tree _ (plain_resolved tree (name ∷ names))

plain_parent : (tree : Tree) (path : List (List ℕ)) → IsPlain (parent_of tree path)
plain_parent tree path = plain_judged as_directory plain_directory tree _ (plain_resolved tree (prefix_of path))

-- rename

plain_empty_move : (empty : Bool) (move : Move) → IsPlainMove (if empty then Ok move else Err NotEmpty)
plain_empty_move true move = tt
plain_empty_move false move = tt

plain_replacing : (node target : Option Node) (move : Move) → IsPlainMove (replacing node target move)
plain_replacing (Some (Directory names)) (Some (Directory others)) move = plain_empty_move _ move
plain_replacing (Some (Directory names)) (Some (Regular file)) move = tt
plain_replacing (Some (Directory names)) None move = tt
plain_replacing (Some (Regular file)) (Some (Directory others)) move = tt
plain_replacing (Some (Regular file)) (Some (Regular other)) move = tt
plain_replacing (Some (Regular file)) None move = tt
plain_replacing None target move = tt

plain_full : (full : Bool) (move : Move) → IsPlainMove (if full then Err DirFull else Ok move)
plain_full true move = tt
plain_full false move = tt

plain_landing : (tree : Tree) (from to ino : Ino) (target : Result Ino Why) → IsPlainMove (landing tree from to ino target)
plain_landing tree from to ino (Ok target) = plain_replacing _ _ _
plain_landing tree from to ino (Err why) = plain_full _ _

plain_moves : (same below : Bool) (move : Move) (landed : Result Move Why) → IsPlainMove landed → IsPlainMove (if same then Ok move else (if below then Err Inval else landed))
plain_moves true below move landed plain = tt
plain_moves false true move landed plain = tt
plain_moves false false move landed plain = plain

plain_moving : (tree : Tree) (path goal : List (List ℕ)) (ino from to : Ino) → IsPlainMove (moving tree path goal ino from to)
plain_moving tree path goal ino from to = plain_moves _ _ _ _ (plain_landing tree from to ino (looked_up (node_at tree to) (last_of goal)))

plain_moving_to : (tree : Tree) (path goal : List (List ℕ)) (ino from to : Result Ino Why) → IsPlain ino → IsPlain from → IsPlain to → IsPlainMove (moving_to tree path goal ino from to)
plain_moving_to tree path goal (Ok ino) (Ok from) (Ok to) a b d = plain_moving tree path goal ino from to
plain_moving_to tree path goal (Ok ino) (Ok from) (Err why) a b d = d
plain_moving_to tree path goal (Ok ino) (Err why) to a b d = b
plain_moving_to tree path goal (Err why) from to a b d = a

plain_move : (tree : Tree) (path goal : List (List ℕ)) → IsPlainMove (move_of tree path goal)
plain_move tree [] goal = tt
plain_move tree (name ∷ names) [] = tt
plain_move tree (name ∷ names) (other ∷ others) = plain_moving_to tree (name ∷ names) (other ∷ others) _ _ _ (plain_resolved tree (name ∷ names)) (plain_parent tree (name ∷ names)) (plain_parent tree (other ∷ others))

-- descriptors

plain_allowed : (allowed : Bool) (ino : Ino) → IsPlain (if allowed then Ok ino else Err BadF)
plain_allowed true ino = tt
plain_allowed false ino = tt

plain_behind : (allows : Mode → Bool) (descriptor : Option Descriptor) → IsPlain (file_behind allows descriptor)
plain_behind allows None = tt
plain_behind allows (Some descriptor) = plain_allowed _ _

plain_open : (table : List (Option Descriptor)) (fd : ℕ) → IsPlain (opened table fd)
plain_open table fd = plain_behind always (get_or table fd None)

plain_readable : (table : List (Option Descriptor)) (fd : ℕ) → IsPlain (readable table fd)
plain_readable table fd = plain_behind reads (get_or table fd None)

plain_writable : (table : List (Option Descriptor)) (fd : ℕ) → IsPlain (writable table fd)
plain_writable table fd = plain_behind writes (get_or table fd None)

plain_past : (past : Bool) (ino : Ino) → IsPlain (if past then Err FBig else Ok ino)
plain_past true ino = tt
plain_past false ino = tt

plain_limit : (end : ℕ) (at : Result Ino Why) → IsPlain at → IsPlain (within_limit end at)
plain_limit end (Ok ino) plain = plain_past _ ino
plain_limit end (Err why) plain = plain

-- replies

plain_made : (place : Result Ino Why) → IsPlain place → IsPlainReply (made place)
plain_made (Ok ino) plain = tt
plain_made (Err why) plain = plain

plain_moved : (moving : Result Move Why) → IsPlainMove moving → IsPlainReply (moved moving)
plain_moved (Ok move) plain = tt
plain_moved (Err why) plain = plain

plain_opened : (fd : Option ℕ) (file : Result Ino Why) → IsPlain file → IsPlainReply (opened_as fd file)
plain_opened None file plain = tt
plain_opened (Some fd) (Ok ino) plain = tt
plain_opened (Some fd) (Err why) plain = plain

plain_counted : (count : ℕ) (at : Result Ino Why) → IsPlain at → IsPlainReply (counted count at)
plain_counted count (Ok ino) plain = tt
plain_counted count (Err why) plain = plain

plain_status : (node : Option Node) → IsPlainReply (status_of node)
plain_status (Some (Directory names)) = tt
plain_status (Some (Regular file)) = tt
plain_status None = tt

plain_listing : (node : Option Node) → IsPlainReply (listing_of node)
plain_listing (Some (Directory names)) = tt
plain_listing (Some (Regular file)) = tt
plain_listing None = tt

plain_told : (told : Option Node → Reply) → ((node : Option Node) → IsPlainReply (told node)) → (tree : Tree) (at : Result Ino Why) → IsPlain at → IsPlainReply (told_at told tree at)
plain_told told each tree (Ok ino) plain = each (node_at tree ino)
plain_told told each tree (Err why) plain = plain

-- the tree's own answer to a call is no want of room
pub plain_answer : (tree : Tree) (client : ClientId) (call : Call) → IsPlainReply (answer tree client call)
plain_answer tree client (Create path) = plain_made _ (plain_place tree path)
plain_answer tree client (Mkdir path) = plain_made _ (plain_place tree path)
plain_answer tree client (Unlink path) = plain_made _ (plain_named tree path)
plain_answer tree client (Rmdir path) = plain_made _ (plain_removable tree path)
plain_answer tree client (Rename path goal) = plain_moved _ (plain_move tree path goal)
plain_answer tree client (Open path mode) = plain_opened _ _ (plain_named tree path)
plain_answer tree client (Close fd) = plain_made (opened (table_of tree client) fd) (plain_open (table_of tree client) fd)
plain_answer tree client (Read fd offset len) = plain_told (bytes_of offset len) (λ node. tt) tree (readable (table_of tree client) fd) (plain_readable (table_of tree client) fd)
plain_answer tree client (Write fd offset bytes) = plain_counted (length bytes) (within_limit (offset + length bytes) (writable (table_of tree client) fd)) (plain_limit (offset + length bytes) (writable (table_of tree client) fd) (plain_writable (table_of tree client) fd))
plain_answer tree client (Truncate fd size) = plain_made (within_limit size (writable (table_of tree client) fd)) (plain_limit size (writable (table_of tree client) fd) (plain_writable (table_of tree client) fd))
plain_answer tree client (Stat path) = plain_told status_of plain_status tree _ (plain_resolved tree path)
plain_answer tree client (Readdir path) = plain_told listing_of plain_listing tree _ (plain_resolved tree path)
plain_answer tree client (Fsync fd) = plain_made (opened (table_of tree client) fd) (plain_open (table_of tree client) fd)
