-- What stands in the tree of a legal history: no file past its limit, no writer that is purged.
use Rattle.std.proofs.Common.{◌≡◌, ◌≢◌, ◌⊎◌, ◌==◌, ◌≤◌, ◌+◌, ◌-◌, ◌++◌, inl, inr, ℕ, zero, suc, Bool, true, false, List, [], ◌∷◌, length, take, drop, map, replicate, Option, Some, None, is_none, Result, Ok, Err, get_or, set, nat_lt, refl, sym, ap, ◌∙◌, subst, arith, eqb-true, length-append, if◌then◌else◌}
use Rattle.std.specs.List.{list_any}
use Rattle.std.proofs.lemmas.Bool.{cases_eq, eqb-false}
use Rattle.std.proofs.lemmas.Bool.Decides.{nat_tests}
use Rattle.std.proofs.lemmas.List.{length-take, length-drop, length-replicate, get_or-set_other}
use Rattle.cal_base.specs.declared.identity.ClientId.{ClientId}
use Rattle.cal_base.specs.declared.identity.Ino.{Ino}
use Rattle.file_bytes.specs.Bytes.{resized, written, grown}
use Rattle.tree_law.specs.FileState.{is_writer, kept_file}
use Rattle.tree_law.specs.Tree.{Tree, node_at, table_of, writer_of, is_purged, empty_tree, first_nodes, empty_file, empty_directory}
use Rattle.tree_law.specs.Rename.{is_directory}
use Rattle.tree_law.specs.Descriptors.{writable, within_limit}
use Rattle.tree_law.specs.Idle.{is_flushed_file, opens_it, with_node}
use Rattle.tree_law.specs.After.{with_name, without_name, changed_node, flushed_node, restored_node, without_client}
use Rattle.tree_law.specs.Legal.{after, after_call, tree_of, IsLegal, IsNext, IsNewInode, is_own_or_none, is_flushed_for, is_flushed_for_reply}
use Rattle.tree_law.specs.declared.call.Call.{Call}
use Rattle.tree_law.specs.declared.call.Call.TheVariants.{Create, Mkdir, Unlink, Rmdir, Rename, Open, Close, Read, Write, Truncate, Stat, Readdir, Fsync}
use Rattle.tree_law.specs.declared.descriptor.Descriptor.{Descriptor}
use Rattle.tree_law.specs.declared.node.Node.{Node}
use Rattle.tree_law.specs.declared.node.Node.TheVariants.{Directory, Regular}
use Rattle.tree_law.specs.declared.reply.Reply.{Reply}
use Rattle.tree_law.specs.declared.reply.Reply.TheVariants.{Done, Fd, Bytes, Count, File, Dir, Names as Listed, Refused}
use Rattle.tree_law.specs.declared.reply.Why.{Why}
use Rattle.tree_law.specs.declared.reply.Why.TheVariants.{FBig}
use Rattle.tree_law.specs.declared.entry.Entry.{Entry}
use Rattle.tree_law.specs.declared.entry.Entry.TheVariants.{Call as Called, Flush, Purge}
use Rattle.tree_law.proofs.IdleLemmas.{node_of, swept_purged}
use Rattle.tree_facts.specs.Standing.{IsWithin, EndsWriting}
use Rattle.tree_facts.proofs.Aside.{called as aside_called}
use Rattle.tree_facts.proofs.EachNode.{Tables, Each, Bears, Makes, IsDone, set_each, each_swept, each_called}

-- a file that is to reach to an end, where nothing refuses that
pub within_ok : (end : ℕ) (file : Result Ino Why) (ino : Ino) → within_limit end file ≡ Ok ino → (end ≤ 262144) × (file ≡ Ok ino)
within_ok end (Ok at) ino is = elim (nat_lt 262144 end) as (λ b. nat_lt 262144 end ≡ b → (if b then Err FBig else Ok at) ≡ Ok ino → (end ≤ 262144) × ◌≡◌ {A = Result Ino Why} (Ok at) (Ok ino)) [
  | true ↦ λ e same. absurd (cc)
  | false ↦ λ e same. (grind (arith, nat_tests, e), same)
] refl is
within_ok end (Err why) ino is = absurd (cc)

written_within : (contents : List ℕ) (offset : ℕ) (bytes : List ℕ) (limit : ℕ) → length contents ≤ limit → offset + length bytes ≤ limit → length (written contents offset bytes) ≤ limit
written_within contents offset bytes limit fits below =
    let end : ℕ = offset + length bytes in
    let longer : List ℕ = grown contents end in
    omega (
      arith,
      length-append (take offset longer) (bytes ++ drop end longer),
      length-append bytes (drop end longer),
      length-take offset longer,
      length-drop end longer,
      length-append contents (replicate (end - length contents) 0),
      length-replicate {A = ℕ} (end - length contents) 0,
    )

resized_within : (contents : List ℕ) (size limit : ℕ) → size ≤ limit → length (resized contents size) ≤ limit
resized_within contents size limit below = omega (arith, length-append (take size contents) (replicate (size - length contents) 0), length-take size contents, length-replicate {A = ℕ} (size - length contents) 0)

name_within : (node : Option Node) (name : List ℕ) (ino : Ino) → IsWithin node → IsWithin (with_name node name ino)
name_within (Some (Directory names)) name ino is = tt
name_within (Some (Regular file)) name ino is = is
name_within None name ino is = tt

less_within : (node : Option Node) (name : List ℕ) → IsWithin node → IsWithin (without_name node name)
less_within (Some (Directory names)) name is = tt
less_within (Some (Regular file)) name is = is
less_within None name is = tt

changed_within : (client : ClientId) (change : List ℕ → List ℕ) (node : Option Node) → ((contents : List ℕ) → length contents ≤ 262144 → length (change contents) ≤ 262144) → IsWithin node → IsWithin (changed_node client change node)
changed_within client change (Some (Directory names)) fits is = tt
changed_within client change (Some (Regular file)) fits is = (fits file.contents is.0, is.1)
changed_within client change None fits is = tt

flushed_within : (node : Option Node) → IsWithin node → IsWithin (flushed_node node)
flushed_within (Some (Directory names)) is = tt
flushed_within (Some (Regular file)) is = (is.0, is.0)
flushed_within None is = tt

restored_within : (client : ClientId) (node : Option Node) → IsWithin node → IsWithin (restored_node client node)
restored_within client (Some (Directory names)) is = tt
restored_within client (Some (Regular file)) is =
    elim (is_writer file.writer client) as (λ b. IsWithin (Some (Regular (if b then kept_file file else file)))) [ true ↦ (is.1, is.1) | false ↦ is ]
restored_within client None is = tt

abbrev Within : ℕ → Option Node → Type 0
Within k node = IsWithin node

bears_within : (tables : Tables) → Bears Within tables
bears_within tables = record {
  named = λ k node name ino is. name_within node name ino is;
  unnamed = λ k node name is. less_within node name is;
  removed = λ k node directory is. tt;
  idle = λ k node flushed closed is. tt;
}

makes_within : (tree : Tree) (client : ClientId) (call : Call) (new : Option Ino) → Each Within tree → Makes Within tree client call new
makes_within tree client call new each = record {
  file = λ ino e. (omega arith, omega arith);
  directory = λ ino e. tt;
  written = λ fd offset bytes ino e is. changed_within client (λ contents. written contents offset bytes) (node_at tree ino)
      (λ contents fits. written_within contents offset bytes 262144 fits (within_ok (offset + length bytes) (writable (table_of tree client) fd) ino is).0) (each ino.0);
  resized = λ fd size ino e is. changed_within client (λ contents. resized contents size) (node_at tree ino)
      (λ contents fits. resized_within contents size 262144 (within_ok size (writable (table_of tree client) fd) ino is).0) (each ino.0);
}

pub restored_each : (P : ℕ → Option Node → Type 0) (client : ClientId) (nodes : List (Option Node)) → ((k : ℕ) → P k (restored_node client (get_or nodes k None))) → (k : ℕ) → P k (get_or (map (restored_node client) nodes) k None)
restored_each P client [] each k = each k
restored_each P client (x ∷ xs) each zero = each zero
restored_each P client (x ∷ xs) each (suc k) = restored_each (λ n. P (suc n)) client xs (λ n. each (suc n)) k

entry_within : (tree : Tree) (entry : Entry) → Each Within tree → Each Within (after tree entry)
entry_within tree (Called client number call reply new) each = each_called Within tree client call reply new (λ tables e. bears_within tables) (λ is_done. makes_within tree client call new each) each
entry_within tree (Flush client ino) each =
    let next : Tree = with_node tree ino.0 (flushed_node (node_at tree ino)) in
    each_swept Within next (bears_within next.tables) (set_each Within tree.nodes ino.0 _ (flushed_within (node_at tree ino) (each ino.0)) each)
entry_within tree (Purge client) each =
    each_swept Within (without_client tree client) (bears_within (without_client tree client).tables) (restored_each Within client tree.nodes (λ k. restored_within client (node_of tree k) (each k)))

same_there : {A : Type 0} (a : A) (n k : ℕ) → get_or (replicate n a) k a ≡ a
same_there a zero k = refl
same_there a (suc n) zero = refl
same_there a (suc n) (suc k) = same_there a n k

first_within : (k : ℕ) → IsWithin (get_or first_nodes k None)
unfolding first_nodes
first_within zero = tt
first_within (suc k) = subst (λ (node : Option Node). IsWithin node) (sym (same_there {A = Option Node} None 511 k)) tt

empty_within : Each Within empty_tree
unfolding empty_tree
empty_within = first_within

all_within : (history : List Entry) → Each Within (tree_of history)
all_within [] = empty_within
all_within (entry ∷ earlier) = entry_within (tree_of earlier) entry (all_within earlier)

-- no file of a history is past its limit
pub history_within : (history : List Entry) (ino : Ino) → IsLegal history → IsWithin (node_at (tree_of history) ino)
history_within history ino legal = all_within history ino.0

-- the writer of what stands there, if there is one, isn't purged
abbrev IsPresent : List Bool → ℕ → Option Node → Type 0
IsPresent purged k node = (client : ClientId) → writer_of node ≡ Some client → get_or purged client.0 true ≡ false

pub name_writer : (node : Option Node) (name : List ℕ) (ino : Ino) → writer_of (with_name node name ino) ≡ writer_of node
name_writer (Some (Directory names)) name ino = refl
name_writer (Some (Regular file)) name ino = refl
name_writer None name ino = refl

pub less_writer : (node : Option Node) (name : List ℕ) → writer_of (without_name node name) ≡ writer_of node
less_writer (Some (Directory names)) name = refl
less_writer (Some (Regular file)) name = refl
less_writer None name = refl

bears_present : (purged : List Bool) (tables : Tables) → Bears (IsPresent purged) tables
bears_present purged tables = record {
  named = λ k node name ino is client e. is client (sym (name_writer node name ino) ∙ e);
  unnamed = λ k node name is client e. is client (sym (less_writer node name) ∙ e);
  removed = λ k node directory is client e. absurd (cc);
  idle = λ k node flushed closed is client e. absurd (cc);
}

pub same_client : (a b : ClientId) → a.0 ≡ b.0 → a ≡ b
same_client a b e = ap (λ (n : ℕ). record { 0 = n }) e

present_changed : (purged : List Bool) (k : ℕ) (writer : ClientId) (change : List ℕ → List ℕ) (node : Option Node) → get_or purged writer.0 true ≡ false → IsPresent purged k (changed_node writer change node)
present_changed purged k writer change (Some (Directory names)) present client e = absurd (cc)
present_changed purged k writer change (Some (Regular file)) present client e = subst (λ (c : Option ClientId). get_or purged (writer_or c).0 true ≡ false) e present where
  writer_or : Option ClientId → ClientId
  writer_or None = writer
  writer_or (Some c) = c
present_changed purged k writer change None present client e = absurd (cc)

makes_present : (tree : Tree) (writer : ClientId) (call : Call) (new : Option Ino) → is_purged tree writer ≡ false → Makes (IsPresent tree.purged) tree writer call new
makes_present tree writer call new present = record {
  file = λ ino is client e. absurd (cc);
  directory = λ ino is client e. absurd (cc);
  written = λ fd offset bytes ino e is. present_changed tree.purged ino.0 writer (λ contents. written contents offset bytes) (node_at tree ino) present;
  resized = λ fd size ino e is. present_changed tree.purged ino.0 writer (λ contents. resized contents size) (node_at tree ino) present;
}

present_flushed : (purged : List Bool) (k : ℕ) (node : Option Node) → IsPresent purged k (flushed_node node)
present_flushed purged k (Some (Directory names)) client e = absurd (cc)
present_flushed purged k (Some (Regular file)) client e = absurd (cc)
present_flushed purged k None client e = absurd (cc)

-- a file that a purged client wrote has no writer; another's keeps it
restored_writer : (gone : ClientId) (node : Option Node) (client : ClientId) → writer_of (restored_node gone node) ≡ Some client → (writer_of node ≡ Some client) × (client.0 ≢ gone.0)
restored_writer gone (Some (Directory names)) client e = absurd (cc)
restored_writer gone (Some (Regular file)) client e =
    elim (is_writer file.writer gone) as (λ b. is_writer file.writer gone ≡ b → (if b then kept_file file else file).writer ≡ Some client → (file.writer ≡ Some client) × (client.0 ≢ gone.0)) [
      | true ↦ λ is same. absurd (cc)
      | false ↦ λ is same. (same, λ at. eqb-false client.0 gone.0 (sym (ap (λ (w : Option ClientId). is_writer w gone) same) ∙ is) at)
    ] refl e
restored_writer gone None client e = absurd (cc)

present_restored : (purged : List Bool) (gone : ClientId) (k : ℕ) (node : Option Node) → IsPresent purged k node → IsPresent (set purged gone.0 true) k (restored_node gone node)
present_restored purged gone k node is client e =
    let both = restored_writer gone node client e in
    get_or-set_other purged gone.0 client.0 true true both.1 ∙ is client both.0

abbrev AllPresent : Tree → Type 0
AllPresent tree = Each (IsPresent tree.purged) tree

with_purged : (tree later : Tree) → later.purged ≡ tree.purged → Each (IsPresent tree.purged) later → AllPresent later
with_purged tree later e each = subst (λ (purged : List Bool). Each (IsPresent purged) later) (sym e) each

entry_present : (tree : Tree) (entry : Entry) → IsNext tree entry → AllPresent tree → AllPresent (after tree entry)
entry_present tree (Called client number call reply new) next each =
    with_purged tree (after tree (Called client number call reply new)) (aside_called tree client number call reply new).purged
    (each_called (IsPresent tree.purged) tree client call reply new (λ tables e. bears_present tree.purged tables) (λ is_done. makes_present tree client call new next.present) each)
entry_present tree (Flush client ino) next each =
    let less : Tree = with_node tree ino.0 (flushed_node (node_at tree ino)) in
    with_purged tree (after tree (Flush client ino)) (swept_purged less 512)
    (each_swept (IsPresent tree.purged) less (bears_present tree.purged less.tables) (set_each (IsPresent tree.purged) tree.nodes ino.0 _ (present_flushed tree.purged ino.0 (node_at tree ino)) each))
entry_present tree (Purge client) next each =
    let less : Tree = without_client tree client in
    with_purged less (after tree (Purge client)) (swept_purged less 512)
    (each_swept (IsPresent less.purged) less (bears_present less.purged less.tables) (restored_each (IsPresent less.purged) client tree.nodes (λ k. present_restored tree.purged client k (node_of tree k) (each k))))

first_writer : (k : ℕ) → writer_of (get_or first_nodes k None) ≡ None
unfolding first_nodes
first_writer zero = refl
first_writer (suc k) = ap writer_of (same_there {A = Option Node} None 511 k)

empty_present : AllPresent empty_tree
unfolding empty_tree
empty_present = λ k client e. absurd (none_some (first_writer k) e) where
  none_some : {w : Option ClientId} {client : ClientId} → w ≡ None → w ≡ Some client → ⊥
  none_some a b = cc

all_present : (history : List Entry) → IsLegal history → AllPresent (tree_of history)
all_present [] legal = empty_present
all_present (entry ∷ earlier) legal = entry_present (tree_of earlier) entry legal.0 (all_present earlier legal.1)

-- no writer of a history is purged
pub history_writers : (history : List Entry) (ino : Ino) (client : ClientId) → IsLegal history → writer_of (node_at (tree_of history) ino) ≡ Some client → is_purged (tree_of history) client ≡ false
history_writers history ino client legal e = all_present history legal ino.0 client e
