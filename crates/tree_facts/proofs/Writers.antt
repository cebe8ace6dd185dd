-- How the unflushed writes to a file end.
use Rattle.std.proofs.Common.{◌≡◌, ◌≢◌, ◌⊎◌, ◌==◌, ◌+◌, inl, inr, ℕ, zero, suc, Bool, true, false, List, [], ◌∷◌, length, map, Option, Some, None, is_none, Result, Ok, Err, get_or, set, refl, sym, ap, ◌∙◌, subst, eqb-true, if◌then◌else◌}
use Rattle.std.specs.List.{list_any}
use Rattle.std.proofs.lemmas.Bool.{cases_eq, eqb-false}
use Rattle.cal_base.specs.declared.identity.ClientId.{ClientId}
use Rattle.cal_base.specs.declared.identity.Ino.{Ino}
use Rattle.file_bytes.specs.Bytes.{resized, written}
use Rattle.tree_law.specs.FileState.{is_writer, kept_file}
use Rattle.tree_law.specs.Tree.{Tree, node_at, table_of, writer_of, empty_file, empty_directory, IsFree}
use Rattle.tree_law.specs.Rename.{is_directory}
use Rattle.tree_law.specs.Descriptors.{writable, within_limit}
use Rattle.tree_law.specs.Idle.{is_flushed_file, opens_it, with_node}
use Rattle.tree_law.specs.After.{with_name, without_name, changed_node, flushed_node, restored_node, without_client}
use Rattle.tree_law.specs.Legal.{after, after_call, IsNext, IsNextCall, IsMade, IsNewInode, is_own_or_none, is_flushed_by_others, is_flushed_for, is_flushed_for_reply}
use Rattle.tree_law.specs.declared.call.Call.{Call}
use Rattle.tree_law.specs.declared.call.Call.TheVariants.{Create, Mkdir, Unlink, Rmdir, Rename, Open, Close, Read, Write, Truncate, Stat, Readdir, Fsync}
use Rattle.tree_law.specs.declared.node.Node.{Node}
use Rattle.tree_law.specs.declared.node.Node.TheVariants.{Directory, Regular}
use Rattle.tree_law.specs.declared.reply.Reply.{Reply}
use Rattle.tree_law.specs.declared.reply.Reply.TheVariants.{Done, Fd, Bytes, Count, File, Dir, Names as Listed, Refused}
use Rattle.tree_law.specs.declared.reply.Why.{Why}
use Rattle.tree_law.specs.declared.entry.Entry.{Entry}
use Rattle.tree_law.specs.declared.entry.Entry.TheVariants.{Call as Called, Flush, Purge}
use Rattle.tree_law.proofs.IdleLemmas.{node_of}
use Rattle.tree_facts.specs.Standing.{EndsWriting}
use Rattle.tree_facts.proofs.EachNode.{Tables, Each, Bears, Makes, IsDone, set_each, each_swept, each_called}
use Rattle.tree_facts.proofs.SoundNodes.{within_ok, name_writer, less_writer, same_client, restored_each}

-- at this number a file stands with this writer
abbrev IsWritten : ClientId → Ino → ℕ → Option Node → Type 0
IsWritten client ino k node = k ≡ ino.0 → writer_of node ≡ Some client

not_directory : (node : Option Node) (client : ClientId) → is_directory node ≡ true → writer_of node ≡ Some client → ⊥
not_directory (Some (Directory names)) client is e = absurd (cc)
not_directory (Some (Regular file)) client is e = absurd (cc)
not_directory None client is e = absurd (cc)

none_or_some : (writer : Option ClientId) (client : ClientId) → is_none writer ≡ true → writer ≡ Some client → ⊥
none_or_some (Some other) client is e = absurd (cc)
none_or_some None client is e = absurd (cc)

not_flushed : (node : Option Node) (client : ClientId) → is_flushed_file node ≡ true → writer_of node ≡ Some client → ⊥
not_flushed (Some (Directory names)) client is e = absurd (cc)
not_flushed (Some (Regular file)) client is e = none_or_some file.writer client is e
not_flushed None client is e = absurd (cc)

bears_written : (client : ClientId) (ino : Ino) (tables : Tables) → Bears (IsWritten client ino) tables
bears_written client ino tables = record {
  named = λ k node name other is at. name_writer node name other ∙ is at;
  unnamed = λ k node name is at. less_writer node name ∙ is at;
  removed = λ k node directory is at. absurd (not_directory node client directory (is at));
  idle = λ k node flushed closed is at. absurd (not_flushed node client flushed (is at));
}

none_here : (node : Option Node) (client : ClientId) → node ≡ None → writer_of node ≡ Some client → ⊥
none_here (Some node) client is e = absurd (cc)
none_here None client is e = absurd (cc)

made_free : (tree : Tree) (reply : Reply) (new : Ino) → IsMade tree reply (Some new) → node_at tree new ≡ None
made_free tree Done new is = is.free
made_free tree (Fd fd) new is = absurd (cc)
made_free tree (Bytes bytes) new is = absurd (cc)
made_free tree (Count count) new is = absurd (cc)
made_free tree (File size) new is = absurd (cc)
made_free tree Dir new is = absurd (cc)
made_free tree (Listed names) new is = absurd (cc)
made_free tree (Refused why) new is = absurd (cc)

pub new_free : (tree : Tree) (call : Call) (reply : Reply) (new : Ino) → IsNewInode tree call reply (Some new) → node_at tree new ≡ None
new_free tree (Create path) reply new is = made_free tree reply new is
new_free tree (Mkdir path) reply new is = made_free tree reply new is
new_free tree (Unlink path) reply new is = absurd (cc)
new_free tree (Rmdir path) reply new is = absurd (cc)
new_free tree (Rename path goal) reply new is = absurd (cc)
new_free tree (Open path mode) reply new is = absurd (cc)
new_free tree (Close fd) reply new is = absurd (cc)
new_free tree (Read fd offset len) reply new is = absurd (cc)
new_free tree (Write fd offset bytes) reply new is = absurd (cc)
new_free tree (Truncate fd size) reply new is = absurd (cc)
new_free tree (Stat path) reply new is = absurd (cc)
new_free tree (Readdir path) reply new is = absurd (cc)
new_free tree (Fsync fd) reply new is = absurd (cc)

-- a new inode isn't that of a file with a writer
not_new : (tree : Tree) (call : Call) (reply : Reply) (new : Option Ino) (made ino : Ino) (client : ClientId) → IsNewInode tree call reply new → new ≡ Some made → made.0 ≡ ino.0 → writer_of (node_at tree ino) ≡ Some client → ⊥
not_new tree call reply new made ino client is e at written =
    none_here (node_at tree ino) client
    (subst (λ (n : ℕ). node_of tree n ≡ None) at (new_free tree call reply made (subst (λ (o : Option Ino). IsNewInode tree call reply o) e is))) written

done_flushed : (tree : Tree) (client : ClientId) (call : Call) (reply : Reply) → IsDone reply → is_flushed_for_reply tree client call reply ≡ true → is_flushed_for tree client call ≡ true
done_flushed tree client call Done is flushed = flushed
done_flushed tree client call (Fd fd) is flushed = flushed
done_flushed tree client call (Bytes bytes) is flushed = flushed
done_flushed tree client call (Count count) is flushed = flushed
done_flushed tree client call (File size) is flushed = flushed
done_flushed tree client call Dir is flushed = flushed
done_flushed tree client call (Listed names) is flushed = flushed
done_flushed tree client call (Refused why) is flushed = absurd is

own_writer : (writer : Option ClientId) (caller client : ClientId) → is_own_or_none writer caller ≡ true → writer ≡ Some client → caller ≡ client
own_writer None caller client own e = absurd (cc)
own_writer (Some writer) caller client own e = sym (same_client writer caller (eqb-true writer.0 caller.0 own)) ∙ unwrapped e where
  unwrapped : Some writer ≡ Some client → writer ≡ client
  unwrapped same = cc

changed_by : (node : Option Node) (caller client : ClientId) (change : List ℕ → List ℕ) → writer_of node ≡ Some client → caller ≡ client → writer_of (changed_node caller change node) ≡ Some client
changed_by (Some (Directory names)) caller client change is same = absurd (cc)
changed_by (Some (Regular file)) caller client change is same = ap (λ (c : ClientId). Some c) same
changed_by None caller client change is same = absurd (cc)

written_on : (tree : Tree) (caller client : ClientId) (change : List ℕ → List ℕ) (file : Result Ino Why) (at ino : Ino) → file ≡ Ok at → is_flushed_by_others tree caller file ≡ true → writer_of (node_at tree ino) ≡ Some client
    → IsWritten client ino at.0 (changed_node caller change (node_at tree at))
written_on tree caller client change file at ino is others written same =
    let here : writer_of (node_at tree at) ≡ Some client = subst (λ (n : ℕ). writer_of (node_of tree n) ≡ Some client) (sym same) written in
    let own : is_own_or_none (writer_of (node_at tree at)) caller ≡ true = subst (λ (r : Result Ino Why). is_flushed_by_others tree caller r ≡ true) is others in
    changed_by (node_at tree at) caller client change here (own_writer (writer_of (node_at tree at)) caller client own here)

makes_written : (tree : Tree) (caller client : ClientId) (call : Call) (reply : Reply) (new : Option Ino) (ino : Ino) → IsNextCall tree caller call reply new → writer_of (node_at tree ino) ≡ Some client → IsDone reply
    → Makes (IsWritten client ino) tree caller call new
makes_written tree caller client call reply new ino next had is_done =
    let flushed : is_flushed_for tree caller call ≡ true = done_flushed tree caller call reply is_done next.flushed in
    record {
      file = λ made e at. absurd (not_new tree call reply new made ino client next.new_inode e at had);
      directory = λ made e at. absurd (not_new tree call reply new made ino client next.new_inode e at had);
      written = λ fd offset bytes at e is.
          written_on tree caller client (λ contents. written contents offset bytes) (writable (table_of tree caller) fd) at ino (within_ok (offset + length bytes) (writable (table_of tree caller) fd) at is).1
          (subst (λ (c : Call). is_flushed_for tree caller c ≡ true) e flushed) had;
      resized = λ fd size at e is.
          written_on tree caller client (λ contents. resized contents size) (writable (table_of tree caller) fd) at ino (within_ok size (writable (table_of tree caller) fd) at is).1
          (subst (λ (c : Call). is_flushed_for tree caller c ≡ true) e flushed) had;
    }

each_written : (tree : Tree) (client : ClientId) (ino : Ino) → writer_of (node_at tree ino) ≡ Some client → Each (IsWritten client ino) tree
each_written tree client ino written k at = subst (λ (n : ℕ). writer_of (node_of tree n) ≡ Some client) (sym at) written

still_written : (gone client : ClientId) (node : Option Node) → client.0 ≢ gone.0 → writer_of node ≡ Some client → writer_of (restored_node gone node) ≡ Some client
still_written gone client (Some (Directory names)) apart e = absurd (cc)
still_written gone client (Some (Regular file)) apart e =
    elim (is_writer file.writer gone) as (λ b. is_writer file.writer gone ≡ b → (if b then kept_file file else file).writer ≡ Some client) [
      | true ↦ λ is. absurd (apart (eqb-true client.0 gone.0 (sym (ap (λ (w : Option ClientId). is_writer w gone) e) ∙ is)))
      | false ↦ λ is. e
    ] refl
still_written gone client None apart e = absurd (cc)

flushed_by : (writer : Option ClientId) (client by : ClientId) → is_writer writer by ≡ true → writer ≡ Some client → by ≡ client
flushed_by None client by is e = absurd (cc)
flushed_by (Some writer) client by is e = sym (same_client writer by (eqb-true writer.0 by.0 is)) ∙ unwrapped e where
  unwrapped : Some writer ≡ Some client → writer ≡ client
  unwrapped same = cc

-- unflushed writes end by their writer's flush or purge
pub writing_ends : (tree : Tree) (entry : Entry) (client : ClientId) (ino : Ino) → IsNext tree entry → writer_of (node_at tree ino) ≡ Some client → (writer_of (node_at (after tree entry) ino) ≡ Some client) ⊎ EndsWriting entry client ino
writing_ends tree (Called caller number call reply new) client ino next written =
    inl (each_called (IsWritten client ino) tree caller call reply new (λ tables e. bears_written client ino tables) (makes_written tree caller client call reply new ino next written) (each_written tree client ino written) ino.0 refl)
writing_ends tree (Flush by file) client ino next written = elim (cases_eq file.0 ino.0) [
  | inl same ↦ inr (flushed_by (writer_of (node_at tree file)) client by next (subst (λ (n : ℕ). writer_of (node_of tree n) ≡ Some client) (sym same) written), same)
  | inr apart ↦
      let less : Tree = with_node tree file.0 (flushed_node (node_at tree file)) in
      inl (each_swept (IsWritten client ino) less (bears_written client ino less.tables)
      (set_each (IsWritten client ino) tree.nodes file.0 _ (λ at. absurd (apart at)) (each_written tree client ino written)) ino.0 refl)
]
writing_ends tree (Purge gone) client ino next written = elim (cases_eq gone.0 client.0) [
  | inl same ↦ inr (same_client gone client same)
  | inr apart ↦
      let less : Tree = without_client tree gone in
      inl (each_swept (IsWritten client ino) less (bears_written client ino less.tables)
      (restored_each (IsWritten client ino) gone tree.nodes (λ k at. still_written gone client (node_of tree k) (λ e. apart (sym e)) (each_written tree client ino written k at))) ino.0 refl)
]
