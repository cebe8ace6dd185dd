-- A call that is no change leaves all but its file, and a flush all but its own.
use Rattle.std.proofs.Common.{◌≡◌, ◌≢◌, ◌||◌, ◌⊎◌, inl, inr, arith, ◌+◌, ℕ, zero, suc, Bool, true, false, List, [], ◌∷◌, length, Option, Some, None, Result, Ok, Err, is_none, get_or, set, cond, nat_lt, refl, sym, ap, ◌∙◌, eqb-true, if◌then◌else◌}
use Rattle.std.proofs.lemmas.List.{get_or-set_other}
use Rattle.std.specs.List.{list_any, position_or_len}
use Rattle.cal_base.specs.Limits.{file_size}
use Rattle.cal_base.specs.declared.identity.ClientId.{ClientId}
use Rattle.cal_base.specs.declared.identity.Ino.{Ino}
use Rattle.file_bytes.specs.Bytes.{resized, written}
use Rattle.tree_law.specs.Change.{is_change}
use Rattle.tree_law.specs.Tree.{Tree, node_at, table_of, least_unused}
use Rattle.tree_law.specs.Resolve.{file_named}
use Rattle.tree_law.specs.Descriptors.{opened, writable, within_limit}
use Rattle.tree_law.specs.Idle.{opens_it, with_node}
use Rattle.tree_law.specs.After.{with_descriptor, with_open, with_bytes, changed_node, flushed_node, carried_out}
use Rattle.tree_law.specs.Legal.{after, after_call, tree_of}
use Rattle.tree_law.specs.declared.call.Call.{Call}
use Rattle.tree_law.specs.declared.call.Call.TheVariants.{Create, Mkdir, Unlink, Rmdir, Rename, Open, Close, Read, Write, Truncate, Stat, Readdir, Fsync}
use Rattle.tree_law.specs.declared.descriptor.Descriptor.{Descriptor}
use Rattle.tree_law.specs.declared.entry.Entry.{Entry}
use Rattle.tree_law.specs.declared.entry.Entry.TheVariants.{Call as Called, Flush}
use Rattle.tree_law.specs.declared.mode.Mode.{Mode}
use Rattle.tree_law.specs.declared.node.Node.{Node}
use Rattle.tree_law.specs.declared.node.Node.TheVariants.{Directory, Regular}
use Rattle.tree_law.specs.declared.reply.Reply.{Reply}
use Rattle.tree_law.specs.declared.reply.Reply.TheVariants.{Done, Fd, Bytes, Count, File, Dir, Names as Listed, Refused}
use Rattle.tree_law.specs.declared.reply.Why.{Why}
use Rattle.tree_law.specs.declared.reply.Why.TheVariants.{FBig}
use Rattle.tree_law.proofs.IdleLemmas.{node_of}
use Rattle.tree_law.proofs.Histories.{IsClean, history_clean}
use Rattle.tree_facts.proofs.Entries.{NamesIt}
use Rattle.tree_touches.specs.Touching.{IsOfFile}
use Rattle.tree_touches.proofs.Named.{numbered}
use Rattle.tree_touches.proofs.Staying.{Stays, unaltered, named_by, swept_stays}

-- ---- other bytes of a file

set_names : (nodes : List (Option Node)) (m k : ℕ) (next : Option Node) (name : List ℕ) (ino : Ino) → (NamesIt (get_or nodes m None) name ino → NamesIt next name ino) → NamesIt (get_or nodes k None) name ino → NamesIt (get_or (set nodes m next) k None) name ino
set_names [] m k next name ino kept is = is
set_names (place ∷ nodes) zero zero next name ino kept is = kept is
set_names (place ∷ nodes) zero (suc k) next name ino kept is = is
set_names (place ∷ nodes) (suc m) zero next name ino kept is = is
set_names (place ∷ nodes) (suc m) (suc k) next name ino kept is = set_names nodes m k next name ino kept is

changed_names : (client : ClientId) (change : List ℕ → List ℕ) (node : Option Node) (name : List ℕ) (ino : Ino) → NamesIt node name ino → NamesIt (changed_node client change node) name ino
changed_names client change (Some (Directory names)) name ino is = is
changed_names client change (Some (Regular file)) name ino is = absurd (cc)
changed_names client change None name ino is = is

flushed_names : (node : Option Node) (name : List ℕ) (ino : Ino) → NamesIt node name ino → NamesIt (flushed_node node) name ino
flushed_names (Some (Directory names)) name ino is = is
flushed_names (Some (Regular file)) name ino is = absurd (cc)
flushed_names None name ino is = is

set_stays : (tree : Tree) (m k : ℕ) (next : Option Node) → ((name : List ℕ) (ino : Ino) → NamesIt (node_of tree m) name ino → NamesIt next name ino) → k ≢ m → Stays tree (with_node tree m next) k
set_stays tree m k next kept apart = record {
  node = get_or-set_other tree.nodes m k next None apart;
  opened = λ is. is;
  named = named_by tree (with_node tree m next) k (λ at name is. record { place = at; name = name; names = set_names tree.nodes m at next name (numbered k) (kept name (numbered k)) is });
}

bytes_stay : (tree : Tree) (client : ClientId) (change : List ℕ → List ℕ) (file : Result Ino Why) (k : ℕ) → ((ino : Ino) → file ≡ Ok ino → k ≢ ino.0) → Stays tree (with_bytes tree client change file) k
bytes_stay tree client change (Ok ino) k apart = set_stays tree ino.0 k (changed_node client change (node_at tree ino)) (changed_names client change (node_at tree ino)) (apart ino refl)
bytes_stay tree client change (Err why) k apart = unaltered tree k

limited : (end : ℕ) (file : Result Ino Why) (ino : Ino) → within_limit end file ≡ Ok ino → file ≡ Ok ino
limited end (Ok at) ino is = ap (λ (i : Ino). Ok i) (elim (nat_lt file_size end) as (λ b. (if b then Err FBig else Ok at) ≡ Ok ino → at ≡ ino) [
  | true ↦ λ e. absurd (cc)
  | false ↦ λ e. cc
] is)
limited end (Err why) ino is = absurd (cc)

limit_apart : (end : ℕ) (file : Result Ino Why) (ino : Ino) → file ≢ Ok ino → (at : Ino) → within_limit end file ≡ Ok at → ino.0 ≢ at.0
limit_apart end file ino other at is same = other (limited end file at is ∙ ap (λ (n : ℕ). Ok (numbered n)) (sym same))

-- ---- descriptors

or_case : (a b : Bool) → (a || b) ≡ true → (a ≡ true) ⊎ (b ≡ true)
or_case true b e = inl refl
or_case false b e = inr e

or_left : (a b : Bool) → a ≡ true → (a || b) ≡ true
or_left true b e = refl
or_left false b e = absurd (cc)

or_right : (a b : Bool) → b ≡ true → (a || b) ≡ true
or_right true b e = refl
or_right false b e = e

any_set : {A : Type 0} (p : A → Bool) (xs : List A) (m : ℕ) (new d : A) → (p (get_or xs m d) ≡ true → p new ≡ true) → list_any p xs ≡ true → list_any p (set xs m new) ≡ true
any_set p [] m new d kept is = is
any_set p (x ∷ xs) zero new d kept is = elim (or_case (p x) (list_any p xs) is) [ inl here ↦ or_left (p new) (list_any p xs) (kept here) | inr later ↦ or_right (p new) (list_any p xs) later ]
any_set p (x ∷ xs) (suc m) new d kept is = elim (or_case (p x) (list_any p xs) is) [
  | inl here ↦ or_left (p x) (list_any p (set xs m new)) here
  | inr later ↦ or_right (p x) (list_any p (set xs m new)) (any_set p xs m new d kept later)
]

descriptor_stays : (tree : Tree) (client : ClientId) (fd : ℕ) (descriptor : Option Descriptor) (k : ℕ) → (opens_it k (get_or (table_of tree client) fd None) ≡ true → opens_it k descriptor ≡ true) → Stays tree (with_descriptor tree client fd descriptor) k
descriptor_stays tree client fd descriptor k kept = record {
  node = refl;
  opened = any_set (list_any (opens_it k)) tree.tables client.0 (set (table_of tree client) fd descriptor) [] (any_set (opens_it k) (table_of tree client) fd descriptor None kept);
  named = λ is. is;
}

first_unused : (table : List (Option Descriptor)) → get_or table (position_or_len is_none table) None ≡ None
first_unused [] = refl
first_unused (None ∷ table) = refl
first_unused (Some descriptor ∷ table) =
    let later : ℕ = position_or_len is_none table in
    let further : 1 + later ≡ suc later = omega arith in
    ap (λ (n : ℕ). get_or (Some descriptor ∷ table) n None) further ∙ first_unused table

unused : (table : List (Option Descriptor)) (fd : ℕ) → least_unused table ≡ Some fd → get_or table fd None ≡ None
unused table fd is =
    elim (nat_lt (position_or_len is_none table) (length table)) as (λ b. cond b (Some (position_or_len is_none table)) None ≡ Some fd → get_or table fd None ≡ None) [
      | true ↦ λ e. (let same : position_or_len is_none table ≡ fd = cc in ap (λ (n : ℕ). get_or table n None) (sym same) ∙ first_unused table)
      | false ↦ λ e. absurd (cc)
    ] is

opened_stays : (tree : Tree) (client : ClientId) (found : Option ℕ) (file : Result Ino Why) (mode : Mode) (k : ℕ) → least_unused (table_of tree client) ≡ found → Stays tree (with_open tree client found file mode) k
opened_stays tree client (Some fd) (Ok ino) mode k is = descriptor_stays tree client fd (Some (record { ino = ino; mode = mode })) k (λ is_open_here. none (sym (ap (opens_it k) (unused (table_of tree client) fd is)) ∙ is_open_here)) where
  none : {A : Type 0} → false ≡ true → A
  none never = absurd (cc)
opened_stays tree client (Some fd) (Err why) mode k is = unaltered tree k
opened_stays tree client None file mode k is = unaltered tree k

closes : (descriptor : Option Descriptor) (ino : Ino) → opens_it ino.0 descriptor ≡ true → opened (descriptor ∷ []) 0 ≡ Ok ino
closes (Some descriptor) ino is = ap (λ (n : ℕ). Ok (numbered n)) (eqb-true descriptor.ino.0 ino.0 is)
closes None ino is = absurd (cc)

closed_stays : (tree : Tree) (client : ClientId) (fd : ℕ) (ino : Ino) → opened (table_of tree client) fd ≢ Ok ino → Stays tree (with_descriptor tree client fd None) ino.0
closed_stays tree client fd ino other = descriptor_stays tree client fd None ino.0 (λ is_open_here. absurd (other (closes (get_or (table_of tree client) fd None) ino is_open_here)))

-- ---- every such call

carried_stays : (tree : Tree) (client : ClientId) (call : Call) (new : Option Ino) (ino : Ino) → IsClean tree → is_change call ≡ false → ¬ (IsOfFile tree client call ino) → node_at (carried_out tree client call new) ino ≡ node_at tree ino
carried_stays tree client (Create path) new ino clean unchanging other = absurd (cc)
carried_stays tree client (Mkdir path) new ino clean unchanging other = absurd (cc)
carried_stays tree client (Unlink path) new ino clean unchanging other = absurd (cc)
carried_stays tree client (Rmdir path) new ino clean unchanging other = absurd (cc)
carried_stays tree client (Rename path goal) new ino clean unchanging other = absurd (cc)
carried_stays tree client (Open path mode) new ino clean unchanging other = swept_stays tree _ ino.0 clean (opened_stays tree client (least_unused (table_of tree client)) (file_named tree path) mode ino.0 refl)
carried_stays tree client (Close fd) new ino clean unchanging other = swept_stays tree _ ino.0 clean (closed_stays tree client fd ino other)
carried_stays tree client (Read fd offset len) new ino clean unchanging other = refl
carried_stays tree client (Write fd offset bytes) new ino clean unchanging other =
    swept_stays tree _ ino.0 clean (bytes_stay tree client (λ contents. written contents offset bytes) (within_limit (offset + length bytes) (writable (table_of tree client) fd)) ino.0
    (limit_apart (offset + length bytes) (writable (table_of tree client) fd) ino other))
carried_stays tree client (Truncate fd size) new ino clean unchanging other =
    swept_stays tree _ ino.0 clean (bytes_stay tree client (λ contents. resized contents size) (within_limit size (writable (table_of tree client) fd)) ino.0
    (limit_apart size (writable (table_of tree client) fd) ino other))
carried_stays tree client (Stat path) new ino clean unchanging other = refl
carried_stays tree client (Readdir path) new ino clean unchanging other = refl
carried_stays tree client (Fsync fd) new ino clean unchanging other = refl

called_stays : (tree : Tree) (client : ClientId) (call : Call) (reply : Reply) (new : Option Ino) (ino : Ino) → IsClean tree → is_change call ≡ false → ¬ (IsOfFile tree client call ino) → node_at (after_call tree client call reply new) ino ≡ node_at tree ino
called_stays tree client call Done new ino clean unchanging other = carried_stays tree client call new ino clean unchanging other
called_stays tree client call (Fd fd) new ino clean unchanging other = carried_stays tree client call new ino clean unchanging other
called_stays tree client call (Bytes bytes) new ino clean unchanging other = carried_stays tree client call new ino clean unchanging other
called_stays tree client call (Count count) new ino clean unchanging other = carried_stays tree client call new ino clean unchanging other
called_stays tree client call (File size) new ino clean unchanging other = carried_stays tree client call new ino clean unchanging other
called_stays tree client call Dir new ino clean unchanging other = carried_stays tree client call new ino clean unchanging other
called_stays tree client call (Listed names) new ino clean unchanging other = carried_stays tree client call new ino clean unchanging other
called_stays tree client call (Refused why) new ino clean unchanging other = refl

pub call_leaves : (history : List Entry) (client : ClientId) (number : ℕ) (call : Call) (reply : Reply) (new : Option Ino) (ino : Ino) → is_change call ≡ false → ¬ (IsOfFile (tree_of history) client call ino)
    → node_at (after (tree_of history) (Called client number call reply new)) ino ≡ node_at (tree_of history) ino
call_leaves history client number call reply new ino unchanging other = called_stays (tree_of history) client call reply new ino (history_clean history) unchanging other

pub flush_leaves : (history : List Entry) (client : ClientId) (file ino : Ino) → ino.0 ≢ file.0 → node_at (after (tree_of history) (Flush client file)) ino ≡ node_at (tree_of history) ino
flush_leaves history client file ino apart =
    let tree : Tree = tree_of history in
    swept_stays tree (with_node tree file.0 (flushed_node (node_at tree file))) ino.0 (history_clean history) (set_stays tree file.0 ino.0 (flushed_node (node_at tree file)) (flushed_names (node_at tree file)) apart)
