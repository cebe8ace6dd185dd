-- What is read after a write.
use Rattle.std.proofs.Common.{◌≡◌, ◌≤◌, ◌<◌, ◌+◌, ◌-◌, nat_lt, inl, inr, ℕ, zero, suc, Bool, true, false, List, [], ◌∷◌, ◌++◌, length, take, drop, replicate, Option, Some, None, Result, Ok, Err, get_or, set, refl, sym, ap, ◌∙◌, subst, arith, if◌then◌else◌}
use Rattle.std.proofs.lemmas.Bool.{cases_lt}
use Rattle.cal_base.specs.declared.identity.ClientId.{ClientId}
use Rattle.cal_base.specs.declared.identity.Ino.{Ino}
use Rattle.file_bytes.specs.Bytes.{read_at, written, grown}
use Rattle.tree_law.specs.PartOf.{kind_of}
use Rattle.cal_base.specs.declared.directory_entry.EntryKind.TheVariants.{File as IsFile}
use Rattle.tree_facts.specs.Writing.{IsWrite}
use Rattle.std.proofs.lemmas.List.{length-replicate, length-take-le, length-append}
use Rattle.tree_law.specs.Tree.{Tree, node_at, contents_of, table_of}
use Rattle.tree_law.specs.Descriptors.{readable, writable, within_limit}
use Rattle.tree_law.specs.Idle.{is_idle, is_flushed_file, with_node, swept}
use Rattle.tree_law.specs.After.{changed_node, with_bytes}
use Rattle.tree_law.specs.Answer.{answer, bytes_of, told_at, counted}
use Rattle.tree_law.specs.Legal.{after}
use Rattle.tree_law.specs.declared.descriptor.Descriptor.{Descriptor}
use Rattle.tree_law.specs.declared.node.Node.{Node}
use Rattle.tree_law.specs.declared.node.Node.TheVariants.{Directory, Regular}
use Rattle.tree_law.specs.declared.call.Call.TheVariants.{Read, Write}
use Rattle.tree_law.specs.declared.reply.Reply.TheVariants.{Bytes, Count}
use Rattle.tree_law.specs.declared.reply.Why.{Why}
use Rattle.tree_law.specs.declared.reply.Why.TheVariants.{FBig}
use Rattle.tree_law.specs.declared.entry.Entry.TheVariants.{Call as Called}
use Rattle.tree_law.proofs.IdleLemmas.{node_of, swept_node, swept_node_above, swept_tables}
use Rattle.tree_law.proofs.ByteLemmas.{read_back, gap_is_zero}

-- what isn't a flushed file isn't idle, and stands as it was when the tree is swept
pub not_idle : (tree : Tree) (k : ℕ) → is_flushed_file (node_of tree k) ≡ false → is_idle tree k ≡ false
not_idle tree k busy = cc

pub still_there : (tree : Tree) (k : ℕ) → is_idle tree k ≡ false → node_of (swept tree) k ≡ node_of tree k
still_there tree k busy = elim (cases_lt k 512) [
  | inl below ↦ swept_node tree 512 k below ∙ ap (λ (b : Bool). if b then None else node_of tree k) busy
  | inr above ↦ swept_node_above tree 512 k above
]

-- a write that is counted is within the limit
counted_within : (end count : ℕ) (ino : Ino) → counted count (within_limit end (Ok ino)) ≡ Count count → within_limit end (Ok ino) ≡ Ok ino
counted_within end count ino is =
    elim (nat_lt 262144 end) as (λ b. counted count (if b then Err FBig else Ok ino) ≡ Count count → (if b then Err FBig else Ok ino) ≡ Ok ino) [
      | true ↦ λ e. absurd (cc)
      | false ↦ λ e. refl
    ] is

abbrev IsFileAt : Option Node → Type 0
IsFileAt node = kind_of node ≡ Some IsFile

written_there : (client : ClientId) (change : List ℕ → List ℕ) (nodes : List (Option Node)) (m : ℕ) → IsFileAt (get_or nodes m None)
    → get_or (set nodes m (changed_node client change (get_or nodes m None))) m None ≡ changed_node client change (get_or nodes m None)
written_there client change [] m file = absurd (cc)
written_there client change (place ∷ nodes) zero file = refl
written_there client change (place ∷ nodes) (suc m) file = written_there client change nodes m file

changed_bytes : (client : ClientId) (change : List ℕ → List ℕ) (node : Option Node) → IsFileAt node → contents_of (changed_node client change node) ≡ change (contents_of node)
changed_bytes client change (Some (Directory names)) file = absurd (cc)
changed_bytes client change (Some (Regular state)) file = refl
changed_bytes client change None file = absurd (cc)

changed_busy : (client : ClientId) (change : List ℕ → List ℕ) (node : Option Node) → is_flushed_file (changed_node client change node) ≡ false
changed_busy client change (Some (Directory names)) = refl
changed_busy client change (Some (Regular state)) = refl
changed_busy client change None = refl

-- bytes that a client changed stand in the tree, which has a writer there
bytes_changed : (tree : Tree) (client : ClientId) (change : List ℕ → List ℕ) (ino : Ino) → IsFileAt (node_at tree ino)
    → contents_of (node_of (swept (with_node tree ino.0 (changed_node client change (node_at tree ino)))) ino.0) ≡ change (contents_of (node_at tree ino))
bytes_changed tree client change ino file =
    let later : Tree = with_node tree ino.0 (changed_node client change (node_at tree ino)) in
    let there : node_of later ino.0 ≡ changed_node client change (node_at tree ino) = written_there client change tree.nodes ino.0 file in
    ap contents_of (still_there later ino.0 (not_idle later ino.0 (ap is_flushed_file there ∙ changed_busy client change (node_at tree ino))) ∙ there)
    ∙ changed_bytes client change (node_at tree ino) file

-- the tree after a write
abbrev pub later : Tree → ClientId → ℕ → ℕ → ℕ → List ℕ → Tree
later tree client number fd offset bytes = after tree (Called client number (Write fd offset bytes) (Count (length bytes)) None)

write_bytes : (tree : Tree) (client : ClientId) (number fd offset : ℕ) (bytes : List ℕ) (ino : Ino) → IsWrite tree client fd offset bytes ino
    → contents_of (node_at (later tree client number fd offset bytes) ino) ≡ written (contents_of (node_at tree ino)) offset bytes
write_bytes tree client number fd offset bytes ino w =
    let end : ℕ = offset + length bytes in
    let within : within_limit end (writable (table_of tree client) fd) ≡ Ok ino =
    subst (λ (r : Result Ino Why). counted (length bytes) (within_limit end r) ≡ Count (length bytes) → within_limit end r ≡ Ok ino) (sym w.through) (counted_within end (length bytes) ino) w.counted in
    ap (λ (r : Result Ino Why). contents_of (node_of (swept (with_bytes tree client (λ contents. written contents offset bytes) r)) ino.0)) within
    ∙ bytes_changed tree client (λ contents. written contents offset bytes) ino w.file

bytes_tables : (tree : Tree) (client : ClientId) (change : List ℕ → List ℕ) (file : Result Ino Why) → (with_bytes tree client change file).tables ≡ tree.tables
bytes_tables tree client change (Ok ino) = refl
bytes_tables tree client change (Err why) = refl

write_tables : (tree : Tree) (client : ClientId) (number fd offset : ℕ) (bytes : List ℕ) → (later tree client number fd offset bytes).tables ≡ tree.tables
write_tables tree client number fd offset bytes = swept_tables _ 512 ∙ bytes_tables tree client _ (within_limit (offset + length bytes) (writable (table_of tree client) fd))

-- what a read is told after a write
read_after : (tree : Tree) (client reader : ClientId) (number fd offset : ℕ) (bytes : List ℕ) (ino : Ino) (other from count : ℕ) → IsWrite tree client fd offset bytes ino → readable (table_of tree reader) other ≡ Ok ino
    → answer (later tree client number fd offset bytes) reader (Read other from count) ≡ Bytes (read_at (written (contents_of (node_at tree ino)) offset bytes) from count)
read_after tree client reader number fd offset bytes ino other from count w opens =
    let behind : readable (table_of (later tree client number fd offset bytes) reader) other ≡ Ok ino =
    ap (λ (tables : List (List (Option Descriptor))). readable (get_or tables reader.0 []) other) (write_tables tree client number fd offset bytes) ∙ opens in
    ap (told_at (bytes_of from count) (later tree client number fd offset bytes)) behind
    ∙ ap (λ (contents : List ℕ). Bytes (read_at contents from count)) (write_bytes tree client number fd offset bytes ino w)

pub reads_back : (tree : Tree) (client reader : ClientId) (number fd other offset : ℕ) (bytes : List ℕ) (ino : Ino) → IsWrite tree client fd offset bytes ino → readable (table_of tree reader) other ≡ Ok ino
    → answer (later tree client number fd offset bytes) reader (Read other offset (length bytes)) ≡ Bytes bytes
reads_back tree client reader number fd other offset bytes ino w opens =
    read_after tree client reader number fd offset bytes ino other offset (length bytes) w opens
    ∙ ap Bytes (read_back (contents_of (node_at tree ino)) offset bytes)

one_at : (xs : List ℕ) (i : ℕ) → i < length xs → take 1 (drop i xs) ≡ get_or xs i 0 ∷ []
one_at [] i below = absurd (omega arith)
one_at (x ∷ xs) zero below = refl
one_at (x ∷ xs) (suc i) below = one_at xs i (omega arith)

reaches : (contents : List ℕ) (offset : ℕ) (bytes : List ℕ) → offset ≤ length (written contents offset bytes)
reaches contents offset bytes =
    let longer : List ℕ = grown contents (offset + length bytes) in
    let long : offset ≤ length longer = omega (arith, length-append contents (replicate (offset + length bytes - length contents) 0), length-replicate {A = ℕ} (offset + length bytes - length contents) 0) in
    omega (arith, length-append (take offset longer) (bytes ++ drop (offset + length bytes) longer), length-take-le offset longer long)

pub gap_reads_zero : (tree : Tree) (client reader : ClientId) (number fd other offset place : ℕ) (bytes : List ℕ) (ino : Ino) → IsWrite tree client fd offset bytes ino → readable (table_of tree reader) other ≡ Ok ino
    → length (contents_of (node_at tree ino)) ≤ place → place < offset
    → answer (later tree client number fd offset bytes) reader (Read other place 1) ≡ Bytes (0 ∷ [])
gap_reads_zero tree client reader number fd other offset place bytes ino w opens past below =
    let contents : List ℕ = contents_of (node_at tree ino) in
    read_after tree client reader number fd offset bytes ino other place 1 w opens
    ∙ ap Bytes (one_at (written contents offset bytes) place (omega (arith, reaches contents offset bytes)) ∙ ap (λ (byte : ℕ). byte ∷ []) (gap_is_zero contents offset bytes place past below))
