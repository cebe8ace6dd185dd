-- A file that is open keeps its bytes when names come and go.
use Rattle.std.proofs.Common.{◌≡◌, ◌==◌, ◌&&◌, ◌||◌, inl, inr, ℕ, zero, suc, Bool, true, false, not, List, [], ◌∷◌, Option, Some, None, Result, Ok, Err, get_or, set, refl, ap, ◌∙◌, eq-eqb, if◌then◌else◌}
use Rattle.std.proofs.lemmas.Bool.{cases_lt}
use Rattle.std.specs.List.{list_any}
use Rattle.cal_base.specs.declared.identity.ClientId.{ClientId}
use Rattle.cal_base.specs.declared.identity.Ino.{Ino}
use Rattle.file_bytes.specs.Bytes.{read_at}
use Rattle.tree_law.specs.Tree.{Tree, node_at, contents_of, descriptor_at}
use Rattle.tree_law.specs.Resolve.{parent_of, last_of}
use Rattle.tree_law.specs.Descriptors.{file_behind, reads}
use Rattle.tree_law.specs.Idle.{is_idle, is_open, is_named, is_flushed_file, opens_it, swept_below}
use Rattle.tree_law.specs.After.{without_name, without_entry}
use Rattle.tree_law.specs.Answer.{answer, bytes_of, told_at}
use Rattle.tree_law.specs.Legal.{after}
use Rattle.tree_law.specs.declared.descriptor.Descriptor.{Descriptor}
use Rattle.tree_law.specs.declared.node.Node.{Node}
use Rattle.tree_law.specs.declared.node.Node.TheVariants.{Directory, Regular}
use Rattle.tree_law.specs.declared.call.Call.TheVariants.{Unlink, Read}
use Rattle.tree_law.specs.declared.reply.Reply.TheVariants.{Bytes, Done}
use Rattle.tree_law.specs.declared.reply.Why.{Why}
use Rattle.tree_law.specs.declared.reply.Why.TheVariants.{BadF}
use Rattle.tree_law.specs.declared.entry.Entry.TheVariants.{Call as Called}
use Rattle.tree_law.proofs.IdleLemmas.{node_of, swept_node, swept_node_above, swept_tables}

same_number : (n : ℕ) → (n == n) ≡ true
same_number n = eq-eqb n n refl

or_right : (a b : Bool) → b ≡ true → (a || b) ≡ true
or_right true b e = refl
or_right false b e = e

-- a descriptor that stands for an inode opens it
opens_at : (places : List (Option Descriptor)) (fd : ℕ) (descriptor : Descriptor) → get_or places fd None ≡ Some descriptor → list_any (opens_it descriptor.ino.0) places ≡ true
opens_at [] fd descriptor is = absurd (cc)
opens_at (place ∷ places) zero descriptor is =
    ap (λ (p : Option Descriptor). opens_it descriptor.ino.0 p || list_any (opens_it descriptor.ino.0) places) is
    ∙ ap (λ (b : Bool). b || list_any (opens_it descriptor.ino.0) places) (same_number descriptor.ino.0)
opens_at (place ∷ places) (suc fd) descriptor is = or_right (opens_it descriptor.ino.0 place) (list_any (opens_it descriptor.ino.0) places) (opens_at places fd descriptor is)

open_at : (tables : List (List (Option Descriptor))) (client fd : ℕ) (descriptor : Descriptor) → get_or (get_or tables client []) fd None ≡ Some descriptor → list_any (list_any (opens_it descriptor.ino.0)) tables ≡ true
open_at [] client fd descriptor is = absurd (cc)
open_at (table ∷ tables) zero fd descriptor is =
    ap (λ (b : Bool). b || list_any (list_any (opens_it descriptor.ino.0)) tables) (opens_at table fd descriptor is)
open_at (table ∷ tables) (suc client) fd descriptor is =
    or_right (list_any (opens_it descriptor.ino.0) table) (list_any (list_any (opens_it descriptor.ino.0)) tables) (open_at tables client fd descriptor is)

-- what is open isn't idle
not_idle : (tree : Tree) (number : ℕ) → is_open tree number ≡ true → is_idle tree number ≡ false
not_idle tree number is =
    elim (is_flushed_file (node_of tree number)) as (λ b. (b && not (is_open tree number) && not (is_named tree number)) ≡ false) [
      | true ↦ ap (λ (b : Bool). not b && not (is_named tree number)) is
      | false ↦ refl
    ]

-- what isn't idle keeps its bytes when the tree is swept
swept_bytes : (tree : Tree) (n k : ℕ) → is_idle tree k ≡ false → contents_of (node_of (swept_below tree n) k) ≡ contents_of (node_of tree k)
swept_bytes tree n k busy = elim (cases_lt k n) [
  | inl below ↦ ap contents_of (swept_node tree n k below ∙ ap (λ (b : Bool). if b then None else node_of tree k) busy)
  | inr above ↦ ap contents_of (swept_node_above tree n k above)
]

name_bytes : (node : Option Node) (name : List ℕ) → contents_of (without_name node name) ≡ contents_of node
name_bytes (Some (Directory names)) name = refl
name_bytes (Some (Regular file)) name = refl
name_bytes None name = refl

names_bytes : (nodes : List (Option Node)) (m k : ℕ) (name : List ℕ) → contents_of (get_or (set nodes m (without_name (get_or nodes m None) name)) k None) ≡ contents_of (get_or nodes k None)
names_bytes [] m k name = refl
names_bytes (place ∷ nodes) zero zero name = name_bytes place name
names_bytes (place ∷ nodes) zero (suc k) name = refl
names_bytes (place ∷ nodes) (suc m) zero name = refl
names_bytes (place ∷ nodes) (suc m) (suc k) name = names_bytes nodes m k name

-- a name that goes leaves all bytes and descriptors
entry_bytes : (tree : Tree) (place : Result Ino Why) (path : List (List ℕ)) (k : ℕ) → contents_of (node_of (without_entry tree place path) k) ≡ contents_of (node_of tree k)
entry_bytes tree (Ok place) [] k = refl
entry_bytes tree (Ok place) (name ∷ names) k = names_bytes tree.nodes place.0 k (last_of (name ∷ names))
entry_bytes tree (Err why) path k = refl

entry_tables : (tree : Tree) (place : Result Ino Why) (path : List (List ℕ)) → (without_entry tree place path).tables ≡ tree.tables
entry_tables tree (Ok place) [] = refl
entry_tables tree (Ok place) (name ∷ names) = refl
entry_tables tree (Err why) path = refl

-- what is read through a descriptor is the same in a tree that keeps the bytes of what is open
told_same : (tree tree' : Tree) (offset len : ℕ) (place : Option Descriptor)
    → ((descriptor : Descriptor) → place ≡ Some descriptor → contents_of (node_at tree' descriptor.ino) ≡ contents_of (node_at tree descriptor.ino))
    → told_at (bytes_of offset len) tree' (file_behind reads place) ≡ told_at (bytes_of offset len) tree (file_behind reads place)
told_same tree tree' offset len None same = refl
told_same tree tree' offset len (Some descriptor) same =
    elim (reads descriptor.mode) as (λ b. told_at (bytes_of offset len) tree' (if b then Ok descriptor.ino else Err BadF) ≡ told_at (bytes_of offset len) tree (if b then Ok descriptor.ino else Err BadF)) [
      | true ↦ ap (λ (contents : List ℕ). Bytes (read_at contents offset len)) (same descriptor refl)
      | false ↦ refl
    ]

-- after a file's name is gone, whoever has it open reads as before
pub unlinked_reads : (tree : Tree) (client other : ClientId) (number : ℕ) (path : List (List ℕ)) (fd offset len : ℕ)
    → answer (after tree (Called client number (Unlink path) Done None)) other (Read fd offset len) ≡ answer tree other (Read fd offset len)
unlinked_reads tree client other number path fd offset len =
    let less : Tree = without_entry tree (parent_of tree path) path in
    let later : Tree = swept_below less 512 in
    let tables : later.tables ≡ tree.tables = swept_tables less 512 ∙ entry_tables tree (parent_of tree path) path in
    ap (λ (ts : List (List (Option Descriptor))). told_at (bytes_of offset len) later (file_behind reads (get_or (get_or ts other.0 []) fd None))) tables
    ∙ told_same tree later offset len (descriptor_at tree other fd) (λ descriptor is.
    swept_bytes less 512 descriptor.ino.0
    (not_idle less descriptor.ino.0 (ap (λ (ts : List (List (Option Descriptor))). list_any (list_any (opens_it descriptor.ino.0)) ts) (entry_tables tree (parent_of tree path) path) ∙ open_at tree.tables other.0 fd descriptor is))
    ∙ entry_bytes tree (parent_of tree path) path descriptor.ino.0)
