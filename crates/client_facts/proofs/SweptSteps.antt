-- What is known goes on to follow the tree when the idle files go.
use Rattle.std.proofs.Common.{◌≡◌, ◌&&◌, ◌⊎◌, ◌<◌, ◌∷◌, inl, inr, ℕ, zero, suc, Bool, true, false, not, List, [], length, get_or, if◌then◌else◌, Option, Some, None, refl, sym, ap, subst, ◌∙◌, arith, ◌==◌, map}
use Rattle.std.specs.List.{list_any}
use Rattle.std.proofs.lemmas.Bool.{true≢false, cases_lt, eq-eqb}
use Rattle.cal_base.specs.declared.directory_entry.DirectoryEntry.{DirectoryEntry}
use Rattle.cal_base.specs.declared.directory_entry.EntryKind.TheVariants.{Directory as IsDirectory}
use Rattle.cal_base.specs.declared.identity.ClientId.{ClientId}
use Rattle.cal_base.specs.declared.identity.Ino.{Ino}
use Rattle.tree_law.proofs.IdleLemmas.{node_of, swept_node, swept_node_above, swept_tables}
use Rattle.tree_law.specs.Idle.{is_flushed_file, is_idle, is_named, is_open, names_it, opens_it, swept}
use Rattle.tree_law.specs.Names.{Names}
use Rattle.tree_law.specs.PartOf.{HasEntries, IsListing, kind_of}
use Rattle.tree_law.specs.Tree.{Tree, descriptor_at, node_at, table_of}
use Rattle.tree_law.specs.declared.descriptor.Descriptor.{Descriptor}
use Rattle.tree_law.specs.declared.node.Node.{Node}
use Rattle.tree_law.specs.declared.node.Node.TheVariants.{Directory, Regular}
use Rattle.client_cache.specs.Follows.{Follows}
use Rattle.client_cache.specs.Known.{Known, inode_at}
use Rattle.client_facts.proofs.FileSteps.{or_left, or_right}

-- a file that stands in the swept tree stood in the tree
pub swept_stands : (tree : Tree) (k : ℕ) (node : Node) → node_of (swept tree) k ≡ Some node → node_of tree k ≡ Some node
swept_stands tree k node e = elim (cases_lt k 512) [
  | inl below ↦ by (is_idle tree k) (sym (swept_node tree 512 k below) ∙ e)
  | inr above ↦ sym (swept_node_above tree 512 k above) ∙ e
]
  where
    by : (b : Bool) → (if b then None else node_of tree k) ≡ Some node → node_of tree k ≡ Some node
    by true e = absurd (cc)
    by false e = e

-- a test that a list passes at some place
any_at : {A : Type 0} (test : A → Bool) (xs : List A) (i : ℕ) (d : A) → test d ≡ false → test (get_or xs i d) ≡ true → list_any test xs ≡ true
any_at test [] i d none e = absurd (true≢false (sym e ∙ none))
any_at test (x ∷ xs) zero d none e = or_left (test x) (list_any test xs) e
any_at test (x ∷ xs) (suc i) d none e = or_right (test x) (list_any test xs) (any_at test xs i d none e)

-- what isn't a file, is open, or has a name isn't idle
unused_by : (flushed named : Bool) → (flushed && not true && not named) ≡ false
unused_by true named = refl
unused_by false named = refl

unnamed_by : (flushed used : Bool) → (flushed && not used && not true) ≡ false
unnamed_by true true = refl
unnamed_by true false = refl
unnamed_by false used = refl

directory_busy : (tree : Tree) (k : ℕ) → kind_of (node_of tree k) ≡ Some IsDirectory → is_idle tree k ≡ false
directory_busy tree k e = ap (λ (b : Bool). b && not (is_open tree k) && not (is_named tree k)) (by (node_of tree k) e)
  where
    by : (node : Option Node) → kind_of node ≡ Some IsDirectory → is_flushed_file node ≡ false
    by (Some (Directory names)) e = refl
    by (Some (Regular file)) e = absurd (cc)
    by None e = absurd (cc)

open_busy : (tree : Tree) (client : ClientId) (fd : ℕ) (descriptor : Descriptor) → descriptor_at tree client fd ≡ Some descriptor → is_idle tree descriptor.ino.0 ≡ false
open_busy tree client fd descriptor e =
    let used : is_open tree descriptor.ino.0 ≡ true = any_at (list_any (opens_it descriptor.ino.0)) tree.tables client.0 [] refl
    (any_at (opens_it descriptor.ino.0) (table_of tree client) fd None refl (ap (opens_it descriptor.ino.0) e ∙ eq-eqb descriptor.ino.0 descriptor.ino.0 refl)) in
    ap (λ (b : Bool). is_flushed_file (node_of tree descriptor.ino.0) && not b && not (is_named tree descriptor.ino.0)) used ∙ unused_by (is_flushed_file (node_of tree descriptor.ino.0)) (is_named tree descriptor.ino.0)

listed : (entries : List DirectoryEntry) (i : ℕ) (d : DirectoryEntry) → i < length entries
    → list_any (λ (ino : Ino). ino.0 == (get_or entries i d).ino.0) (map (λ (pair : List ℕ × Ino). pair.1) (map (λ entry. (entry.name, entry.ino)) entries)) ≡ true
listed [] i d within = absurd (omega (arith, within))
listed (entry ∷ entries) zero d within = or_left (entry.ino.0 == entry.ino.0) _ (eq-eqb entry.ino.0 entry.ino.0 refl)
listed (entry ∷ entries) (suc i) d within = or_right (entry.ino.0 == (get_or entries i d).ino.0) _ (listed entries i d (omega (arith, within)))

named_busy : (tree : Tree) (ino : Ino) (names : Names) (entries : List DirectoryEntry) (i : ℕ) (d : DirectoryEntry) → node_at tree ino ≡ Some (Directory names) → IsListing tree names entries → i < length entries
    → is_idle tree (get_or entries i d).ino.0 ≡ false
named_busy tree ino names entries i d at has within =
    let among : names_it (get_or entries i d).ino.0 (Some (Directory names)) ≡ true =
    ap (λ (row : List (List ℕ × Ino)). list_any (λ (ino : Ino). ino.0 == (get_or entries i d).ino.0) (map (λ (pair : List ℕ × Ino). pair.1) row)) (sym has.same) ∙ listed entries i d within in
    let named : is_named tree (get_or entries i d).ino.0 ≡ true = any_at (names_it (get_or entries i d).ino.0) tree.nodes ino.0 None refl (ap (names_it (get_or entries i d).ino.0) at ∙ among) in
    ap (λ (b : Bool). is_flushed_file (node_of tree (get_or entries i d).ino.0) && not (is_open tree (get_or entries i d).ino.0) && not b) named
    ∙ unnamed_by (is_flushed_file (node_of tree (get_or entries i d).ino.0)) (is_open tree (get_or entries i d).ino.0)

-- when the idle files go, what isn't idle stays, and elsewhere the same stands or nothing
stays : (tree : Tree) (k : ℕ) → is_idle tree k ≡ false → node_of (swept tree) k ≡ node_of tree k
stays tree k busy = elim (cases_lt k 512) [
  | inl below ↦ swept_node tree 512 k below ∙ ap (λ (b : Bool). if b then None else node_of tree k) busy
  | inr above ↦ swept_node_above tree 512 k above
]

goes_or_stays : (tree : Tree) (k : ℕ) → (node_of (swept tree) k ≡ None) ⊎ (node_of (swept tree) k ≡ node_of tree k)
goes_or_stays tree k = by (is_idle tree k) refl
  where
    by : (b : Bool) → is_idle tree k ≡ b → (node_of (swept tree) k ≡ None) ⊎ (node_of (swept tree) k ≡ node_of tree k)
    by true idle = elim (cases_lt k 512) as (λ _. (node_of (swept tree) k ≡ None) ⊎ (node_of (swept tree) k ≡ node_of tree k)) [
      | inl below ↦ inl (swept_node tree 512 k below ∙ ap (λ (b : Bool). if b then None else node_of tree k) idle)
      | inr above ↦ inr (swept_node_above tree 512 k above)
    ]
    by false busy = inr (stays tree k busy)

-- and what is known goes on to follow the tree
entries_swept : (tree : Tree) (ino : Ino) (node : Option Node) (entries : List DirectoryEntry) → node_at tree ino ≡ node → HasEntries tree node entries → HasEntries (swept tree) node entries
entries_swept tree ino (Some (Directory names)) entries at has = record {
  same = has.same;
  kinds = λ i d within. ap kind_of (stays tree (get_or entries i d).ino.0 (named_busy tree ino names entries i d at has within)) ∙ has.kinds i d within;
}
entries_swept tree ino (Some (Regular file)) entries at has = tt
entries_swept tree ino None entries at has = tt

pub swept_followed : (tree : Tree) (client : ClientId) (done : ℕ) (known : Known) → Follows tree client done known → Follows (swept tree) client done known
swept_followed tree client done known f = record {
  root_is = ap kind_of (stays tree 0 (directory_busy tree 0 f.root_is)) ∙ f.root_is;
  table = f.table ∙ sym same;
  open_files = λ fd descriptor e.
      (let before : descriptor_at tree client fd ≡ Some descriptor = ap (λ (table : List (Option Descriptor)). get_or table fd None) (sym same) ∙ e in
      ap kind_of (stays tree descriptor.ino.0 (open_busy tree client fd descriptor before)) ∙ f.open_files fd descriptor before);
  entries = λ ino held. elim (goes_or_stays tree ino.0) as (λ _. HasEntries (swept tree) (node_at (swept tree) ino) (inode_at known ino).entries) [
    | inl gone ↦ subst (λ (node : Option Node). HasEntries (swept tree) node (inode_at known ino).entries) (sym gone) tt
    | inr there ↦ subst (λ (node : Option Node). HasEntries (swept tree) node (inode_at known ino).entries) (sym there)
        (entries_swept tree ino (node_at tree ino) (inode_at known ino).entries refl (f.entries ino held))
  ];
  files = λ ino file e. f.files ino file (swept_stands tree ino.0 (Regular file) e);
}
  where
    same : table_of (swept tree) client ≡ table_of tree client
    same = ap (λ (tables : List (List (Option Descriptor))). get_or tables client.0 []) (swept_tables tree 512)
