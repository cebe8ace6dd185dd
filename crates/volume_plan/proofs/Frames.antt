-- What stands for a node stands for it later: where inode, slots, node and name are as before, and once idle
-- files are dropped.
use Rattle.std.proofs.Common.{◌≡◌, ◌&&◌, ◌||◌, ℕ, zero, suc, Bool, true, false, not, List, [], ◌∷◌, get_or, set, slice_get, Option, Some, None, inl, inr, refl, sym, ap, subst, ◌∙◌, if◌then◌else◌}
use Rattle.std.proofs.lemmas.Bool.{cases_lt}
use Rattle.std.specs.List.{list_any}
use Rattle.inode.specs.declared.inode.Inode.{Inode}
use Rattle.inode.specs.declared.inode.Kind.TheVariants.{File}
use Rattle.tree_law.proofs.IdleLemmas.{node_of, swept_node, swept_node_above}
use Rattle.tree_law.specs.Idle.{dropped, is_flushed_file, is_idle, is_named, is_open, names_it, swept, swept_below, with_node}
use Rattle.tree_law.specs.Tree.{Tree}
use Rattle.tree_law.specs.declared.node.Node.{Node}
use Rattle.tree_law.specs.declared.node.Node.TheVariants.{Directory, Regular}
use Rattle.volume.specs.Stands.{StandsForDirectory, StandsForNode, StandsForNothing}
use Rattle.volume.specs.Volume.{Slots, Volume, file_byte, slots_of}
use Rattle.volume_plan.proofs.Fits.{KeepsFiles, StandForNodes}

-- ---- one inode and its node

-- the bytes of a file are the same on other sectors
abbrev pub SameBytes : List (List ℕ) → List (List ℕ) → Inode → Type 0
SameBytes sectors others inode = inode.kind ≡ File → (i : ℕ) → file_byte others inode i ≡ file_byte sectors inode i

-- an inode that stands for a node does so on other sectors, in another volume and beside another tree, where
-- it has the same slots and bytes, and as much of a name
pub stands_later : (sectors others : List (List ℕ)) (v w : Volume) (a b : Tree) (number : ℕ) (inode : Inode) (node : Option Node) → slots_of w number ≡ slots_of v number → is_named b number ≡ is_named a number
    → SameBytes sectors others inode → StandsForNode sectors v a number inode node → StandsForNode others w b number inode node
stands_later sectors others v w a b number inode (Some (Directory names)) slots named bytes s = subst (λ (xs : Slots). StandsForDirectory inode xs names) (sym slots) s
stands_later sectors others v w a b number inode (Some (Regular file)) slots named bytes s = record {
  kind = s.kind;
  size = s.size;
  bytes = λ i. bytes s.kind i ∙ s.bytes i;
  named = s.named ∙ sym named;
}
stands_later sectors others v w a b number inode None slots named bytes s = s

pub keeps_bytes : (sectors others : List (List ℕ)) (v : Volume) (number : ℕ) (inode : Inode) → KeepsFiles v sectors others → slice_get v.inodes number ≡ Some inode → SameBytes sectors others inode
keeps_bytes sectors others v number inode keeps there kind i = keeps.same number inode there kind i

-- ---- files without name, descriptor and unflushed write go

names_nothing : (number : ℕ) (node : Option Node) → is_flushed_file node ≡ true → names_it number node ≡ false
names_nothing number (Some (Directory names)) is = absurd (cc)
names_nothing number (Some (Regular file)) is = refl
names_nothing number None is = refl

named_kept : (nodes : List (Option Node)) (m k : ℕ) → is_flushed_file (get_or nodes m None) ≡ true → list_any (names_it k) (set nodes m None) ≡ list_any (names_it k) nodes
named_kept [] m k is = refl
named_kept (x ∷ nodes) zero k is = ap (λ (b : Bool). b || list_any (names_it k) nodes) (sym (names_nothing k x is))
named_kept (x ∷ nodes) (suc m) k is = ap (λ (b : Bool). names_it k x || b) (named_kept nodes m k is)

-- what is idle is a file, and has no name
pub idle_file : (tree : Tree) (m : ℕ) → is_idle tree m ≡ true → is_flushed_file (node_of tree m) ≡ true
idle_file tree m is = first (is_flushed_file (node_of tree m)) (not (is_open tree m)) (not (is_named tree m)) is
  where
    first : (a b c : Bool) → (a && b && c) ≡ true → a ≡ true
    first true b c e = refl
    first false b c e = absurd (cc)

pub idle_nameless : (tree : Tree) (m : ℕ) → is_idle tree m ≡ true → is_named tree m ≡ false
idle_nameless tree m is = last (is_flushed_file (node_of tree m) && not (is_open tree m)) (is_named tree m) is
  where
    last : (a b : Bool) → (a && not b) ≡ true → b ≡ false
    last true true e = absurd (cc)
    last true false e = refl
    last false b e = absurd (cc)

dropped_named : (tree : Tree) (m k : ℕ) → is_named (dropped tree m) k ≡ is_named tree k
dropped_named tree m k = elim (is_idle tree m) as (λ b. is_idle tree m ≡ b → is_named (if b then with_node tree m None else tree) k ≡ is_named tree k) [
  | true ↦ λ e. named_kept tree.nodes m k (idle_file tree m e)
  | false ↦ λ e. refl
] refl

-- what is dropped leaves all names
swept_below_named : (tree : Tree) (n k : ℕ) → is_named (swept_below tree n) k ≡ is_named tree k
unfolding swept_below
swept_below_named tree zero k = refl
swept_below_named tree (suc n) k = dropped_named (swept_below tree n) n k ∙ swept_below_named tree n k

pub swept_named : (tree : Tree) (k : ℕ) → is_named (swept tree) k ≡ is_named tree k
swept_named tree k = swept_below_named tree 512 k

-- an inode that stands for a file that goes has no name, and so stands for nothing
gone_stands : (sectors : List (List ℕ)) (v : Volume) (tree : Tree) (number : ℕ) (inode : Inode) (node : Option Node) → is_flushed_file node ≡ true → is_named tree number ≡ false
    → StandsForNode sectors v tree number inode node → StandsForNothing inode
gone_stands sectors v tree number inode (Some (Directory names)) file nameless s = absurd (cc)
gone_stands sectors v tree number inode (Some (Regular f)) file nameless s = inr (s.kind, s.named ∙ nameless)
gone_stands sectors v tree number inode None file nameless s = s

swept_stands : (sectors : List (List ℕ)) (v : Volume) (tree : Tree) (number : ℕ) (inode : Inode) → StandsForNode sectors v tree number inode (node_of tree number)
    → StandsForNode sectors v tree number inode (if is_idle tree number then None else node_of tree number)
swept_stands sectors v tree number inode s = elim (is_idle tree number) as (λ b. is_idle tree number ≡ b → StandsForNode sectors v tree number inode (if b then None else node_of tree number)) [
  | true ↦ λ e. gone_stands sectors v tree number inode (node_of tree number) (idle_file tree number e) (idle_nameless tree number e) s
  | false ↦ λ e. s
] refl

-- inodes that stand for a tree stand for it without its idle files
pub stand_swept : (sectors : List (List ℕ)) (v : Volume) (tree : Tree) → StandForNodes sectors v tree → StandForNodes sectors v (swept tree)
stand_swept sectors v tree stand = record {
  node = λ number inode there.
      (let s = stand.node number inode there in
      let named = swept_named tree number in
      elim (cases_lt number 512) [
        | inl below ↦ subst (λ (node : Option Node). StandsForNode sectors v (swept tree) number inode node) (sym (swept_node tree 512 number below))
            (stands_later sectors sectors v v tree (swept tree) number inode _ refl named (λ kind i. refl) (swept_stands sectors v tree number inode s))
        | inr above ↦ subst (λ (node : Option Node). StandsForNode sectors v (swept tree) number inode node) (sym (swept_node_above tree 512 number above))
            (stands_later sectors sectors v v tree (swept tree) number inode _ refl named (λ kind i. refl) s)
      ]);
}
