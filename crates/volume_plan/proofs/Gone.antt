-- What becomes of an inode that loses its last name.
use Rattle.std.proofs.Common.{◌≡◌, ◌≢◌, ◌≤◌, ◌<◌, ◌+◌, ◌&&◌, ◌||◌, ℕ, zero, suc, Bool, true, false, not, List, [], ◌∷◌, replicate, get_or, slice_get, slice_index, Option, Some, None, inl, inr, is_none, refl, sym, ap, subst, ◌∙◌, arith, if◌then◌else◌}
use Rattle.cal_base.specs.Limits as limits
use Rattle.std.proofs.lemmas.Bool.{cases_lt, ne_eqb}
use Rattle.std.specs.List.{list_any}
use Rattle.cal_base.specs.declared.identity.ClientId.{ClientId}
use Rattle.cal_base.specs.declared.identity.Ino.{Ino}
use Rattle.inode.specs.Inode.{IsFileInode, IsInode, KindAllows}
use Rattle.inode.specs.declared.inode.Inode.{Inode}
use Rattle.inode.specs.declared.inode.Kind.{Kind}
use Rattle.inode.specs.declared.inode.Kind.TheVariants.{Free, File, Dir}
use Rattle.tree_law.proofs.IdleLemmas.{node_of, swept_node, swept_node_above}
use Rattle.tree_law.specs.FileState.{FileState}
use Rattle.tree_law.specs.Idle.{is_flushed_file, is_idle, is_named, is_open, opens_it, swept}
use Rattle.tree_law.specs.Tree.{Tree, descriptor_at}
use Rattle.tree_law.specs.declared.descriptor.Descriptor.{Descriptor}
use Rattle.tree_law.specs.declared.node.Node.{Node}
use Rattle.tree_law.specs.declared.node.Node.TheVariants.{Directory, Regular}
use Rattle.volume.proofs.First.{free_is}
use Rattle.volume.specs.Stands.{AreBlocksKept, StandsForFile, StandsForNode, StandsForNothing}
use Rattle.volume.specs.Volume.{Volume}
use Rattle.volume_edit.specs.Blocks.{IsPointing}
use Rattle.volume_edit.specs.Edit.{HasSlots, IsInodeEdit, IsVolume, free_inode, inode_at}
use Rattle.volume_plan.specs.Plans.{inode_gone, is_opened, nameless, orphan}
use Rattle.volume_plan.proofs.Frames.{SameBytes, idle_file, idle_nameless, stands_later, swept_named}
use Rattle.volume_plan.proofs.Similar.{inode_there}

-- ---- an inode that is free, or an orphan, is one

orphan_file : (inode : Inode) → IsFileInode inode → IsFileInode (orphan inode)
orphan_file inode f = record { size = f.size; holes = f.holes }

orphan_is : (inode : Inode) → inode.kind ≡ File → IsInode inode → IsInode (orphan inode)
orphan_is inode kind is = record {
  count = is.count;
  pointers = is.pointers;
  allowed = subst (λ (k : Kind). KindAllows k (orphan inode)) (sym kind) (orphan_file inode (subst (λ (k : Kind). KindAllows k inode) kind is.allowed));
}

nameless_is : (kind : Kind) (inode : Inode) (opened : Bool) → inode.kind ≡ kind → IsInode inode → IsInode (nameless kind inode opened)
nameless_is File inode true kind is = orphan_is inode kind is
nameless_is File inode false kind is = free_is
nameless_is Dir inode opened kind is = free_is
nameless_is Free inode opened kind is = free_is

nameless_slots : (kind : Kind) (inode : Inode) (opened : Bool) → inode.kind ≡ kind → HasSlots (nameless kind inode opened).kind (nameless kind inode opened) []
nameless_slots File inode true kind = subst (λ (k : Kind). HasSlots k (orphan inode) []) (sym kind) refl
nameless_slots File inode false kind = refl
nameless_slots Dir inode opened kind = refl
nameless_slots Free inode opened kind = refl

pub gone_edit : (v : Volume) (opened : List Ino) (ino : Ino) → 1 ≤ ino.0 → ino.0 < limits.inodes → IsInode (inode_at v.inodes ino.0) → IsInodeEdit (inode_gone v opened ino)
gone_edit v opened ino from to is = record {
  from_one = from;
  to_511 = to;
  inode = nameless_is (inode_at v.inodes ino.0).kind (inode_at v.inodes ino.0) (is_opened opened ino) refl is;
  empty = nameless_slots (inode_at v.inodes ino.0).kind (inode_at v.inodes ino.0) (is_opened opened ino) refl;
}

-- ---- it points at no other blocks

zeros_there : (n place : ℕ) → get_or (replicate {A = ℕ} n 0) place 0 ≡ 0
zeros_there zero place = refl
zeros_there (suc n) zero = refl
zeros_there (suc n) (suc place) = zeros_there n place

free_points : (place block : ℕ) → slice_index (free_inode).blocks place ≡ block + 1 → ⊥
free_points place block is = (let none : get_or (replicate {A = ℕ} 64 0) place 0 ≡ 0 = zeros_there 64 place in absurd (omega arith))

pub nameless_points : (kind : Kind) (inode : Inode) (opened : Bool) (place block : ℕ) → slice_index (nameless kind inode opened).blocks place ≡ block + 1 → slice_index inode.blocks place ≡ block + 1
nameless_points File inode true place block is = is
nameless_points File inode false place block is = absurd (free_points place block is)
nameless_points Dir inode opened place block is = absurd (free_points place block is)
nameless_points Free inode opened place block is = absurd (free_points place block is)

pub gone_points : (v : Volume) (opened : List Ino) (ino : Ino) → IsVolume v → AreBlocksKept v → ino.0 < limits.inodes → IsPointing v (inode_gone v opened ino)
gone_points v opened ino is kept within =
    let old : Inode = inode_at v.inodes ino.0 in
    let points : (place block : ℕ) → slice_index (nameless old.kind old (is_opened opened ino)).blocks place ≡ block + 1 → slice_index old.blocks place ≡ block + 1 = nameless_points old.kind old (is_opened opened ino) in
    let there : slice_get v.inodes ino.0 ≡ Some old = inode_there v is ino.0 within in
    record {
      known = λ place block names. inl (points place block names);
      apart = λ place other block one two. (kept.apart ino.0 ino.0 place other block (record { inode = old; there = there; names = points place block one }) (record { inode = old; there = there; names = points other block two })).1;
    }

-- ---- a file that isn't listed as open is not open

table_not : (table : List (Option Descriptor)) (number : ℕ) → ((fd : ℕ) (d : Descriptor) → get_or table fd None ≡ Some d → d.ino.0 ≢ number) → list_any (opens_it number) table ≡ false
table_not [] number none = refl
table_not (Some d ∷ table) number none = (λ i. ne_eqb d.ino.0 number (none 0 d refl) i || table_not table number (λ fd other. none (suc fd) other) i)
table_not (None ∷ table) number none = table_not table number (λ fd other. none (suc fd) other)

tables_not : (tables : List (List (Option Descriptor))) (number : ℕ) → ((client fd : ℕ) (d : Descriptor) → get_or (get_or tables client []) fd None ≡ Some d → d.ino.0 ≢ number) → list_any (list_any (opens_it number)) tables ≡ false
tables_not [] number none = refl
tables_not (table ∷ tables) number none = (λ i. table_not table number (λ fd d. none 0 fd d) i || tables_not tables number (λ client fd d. none (suc client) fd d) i)

pub not_open : (tree : Tree) (opened : List Ino) (ino : Ino) → ((other : ClientId) (fd : ℕ) (d : Descriptor) → descriptor_at tree other fd ≡ Some d → is_opened opened d.ino ≡ true) → is_opened opened ino ≡ false → is_open tree ino.0 ≡ false
not_open tree opened ino lists not_listed =
    tables_not tree.tables ino.0 (λ client fd d at same. (let listed : is_opened opened ino ≡ true = subst (λ (n : ℕ). is_opened opened (record { 0 = n }) ≡ true) same (lists (record { 0 = client }) fd d at) in absurd (cc)))

-- ---- what stands there when the tree is swept

-- an inode that stands for a node stands for what the sweep leaves of it
pub swept_at : (sectors : List (List ℕ)) (v : Volume) (tree : Tree) (number : ℕ) (inode : Inode) → StandsForNode sectors v tree number inode (node_of tree number) → StandsForNode sectors v (swept tree) number inode (node_of (swept tree) number)
swept_at sectors v tree number inode s =
    let named : is_named (swept tree) number ≡ is_named tree number = swept_named tree number in
    let later : (node : Option Node) → StandsForNode sectors v tree number inode node → StandsForNode sectors v (swept tree) number inode node =
    λ node stands. stands_later sectors sectors v v tree (swept tree) number inode node refl named (λ kind i. refl) stands in
    elim (cases_lt number 512) [
      | inl below ↦ subst (λ (node : Option Node). StandsForNode sectors v (swept tree) number inode node) (sym (swept_node tree 512 number below))
          (elim (is_idle tree number) as (λ b. is_idle tree number ≡ b → StandsForNode sectors v (swept tree) number inode (if b then None else node_of tree number)) [
            | true ↦ λ e. dropped_stands sectors v tree number inode (node_of tree number) (idle_file tree number e) (idle_nameless tree number e) s
            | false ↦ λ e. later (node_of tree number) s
          ] refl)
      | inr above ↦ subst (λ (node : Option Node). StandsForNode sectors v (swept tree) number inode node) (sym (swept_node_above tree 512 number above)) (later (node_of tree number) s)
    ]
  where
    dropped_stands : (sectors : List (List ℕ)) (v : Volume) (tree : Tree) (number : ℕ) (inode : Inode) (node : Option Node) → is_flushed_file node ≡ true → is_named tree number ≡ false → StandsForNode sectors v tree number inode node → StandsForNothing inode
    dropped_stands sectors v tree number inode (Some (Directory names)) file nameless s = absurd (cc)
    dropped_stands sectors v tree number inode (Some (Regular f)) file nameless s = inr (s.kind, s.named ∙ nameless)
    dropped_stands sectors v tree number inode None file nameless s = s

-- a tree in which a file has no name any more, or a directory is gone
pub data Loses (sectors : List (List ℕ)) (inode : Inode) (tree less : Tree) (number : ℕ) : Type 0 where
  a_file : (file : FileState) → StandsForFile sectors inode tree number file → file.writer ≡ None → node_of less number ≡ Some (Regular file) → is_named less number ≡ false → Loses sectors inode tree less number
  a_directory : inode.kind ≡ Dir → node_of less number ≡ None → Loses sectors inode tree less number

-- nobody has it open: it is dropped
all_false : (a b c : Bool) → a ≡ true → b ≡ false → c ≡ false → (a && not b && not c) ≡ true
all_false true false false p q r = refl
all_false true false true p q r = absurd (cc)
all_false true true c p q r = absurd (cc)
all_false false b c p q r = absurd (cc)

is_dropped : (tree : Tree) (number : ℕ) (file : FileState) → number < limits.inodes → node_of tree number ≡ Some (Regular file) → file.writer ≡ None → is_open tree number ≡ false → is_named tree number ≡ false → node_of (swept tree) number ≡ None
is_dropped tree number file within at flushed shut nameless =
    let idle : is_idle tree number ≡ true = all_false (is_flushed_file (node_of tree number)) (is_open tree number) (is_named tree number) (ap is_flushed_file at ∙ ap is_none flushed) shut nameless in
    swept_node tree 512 number within ∙ ap (λ (b : Bool). if b then None else node_of tree number) idle

orphan_stands : (sectors others : List (List ℕ)) (w : Volume) (inode : Inode) (tree less : Tree) (number : ℕ) (file : FileState) → SameBytes sectors others inode → StandsForFile sectors inode tree number file → is_named less number ≡ false
    → StandsForFile others (orphan inode) less number file
orphan_stands sectors others w inode tree less number file bytes s nameless = record {
  kind = s.kind;
  size = s.size;
  bytes = λ i. bytes s.kind i ∙ s.bytes i;
  named = sym nameless;
}

-- what is left of it stands for what the sweep leaves: a file that is listed as open may stay
pub gone_stands : (sectors others : List (List ℕ)) (w : Volume) (inode : Inode) (tree less : Tree) (number : ℕ) (opened : Bool) → number < limits.inodes → SameBytes sectors others inode → (opened ≡ false → is_open less number ≡ false)
    → Loses sectors inode tree less number → StandsForNode others w (swept less) number (nameless inode.kind inode opened) (node_of (swept less) number)
gone_stands sectors others w inode tree less number true within bytes shut (a_file file s flushed at unnamed) =
    subst (λ (k : Kind). StandsForNode others w (swept less) number (nameless k inode true) (node_of (swept less) number)) (sym s.kind)
    (swept_at others w less number (orphan inode) (subst (λ (node : Option Node). StandsForNode others w less number (orphan inode) node) (sym at) (orphan_stands sectors others w inode tree less number file bytes s unnamed)))
gone_stands sectors others w inode tree less number false within bytes shut (a_file file s flushed at unnamed) =
    subst (λ (k : Kind). StandsForNode others w (swept less) number (nameless k inode false) (node_of (swept less) number)) (sym s.kind)
    (subst (λ (node : Option Node). StandsForNode others w (swept less) number free_inode node) (sym (is_dropped less number file within at flushed (shut refl) unnamed)) (inl refl))
gone_stands sectors others w inode tree less number opened within bytes shut (a_directory kind at) =
    subst (λ (k : Kind). StandsForNode others w (swept less) number (nameless k inode opened) (node_of (swept less) number)) (sym kind)
    (swept_at others w less number free_inode (subst (λ (node : Option Node). StandsForNode others w less number free_inode node) (sym at) (inl refl)))
