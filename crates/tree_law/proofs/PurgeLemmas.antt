-- What a purge leaves.
use Rattle.std.proofs.Common.{◌≡◌, ◌≢◌, ◌<◌, ℕ, zero, suc, List, [], ◌∷◌, map, Option, None, get_or, set, replicate, refl, ap, ◌∙◌, if◌then◌else◌}
use Rattle.std.proofs.lemmas.List.{get_or-set_other}
use Rattle.cal_base.specs.declared.identity.ClientId.{ClientId}
use Rattle.cal_base.specs.declared.identity.Ino.{Ino}
use Rattle.tree_law.specs.Tree.{Tree, node_at, table_of, descriptor_at, no_descriptors}
use Rattle.tree_law.specs.Idle.{is_idle}
use Rattle.tree_law.specs.After.{restored_node, without_client}
use Rattle.tree_law.specs.Legal.{after}
use Rattle.tree_law.specs.declared.descriptor.Descriptor.{Descriptor}
use Rattle.tree_law.specs.declared.node.Node.{Node}
use Rattle.tree_law.specs.declared.entry.Entry.TheVariants.{Purge}
use Rattle.tree_law.proofs.IdleLemmas.{swept_node, swept_tables}

restored_at : (client : ClientId) (nodes : List (Option Node)) (k : ℕ) → get_or (map (restored_node client) nodes) k None ≡ restored_node client (get_or nodes k None)
restored_at client [] k = refl
restored_at client (place ∷ nodes) zero = refl
restored_at client (place ∷ nodes) (suc k) = restored_at client nodes k

same_at : {A : Type 0} (a : A) (n k : ℕ) → get_or (replicate n a) k a ≡ a
same_at a zero k = refl
same_at a (suc n) zero = refl
same_at a (suc n) (suc k) = same_at a n k

table_cleared : (tables : List (List (Option Descriptor))) (n k fd : ℕ) → get_or (get_or (set tables k (replicate n None)) k []) fd None ≡ None
table_cleared [] n k fd = refl
table_cleared (table ∷ tables) n zero fd = same_at {A = Option Descriptor} None n fd
table_cleared (table ∷ tables) n (suc k) fd = table_cleared tables n k fd

pub purged_nodes : (tree : Tree) (client : ClientId) (ino : Ino) → ino.0 < 512 → node_at (after tree (Purge client)) ino ≡ (if is_idle (without_client tree client) ino.0 then None else restored_node client (node_at tree ino))
purged_nodes tree client ino below =
    swept_node (without_client tree client) 512 ino.0 below
    ∙ ap (λ (node : Option Node). if is_idle (without_client tree client) ino.0 then None else node) (restored_at client tree.nodes ino.0)

pub purged_descriptors : (tree : Tree) (client : ClientId) (fd : ℕ) → descriptor_at (after tree (Purge client)) client fd ≡ None
purged_descriptors tree client fd =
    ap (λ (tables : List (List (Option Descriptor))). get_or (get_or tables client.0 []) fd None) (swept_tables (without_client tree client) 512)
    ∙ table_cleared tree.tables 32 client.0 fd

pub purged_others : (tree : Tree) (client other : ClientId) → other.0 ≢ client.0 → table_of (after tree (Purge client)) other ≡ table_of tree other
purged_others tree client other apart =
    ap (λ (tables : List (List (Option Descriptor))). get_or tables other.0 []) (swept_tables (without_client tree client) 512)
    ∙ get_or-set_other tree.tables client.0 other.0 no_descriptors [] apart
