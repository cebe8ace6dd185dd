-- The nodes that a volume shows, number by number.
use Rattle.std.proofs.Common.{◌≡◌, ℕ, zero, suc, List, [], ◌∷◌, length, None, get_or, refl, sym, ◌∙◌, arith}
use Rattle.inode.specs.declared.inode.Inode.{Inode}
use Rattle.tree_law.specs.Tree.{node_at}
use Rattle.volume.specs.Volume.{Slots, Volume, slots_of}
use Rattle.volume_edit.specs.Edit.{IsVolume, free_inode, inode_at}
use Rattle.volume_plan.specs.Shown.{shown, shown_as, shown_nodes}

shown_get : (inodes : List Inode) (directories : List Slots) (number : ℕ) → length inodes ≡ length directories
    → get_or (shown_nodes inodes directories) number None ≡ shown_as (get_or inodes number free_inode).kind (get_or inodes number free_inode).named (get_or directories number [])
unfolding shown_nodes
shown_get [] directories number long = refl
shown_get (inode ∷ inodes) [] number long = absurd (omega arith)
shown_get (inode ∷ inodes) (slots ∷ directories) zero long = refl
shown_get (inode ∷ inodes) (slots ∷ directories) (suc number) long = shown_get inodes directories number (omega arith)

-- what a volume shows at a number is what its inode and its slots say
pub shown_at : (v : Volume) (number : ℕ) → IsVolume v → node_at (shown v) (record { 0 = number }) ≡ shown_as (inode_at v.inodes number).kind (inode_at v.inodes number).named (slots_of v number)
shown_at v number is = shown_get v.inodes v.directories number (is.inode_count ∙ sym is.directory_count)
