-- What becomes of a file that loses its last name.
use Rattle.std.specs.Prelude.{◌≡◌, Bool, true, false}
use Rattle.inode.specs.declared.inode.Inode.{Inode}
use Rattle.inode.specs.declared.inode.Kind.TheVariants.{File}
use Rattle.volume_edit.specs.Edit.{free_inode}

-- a file without a name, with the size and the blocks that it had
pub record IsOrphanOf (old inode : Inode) : Type 0 where
  pub kind : inode.kind ≡ File
  pub named : inode.named ≡ false
  pub size : inode.size ≡ old.size
  pub blocks : inode.blocks ≡ old.blocks

-- a file that is open is kept as an orphan, and every other is free
abbrev pub IsFreedOrKept : Bool → Inode → Inode → Type 0
IsFreedOrKept true old inode = IsOrphanOf old inode
IsFreedOrKept false old inode = inode ≡ free_inode
