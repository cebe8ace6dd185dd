use Rattle.std.proofs.Common.{ap, ◌∙◌}
use Rattle.cal_base.specs.Limits.{block_size}
use Rattle.cal_fields.specs.Padded.{padded}
use Rattle.inode.specs.Inode.{inode_fields}
use Rattle.inode.specs.declared.inode.Inode.{Inode}
use Rattle.volume.specs.Format.{root_sector}
use Rattle.volume.proofs.writes.first_root.Goals as goal

pub returns : goal.returns
unfolding root_sector
returns c = c.write_inode.ensures.whole ∙ ap (λ (i : Inode). padded block_size (inode_fields i)) c.empty_root.ensures.root
