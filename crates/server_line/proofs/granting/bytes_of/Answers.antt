use Rattle.std.proofs.Common.{◌∙◌, List, ℕ, sym, subst, true≢false}
use Rattle.volume_edit.specs.Edit.{inode_at}
use Rattle.cluster_law.specs.Granting.{AreBytes}
use Rattle.server_draft.specs.Acts.{places}
use Rattle.server_draft.specs.Draft.{reached}
use Rattle.server_line.proofs.Contents.{bytes-are, has-block, read-own}
use Rattle.server_line.proofs.granting.bytes_of.Goals as goal

pub returns-in-Ok-clause-bytes : goal.returns-in-Ok-clause-bytes
returns-in-Ok-clause-bytes g c = λ seat start tells.
    subst (λ (bytes : List ℕ). AreBytes (reached seat start c.args.draft.now).sectors (inode_at c.args.draft.now.image.inodes c.args.ino.0) bytes) (sym c.from_vec.ensures)
    (bytes-are start.sectors (reached seat start c.args.draft.now).sectors c.args.port.now.view (g.D.PortDisk.means c.args.disk.now) c.as_slice.result.now (places c.args.draft.now.acts) (inode_at c.args.draft.now.image.inodes c.args.ino.0)
    c.read_file_behind.new.into.items tells (c.as_slice.ensures.value ∙ c.in_ok-places.ensures.places) (c.places.ensures.reached seat start) c.in-Ok.ensures.key c.in-Ok.ensures.size c.in-Ok.ensures.volume)

pub returns-in-Ok-clause-unread : goal.returns-in-Ok-clause-unread
returns-in-Ok-clause-unread g c = λ some. read-own (inode_at c.args.draft.now.image.inodes c.args.ino.0).blocks (g.D.PortDisk.means c.args.disk.now) c.args.port.now.view c.in-Ok.ensures.key some

pub returns-clause-stops : goal.returns-clause-stops
returns-clause-stops g c = λ why is. has-block (inode_at c.args.draft.now.image.inodes c.args.ino.0).blocks (λ holes. true≢false (sym (c.in-Err.ensures.holes holes)))
