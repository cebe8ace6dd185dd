use Rattle.std.proofs.Common.{◌∙◌, ap, subst, sym}
use Rattle.inode.specs.Inode.{IsInode}
use Rattle.volume.specs.Volume.{Volume}
use Rattle.volume_edit.specs.Edit.{IsEdit, edited, inode_at}
use Rattle.image.proofs.AfterEdit.{can_grow_read, inode_then, read_after}
use Rattle.image.proofs.image.Image.inode_after.Goals as goal

pub inode_grown-requires : goal.inode_grown-requires
inode_grown-requires c =
    let is = subst (λ (v : Volume). IsEdit v c.args.edit.now) (sym c.self.view_is) c.requires.edit in
    can_grow_read _ c.args.edit.now c.args.ino.0 _ _ c.self.invariant.volume is c.requires.within c.index.ensures c.inode_put-put.ensures

pub returns-clause-at : goal.returns-clause-at
returns-clause-at c =
    read_after _ c.args.edit.now c.args.ino.0 _ _ _ c.self.invariant.volume c.requires.within c.index.ensures c.inode_put-put.ensures c.inode_grown.ensures
    ∙ ap (λ (v : Volume). inode_at (edited v c.args.edit.now).inodes c.args.ino.0) c.self.view_is

pub returns-clause-inode : goal.returns-clause-inode
returns-clause-inode c =
    let is = subst (λ (v : Volume). IsEdit v c.args.edit.now) (sym c.self.view_is) c.requires.edit in
    subst IsInode (sym (read_after _ c.args.edit.now c.args.ino.0 _ _ _ c.self.invariant.volume c.requires.within c.index.ensures c.inode_put-put.ensures c.inode_grown.ensures))
    (inode_then _ c.args.edit.now c.args.ino.0 c.self.invariant.volume is c.requires.within)
