use Rattle.std.proofs.Common.{◌∙◌, ap, length, subst, sym}
use Rattle.volume.specs.Volume.{Volume}
use Rattle.image.specs.Image.{IsImage}
use Rattle.image.proofs.Fresh.{directory_count, fresh_image, inode_count, slot_count}
use Rattle.image.proofs.FreshMade.{parts_fresh}
use Rattle.image.proofs.Mounting.{loan}
use Rattle.image.proofs.image.Image.make_fresh.Goals as goal

pub invariant_of-self : goal.invariant_of-self
invariant_of-self c = subst (λ (v : Volume). IsImage v 1 512) (sym (
    parts_fresh c.args.clients c.new-self-inside.result _ _ _ c.new-self-inside.ensures
    ((loan c.self.inside.slots 16 _ _ c.self.invariant.volume.slot_count c.deref_mut.ensures.value c.deref_mut.ensures.len (ap length c.clear_slots.ensures ∙ slot_count)).back ∙ c.clear_slots.ensures)
    ((loan c.self.inside.inodes 512 _ _ c.self.invariant.volume.inode_count c.deref_mut-2.ensures.value c.deref_mut-2.ensures.len (ap length c.clear_nodes.ensures.inodes ∙ inode_count)).back ∙ c.clear_nodes.ensures.inodes)
    ((loan c.self.inside.directories 512 _ _ c.self.invariant.volume.directory_count c.deref_mut-3.ensures.value c.deref_mut-3.ensures.len (ap length c.clear_nodes.ensures.directories ∙ directory_count)).back ∙ c.clear_nodes.ensures.directories)))
    (fresh_image c.args.clients c.requires.some c.requires.few)

pub returns : goal.returns
returns c =
    parts_fresh c.args.clients c.new-self-inside.result _ _ _ c.new-self-inside.ensures
    ((loan c.self.inside.slots 16 _ _ c.self.invariant.volume.slot_count c.deref_mut.ensures.value c.deref_mut.ensures.len (ap length c.clear_slots.ensures ∙ slot_count)).back ∙ c.clear_slots.ensures)
    ((loan c.self.inside.inodes 512 _ _ c.self.invariant.volume.inode_count c.deref_mut-2.ensures.value c.deref_mut-2.ensures.len (ap length c.clear_nodes.ensures.inodes ∙ inode_count)).back ∙ c.clear_nodes.ensures.inodes)
    ((loan c.self.inside.directories 512 _ _ c.self.invariant.volume.directory_count c.deref_mut-3.ensures.value c.deref_mut-3.ensures.len (ap length c.clear_nodes.ensures.directories ∙ directory_count)).back ∙ c.clear_nodes.ensures.directories)
