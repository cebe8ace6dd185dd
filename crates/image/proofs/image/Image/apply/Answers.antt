use Rattle.std.proofs.Common.{◌∙◌, List, ap, subst, sym}
use Rattle.inode.specs.declared.inode.Inode.{Inode}
use Rattle.volume.specs.Volume.{Volume}
use Rattle.volume_edit.specs.Edit.{IsEdit, edited, free_with_growth, free_with_inode}
use Rattle.image.specs.Applying.{CanChangeInodes}
use Rattle.image.proofs.Applying.{can_change_inodes, directories_back, image_edited, inodes_back, same_volume, slots_back}
use Rattle.image.proofs.image.Image.apply.Goals as goal

pub change_inodes-requires : goal.change_inodes-requires
change_inodes-requires c =
    let is = subst (λ (v : Volume). IsEdit v c.args.edit.now) (sym c.self.view_is) c.requires in
    subst (λ (xs : List Inode). CanChangeInodes xs c.args.edit.now) (sym c.deref_mut.ensures.value) (can_change_inodes _ c.args.edit.now c.self.invariant.volume is)

pub invariant_of-self : goal.invariant_of-self
invariant_of-self c =
    let e = c.args.edit.now in
    let v : Volume = record { clients = c.self.inside.clients; free = c.self.inside.map; slots = c.self.inside.slots.items; inodes = c.self.inside.inodes.items; directories = c.self.inside.directories.items } in
    let is : IsEdit v e = subst (λ (w : Volume). IsEdit w e) (sym c.self.view_is) c.requires in
    let map = c.mark_map.ensures ∙ ap (λ (xs : List Inode). free_with_growth (free_with_inode c.self.inside.map xs e.inode) e.growth) c.deref.ensures.value in
    let same = same_volume (edited v e) _ _ _ _ map
    (slots_back v e _ _ _ c.deref_mut-3.ensures.value c.deref_mut-3.ensures.len c.put_slot.ensures)
    (inodes_back v e _ _ _ c.deref_mut.ensures.value c.deref_mut.ensures.len c.change_inodes.ensures)
    (directories_back v e _ _ _ c.deref_mut-2.ensures.value c.deref_mut-2.ensures.len c.change_directories.ensures) in
    let free = rw c.deref-2.ensures.value at c.first_free-self-inside.ensures in
    let orphan = rw c.deref-3.ensures.value at c.first_orphan-self-inside.ensures in
    image_edited v _ e _ _ _ _ _ _ c.self.invariant is same c.lesser.ensures.lower c.lesser.ensures.inode free.within free.least
    c.lesser-2.ensures.lower c.lesser-2.ensures.inode orphan.within orphan.least
