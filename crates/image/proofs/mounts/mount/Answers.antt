use Rattle.image.proofs.Damage.{no_damage}
use Rattle.image.proofs.Mounting.{image_now, loan, on_ok, read_now}
use Rattle.image.proofs.mounts.mount.Goals as goal

pub invariant_of-image : goal.invariant_of-image
invariant_of-image g c =
    image_now (record { clients = c.image.inside.clients; free = c.image.inside.map; slots = c.image.inside.slots.items; inodes = c.image.inside.inodes.items; directories = c.image.inside.directories.items })
    c.read_volume.new.clients c.read_volume.new.map c.deref_mut.result.now c.read_volume.new.slots _ c.deref_mut-2.result.now c.read_volume.new.inodes _ c.deref_mut-3.result.now c.read_volume.new.directories _
    (loan c.image.inside.slots 16 _ _ c.image.invariant.volume.slot_count c.deref_mut.ensures.value c.deref_mut.ensures.len c.read_volume.ensures.slot_count)
    (loan c.image.inside.inodes 512 _ _ c.image.invariant.volume.inode_count c.deref_mut-2.ensures.value c.deref_mut-2.ensures.len c.read_volume.ensures.inode_count)
    (loan c.image.inside.directories 512 _ _ c.image.invariant.volume.directory_count c.deref_mut-3.ensures.value c.deref_mut-3.ensures.len c.read_volume.ensures.directory_count)
    c.read_volume.ensures.kept _ _ c.image.invariant

pub returns-clause-ok : goal.returns-clause-ok
returns-clause-ok g c = on_ok c.read_volume.result (λ read s t.
    read_now (record { clients = c.image.inside.clients; free = c.image.inside.map; slots = c.image.inside.slots.items; inodes = c.image.inside.inodes.items; directories = c.image.inside.directories.items })
    c.read_volume.new.clients c.read_volume.new.map c.deref_mut.result.now c.read_volume.new.slots _ c.deref_mut-2.result.now c.read_volume.new.inodes _ c.deref_mut-3.result.now c.read_volume.new.directories _
    (loan c.image.inside.slots 16 _ _ c.image.invariant.volume.slot_count c.deref_mut.ensures.value c.deref_mut.ensures.len c.read_volume.ensures.slot_count)
    (loan c.image.inside.inodes 512 _ _ c.image.invariant.volume.inode_count c.deref_mut-2.ensures.value c.deref_mut-2.ensures.len c.read_volume.ensures.inode_count)
    (loan c.image.inside.directories 512 _ _ c.image.invariant.volume.directory_count c.deref_mut-3.ensures.value c.deref_mut-3.ensures.len c.read_volume.ensures.directory_count)
    c.read_volume.ensures.kept _ _ c.image.invariant s (read s t)) c.read_volume.ensures.ok

pub returns-clause-volume : goal.returns-clause-volume
returns-clause-volume g c =
    (image_now (record { clients = c.image.inside.clients; free = c.image.inside.map; slots = c.image.inside.slots.items; inodes = c.image.inside.inodes.items; directories = c.image.inside.directories.items })
    c.read_volume.new.clients c.read_volume.new.map c.deref_mut.result.now c.read_volume.new.slots _ c.deref_mut-2.result.now c.read_volume.new.inodes _ c.deref_mut-3.result.now c.read_volume.new.directories _
    (loan c.image.inside.slots 16 _ _ c.image.invariant.volume.slot_count c.deref_mut.ensures.value c.deref_mut.ensures.len c.read_volume.ensures.slot_count)
    (loan c.image.inside.inodes 512 _ _ c.image.invariant.volume.inode_count c.deref_mut-2.ensures.value c.deref_mut-2.ensures.len c.read_volume.ensures.inode_count)
    (loan c.image.inside.directories 512 _ _ c.image.invariant.volume.directory_count c.deref_mut-3.ensures.value c.deref_mut-3.ensures.len c.read_volume.ensures.directory_count)
    c.read_volume.ensures.kept _ _ c.image.invariant).volume

pub returns-clause-never : goal.returns-clause-never
returns-clause-never g c = λ s t v spells at is. no_damage _ _ _ _ _ _ c.read_volume.ensures.reads s t v spells at is
