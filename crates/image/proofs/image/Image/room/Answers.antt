use Rattle.std.proofs.Common.{◌≡◌, Bool, List, arith, sym, subst}
use Rattle.inode.specs.declared.inode.Inode.{Inode}
use Rattle.request_log.specs.declared.slot.Slot.{Slot}
use Rattle.volume.specs.Volume.{Slots, Volume}
use Rattle.image.specs.Image.{IsImage, fresh_map}
use Rattle.image.proofs.Fresh.{fresh_image}
use Rattle.image.proofs.image.Image.room.Goals as goal

same_volume : (free free' : List Bool) (slots slots' : List Slot) (inodes inodes' : List Inode) (directories directories' : List Slots)
    → free ≡ free' → slots ≡ slots' → inodes ≡ inodes' → directories ≡ directories'
    → let v : Volume = record { clients = 1; free = free; slots = slots; inodes = inodes; directories = directories } in
    let v' : Volume = record { clients = 1; free = free'; slots = slots'; inodes = inodes'; directories = directories' } in v ≡ v'
same_volume free free' slots slots' inodes inodes' directories directories' a b c d = λ i. record { clients = 1; free = a i; slots = b i; inodes = c i; directories = d i }

pub returns : goal.returns
unfolding fresh_map
returns c = same_volume _ _ _ _ _ _ _ _ c.new.ensures c.in_ok-slots.ensures c.in_ok-inodes.ensures c.in_ok-directories.ensures

pub invariant_of-result : goal.invariant_of-result
unfolding fresh_map
invariant_of-result c =
    subst (λ (v : Volume). IsImage v 1 512) (sym (same_volume _ _ _ _ _ _ _ _ c.new.ensures c.in_ok-slots.ensures c.in_ok-inodes.ensures c.in_ok-directories.ensures)) (fresh_image 1 (omega arith) (omega arith))
