use Rattle.std.proofs.Common.{ℕ, List, subst, sym}
use Rattle.volume_edit.specs.Homes.{AreHomes}
use Rattle.volume_edit.proofs.Transaction.{are_transaction}
use Rattle.image.proofs.Writing.{are_homes}
use Rattle.image.proofs.image.Image.homes_of.Goals as goal

pub new-requires : goal.new-requires
new-requires c =
    are_transaction c.args.self.now c.args.edit.now _ c.put_map.ensures.volume c.requires
    (are_homes c.args.self.now c.args.edit.now _ _ _ _ _ c.new-homes.ensures.items c.in_ok-put_map.ensures.put c.in_ok-put_slot.ensures c.in_ok-put_inodes.ensures c.in_ok-put_blocks.ensures)

pub returns : goal.returns
returns c =
    subst (λ (homes : List (ℕ × List ℕ)). AreHomes c.args.self.now c.args.edit.now homes) (sym c.new.ensures)
    (are_homes c.args.self.now c.args.edit.now _ _ _ _ _ c.new-homes.ensures.items c.in_ok-put_map.ensures.put c.in_ok-put_slot.ensures c.in_ok-put_inodes.ensures c.in_ok-put_blocks.ensures)
