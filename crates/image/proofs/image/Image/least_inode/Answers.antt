use Rattle.std.proofs.Common.{◌∙◌, ◌≤◌, ◌<◌, ap, sym, arith, length}
use Rattle.volume.specs.Volume.{Volume}
use Rattle.volume_plan.specs.Plans.{least_inode}
use Rattle.image.proofs.Lookups.{least_found, none_found}
use Rattle.image.proofs.image.Image.least_inode.Goals as goal

pub returns-then-number-eq-INODES : goal.returns-then-number-eq-INODES
returns-then-number-eq-INODES c =
    let count = c.self.invariant.volume.inode_count in
    let past : length c.self.inside.inodes.items ≤ c.first_free-number.result = omega arith in
    sym (ap (λ (v : Volume). least_inode v) (sym c.self.view_is)
    ∙ none_found _ _ _ c.self.invariant.free past (rw c.deref.ensures.value at c.first_free-number.ensures.least))

pub returns : goal.returns
returns c =
    let count = c.self.invariant.volume.inode_count in
    let same = ap length c.deref.ensures.value in
    let other = c.if-number-eq-INODES.false in
    let up_to = c.first_free-number.ensures.within in
    let within : c.first_free-number.result < length c.deref.result.now = omega arith in
    let found = rw c.deref.ensures.value at c.first_free-number.ensures in
    sym (ap (λ (v : Volume). least_inode v) (sym c.self.view_is)
    ∙ least_found _ _ _ c.self.invariant.free (omega arith) (found.free (omega arith)) found.least)
