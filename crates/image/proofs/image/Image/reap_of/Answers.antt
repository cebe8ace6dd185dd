use Rattle.std.proofs.Common.{subst, rules}
use Rattle.volume_edit.specs.Edit.{IsVolume}
use Rattle.image.proofs.EntryPlans.{reap_is}
use Rattle.image.proofs.image.Image.reap_of.Goals as goal

pub returns-clause-is : goal.returns-clause-is
returns-clause-is c = reap_is c.args.self.now c.args.ino _ (search rules) (subst IsVolume c.self.view_is c.self.invariant.volume) c.requires.to_511 c.requires.orphan
