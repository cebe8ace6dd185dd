use Rattle.std.proofs.Common.{subst}
use Rattle.volume_edit.specs.Edit.{IsVolume}
use Rattle.image.proofs.Nodes.{parent_within}
use Rattle.image.proofs.image.Image.parent.Goals as goal

pub returns-clause-within : goal.returns-clause-within
returns-clause-within c = parent_within c.args.self.now c.args.path.now (subst IsVolume c.self.view_is c.self.invariant.volume) c.parent_of.ensures
