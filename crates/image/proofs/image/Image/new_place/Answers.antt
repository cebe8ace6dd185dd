use Rattle.std.proofs.Common.{subst}
use Rattle.volume_edit.specs.Edit.{IsVolume}
use Rattle.image.proofs.Nodes.{new_within}
use Rattle.image.proofs.image.Image.new_place.Goals as goal

pub returns-clause-within : goal.returns-clause-within
returns-clause-within c = new_within c.args.self.now c.args.path.now (subst IsVolume c.self.view_is c.self.invariant.volume) c.new_place.ensures
