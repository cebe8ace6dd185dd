use Rattle.std.proofs.Common.{Ok}
use Rattle.image.proofs.FreshMade.{run_fresh}
use Rattle.image.proofs.made.mkfs.Goals as goal

pub returns-clause-stands : goal.returns-clause-stands
returns-clause-stands g c = λ sectors told whole. run_fresh sectors c.args.clients _ _ _ (Ok c.in-Ok.field-0) _ _ _ c.in-Ok.ensures.runs told whole c.requires.some c.requires.few
