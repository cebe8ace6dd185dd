use Rattle.std.proofs.Common.{subst, sym}
use Rattle.cluster_law.specs.declared.step.Event.TheVariants.{Gone}
use Rattle.world.specs.Refusals.{CanHappen}
use Rattle.world.specs.World.{IsWorld, WorldValue}
use Rattle.world.proofs.Worlds.{declared_keeps}
use Rattle.world.proofs.cluster.Cluster.declare.Goals as goal

pub returns-clause-world : goal.returns-clause-world
returns-clause-world c = declared_keeps _ c.args.client _ (subst IsWorld (sym c.self.view_is) c.requires.world) (subst (λ (w : WorldValue). CanHappen w (Gone c.args.client)) (sym c.self.view_is) c.requires.can) c.in-Ok.ensures.ok
