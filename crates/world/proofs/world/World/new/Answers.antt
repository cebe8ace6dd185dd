use Rattle.world.proofs.Worlds.{first_world}
use Rattle.world.proofs.world.World.new.Goals as goal

pub invariant_of-result : goal.invariant_of-result
invariant_of-result g c = first_world c.args.clients c.args.window _ c.in_ok-cluster.ensures.begins c.in_ok-cluster.ensures.count c.requires.few
