use Rattle.std.proofs.Common.{subst, sym}
use Rattle.world.specs.World.{IsWorld, WorldValue, counted}
use Rattle.world.proofs.Worlds.{counts_on, marked_keeps}
use Rattle.world.proofs.cluster.Cluster.deliver.Goals as goal

pub returns-in_err-packet-clause-world : goal.returns-in_err-packet-clause-world
returns-in_err-packet-clause-world g c = subst (λ (w : WorldValue). IsWorld (counted w)) (sym c.in_err-packet.ensures.oom) (counts_on c.args.self.now c.requires.world)

pub receive-requires-clause-world : goal.receive-requires-clause-world
receive-requires-clause-world g c = marked_keeps c.args.self.now c.take_packet.new.self c.args.number c.requires.world c.in_ok-packet.ensures.marked
