use Rattle.world.proofs.Worlds.{crashed_keeps}
use Rattle.world.proofs.cluster.Cluster.crash.Goals as goal

pub returns-clause-world : goal.returns-clause-world
returns-clause-world c = crashed_keeps c.args.self.now c.end_node.new.self c.args.node c.requires.world c.end_node.ensures
