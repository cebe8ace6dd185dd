use Rattle.std.proofs.Common.{subst, sym}
use Rattle.world.specs.World.{IsWorld, WorldValue, counted}
use Rattle.world.proofs.Worlds.{kept_keeps}
use Rattle.world.proofs.cluster.Cluster.go.Goals as goal

pub returns-in_err-keep-in-Ok-clause-world : goal.returns-in_err-keep-in-Ok-clause-world
returns-in_err-keep-in-Ok-clause-world g c = kept_keeps _ c.keep.new.self.sent.items c.keep.new.self.delivered.items (subst (λ (w : WorldValue). IsWorld (counted w)) (sym c.self.view_is) c.make-made.ensures.world) c.keep.ensures.even

pub returns-in_ok-keep-in-Ok-clause-world : goal.returns-in_ok-keep-in-Ok-clause-world
returns-in_ok-keep-in-Ok-clause-world g c = kept_keeps _ c.keep.new.self.sent.items c.keep.new.self.delivered.items (subst (λ (w : WorldValue). IsWorld (counted w)) (sym c.self.view_is) c.make-made.ensures.world) c.keep.ensures.even
