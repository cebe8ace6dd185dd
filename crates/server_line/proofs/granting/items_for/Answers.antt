use Rattle.std.proofs.Common.{◌∙◌, arith}
use Rattle.server_line.proofs.Giving.{answers-more}
use Rattle.server_line.proofs.granting.items_for.Goals as goal

pub loop-token-preserved : goal.loop-token-preserved
loop-token-preserved g c = record {
  answers = answers-more c.args.draft.now c.args.port.now.view (g.D.PortDisk.means c.args.disk.now) (g.D.PortDisk.means c.loop-token.disk) c.args.client c.args.lacking.now c.loop-token.token-index _ c.loop-token.items c.push.new.self c.in-Ok.item
      c.loop-token.invariant.same c.loop-token-test.true c.loop-token.invariant.answers c.in-Ok.ensures.item c.in_ok-push-in-Ok.ensures.ok;
  same = c.in-Ok.ensures.reads.same ∙ c.loop-token.invariant.same;
  later = let a = c.in-Ok.ensures.reads.later in let b = c.loop-token.invariant.later in omega arith;
}
