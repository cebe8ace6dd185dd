use Rattle.std.proofs.Common.{◌≢◌}
use Rattle.tree_law.specs.declared.request.Asked.TheVariants.{Want as Wants}
use Rattle.server_line.specs.Known.{SeesOwn}
use Rattle.server_line.proofs.Going.{serves-blind}
use Rattle.server_line.proofs.Heads.{head-as}
use Rattle.server_line.proofs.serving.serve_head.Goals as goal

pub serve_want-requires-clause-wants : goal.serve_want-requires-clause-wants
serve_want-requires-clause-wants g c = record {
  want = c.in-Want.want;
  head = head-as c.args.draft.now c.head_of-request.result.now (Wants c.in-Want.want) c.head_of-request.ensures c.in-Want.is;
  is_gap = λ sectors. c.in_ok-gap-in-Want.ensures.gap sectors c.head_of-request.result.now.number;
}

pub returns-in_ok-blocked-in-Change-clause-serves : goal.returns-in_ok-blocked-in-Change-clause-serves
returns-in_ok-blocked-in-Change-clause-serves g c =
    serves-blind (λ start. SeesOwn start c.args.port.now.view (g.D.PortDisk.means c.args.disk.now)) ((g.D.PortDisk.means c.args.disk.now).key ≢ c.args.port.now.view) c.args.draft.now c.serve_change.new.draft c.in_ok-blocked-in-Change.blocked
    c.in_ok-blocked-in-Change.ensures
