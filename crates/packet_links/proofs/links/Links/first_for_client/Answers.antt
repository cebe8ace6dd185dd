use Rattle.std.proofs.Common.{subst, sym}
use Rattle.cal_base.specs.declared.identity.NodeId.TheVariants.{Client}
use Rattle.packet_links.specs.Links.{WaitsFor, IsLeast}
use Rattle.packet_links.proofs.Least.{both_servers}
use Rattle.packet_links.proofs.links.Links.first_for_client.Goals as goal

-- src/links.rt:116:5
pub returns : goal.returns
returns c = subst (IsLeast (WaitsFor c.args.self.now (Client c.args.client))) (sym c.lesser.ensures)
    (both_servers c.args.self.now c.args.client c.first-from_a.result c.first-from_b.result c.first-from_a.ensures.least c.first-from_b.ensures.least)
