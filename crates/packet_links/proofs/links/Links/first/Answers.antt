use Rattle.std.proofs.Common.{◌≡◌, Option, Some, subst, rules, Contains}
use Rattle.packet_links.specs.Links.{LinkValue, IsLeast, link_at, link_between, waiting_of}
use Rattle.packet_links.proofs.links.Links.first.Goals as goal

-- src/links.rt:94:5
pub returns-in-Some-clause-least : goal.returns-in-Some-clause-least
returns-in-Some-clause-least c =
    let same : Some c.in-Some.link.now ≡ link_at c.args.self.now (link_between c.args.from c.args.to) = search rules in
    subst (λ (link : Option LinkValue). IsLeast (Contains (waiting_of link)) c.first.result) same c.first.ensures.least
