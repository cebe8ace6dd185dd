use Rattle.std.proofs.Common.{◌≡◌, ◌+◌, ℕ, subst, sym, arith}
use Rattle.packet_links.specs.Links.{IsLeast}
use Rattle.packet_links.proofs.Least.{WaitsAmong, nobody, one_more, all_clients}
use Rattle.packet_links.proofs.links.Links.first_for_server.Goals as goal

pub loop-client-init : goal.loop-client-init
loop-client-init c = nobody c.args.self.now c.args.server

pub loop-client-preserved : goal.loop-client-preserved
loop-client-preserved c = subst (IsLeast (WaitsAmong c.args.self.now c.args.server (c.loop-client.client + 1))) (sym c.lesser-least.ensures)
    (one_more c.args.self.now c.args.server c.loop-client.client c.loop-client.least c.first-first.result c.loop-client.invariant c.first-first.ensures.least)

pub returns : goal.returns
returns c =
    let above = c.loop-client-test.false in
    let within = c.loop-client.auto.client-end in
    let all : c.loop-client.client ≡ 16 = omega (arith, above, within) in
    all_clients c.args.self.now c.args.server c.loop-client.least (subst (λ (count : ℕ). IsLeast (WaitsAmong c.args.self.now c.args.server count) c.loop-client.least) all c.loop-client.invariant)
