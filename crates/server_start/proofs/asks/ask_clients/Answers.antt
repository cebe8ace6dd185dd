use Rattle.std.proofs.Common.{ap, refl, subst, sym, ◌∙◌}
use Rattle.rebuild.specs.Collecting.{next_of}
use Rattle.server_desk.specs.Desk.{DeskValue}
use Rattle.server_start.specs.Turns.{IsAsking}
use Rattle.server_start.proofs.Turning.{asks-more, fewer-to-ask}
use Rattle.server_start.proofs.asks.ask_clients.Goals as goal

pub loop-init : goal.loop-init
loop-init c = record { requests = refl; asks = λ view window own volume is. is }

pub loop-smaller : goal.loop-smaller
loop-smaller c =
    let asked = c.in-Some.ensures in
    fewer-to-ask c.loop.desk.collecting c.ask_next.new.self.collecting c.in-Some.field-0 (sym asked.next) (ap (λ (d : DeskValue). d.collecting) asked.state)

pub loop-preserved : goal.loop-preserved
loop-preserved c =
    let asked = c.in-Some.ensures in
    record {
      requests = ap (λ (d : DeskValue). d.requests) asked.state ∙ c.loop.invariant.requests;
      asks = λ view window own volume is. asks-more view window own volume c.loop.desk c.ask_next.new.self c.in-Some.field-0 asked.bound (sym asked.next) asked.state (c.loop.invariant.asks view window own volume is);
    }

pub returns-clause-asked : goal.returns-clause-asked
returns-clause-asked c =
    let none = c.in_default.ensures in
    ap (λ (d : DeskValue). next_of d.collecting) none.state ∙ sym none.next

pub returns-clause-requests : goal.returns-clause-requests
returns-clause-requests c = ap (λ (d : DeskValue). d.requests) c.in_default.ensures.state ∙ c.loop.invariant.requests

pub returns-clause-asks : goal.returns-clause-asks
returns-clause-asks c = λ view window own volume is.
    subst (λ (d : DeskValue). IsAsking view window own d volume) (sym c.in_default.ensures.state) (c.loop.invariant.asks view window own volume is)
