use Rattle.std.proofs.Common.{sym, subst, ◌∙◌, ap}
use Rattle.std.specs.List.{list_any}
use Rattle.revocation.specs.Waiting.{same_request, Waiting, IsLine}
use Rattle.revocation.proofs.Requests.{line_push}
use Rattle.revocation.proofs.line.Line.push.Goals as goal

pub invariant_of-self : goal.invariant_of-self
invariant_of-self c =
    subst IsLine (sym c.in_ok-push_back.ensures.items)
    (line_push c.self.inside.requests.items c.args.r c.self.invariant c.requires (ap (λ (w : Waiting). list_any (same_request c.args.r) w.requests) c.self.view_is ∙ sym c.stands.ensures ∙ c.if-not-stands.true))
