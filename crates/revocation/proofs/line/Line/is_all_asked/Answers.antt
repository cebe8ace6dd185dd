use Rattle.std.proofs.Common.{◌≡◌, [], Bool, sym, ap, subst, ◌∙◌}
use Rattle.std.specs.Prelude.{◌↔◌, IsTrue}
use Rattle.std.specs.List.{list_all}
use Rattle.revocation.specs.Revokes.{is_asked, revokes_of}
use Rattle.revocation.specs.Waiting.{Waiting}
use Rattle.revocation.proofs.Sent.{nothing_sent}
use Rattle.revocation.proofs.line.Line.is_all_asked.Goals as goal

pub returns : goal.returns
returns c =
    subst (λ (b : Bool). IsTrue b ↔ (revokes_of c.args.self.now.asked c.args.blockers.now ≡ []))
    (sym (c.are_asked.ensures ∙ ap (λ (w : Waiting). list_all (is_asked w.asked) c.args.blockers.now) c.self.view_is))
    (nothing_sent c.args.self.now.asked c.args.blockers.now)
