use Rattle.std.proofs.Common.{◌++◌, ◌∙◌, List, All, ap, map, refl, subst, sym}
use Rattle.cal_base.specs.declared.identity.ClientId.{ClientId}
use Rattle.token_kind.specs.declared.revoke.Revoke.{Revoke}
use Rattle.revocation.specs.Reasons.{IsOfBlockers}
use Rattle.revocation.specs.Revokes.{revokes_of}
use Rattle.revocation.proofs.Reasons.{revokes_are_of_blockers}
use Rattle.server_draft.specs.Acts.{asked_back}
use Rattle.server_draft.proofs.Acting.{acts-asked}
use Rattle.server_draft.proofs.Asking.{all-done}
use Rattle.server_draft.proofs.Following.{asks}
use Rattle.revocation.proofs.Order.{sent_in_order}
use Rattle.revocation.specs.Order.{AreInOrder}
use Rattle.server_draft.proofs.Counting.{asked-few}
use Rattle.server_draft.proofs.draft.Draft.revoke.Goals as goal

pub ask_all_back-requires : goal.ask_all_back-requires
ask_all_back-requires c =
    all-done c.args.blockers.now c.in_ok-revokes.revokes
    (subst (λ (revokes : List (ClientId × Revoke)). All (IsOfBlockers c.args.blockers.now) revokes) (sym c.in_ok-revokes.ensures.revokes) (revokes_are_of_blockers c.args.self.now.desk.asked c.args.blockers.now))
    c.requires.within
    (c.in_ok-revokes.ensures.formed c.requires.askable)

pub returns-clause-desk : goal.returns-clause-desk
returns-clause-desk c = (c.in_ok-revokes.ensures.asked, c.in_ok-revokes.ensures.rest)

pub returns-clause-grows : goal.returns-clause-grows
returns-clause-grows c = c.in_ok-ask_all_back.ensures ∙ ap (λ (revokes : List (ClientId × Revoke)). c.args.self.now.acts ++ map asked_back revokes) c.in_ok-revokes.ensures.revokes

pub returns-clause-acts : goal.returns-clause-acts
returns-clause-acts c = λ view. acts-asked view c.args.self.now.acts c.ask_all_back.new.acts _
    (c.in_ok-ask_all_back.ensures ∙ ap (λ (revokes : List (ClientId × Revoke)). c.args.self.now.acts ++ map asked_back revokes) c.in_ok-revokes.ensures.revokes)

pub returns-clause-follows : goal.returns-clause-follows
returns-clause-follows c =
    asks c.args.self.now (record { desk = c.revoke.new.self; image = c.args.self.now.image; acts = c.ask_all_back.new.acts }) (revokes_of c.args.self.now.desk.asked c.args.blockers.now) refl
    (c.in_ok-ask_all_back.ensures ∙ ap (λ (revokes : List (ClientId × Revoke)). c.args.self.now.acts ++ map asked_back revokes) c.in_ok-revokes.ensures.revokes)
    c.in_ok-revokes.ensures.like

pub returns-clause-few : goal.returns-clause-few
returns-clause-few c = λ to. asked-few c.args.blockers.now to c.args.self.now.acts c.ask_all_back.new.acts c.in_ok-revokes.revokes
    (subst (λ (revokes : List (ClientId × Revoke)). AreInOrder c.args.blockers.now revokes) (sym c.in_ok-revokes.ensures.revokes) (sent_in_order c.args.self.now.desk.asked c.args.blockers.now))
    (subst (λ (revokes : List (ClientId × Revoke)). All (IsOfBlockers c.args.blockers.now) revokes) (sym c.in_ok-revokes.ensures.revokes) (revokes_are_of_blockers c.args.self.now.desk.asked c.args.blockers.now))
    c.requires.within
    (c.in_ok-revokes.ensures.formed c.requires.askable)
    c.in_ok-ask_all_back.ensures
