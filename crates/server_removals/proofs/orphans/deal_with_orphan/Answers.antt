use Rattle.std.proofs.Common.{◌≡◌, Option, Some, None, ap, subst, sym, ◌∙◌}
use Rattle.cal_base.specs.declared.identity.Ino.{Ino}
use Rattle.cluster_law.specs.Asking.{deserted}
use Rattle.cluster_law.specs.ServerRules.{DealsWithOrphan}
use Rattle.cluster_law.specs.ServerState.{ServerState}
use Rattle.server_draft.specs.Acts.{acts_of}
use Rattle.server_draft.specs.Draft.{reached}
use Rattle.server_removals.proofs.AskingBack.{at-start}
use Rattle.server_removals.proofs.Deserting.{found-like}
use Rattle.server_removals.proofs.orphans.deal_with_orphan.Goals as goal

pub returns-in_ok-free_or_ask-in-Some-clause-follows : goal.returns-in_ok-free_or_ask-in-Some-clause-follows
returns-in_ok-free_or_ask-in-Some-clause-follows c = λ view o start follows tick admitted due none.
    let old = c.args.draft.now in
    c.in_ok-free_or_ask-in-Some.ensures.follows view o start follows (record { tick = tick; admitted = admitted; none_due = due })
    (found-like old.image old.desk (reached view start old) (Some c.in-Some.ino) c.in-Some.ensures.value follows.like follows.volume) none

pub returns-in_ok-free_or_ask-in-Some-clause-deals : goal.returns-in_ok-free_or_ask-in-Some-clause-deals
returns-in_ok-free_or_ask-in-Some-clause-deals c = λ view o start follows none.
    let old = c.args.draft.now in
    let new = c.free_or_ask.new.draft in
    let least : deserted start ≡ Some c.in-Some.ino =
    ap (λ (s : ServerState). deserted s) (sym (at-start view start old.acts none))
    ∙ found-like old.image old.desk (reached view start old) (Some c.in-Some.ino) c.in-Some.ensures.value follows.like follows.volume in
    subst (λ (found : Option Ino). DealsWithOrphan start (reached view start new) (acts_of view new.acts) found) (sym least) (c.in_ok-free_or_ask-in-Some.ensures.deals view o start follows none)

pub returns-in-None-clause-deals : goal.returns-in-None-clause-deals
returns-in-None-clause-deals c = λ view o start follows none.
    let old = c.args.draft.now in
    let least : deserted start ≡ None =
    ap (λ (s : ServerState). deserted s) (sym (at-start view start old.acts none)) ∙ found-like old.image old.desk (reached view start old) None c.in-None.ensures.value follows.like follows.volume in
    subst (λ (found : Option Ino). DealsWithOrphan start (reached view start old) (acts_of view old.acts) found) (sym least) tt
