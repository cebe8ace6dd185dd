use Rattle.std.proofs.Common.{subst}
use Rattle.cluster_law.specs.ServerRules.{FreesOrAsks, DealsWithOrphan, IsBlocked, IsNamed, LineRests, Removes}
use Rattle.cluster_law.specs.ServerState.{after_acts}
use Rattle.cluster_law.proofs.refusals.a_server_goes_on.Goals as goal

pub returns-clause-serves : goal.returns-clause-serves
returns-clause-serves c = λ o start acts named request w admitted head_is none.
    let rests = subst (λ b. LineRests b (after_acts start acts) named) admitted w.line in
    let blocked = subst (λ h. IsNamed (after_acts start acts) h named) head_is rests.named_is in
    subst (λ blockers. IsBlocked request blockers named) none blocked

pub returns-clause-asks : goal.returns-clause-asks
returns-clause-asks c = λ o start acts named w admitted. (subst (λ b. LineRests b (after_acts start acts) named) admitted w.line).asked

pub returns-clause-purges : goal.returns-clause-purges
returns-clause-purges c = λ o start acts named client w tick due_is. subst (λ d. Removes start (after_acts start acts) acts d) due_is (w.removed tick)

pub returns-clause-frees : goal.returns-clause-frees
returns-clause-frees c = λ o start acts named ino w tick none_due admitted deserted_is unheld.
    let deals = subst (λ d. Removes start (after_acts start acts) acts d) none_due (w.removed tick) admitted in
    subst (λ holders. FreesOrAsks start (after_acts start acts) acts ino holders) unheld (subst (λ d. DealsWithOrphan start (after_acts start acts) acts d) deserted_is deals)

pub returns-clause-admits : goal.returns-clause-admits
returns-clause-admits c = λ o start acts named w was admitted. w.collected.admitted was admitted
