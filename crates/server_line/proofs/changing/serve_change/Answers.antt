use Rattle.std.proofs.Common.{◌<◌, ◌∙◌, ap, sym, subst}
use Rattle.request_log.specs.declared.slot.Slot.{Slot}
use Rattle.tree_law.specs.declared.request.Asked.TheVariants.{Change as Alters}
use Rattle.cluster_law.specs.ServerState.{as_request}
use Rattle.server_line.proofs.Changes.{done-well, drop-serves, kept-by}
use Rattle.server_line.proofs.Counting.{has-head}
use Rattle.server_line.proofs.changing.serve_change.Goals as goal

pub returns-in_ok-drop_head-in-Old : goal.returns-in_ok-drop_head-in-Old
returns-in_ok-drop_head-in-Old c =
    drop-serves c.args.draft.now c.drop_head.new.self c.args.client c.args.number c.requires.call c.in_ok-drop_head-in-Old.ensures.state c.in_ok-drop_head-in-Old.ensures.acts c.in_ok-drop_head-in-Old.ensures.follows c.in_ok-drop_head-in-Old.ensures.count c.requires.head
    (subst (λ (s : Slot). c.args.number < s.call) c.slot.ensures.at (c.judge.ensures.old.0 c.in-Old.is))

pub returns-in_ok-answer-in-Kept : goal.returns-in_ok-answer-in-Kept
returns-in_ok-answer-in-Kept c =
    let kept = kept-by c.slot.result.now c.args.number c.in-Kept.reply (sym c.judge.ensures.judged ∙ c.in-Kept.is) in
    c.in_ok-answer-in-Kept.ensures (has-head c.args.draft.now (as_request c.args.client c.args.number (Alters c.requires.call)) c.requires.head) tt
    (done-well c.args.draft.now c.args.client c.args.number c.requires.call c.in-Kept.reply c.requires.head (ap (λ (s : Slot). s.call) (sym c.slot.ensures.at) ∙ kept.0) (ap (λ (s : Slot). s.reply) (sym c.slot.ensures.at) ∙ kept.1))
