use Rattle.std.proofs.Common.{All, List, subst, sym}
use Rattle.token_kind.specs.Token.{IsReported}
use Rattle.token_kind.specs.declared.reported.Reported.{Reported}
use Rattle.client_state.proofs.InPieces.{report_spelled}
use Rattle.client_state.proofs.client.Client.send_report.Goals as goal

pub send_pieces-requires : goal.send_pieces-requires
send_pieces-requires c =
    let made = c.in_ok-report.ensures in
    let each = subst (λ (list : List Reported). All IsReported list) (sym c.as_slice.ensures) c.in_ok-holds.ensures.report.formed in
    report_spelled c.as_slice.result.now c.in_ok-report.report made.together made.numbered made.count made.sizes each
