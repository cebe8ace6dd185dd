use Rattle.std.proofs.Common.{◌≤◌, ◌+◌, ◌∷◌, [], ℕ, count_by}
use Rattle.message.specs.declared.message.Message.TheVariants.{Ask}
use Rattle.rebuild.specs.Collecting.{is_to_ask}
use Rattle.cluster_law.specs.ServerRules.{Occasion}
use Rattle.cluster_law.specs.ServerState.{ServerState}
use Rattle.server_draft.specs.Acts.{told_to}
use Rattle.server_draft.specs.Draft.{Follows, TellsOnly}
use Rattle.server_reports.specs.Reports.{AsksOnly}
use Rattle.server_reports.proofs.Counting.{left_to_ask}
use Rattle.server_reports.proofs.collecting.ask_clients.Given as goal

abbrev pub invariant-loop-client : goal.invariant-loop-client
invariant-loop-client l = record {
  state : AsksOnly l.fn.draft l.draft;
  acts : TellsOnly (Ask ∷ []) l.fn.draft.acts l.draft.acts;
  few : (to : ℕ) → told_to to l.draft.acts + left_to_ask to l.draft ≤ told_to to l.fn.draft.acts + left_to_ask to l.fn.draft;
  follows : (view : ℕ) (o : Occasion) (start : ServerState) → Follows view o start l.fn.draft → Follows view o start l.draft;
}

abbrev pub decreases-loop-client : goal.decreases-loop-client
decreases-loop-client l = count_by is_to_ask l.draft.desk.collecting.standings
