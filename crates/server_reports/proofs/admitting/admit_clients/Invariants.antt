use Rattle.std.proofs.Common.{◌≡◌, ◌≤◌, ◌+◌, ◌∷◌, [], ℕ, IsTrue, false}
use Rattle.message.specs.declared.message.Message.TheVariants.{Admit}
use Rattle.cluster_law.specs.ServerRules.{Occasion}
use Rattle.cluster_law.specs.ServerState.{ServerState, is_admitted}
use Rattle.server_draft.specs.Acts.{told_to}
use Rattle.server_draft.specs.Draft.{Follows, TellsOnly, reached}
use Rattle.server_reports.specs.Reports.{HasAdmittedNobody}
use Rattle.server_reports.proofs.Admits.{AdmitsBelow}
use Rattle.server_reports.proofs.Counting.{stands_below}
use Rattle.server_reports.proofs.admitting.admit_clients.Given as goal

abbrev pub invariant-loop-number : goal.invariant-loop-number
invariant-loop-number l = record {
  desk : l.draft.desk ≡ l.fn.draft.desk;
  image : l.draft.image ≡ l.fn.draft.image;
  acts : TellsOnly (Admit ∷ []) l.fn.draft.acts l.draft.acts;
  few : (to : ℕ) → told_to to l.draft.acts ≤ told_to to l.fn.draft.acts + stands_below to l.number;
  admits : (view : ℕ) (o : Occasion) (start : ServerState) → Follows view o start l.fn.draft → o.was_admitted ≡ false → IsTrue (is_admitted (reached view start l.fn.draft)) → HasAdmittedNobody view l.fn.draft.acts
      → AdmitsBelow l.number view o start l.draft;
}
