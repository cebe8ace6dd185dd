use Rattle.std.proofs.Common.{◌≡◌, [], Option, ap, is_none, sym, true, ◌∙◌}
use Rattle.std.proofs.lemmas.Bool.{true≢false}
use Rattle.cal_base.specs.declared.identity.ClientId.{ClientId}
use Rattle.cluster_law.specs.ServerState.{is_admitted, is_file, is_writing}
use Rattle.server_desk.specs.Desk.{with_desk}
use Rattle.server_flushes.proofs.Readings.{by-room, none-by}
use Rattle.server_flushes.proofs.standing.may_commit.Goals as goal
use Rattle.server_flushes.proofs.standing.may_commit.Goals.{then-is_none, else-is_none, then-is_file, else-is_file}

pub returns-then-is_writing-clause-may : goal.returns-then-is_writing-clause-may
returns-then-is_writing-clause-may c =
    let server = with_desk c.args.desk.now c.args.image.now [] in
    let file_value : c.if-is_none.value ≡ true = elim c.if-is_file.branch [
      | then-is_file w ↦ w.if-is_file.true
      | else-is_file w ↦ absurd (true≢false (sym c.if-is_writing.true ∙ w.value-is ∙ w.if-is_file.false))
    ] in
    let writing : is_writing server c.args.client c.args.flush.now.ino ≡ true = elim c.if-is_file.branch [
      | then-is_file w ↦ sym w.is_writing.ensures.writing ∙ sym w.value-is ∙ c.if-is_writing.true
      | else-is_file w ↦ absurd (true≢false (sym c.if-is_writing.true ∙ w.value-is ∙ w.if-is_file.false))
    ] in
    let file : is_file server c.args.flush.now.ino ≡ true = elim c.if-is_none.branch [
      | then-is_none w ↦ sym w.is_file.ensures ∙ sym w.value-is ∙ file_value
      | else-is_none w ↦ absurd (true≢false (sym file_value ∙ w.value-is ∙ w.if-is_none.false))
    ] in
    let admitted : is_admitted server ≡ true = elim c.if-is_none.branch [
      | then-is_none w ↦ ap (λ (o : Option ClientId). is_none o) (sym c.missing.ensures.missing) ∙ none-by c.missing.result c.is_none.result c.is_none.ensures w.if-is_none.true
      | else-is_none w ↦ absurd (true≢false (sym file_value ∙ w.value-is ∙ w.if-is_none.false))
    ] in
    by-room server c.args.client c.args.flush.now c.len.result c.free.result admitted file writing c.len.ensures c.free.ensures.free
