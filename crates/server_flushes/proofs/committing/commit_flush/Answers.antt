use Rattle.std.proofs.Common.{ap, refl, ◌∙◌}
use Rattle.server_draft.specs.declared.draft.Draft.{Draft}
use Rattle.volume_edit.specs.Edit.{edited}
use Rattle.server_draft.specs.Draft.{reached}
use Rattle.server_flushes.specs.Flushes.{knowing}
use Rattle.server_flushes.proofs.Commits.{commits-well, flushing, lowers-only, space-then, within-the-disk}
use Rattle.server_flushes.proofs.Readings.{may-commit}
use Rattle.server_flushes.proofs.committing.commit_flush.Goals as goal

pub plan_flush-requires-clause-enough : goal.plan_flush-requires-clause-enough
plan_flush-requires-clause-enough c = (may-commit (knowing c.args.draft.now) c.args.client c.args.flush c.requires.next).enough

pub commit-requires-clause-lays : goal.commit-requires-clause-lays
commit-requires-clause-lays c = within-the-disk c.args.draft.now.image c.in_ok-data.field-0.data c.requires.volume.map c.in_ok-data.ensures.goes

pub returns-clause-commits : goal.returns-clause-commits
returns-clause-commits c =
    let plan = c.in_ok-data.field-0 in
    let state = c.in_ok-commit.ensures.state in
    record {
      commit = flushing c.args.client c.args.flush plan.data plan.edit plan.txn;
      deed = refl;
      acts = ap (λ (d : Draft). d.acts) state;
      law = c.in_ok-commit.ensures.acts;
      untold = c.in_ok-commit.ensures.count;
      image = ap (λ (d : Draft). d.image) state ∙ ap (edited c.args.draft.now.image) c.in_ok-data.ensures.edit;
      desk = lowers-only c.args.draft.now c.commit.new.self c.lower_by_flush.new.self c.args.client c.args.flush c.lower_by_flush.ensures (ap (λ (d : Draft). d.desk) state);
    }

pub returns-clause-follows : goal.returns-clause-follows
returns-clause-follows c view o start follows none took =
    let before = c.args.draft.now in
    let client = c.args.client in
    let flush = c.args.flush in
    let plan = c.in_ok-data.field-0 in
    let may = may-commit (knowing before) client flush c.requires.next in
    let space = space-then view o start before follows client flush may plan.edit plan.data plan.txn c.in_ok-data.ensures.edit c.requires.flush c.requires.volume c.requires.table in
    c.in_ok-commit.ensures.follows view o start before follows refl refl (c.in_ok-data.ensures.takes follows.kept) (c.lower_by_flush.ensures (reached view start before) follows.like) space
    (commits-well view o start before follows client flush may plan.edit plan.data plan.txn took c.in_ok-data.ensures.edit c.in_ok-data.ensures.data c.in_ok-data.ensures.homes space)
