use Rattle.std.proofs.Common.{◌≡◌, ◌&&◌, Bool, Option, true, ap, is_none, sym, ◌∙◌}
use Rattle.cal_base.specs.declared.identity.ClientId.{ClientId}
use Rattle.cluster_law.specs.Removing.{due}
use Rattle.server_removals.specs.Removals.{gone_in, rests_with_orphans}
use Rattle.server_removals.proofs.Resting.{none-of, rests-like}
use Rattle.server_removals.proofs.quiet.removes_nothing.Goals as goal

pub returns-then-is_none : goal.returns-then-is_none
returns-then-is_none c = λ server like same.
    let nobody : is_none (due (gone_in c.args.members.now) server) ≡ true =
    ap (λ (client : Option ClientId). is_none client) (sym (c.least_due.ensures.value server same)) ∙ none-of c.least_due.result c.is_none.result c.is_none.ensures c.if-is_none.true in
    c.is_at_rest.ensures ∙ rests-like c.args.desk.now c.args.image.now server like same ∙ ap (λ (b : Bool). b && rests_with_orphans server) (sym nobody)
