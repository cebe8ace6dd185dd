use Rattle.std.proofs.Common.{◌≡◌, length, take, sym, ap, subst, ◌∙◌, arith}
use Rattle.std.proofs.Math.Seq.{take-length}
use Rattle.token_table.specs.Blockers.{blockers_of}
use Rattle.token_table.specs.Table.{IsTable}
use Rattle.token_table.proofs.Grants.{all_grantable}
use Rattle.token_table.proofs.token_table.TokenTable.blockers.Goals as goal

pub returns-clause-grantable : goal.returns-clause-grantable
returns-clause-grantable c = λ none.
    let all : c.loop-need.need-index ≡ length c.args.needs.now = omega arith in
    let found : c.loop-need.blockers ≡ blockers_of c.args.self.now c.args.c c.args.needs.now =
    c.loop-need.invariant ∙ ap (λ i. blockers_of c.args.self.now c.args.c (take i c.args.needs.now)) all
    ∙ ap (blockers_of c.args.self.now c.args.c) (take-length c.args.needs.now) in
    all_grantable c.args.self.now (subst IsTable c.self.view_is c.self.invariant) c.args.c c.args.needs.now (sym found ∙ none)
