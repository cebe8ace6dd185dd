use Rattle.std.proofs.Common.{IsErrOf, rules, subst, sym}
use Rattle.tree_law.specs.declared.apply.ApplyError.TheVariants.{NotLegal}
use Rattle.history_check.specs.Steps.{CarriesOut}
use Rattle.history_check.proofs.Entering.{carries_out, not_with_it}
use Rattle.history_check.proofs.judge.enter_call.Goals as goal

pub returns-in-Ok-clause-ok : goal.returns-in-Ok-clause-ok
returns-in-Ok-clause-ok c =
    subst (CarriesOut c.args.tree.now c.args.entering.client c.args.entering.number c.args.call c.args.entering.new_ino c.args.entering.reply c.apply.new.self) (sym c.put-in-Ok.ensures)
    (carries_out _ _ _ _ _ _ _ _ c.in-Some.reply c.in_ok-reply.ensures c.in-Some.is c.in-Ok.ensures.legal c.in-Ok.ensures.ok)

pub returns-in-Err-NotLegal-clause-illegal : goal.returns-in-Err-NotLegal-clause-illegal
returns-in-Err-NotLegal-clause-illegal c =
    let refused : IsErrOf c.apply.result NotLegal = search rules in
    λ is. not_with_it _ _ _ _ _ _ c.in-Some.reply c.in_ok-reply.ensures c.in-Some.is (c.apply.ensures.not_legal refused)
