use Rattle.std.proofs.Common.{sym, ◌∙◌}
use Rattle.message.specs.declared.message.Message.TheVariants.{Acquire}
use Rattle.server_opening.proofs.Used.{passes, takes}
use Rattle.server_opening.proofs.hearing.hear_want.Goals as goal

pub returns-in_ok-owed-clause-heard : goal.returns-in_ok-owed-clause-heard
returns-in_ok-owed-clause-heard c = λ server like e. takes c.arrive.new.desk server c.args.client (Acquire c.args.number c.args.want) (sym (c.is_used.ensures server e) ∙ c.if-is_used.true) (c.in_ok-owed.ensures.heard server like)

pub returns-else-is_used-clause-heard : goal.returns-else-is_used-clause-heard
returns-else-is_used-clause-heard c = λ server like e. passes c.args.desk.now server c.args.client (Acquire c.args.number c.args.want) (sym (c.is_used.ensures server e) ∙ c.if-is_used.false) like
