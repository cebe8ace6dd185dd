use Rattle.std.proofs.Common.{◌≡◌, Result, Ok, Err, OnOk, sym, subst}
use Rattle.history_check.specs.Judging.{JudgeValue, Refuses, Takes}
use Rattle.history_check.specs.declared.told.Told.{Told}
use Rattle.history_check.proofs.Refusing.{no_answer, no_entry, no_start}
use Rattle.history_check.proofs.Taking.{ends_on, enters_on, flush_on, purge_on, starts_on}
use Rattle.history_check.proofs.judge.Judge.take.Goals as goal

both : {T E P Q R : Type 0} (r : Result T E) → (P → Q → R) → OnOk r P → OnOk r Q → OnOk r R
both (Ok x) joined p q = joined p q
both (Err e) joined p q = tt

takes_it : (old new : JudgeValue) (told line : Told) → told ≡ line → Takes old line new → Takes old told new
takes_it old new told line is takes = subst (λ (t : Told). Takes old t new) (sym is) takes

refuses_it : (judge : JudgeValue) (told line : Told) → told ≡ line → Refuses judge line → Refuses judge told
refuses_it judge told line is refuses = subst (Refuses judge) (sym is) refuses

pub returns-in-Starts-clause-ok : goal.returns-in-Starts-clause-ok
returns-in-Starts-clause-ok c =
    both c.start.result (λ can is. takes_it _ _ c.args.told _ c.in-Starts.is (starts_on c.args.self.now c.start.new.self c.in-Starts.client c.in-Starts.number c.in-Starts.call can.0 can.1 is)) c.start.ensures.can c.start.ensures.ok

pub returns-in-Starts-clause-illegal : goal.returns-in-Starts-clause-illegal
returns-in-Starts-clause-illegal c = λ is. refuses_it _ c.args.told _ c.in-Starts.is (no_start c.args.self.now c.in-Starts.client c.in-Starts.number c.in-Starts.call (c.start.ensures.illegal is))

pub returns-in-Enters-clause-ok : goal.returns-in-Enters-clause-ok
returns-in-Enters-clause-ok c =
    both c.enter.result (λ enters same. takes_it _ _ c.args.told _ c.in-Enters.is (enters_on c.args.self.now c.enter.new.self c.in-Enters.client c.in-Enters.number c.in-Enters.new_ino c.in-Enters.reply enters)) c.enter.ensures.ok c.enter.ensures.ok

pub returns-in-Enters-clause-illegal : goal.returns-in-Enters-clause-illegal
returns-in-Enters-clause-illegal c = λ is. refuses_it _ c.args.told _ c.in-Enters.is (no_entry c.args.self.now c.in-Enters.client c.in-Enters.number c.in-Enters.new_ino c.in-Enters.reply (c.enter.ensures.illegal is))

pub returns-in-Flushes-clause-ok : goal.returns-in-Flushes-clause-ok
returns-in-Flushes-clause-ok c =
    both c.apply.result (λ next is. takes_it _ _ c.args.told _ c.in-Flushes.is (flush_on c.args.self.now c.apply.new.self c.in-Flushes.client c.in-Flushes.ino next is)) c.apply.ensures.legal c.apply.ensures.ok

pub returns-in-Purges-clause-ok : goal.returns-in-Purges-clause-ok
returns-in-Purges-clause-ok c =
    both c.apply-in-Purges.result (λ next is. takes_it _ _ c.args.told _ c.in-Purges.is (purge_on c.args.self.now c.apply-in-Purges.new.self c.in-Purges.client next is)) c.apply-in-Purges.ensures.legal c.apply-in-Purges.ensures.ok

pub returns-in-Answers-clause-ok : goal.returns-in-Answers-clause-ok
returns-in-Answers-clause-ok c =
    both c.end.result (λ can is. takes_it _ _ c.args.told _ c.in-Answers.is (ends_on c.args.self.now c.end.new.self c.in-Answers.client c.in-Answers.number c.in-Answers.reply can.0 can.1 is)) c.end.ensures.can c.end.ensures.ok

pub returns-in-Answers-clause-illegal : goal.returns-in-Answers-clause-illegal
returns-in-Answers-clause-illegal c = λ is. refuses_it _ c.args.told _ c.in-Answers.is (no_answer c.args.self.now c.in-Answers.client c.in-Answers.number c.in-Answers.reply (c.end.ensures.illegal is))
