use Rattle.std.proofs.Common.{◌∙◌, sym, arith}
use Rattle.std.proofs.lemmas.Bool.{lt-leb, le-leb}
use Rattle.journal.proofs.Headers.{ascend_more, refused_low, refused_home, let_on, home_is}
use Rattle.journal.proofs.header.homes_ascend.Goals.{then-home-least-via-then-home-least, then-home-least-via-else-home-least+then-not-may_be_home}
use Rattle.journal.proofs.header.homes_ascend.Goals as goal

pub returns-then-home-least : goal.returns-then-home-least
returns-then-home-least c =
    let more = c.loop-i.invariant.rest ∙ ascend_more c.args.header.now c.args.count c.loop-i.i c.loop-i.least c.home_at-home.result (omega arith) c.home_at-home.ensures in
    elim c.then-home-least.branch [
      | then-home-least-via-then-home-least w ↦ sym (more ∙ refused_low _ _ _ (lt-leb c.loop-i.least c.home_at-home.result w.if-home-least.true))
      | then-home-least-via-else-home-least+then-not-may_be_home w ↦ sym (more ∙ refused_home _ _ _ (sym w.may_be_home.ensures ∙ w.if-not-may_be_home.true))
    ]

pub loop-i-preserved : goal.loop-i-preserved
loop-i-preserved c =
    let home = sym c.may_be_home.ensures ∙ c.if-not-may_be_home.false in
    let good = home_is c.home_at-home.result home in
    let below = good.below in
    record {
      least = omega arith;
      rest = c.loop-i.invariant.rest
          ∙ ascend_more c.args.header.now c.args.count c.loop-i.i c.loop-i.least c.home_at-home.result (omega arith) c.home_at-home.ensures
          ∙ let_on _ _ _ (le-leb c.loop-i.least c.home_at-home.result c.if-home-least.false) home;
    }
