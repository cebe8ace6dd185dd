use Rattle.std.proofs.Common.{arith, refl}
use Rattle.server_start.specs.Boots.{was_asked}
use Rattle.server_start.proofs.Mailing.{takes-all, takes-more, takes-none}
use Rattle.server_start.proofs.asks.Asks.of_asked.Goals as goal

pub loop-number-init : goal.loop-number-init
loop-number-init c = λ id view asking fresh. takes-none id view (was_asked c.args.desk.now) c.args.self.asking c.args.self.fresh asking fresh

pub loop-number-preserved : goal.loop-number-preserved
loop-number-preserved c = λ id view asking fresh.
    takes-more id view (was_asked c.args.desk.now) c.loop-number.number (was_asked c.args.desk.now (record { 0 = c.loop-number.number })) c.loop-number.asking c.loop-number.fresh c.take_back.new.asking c.take_back.new.fresh (omega arith) refl
    c.take_back.ensures.asking c.take_back.ensures.fresh (c.loop-number.invariant id view asking fresh)

pub returns : goal.returns
returns c = λ id view asking fresh. takes-all id view (was_asked c.args.desk.now) c.loop-number.number _ _ (omega arith) (c.loop-number.invariant id view asking fresh)
