use Rattle.std.proofs.Common.{◌≡◌}
use Rattle.server_start.specs.Asks.{mail_asking}
use Rattle.server_start.proofs.Mailing.{first_ones}
use Rattle.server_start.proofs.asks.Asks.new.Given as goal

abbrev pub invariant-loop-number : goal.invariant-loop-number
invariant-loop-number l = l.asking ≡ mail_asking l.id l.view (first_ones l.number)
