use Rattle.std.proofs.Common.{◌-◌}
use Rattle.message.specs.Reading.{alike_at}
use Rattle.message.specs.Tokens.{reported_at}
use Rattle.message.proofs.Many.{ReadsOn}
use Rattle.message.proofs.input.Input.alike_reported.Given as goal

abbrev pub invariant-loop-place : goal.invariant-loop-place
invariant-loop-place l = ReadsOn {S = Unit {0}} (λ before. reported_at) (λ x. tt) (l.count - l.place) tt l.self.rest.now l.holds (alike_at reported_at l.count l.fn.self.rest.now)
