use Rattle.std.proofs.Common.{◌-◌, []}
use Rattle.message.specs.Reading.{many_at}
use Rattle.message.specs.Names.{entry_at}
use Rattle.message.proofs.Many.{ReadsOn}
use Rattle.message.proofs.input.Input.sorted_entries.Given as goal

abbrev pub invariant-loop-place : goal.invariant-loop-place
invariant-loop-place l = ReadsOn entry_at (λ entry. entry.name) (l.count - l.place) l.before l.self.rest.now l.entries (many_at entry_at (λ entry. entry.name) l.count [] l.fn.self.rest.now)
