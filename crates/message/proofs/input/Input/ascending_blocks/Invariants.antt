use Rattle.std.proofs.Common.{◌-◌, ◌+◌}
use Rattle.message.specs.Reading.{many_at}
use Rattle.message.specs.Tokens.{block_at}
use Rattle.message.proofs.Many.{ReadsOn}
use Rattle.message.proofs.input.Input.ascending_blocks.Given as goal

abbrev pub invariant-loop-place : goal.invariant-loop-place
invariant-loop-place l = ReadsOn (block_at l.blocks) (λ block. block.0 + 1) (l.count - l.place) l.least l.self.rest.now l.pieces (many_at (block_at l.blocks) (λ block. block.0 + 1) l.count 0 l.fn.self.rest.now)
