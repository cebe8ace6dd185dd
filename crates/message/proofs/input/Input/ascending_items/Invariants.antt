use Rattle.std.proofs.Common.{◌-◌}
use Rattle.message.specs.Reading.{many_at}
use Rattle.token_kind.specs.Class.{class_number}
use Rattle.message.specs.Tokens.{kept_item_at}
use Rattle.message.proofs.Many.{ReadsOn}
use Rattle.message.proofs.input.Input.ascending_items.Given as goal

abbrev pub invariant-loop-place : goal.invariant-loop-place
invariant-loop-place l = ReadsOn (kept_item_at l.last) (λ item. class_number item.0) (l.count - l.place) l.before l.self.rest.now l.items (many_at (kept_item_at l.last) (λ item. class_number item.0) l.count 0 l.fn.self.rest.now)
