use Rattle.std.proofs.Common.{sym, ap, ◌∙◌, ◌&&◌, ◌+◌, Bool}
use Rattle.std.specs.Prelude.{nat_lt}
use Rattle.volume_plan.specs.Plans.{free_count}
use Rattle.cluster_law.specs.Blocking.{reserved}
use Rattle.server_line.specs.Known.{known}
use Rattle.server_line.proofs.resting.is_wanting.Goals as goal

pub returns-then-is_free : goal.returns-then-is_free
returns-then-is_free c = λ sectors.
    c.is_short.ensures sectors ∙ ap (λ (b : Bool). b && nat_lt (free_count c.args.draft.now.image) (c.args.wanted + reserved (known c.args.draft.now sectors))) (sym c.if-is_free.true ∙ c.is_free.ensures)
