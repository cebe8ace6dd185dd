use Rattle.std.proofs.Common.{refl, ◌+◌, []}
use Rattle.std.specs.Prelude.{nat_lt}
use Rattle.volume_plan.specs.Plans.{free_count}
use Rattle.cluster_law.specs.Blocking.{reserved}
use Rattle.server_line.specs.Known.{known}
use Rattle.server_line.proofs.Gaps.{holds-all, none-before, space-all}
use Rattle.server_line.proofs.resting.or_space.Goals as goal

pub returns-in_ok-to_ask-clause-all : goal.returns-in_ok-to_ask-clause-all
returns-in_ok-to_ask-clause-all c = λ sectors.
    space-all (known c.args.draft.now sectors) c.args.wanted c.args.holds (record { to_ask = c.in_ok-to_ask.to_ask; own = c.args.holds.own }) c.is_wanting.result refl c.in_ok-to_ask.ensures.first (c.is_wanting.ensures sectors)
    c.if-is_wanting.true

pub returns-in_ok-to_ask-clause-some : goal.returns-in_ok-to_ask-clause-some
returns-in_ok-to_ask-clause-some c = λ none.
    none-before c.args.holds c.is_wanting.result (nat_lt (free_count c.args.draft.now.image) (c.args.wanted + reserved (known c.args.draft.now []))) (c.is_wanting.ensures []) c.if-is_wanting.true

pub returns-else-is_wanting-clause-all : goal.returns-else-is_wanting-clause-all
returns-else-is_wanting-clause-all c = λ sectors. holds-all (known c.args.draft.now sectors) c.args.wanted c.args.holds c.is_wanting.result (c.is_wanting.ensures sectors) c.if-is_wanting.false
