use Rattle.cluster_law.specs.ServerRules.{block_by}
use Rattle.cluster_law.specs.ServerState.{as_request}
use Rattle.server_line.proofs.Firsts.{first-behind, first-front}
use Rattle.server_line.proofs.resting.first_block.Goals as goal

pub returns-in-Some : goal.returns-in-Some
returns-in-Some c = λ asked.
    first-front (block_by (as_request c.args.client c.args.number asked)) c.as_slice.result.now c.args.blockers.now.to_ask c.args.blockers.now.own c.in-Some.blocker.now c.block_by.result c.as_slice.ensures c.in-Some.ensures.value
    (c.block_by.ensures asked)

pub returns-in-Some-first : goal.returns-in-Some-first
returns-in-Some-first c = λ asked.
    first-behind (block_by (as_request c.args.client c.args.number asked)) c.as_slice.result.now c.as_slice-in-None.result.now c.args.blockers.now.to_ask c.args.blockers.now.own c.in-Some-first.blocker.now c.block_by-in-Some-first.result
    c.as_slice.ensures c.in-None.ensures.value c.as_slice-in-None.ensures c.in-Some-first.ensures.value (c.block_by-in-Some-first.ensures asked)
