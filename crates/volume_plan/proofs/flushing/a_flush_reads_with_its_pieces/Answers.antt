use Rattle.volume_plan.proofs.FlushedBytes.{laid_bytes}
use Rattle.volume_plan.proofs.flushing.a_flush_reads_with_its_pieces.Goals as goal

pub returns : goal.returns
returns c = λ sectors v flush long spells is kept can i. laid_bytes sectors v flush (record { count = long; volume = is; is = can.is; file = can.file; enough = can.enough }) kept spells i
