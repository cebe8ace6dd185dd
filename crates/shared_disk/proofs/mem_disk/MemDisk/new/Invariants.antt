use Rattle.std.proofs.Common.{◌≡◌, replicate}
use Rattle.cal_base.specs.Limits.{block_size}
use Rattle.shared_disk.proofs.mem_disk.MemDisk.new.Given as goal

abbrev pub invariant-loop-i : goal.invariant-loop-i
invariant-loop-i l = l.sectors.items ≡ replicate l._i (replicate block_size 0)
