use Rattle.std.proofs.Common.{take}
use Rattle.token_table.specs.Series.{Same, with_lowered}
use Rattle.rebuild.proofs.collect.lower_all.Given as goal

abbrev pub invariant-loop-class : goal.invariant-loop-class
invariant-loop-class l = Same l.table (with_lowered l.fn.table l.c l.ino (take l.class-index l.items))
