use Rattle.std.proofs.Common.{◌≡◌, ◌+◌, ◌-◌, ◌*◌, ◌≤◌, drop}
use Rattle.cal_base.specs.Limits as limits
use Rattle.shared_disk.specs.Homes.{are_ascending}
use Rattle.journal.specs.Layout.{homes_in, numbers_in}
use Rattle.journal.proofs.header.homes_ascend.Given as goal

abbrev pub invariant-loop-i : goal.invariant-loop-i
invariant-loop-i l = record {
  least : l.least ≤ limits.sectors;
  rest : are_ascending 0 (homes_in l.header) ≡ are_ascending l.least (numbers_in (l.count - l.i) (drop (1 + 4 * l.i) l.header));
}
