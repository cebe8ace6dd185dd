use Rattle.std.proofs.Common.{◌≡◌, ◌≤◌, ℕ, length, take}
use Rattle.server_draft.specs.Acts.{acts_of}
use Rattle.server_writes.specs.Halted.{count_left}
use Rattle.server_writes.proofs.Planning.{planned}
use Rattle.server_writes.proofs.entries.count_left.Given as goal

abbrev pub invariant-loop-act : goal.invariant-loop-act
invariant-loop-act l = record {
  before : l.before ≡ length (planned (take l.act-index l.acts));
  count : (view : ℕ) → l.count ≡ count_left l.fn.failed l.fn.kept (acts_of view (take l.act-index l.acts));
  small : l.count ≤ l.act-index;
}
