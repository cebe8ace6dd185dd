use Rattle.std.proofs.Common.{T}
use Rattle.std.specs.Ordering.{nat_cmp}
use Rattle.std.specs.Cmp.Lexicographic.{slice_cmp}
use Rattle.std.specs.FinMap as map
use Rattle.std.specs.BTreeMap as tree
use Rattle.tree_law.proofs.DirectoryNames.{removed, sorted_remove}
use Rattle.tree_law.proofs.directory.Directory.remove.Goals as goal

still_sorted : (c : goal.After-remove) → T (map.is_sorted (slice_cmp nat_cmp) c.remove.new.self.entries)
still_sorted c = sorted_remove (tree.is_at (slice_cmp nat_cmp c.args.name.now)) c.self.inside.entries.entries c.remove.new.self.entries c.remove.ensures.entries c.self.invariant

pub invariant_of-self : goal.invariant_of-self
invariant_of-self c = still_sorted c

pub returns : goal.returns
returns c = rw (← c.self.view_is) (removed c.args.name.now c.self.inside.entries.entries c.remove.new.self.entries c.self.invariant (still_sorted c) c.remove.ensures.updates.0)
