use Rattle.tree_law.proofs.DirectoryNames.{inserted, sorted_insert}
use Rattle.tree_law.proofs.directory.Directory.insert.Goals as goal

pub invariant_of-self-2 : goal.invariant_of-self-2
invariant_of-self-2 c = sorted_insert c.args.name c.args.ino _ _ c.in_ok-insert.ensures.entries c.self.invariant

pub returns-clause-ok : goal.returns-clause-ok
returns-clause-ok c = rw (← c.self.view_is) (inserted c.args.name c.args.ino _ _ c.in_ok-insert.ensures.entries c.self.invariant)
