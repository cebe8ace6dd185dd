use Rattle.std.proofs.Common.{◌≡◌, ◌∙◌, map, rules}
use Rattle.std.specs.BTreeMap as tree
use Rattle.std.specs.Map.Iter.{deref}
use Rattle.std.proofs.lemmas.Map.Iter.{iter_end}
use Rattle.tree_law.proofs.DirectoryNames.{listed}
use Rattle.tree_law.proofs.directory.Directory.names.Goals as goal

pub returns : goal.returns
returns c =
    let all : map deref c.loop-name.yielded ≡ tree.keys c.self.inside.entries = search (rules, iter_end) in
    rw (← c.self.view_is) (c.loop-name.invariant ∙ all ∙ listed _ c.self.invariant)
