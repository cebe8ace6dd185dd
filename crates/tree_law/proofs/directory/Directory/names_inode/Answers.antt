use Rattle.std.proofs.Common.{◌≡◌, ◌==◌, ◌∙◌, List, map, ap, rules}
use Rattle.std.specs.List.{list_any}
use Rattle.std.specs.BTreeMap as tree
use Rattle.std.specs.Map.Iter.{deref}
use Rattle.std.proofs.lemmas.Map.Iter.{iter_end}
use Rattle.cal_base.specs.declared.identity.Ino.{Ino}
use Rattle.tree_law.proofs.DirectoryNames.{listed_inodes}
use Rattle.tree_law.proofs.directory.Directory.names_inode.Goals as goal

pub returns : goal.returns
returns c =
    let all : map deref c.loop-named.yielded ≡ tree.values c.self.inside.entries = search (rules, iter_end) in
    rw (← c.self.view_is) (c.loop-named.invariant ∙ ap (λ (inodes : List Ino). list_any (λ named. named.0 == c.args.ino) inodes) (all ∙ listed_inodes _ c.self.invariant))
