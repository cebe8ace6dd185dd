use Rattle.std.proofs.Common.{◌≡◌, ◌==◌, map}
use Rattle.std.specs.List.{list_any}
use Rattle.tree_law.proofs.directory.Directory.names_inode.Given as goal

abbrev pub invariant-loop-named : goal.invariant-loop-named
invariant-loop-named l = l.found ≡ list_any (λ named. named.0 == l.ino) (map (λ named. named.now) l.yielded)
