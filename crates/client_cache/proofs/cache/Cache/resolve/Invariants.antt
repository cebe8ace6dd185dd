use Rattle.std.proofs.Common.{◌≡◌, drop}
use Rattle.tree_law.specs.Part.{resolved_in, walked_in}
use Rattle.client_cache.specs.Known.{part_of}
use Rattle.client_cache.proofs.cache.Cache.resolve.Given as goal

abbrev pub invariant-loop-name : goal.invariant-loop-name
invariant-loop-name l = walked_in (part_of l.self) l.at (drop l.name-index l.path) ≡ resolved_in (part_of l.self) l.path
