-- Which calls change the tree.
use Rattle.std.specs.Prelude.{Bool, true, false, ⊤}
use Rattle.tree_law.specs.Path.{IsPath}
use Rattle.tree_law.specs.declared.call.Call.{Call}
use Rattle.tree_law.specs.declared.call.Call.TheVariants.{Create, Mkdir, Unlink, Rmdir, Rename, Open, Close, Read, Write, Truncate, Stat, Readdir, Fsync}

-- a change of the tree: a call that alters names, which a server alone carries out
abbrev pub is_change : Call → Bool
is_change (Create path) = true
is_change (Mkdir path) = true
is_change (Unlink path) = true
is_change (Rmdir path) = true
is_change (Rename path goal) = true
is_change (Open path mode) = false
is_change (Close fd) = false
is_change (Read fd offset len) = false
is_change (Write fd offset bytes) = false
is_change (Truncate fd size) = false
is_change (Stat path) = false
is_change (Readdir path) = false
is_change (Fsync fd) = false

-- the paths of a change are paths
abbrev pub HasPaths : Call → Type 0
HasPaths (Create path) = IsPath path
HasPaths (Mkdir path) = IsPath path
HasPaths (Unlink path) = IsPath path
HasPaths (Rmdir path) = IsPath path
HasPaths (Rename path goal) = IsPath path × IsPath goal
HasPaths _ = ⊤
