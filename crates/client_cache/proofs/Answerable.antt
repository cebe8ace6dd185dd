use Rattle.std.proofs.Common.{◌≡◌, true, refl}
use Rattle.tree_law.specs.declared.call.Call.{Call}
use Rattle.tree_law.specs.declared.call.Call.TheVariants.{Create, Mkdir, Unlink, Rmdir, Rename, Open, Close, Read, Write, Truncate, Stat, Readdir, Fsync}
use Rattle.client_cache.specs.Covered.{covered, is_answerable}
use Rattle.client_cache.specs.Known.{Known}

-- a covered call can be answered
pub covered_is_answerable : (known : Known) (call : Call) → covered known call ≡ true → is_answerable known call ≡ true
covered_is_answerable known (Create path) e = e
covered_is_answerable known (Mkdir path) e = e
covered_is_answerable known (Unlink path) e = e
covered_is_answerable known (Rmdir path) e = e
covered_is_answerable known (Rename path goal) e = e
covered_is_answerable known (Open path mode) e = e
covered_is_answerable known (Close fd) e = refl
covered_is_answerable known (Read fd offset len) e = e
covered_is_answerable known (Write fd offset bytes) e = e
covered_is_answerable known (Truncate fd size) e = e
covered_is_answerable known (Stat path) e = e
covered_is_answerable known (Readdir path) e = e
covered_is_answerable known (Fsync fd) e = e
