use Rattle.std.proofs.Common.{◌≡◌, ◌+◌, ◌*◌, ◌++◌, take, length}
use Rattle.inode.specs.Inode.{pointer_bytes}
use Rattle.inode.proofs.write.put_pointers.Given as goal

abbrev pub invariant-loop-pointer : goal.invariant-loop-pointer
invariant-loop-pointer l = record {
  put : l.fields ≡ l.fn.fields ++ pointer_bytes (take l.pointer-index l.pointers);
  length : length l.fields ≡ length l.fn.fields + 2 * l.pointer-index;
}
