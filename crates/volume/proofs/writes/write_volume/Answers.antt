use Rattle.std.proofs.Common.{◌++◌, ◌∷◌, [], arith}
use Rattle.fence.proofs.RunsLemmas.{runs_then, runs_early, runs_passed}
use Rattle.volume.specs.Format.{blank, format_writes, free_writes, head_sector, inode_writes}
use Rattle.volume.proofs.Each.{length-to_each}
use Rattle.volume.proofs.writes.write_volume.Goals as goal

pub returns-in_err-write_free : goal.returns-in_err-write_free
returns-in_err-write_free g c =
    let rest = inode_writes ++ (0, head_sector c.args.clients) ∷ [] in
    runs_passed (format_writes c.args.clients) _ _ _ _ c.from_residual.result _ _ _
    (runs_early free_writes rest _ _ _ _ _ _ _ c.in_err-write_free.ensures) c.from_residual.ensures.1

pub write_inodes-requires : goal.write_inodes-requires
write_inodes-requires g c =
    let b = length-to_each 17 19 blank in
    let r = c.in_ok-write_free.ensures.room in
    omega arith

pub returns-in_err-write_inodes : goal.returns-in_err-write_inodes
returns-in_err-write_inodes g c =
    let head = (0, head_sector c.args.clients) ∷ [] in
    runs_passed (format_writes c.args.clients) _ _ _ _ c.from_residual-in_err-write_inodes.result _ _ _
    (runs_then free_writes (inode_writes ++ head) _ _ _ _ _ _ _ _ _ _ c.in_ok-write_free.ensures
    (runs_early inode_writes head _ _ _ _ _ _ _ c.in_err-write_inodes.ensures)) c.from_residual-in_err-write_inodes.ensures.1

pub write_one-requires-clause-room : goal.write_one-requires-clause-room
write_one-requires-clause-room g c =
    let b = length-to_each 17 19 blank in
    let d = length-to_each 511 37 blank in
    let r = c.in_ok-write_free.ensures.room in
    let s = c.in_ok-write_inodes.ensures.room in
    omega arith

pub returns : goal.returns
returns g c =
    let head = (0, head_sector c.args.clients) ∷ [] in
    let last = rw c.head_with-head.ensures at c.write_one.ensures in
    runs_then free_writes (inode_writes ++ head) _ _ _ _ _ _ _ _ _ _ c.in_ok-write_free.ensures
    (runs_then inode_writes head _ _ _ _ _ _ _ _ _ _ c.in_ok-write_inodes.ensures last)
