use Rattle.std.proofs.Common.{◌≡◌, ◌≤◌, ◌+◌, ◌-◌, ◌∙◌, ℕ, List, [], ◌∷◌, ◌++◌, ap, sym, arith, replicate}
use Rattle.cal_base.specs.Limits as limits
use Rattle.std.proofs.lemmas.Grind.{replicate_next}
use Rattle.inode.specs.declared.inode.Inode.{Inode}
use Rattle.volume.specs.Format.{root_inode}
use Rattle.volume_edit.specs.Edit.{free_inode}
use Rattle.image.specs.Image.{fresh_inodes}
use Rattle.image.proofs.room.room_for_inodes.Goals as goal

one_free_more : (i : ℕ) (inodes longer : List Inode) (inode : Inode) → 1 ≤ i → longer ≡ inodes ++ inode ∷ [] → inode ≡ free_inode → inodes ≡ root_inode ∷ replicate (i - 1) free_inode
    → longer ≡ root_inode ∷ replicate (i + 1 - 1) free_inode
one_free_more i inodes longer inode from pushed free is =
    let count : i + 1 - 1 ≡ (i - 1) + 1 = omega arith in
    rw (pushed, free, is, count) (ap (λ (rest : List Inode). root_inode ∷ rest) (sym (replicate_next (i - 1) free_inode)))

pub loop-number-preserved : goal.loop-number-preserved
loop-number-preserved c = one_free_more _ _ _ _ (omega arith) c.in_ok-push-2.ensures.items c.blank_inode-in-loop-number.ensures c.loop-number.invariant

pub returns : goal.returns
unfolding fresh_inodes
returns c =
    let last : c.loop-number._number ≡ limits.inodes = omega arith in
    c.loop-number.invariant ∙ ap (λ (n : ℕ). root_inode ∷ replicate (n - 1) free_inode) last
