use Rattle.std.proofs.Common.{◌≡◌, ℕ, Ok, sym, ap, ◌∙◌, subst, true}
use Rattle.cal_fields.specs.Padded.{padded}
use Rattle.inode.specs.Inode.{IsInode, inode_fields}
use Rattle.inode.proofs.InodeLemmas.{in_range, length-inode_fields, same_fields}
use Rattle.inode.proofs.read.read_inode.Goals as goal

pub returns-in_default-clause-again : goal.returns-in_default-clause-again
returns-in_default-clause-again c = λ inode spells.
    absurd (c.in_default.ensures.again (inode_fields inode) (length-inode_fields inode spells.inode.count) (spells.whole ∙ ap (λ (n : ℕ). padded n (inode_fields inode)) (sym c.told-from)))

pub returns-in_err-inode-clause-again : goal.returns-in_err-inode-clause-again
returns-in_err-inode-clause-again c = λ inode spells.
    absurd (c.in_err-inode.ensures.bad inode (c.in-Some.ensures.again (inode_fields inode) (length-inode_fields inode spells.inode.count) (spells.whole ∙ ap (λ (n : ℕ). padded n (inode_fields inode)) (sym c.told-from))))

pub returns-then-not-is_inode-clause-again : goal.returns-then-not-is_inode-clause-again
returns-then-not-is_inode-clause-again c = λ inode spells.
    let front = c.in-Some.ensures.again (inode_fields inode) (length-inode_fields inode spells.inode.count) (spells.whole ∙ ap (λ (n : ℕ). padded n (inode_fields inode)) (sym c.told-from)) in
    let same = same_fields c.in_ok-inode.inode inode c.in_ok-inode.ensures.in_range (in_range inode spells.inode) (sym c.in_ok-inode.ensures.found ∙ front) in
    let yes : c.is_inode.result ≡ true = c.is_inode.ensures.1 (subst IsInode (sym same) spells.inode) in
    cc

pub returns-clause-again : goal.returns-clause-again
returns-clause-again c = λ inode spells.
    let front = c.in-Some.ensures.again (inode_fields inode) (length-inode_fields inode spells.inode.count) (spells.whole ∙ ap (λ (n : ℕ). padded n (inode_fields inode)) (sym c.told-from)) in
    ap Ok (same_fields c.in_ok-inode.inode inode c.in_ok-inode.ensures.in_range (in_range inode spells.inode) (sym c.in_ok-inode.ensures.found ∙ front))
