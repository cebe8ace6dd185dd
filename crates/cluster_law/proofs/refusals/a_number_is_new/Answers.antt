use Rattle.std.proofs.Common.{◌≡◌, ◌<◌, ◌+◌, ℕ, subst, arith}
use Rattle.cluster_law.specs.Granting.{CommitsDeed}
use Rattle.cluster_law.proofs.refusals.a_number_is_new.Goals as goal

next-above : (n m : ℕ) → n ≡ m + 1 → m < n
next-above n m e = omega arith

pub returns-clause-change : goal.returns-clause-change
returns-clause-change c = λ o start server before commit asked reply new_ino e w. (subst (λ deed. CommitsDeed server o.took deed commit) e w.commits.0).new

pub returns-clause-flush : goal.returns-clause-flush
returns-clause-flush c = λ o start server before commit client flush e w. next-above _ _ (subst (λ deed. CommitsDeed server o.took deed commit) e w.commits.0).next
