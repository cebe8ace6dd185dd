use Rattle.std.proofs.Common.{◌≡◌, ℕ, ◌+◌, List, [], ◌∷◌, ◌++◌, refl, ap, sym, ◌∙◌, Some, arith, replicate}
use Rattle.std.proofs.lemmas.Grind.{replicate_next}
use Rattle.cal_base.specs.Limits as limits
use Rattle.shared_disk.proofs.mem_disk.MemDisk.new.Goals as goal

-- one sector more
longer : (n : ℕ) (s : List ℕ) (xs ys : List (List ℕ)) → ys ≡ xs ++ s ∷ [] → xs ≡ replicate n s → ys ≡ replicate (n + 1) s
longer n s xs ys e h = e ∙ ap (λ (zs : List (List ℕ)). zs ++ s ∷ []) h ∙ sym (replicate_next n s)

pub loop-i-preserved : goal.loop-i-preserved
loop-i-preserved c = longer c.loop-i._i _ _ _ c.in_ok-push.ensures.items c.loop-i.invariant

-- all of them, as sectors that are told
told : (n m : ℕ) (s : List ℕ) (xs : List (List ℕ)) → n ≡ m → xs ≡ replicate n s → Some xs ≡ Some (replicate m s)
told n m s xs e h = ap Some (h ∙ ap (λ (k : ℕ). replicate k s) e)

pub returns : goal.returns
returns c = record { key = refl; changes = c.new.ensures.items; sectors = told c.loop-i._i limits.sectors _ _ (omega arith) c.loop-i.invariant }
