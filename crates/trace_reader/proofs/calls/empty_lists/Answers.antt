use Rattle.std.proofs.Common.{◌≡◌, ◌∙◌, ℕ, List, [], ap, replicate, arith}
use Rattle.tree_law.specs.declared.call.Call.{Call}
use Rattle.trace_reader.specs.Adding.{no_calls}
use Rattle.trace_reader.proofs.calls.empty_lists.Goals as goal

sixteen : (lists : List (List Call)) (n : ℕ) → lists ≡ replicate n [] → n ≡ 16 → lists ≡ no_calls
unfolding no_calls
sixteen lists n is e = is ∙ ap (λ (k : ℕ). replicate k []) e

pub returns : goal.returns
returns c = sixteen _ c.loop.counter c.loop.invariant (omega (arith, c.loop-test.false, c.loop.auto.counter-end))
