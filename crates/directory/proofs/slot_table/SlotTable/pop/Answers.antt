use Rattle.std.proofs.Common.{arith, ◌≡◌, ◌∙◌, ◌+◌, ◌-◌, ap, length, vec_len, ℕ, take}
use Rattle.std.proofs.lemmas.List.{length-set}
use Rattle.std.proofs.Common.{None}
use Rattle.directory.proofs.Tables.{table_popped}
use Rattle.directory.proofs.slot_table.SlotTable.pop.Goals as goal

pub invariant_of-self : goal.invariant_of-self
invariant_of-self c =
    let same = ap length c.self.view_is in
    let len = c.len-last.ensures in
    let some = c.requires in
    let last : (c.len-last.result - 1) + 1 ≡ length c.args.self.now = omega arith in
    let after = ap length (c.self-2.view_is ∙ c.clear_any.ensures) in
    let size = length-set c.args.self.now (c.len-last.result - 1) None in
    let count : vec_len c.self-2.inside.slots - 1 ≡ c.len-last.result - 1 = omega arith in
    let least = c.min-self-inside.ensures in
    let capacity = c.pop.ensures.capacity in (
      table_popped c.args.self.now c.self-2.inside.slots.items _ _ _ _ (c.len-last.result - 1) c.self-2.invariant.0 (c.self-2.view_is ∙ c.clear_any.ensures) last
          (c.pop.ensures.rest ∙ ap (λ (n : ℕ). take n c.self-2.inside.slots.items) count) (omega arith),
      omega (arith, c.self-2.invariant.1),
      c.self-2.invariant.2,
    )
