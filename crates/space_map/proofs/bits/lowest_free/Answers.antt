use Rattle.std.proofs.Common.{ℕ, w8, arith, sym, subst}
use Rattle.std.proofs.lemmas.Nat.Bits.{bit_at-trailing_ones}
use Rattle.space_map.specs.SpaceMap.{IsLeastFree, free_bits}
use Rattle.space_map.proofs.FreeBits.{least-free_bits}
use Rattle.space_map.proofs.bits.lowest_free.Goals as goal

pub returns-clause-within : goal.returns-clause-within
returns-clause-within c =
    let lowest = bit_at-trailing_ones w8 c.args.byte (omega arith) in
    rw c.trailing_ones.ensures lowest.0

pub returns-clause-least : goal.returns-clause-least
returns-clause-least c =
    let lowest = bit_at-trailing_ones w8 c.args.byte (omega arith) in
    subst (λ (bit : ℕ). IsLeastFree (free_bits 8 c.args.byte) bit) (sym c.trailing_ones.ensures)
    (least-free_bits c.args.byte _ lowest.0 lowest.1 lowest.2)
