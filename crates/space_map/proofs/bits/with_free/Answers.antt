use Rattle.std.proofs.Common.{true, refl, w8}
use Rattle.std.proofs.lemmas.Nat.Bits.{bit_at_clear_other, bit_at_clear_same}
use Rattle.space_map.proofs.FreeBits.{changed-free_bits}
use Rattle.space_map.proofs.bits.with_free.Goals as goal

pub returns : goal.returns
returns c = changed-free_bits c.args.byte _ c.args.bit true c.requires (rw (bit_at_clear_same w8 c.args.byte c.args.bit c.requires) refl)
    (λ other within apart. bit_at_clear_other w8 c.args.byte c.args.bit c.requires other within apart)
