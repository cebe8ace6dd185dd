use Rattle.std.proofs.Common.{false, refl, w8}
use Rattle.std.proofs.lemmas.Nat.Bits.{bit_at_set_other, bit_at_set_same}
use Rattle.space_map.proofs.FreeBits.{changed-free_bits}
use Rattle.space_map.proofs.bits.with_used.Goals as goal

pub returns : goal.returns
returns c = changed-free_bits c.args.byte _ c.args.bit false c.requires (rw (bit_at_set_same w8 c.args.byte c.args.bit c.requires) refl)
    (λ other within apart. bit_at_set_other w8 c.args.byte c.args.bit c.requires other apart)
