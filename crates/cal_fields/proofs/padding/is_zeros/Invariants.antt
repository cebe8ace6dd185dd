use Rattle.std.proofs.Common.{◌≡◌, take}
use Rattle.cal_fields.specs.Padded.{zeros}
use Rattle.cal_fields.proofs.padding.is_zeros.Given as goal

abbrev pub invariant-loop-byte : goal.invariant-loop-byte
invariant-loop-byte l = take l.byte-index l.bytes ≡ zeros l.byte-index
