use Rattle.std.proofs.Common.{arith}
use Rattle.script.proofs.Written.{number_written}
use Rattle.trace_text.proofs.laws.a_number_is_read_back.Goals as goal

pub returns : goal.returns
returns c number small = number_written 0 18446744073709551615 number (omega arith) (omega (arith, small)) (omega arith)
