use Rattle.std.proofs.Common.{◌≡◌, ◌++◌, true, length}
use Rattle.std.specs.List.{list_all}
use Rattle.script.specs.Numbers.{is_hex_digit, hex_bytes}
use Rattle.line_words.proofs.values.hex_bytes.Given as goal

abbrev pub invariant-loop-rest : goal.invariant-loop-rest
invariant-loop-rest l = (list_all is_hex_digit l.rest ≡ true) × (l.bytes.items ++ hex_bytes l.rest ≡ hex_bytes l.word)

abbrev pub decreases-loop-rest : goal.decreases-loop-rest
decreases-loop-rest l = length l.rest
