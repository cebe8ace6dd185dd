use Rattle.std.proofs.Common.{◌-◌, ◌*◌, ◌≤◌}
use Rattle.space_map.specs.SpaceMap.{AreFull, map_words}
use Rattle.space_map.proofs.bits.first_open_word.Given as goal

abbrev pub invariant-loop-word : goal.invariant-loop-word
invariant-loop-word l = record { later : l.hint ≤ l.word; within : l.word ≤ map_words; full : AreFull l.bytes (8 * l.word) }

abbrev pub decreases-loop-word : goal.decreases-loop-word
decreases-loop-word l = map_words - l.word
