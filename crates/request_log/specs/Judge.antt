-- What a slot says of the number of a change.
use Rattle.std.specs.Prelude.{◌==◌, ℕ, nat_lt, if◌then◌else◌}
use Rattle.request_log.specs.declared.slot.Slot.{Slot}
use Rattle.request_log.specs.declared.judge.Judged.{Judged}
use Rattle.request_log.specs.declared.judge.Judged.TheVariants.{New, Kept, Old}

-- at the number of the last change its reply was kept; a lower number is old, a higher one is new
abbrev pub judged : Slot → ℕ → Judged
judged s n = if n == s.call then Kept s.reply else if nat_lt n s.call then Old else New
