-- How long a `settle` may last.
use Rattle.std.specs.Prelude.{ℕ, ◌+◌, ◌*◌}

-- the steps of a `settle` that begins with so many calls outstanding, in a cluster of so many clients
abbrev pub budget : ℕ → ℕ → ℕ
budget calls clients = 65536 * (1 + calls + clients)
