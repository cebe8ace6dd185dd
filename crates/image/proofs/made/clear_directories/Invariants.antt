use Rattle.std.proofs.Common.{◌≡◌, ◌<◌, ℕ, [], get_or}
use Rattle.image.proofs.made.clear_directories.Given as goal

abbrev pub invariant-loop-directory : goal.invariant-loop-directory
invariant-loop-directory l = (k : ℕ) → k < l.directory-index → get_or l.directories k [] ≡ []
