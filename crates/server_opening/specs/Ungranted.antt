-- What a step hasn't granted yet.
use Rattle.std.specs.Prelude.{◌≡◌, ℕ, Bool, true, false, List}
use Rattle.message.specs.declared.message.Message.{Message}
use Rattle.message.specs.declared.message.Message.TheVariants.{Grant}
use Rattle.cluster_law.specs.Asking.{was_told}
use Rattle.server_draft.specs.Acts.{acts_of}
use Rattle.server_draft.specs.declared.act.Act.{Act}

abbrev pub is_grant : Message → Bool
is_grant (Grant number items) = true
is_grant message = false

-- nobody was granted anything
abbrev pub HasGrantedNobody : ℕ → List Act → Type 0
HasGrantedNobody view acts = (client : ℕ) → was_told client is_grant (acts_of view acts) ≡ false
