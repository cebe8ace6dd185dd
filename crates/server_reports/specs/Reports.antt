-- What a server puts to a draft as it collects what clients hold.
use Rattle.std.specs.Prelude.{◌≡◌, ◌⊎◌, ◌∷◌, ◌++◌, [], ℕ, Bool, true, false, List, Option, Some, None}
use Rattle.cal_base.specs.declared.identity.ClientId.{ClientId}
use Rattle.message.specs.declared.message.Message.TheVariants.{Admit, Wait}
use Rattle.rebuild.specs.Collecting.{missing_of, standing_of}
use Rattle.rebuild.specs.declared.reporting.Reporting.{Reporting}
use Rattle.rebuild.specs.declared.reporting.Reporting.TheVariants.{Listed, Asked}
use Rattle.cluster_law.specs.Asking.{is_admit, was_told}
use Rattle.server_draft.specs.Acts.{acts_of}
use Rattle.server_draft.specs.declared.act.Act.{Act}
use Rattle.server_draft.specs.declared.act.Act.TheVariants.{Tells}
use Rattle.server_draft.specs.declared.draft.Draft.{Draft}

-- a client is told to wait for the client that is missing, if there is one
abbrev pub with_wait : Draft → ClientId → ℕ → Option ClientId → Draft
with_wait draft client number None = draft
with_wait draft client number (Some least) = record draft { acts = draft.acts ++ Tells client (Wait number least) ∷ [] }

-- a client is admitted, if its report is whole
abbrev pub with_admit : Draft → ClientId → Bool → Draft
with_admit draft client false = draft
with_admit draft client true = record draft { acts = draft.acts ++ Tells client Admit ∷ [] }

-- nobody was told to be admitted
abbrev pub HasAdmittedNobody : ℕ → List Act → Type 0
HasAdmittedNobody view acts = (client : ℕ) → was_told client is_admit (acts_of view acts) ≡ false

-- a client stands as it did, or was listed alone and is asked
abbrev pub MayBeAsked : Reporting → Reporting → Type 0
MayBeAsked old new = (new ≡ old) ⊎ ((old ≡ Listed) × (new ≡ Asked 0))

-- clients may have been asked for their reports, and all else that a draft knows is as it was
pub record AsksOnly (old new : Draft) : Type 0 where
  pub image : new.image ≡ old.image
  pub requests : new.desk.requests ≡ old.desk.requests
  pub asked : new.desk.asked ≡ old.desk.asked
  pub window : new.desk.collecting.window ≡ old.desk.collecting.window
  pub table : new.desk.collecting.table ≡ old.desk.collecting.table
  pub missing : missing_of new.desk.collecting ≡ missing_of old.desk.collecting
  pub standings : (client : ClientId) → MayBeAsked (standing_of old.desk.collecting client) (standing_of new.desk.collecting client)
