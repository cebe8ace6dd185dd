-- What a server does with a flush.
use Rattle.std.specs.Prelude.{◌≡◌, ◌++◌, ◌∷◌, ◌+◌, ◌&&◌, [], ℕ, Bool, true, false, nat_eq, nat_le}
use Rattle.cal_base.specs.declared.identity.ClientId.{ClientId}
use Rattle.message.specs.declared.message.Message.TheVariants.{Flushed}
use Rattle.token_kind.specs.declared.flush.Flush.{Flush}
use Rattle.volume_edit.specs.Edit.{edited}
use Rattle.volume_plan.specs.Flushing.{flush_of}
use Rattle.cluster_law.specs.ServerState.{ServerState, last_flush, uses_new_flush}
use Rattle.server_desk.specs.Desk.{with_desk}
use Rattle.server_draft.specs.Acts.{act_of, acts_of, told_to}
use Rattle.server_draft.specs.declared.act.Act.TheVariants.{Commits, Tells}
use Rattle.server_draft.specs.declared.act.Commit.{Commit}
use Rattle.server_draft.specs.declared.act.Deed.TheVariants.{Flushes}
use Rattle.server_draft.specs.declared.draft.Draft.{Draft}
use Rattle.server_flushes.specs.declared.standing.Standing.{Standing}
use Rattle.server_flushes.specs.declared.standing.Standing.TheVariants.{Lasts, Next, PassedOver}

-- a server that knows what a draft knows, whatever is in its sectors
abbrev pub knowing : Draft → ServerState
knowing draft = with_desk draft.desk draft.image []

-- how a flush stands to what is on the disk: it is there; or it is the next of its client, and may be committed; or
-- it is neither
abbrev pub standing_by : Bool → Bool → Standing
standing_by true may = Lasts
standing_by false true = Next
standing_by false false = PassedOver

abbrev pub standing_in : ServerState → ClientId → Flush → Standing
standing_in server client flush =
    standing_by (nat_le flush.number (last_flush server client)) (nat_eq flush.number (last_flush server client + 1) && uses_new_flush server client flush)

-- a client is told that its flush of this number is on the disk
abbrev pub with_flushed : Draft → ClientId → ℕ → Draft
with_flushed draft client number = record draft { acts = draft.acts ++ Tells client (Flushed number) ∷ [] }

-- requests wait, and clients stand with their reports, as they did
pub record LowersOnly (old new : Draft) : Type 0 where
  pub requests : new.desk.requests ≡ old.desk.requests
  pub window : new.desk.collecting.window ≡ old.desk.collecting.window
  pub standings : new.desk.collecting.standings ≡ old.desk.collecting.standings

-- a client's flush is committed
pub record CommitsOne (client : ClientId) (flush : Flush) (old new : Draft) : Type 0 where
  pub commit : Commit
  pub deed : commit.deed ≡ Flushes client flush
  pub acts : new.acts ≡ old.acts ++ Commits commit ∷ []
  pub law : (view : ℕ) → acts_of view new.acts ≡ act_of view (Commits commit) ∷ acts_of view old.acts
  pub untold : (to : ℕ) → told_to to new.acts ≡ told_to to old.acts
  pub image : new.image ≡ edited old.image (flush_of old.image client flush)
  pub desk : LowersOnly old new
