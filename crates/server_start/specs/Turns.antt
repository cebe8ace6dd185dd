-- A server that boots, as it asks one client after the other.
use Rattle.std.specs.Prelude.{◌≡◌, ◌<◌, ◌≤◌, ◌∷◌, [], ℕ, Bool, true, false, nat_lt, if◌then◌else◌, List}
use Rattle.cal_base.specs.Limits.{clients}
use Rattle.cal_base.specs.declared.identity.ClientId.{ClientId}
use Rattle.client_sessions.specs.Mail.{Mail, session_at}
use Rattle.cal_base.specs.declared.identity.ServerId.{ServerId}
use Rattle.cal_base.specs.declared.identity.View.{View}
use Rattle.cluster_law.specs.Asking.{is_whole}
use Rattle.cluster_law.specs.Lists.{Each}
use Rattle.cluster_law.specs.ServerRules.{ActsWell, EachAct}
use Rattle.cluster_law.specs.ServerState.{after_acts, empty_table, serving}
use Rattle.cluster_law.specs.Sessions.{told_in}
use Rattle.message.specs.declared.message.Message.TheVariants.{Ask}
use Rattle.rebuild.specs.Collecting.{standing_of}
use Rattle.server_desk.specs.Desk.{DeskValue, with_desk}
use Rattle.volume.specs.Volume.{Volume}
use Rattle.server_start.specs.Asks.{mail_asking, session_with}
use Rattle.server_start.specs.Boots.{boot_acts, booting, lane_to, was_asked}

-- the server of a view asked some clients, and may ask more: nobody has reported, holds or wants anything yet
pub record IsAsking (view window : ℕ) (own : List (List ℕ)) (desk : DeskValue) (volume : Volume) : Type 0 where
  pub asked : List ClientId
  pub within : Each (λ client. client.0 < clients) asked
  pub reached : (first : Volume) → after_acts (serving window first own) (boot_acts view volume asked) ≡ with_desk desk volume own
  pub well : (first : Volume) (gone : ClientId → Bool) → EachAct (serving window first own) (ActsWell (booting gone) (serving window first own)) (boot_acts view volume asked)
  pub told : (client : ClientId) → told_in (lane_to view client) (boot_acts view volume asked) ≡ (if was_asked desk client then Ask ∷ [] else [])
  pub unreported : (client : ClientId) → is_whole (standing_of desk.collecting client) ≡ false
  pub unheld : desk.collecting.table ≡ empty_table
  pub unwanted : desk.requests ≡ []
  pub unasked : desk.asked ≡ []

-- of the first clients those are asked that pass a test, and of the others all
abbrev pub asked_below : ℕ → (ClientId → Bool) → ClientId → Bool
asked_below n test client = if nat_lt client.0 n then test client else true

-- the Asks of the first clients that don't pass were taken back; the sessions with the others are still to be had
pub record TakesBack (id : ServerId) (view : View) (test : ClientId → Bool) (n : ℕ) (mail others : Mail) : Type 0 where
  pub asking : mail ≡ mail_asking id view (asked_below n test)
  pub fresh : (client : ClientId) → client.0 < clients → n ≤ client.0 → session_at others client ≡ session_with id view client
