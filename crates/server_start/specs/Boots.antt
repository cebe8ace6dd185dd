-- How a server boots.
use Rattle.std.specs.Prelude.{◌≡◌, ◌<◌, ◌∷◌, ◌++◌, [], ℕ, Bool, true, false, if◌then◌else◌, List, Option, None, Result, Ok, Err, map}
use Rattle.cal_base.specs.Limits.{clients}
use Rattle.cal_base.specs.declared.identity.ClientId.{ClientId}
use Rattle.cal_base.specs.declared.identity.ServerId.{ServerId}
use Rattle.cal_base.specs.declared.identity.View.{View}
use Rattle.client_sessions.specs.Mail.{after_taking}
use Rattle.cluster_law.specs.Lanes.{Act, Down, Lane, Mounts, Tells}
use Rattle.cluster_law.specs.Lists.{Each}
use Rattle.cluster_law.specs.Noted.{DiskAt}
use Rattle.cluster_law.specs.ServerRules.{ActsWell, BootActs, EachAct, EndsWell, Occasion}
use Rattle.cluster_law.specs.ServerState.{ServerState, after_acts, empty_table, serving, table_in}
use Rattle.cluster_law.specs.Sessions.{told_in}
use Rattle.cluster_law.specs.declared.node.ServerOutput.{ServerOutput}
use Rattle.message.specs.declared.message.Message.TheVariants.{Ask}
use Rattle.rebuild.specs.Collecting.{is_asked, standing_of}
use Rattle.server_desk.specs.Desk.{DeskValue, IsLike}
use Rattle.shared_disk.specs.Disk.{Disk}
use Rattle.shared_disk.specs.declared.stop.Stop.{Stop}
use Rattle.volume.specs.Volume.{Volume}
use Rattle.server_start.specs.Asks.{mail_asking}
use Rattle.server_start.specs.Opening.{HaltsSo, IsRead}
use Rattle.server_start.specs.declared.started.Started.{Started}
use Rattle.server_start.specs.declared.stops.StepError.{StepError}
use Rattle.server_start.specs.declared.stops.StepError.TheVariants.{OutOfMemory, Halted}

-- a client was asked, and has not reported all
abbrev pub was_asked : DeskValue → ClientId → Bool
was_asked desk client = is_asked (standing_of desk.collecting client)

-- a boot mounts a volume, and then asks clients for their reports; newest first
abbrev pub lane_to : ℕ → ClientId → Lane
lane_to view client = record { client = client.0; view = view; way = Down }

abbrev pub asks : ℕ → ClientId → Act
asks view client = Tells (lane_to view client) Ask

abbrev pub boot_acts : ℕ → Volume → List ClientId → List Act
boot_acts view volume asked = map (asks view) asked ++ Mounts volume ∷ []

-- the step of a boot: it takes no message, and is no tick
abbrev pub booting : (ClientId → Bool) → Occasion
booting gone = record { took = None; tick = false; boot = true; was_admitted = false; gone = gone }

-- a server that did these acts of a boot did each as the law asks, owes nothing at the end, and is the law's then;
-- nobody holds anything
pub record GoesWell (gone : ClientId → Bool) (start : ServerState) (acts : List Act) (desk : DeskValue) (volume : Volume) : Type 0 where
  pub well : EachAct start (ActsWell (booting gone) start) acts
  pub ends : EndsWell (booting gone) start acts None
  pub like : IsLike desk (after_acts start acts)
  pub volume_is : volume ≡ (after_acts start acts).volume
  pub unheld : table_in (after_acts start acts) ≡ empty_table

-- the server of a view that has this volume, in these sectors, asked some clients: those that its desk tells
pub record Asks (view window : ℕ) (own : List (List ℕ)) (desk : DeskValue) (volume : Volume) : Type 0 where
  pub asked : List ClientId
  pub within : Each (λ client. client.0 < clients) asked
  pub goes : (first : Volume) (gone : ClientId → Bool) → GoesWell gone (serving window first own) (boot_acts view volume asked) desk volume
  pub told : (client : ClientId) → told_in (lane_to view client) (boot_acts view volume asked) ≡ (if was_asked desk client then Ask ∷ [] else [])

-- a boot that serves: the disk was replayed and mounted, clients are asked as the law says, and the packets are
-- those Asks, in the order of the clients
pub record Serves (id : ServerId) (view : View) (window : ℕ) (stop : Option Stop) (before : DiskAt) (started : Started) (output : ServerOutput) (after : DiskAt) : Type 0 where
  pub port : started.port.view ≡ view.0
  pub read : IsRead view.0 stop before output.writes started.image after
  pub asks_well : Asks view.0 window read.mounted.own started.desk started.image
  pub mounts : BootActs read.mounted.own (boot_acts view.0 started.image asks_well.asked)
  pub mail : started.mail ≡ after_taking (mail_asking id view (was_asked started.desk))
  pub sent : output.sent ≡ (mail_asking id view (was_asked started.desk)).sent
  pub entries : output.entries ≡ []
  pub head : output.head ≡ None

-- what a server has that booted, whatever the disk tells: the port of its view, no request, and the sessions in which
-- those clients are asked that its desk has asked
pub record HasBooted (id : ServerId) (view : View) (started : Started) : Type 0 where
  pub port : started.port.view ≡ view.0
  pub unwanted : started.desk.requests ≡ []
  pub mail : started.mail ≡ after_taking (mail_asking id view (was_asked started.desk))

-- how a boot ended, on a disk that tells its sectors
abbrev pub BootEnds : ServerId → View → ℕ → Option Stop → DiskAt → Result (Started × ServerOutput) StepError → DiskAt → Type 0
BootEnds id view window stop before (Ok served) after = Serves id view window stop before served.0 served.1 after
BootEnds id view window stop before (Err OutOfMemory) after = Unit {0}
BootEnds id view window stop before (Err (Halted halted)) after = HaltsSo view.0 stop before halted after

-- after want of memory the disk is as it was, its room apart
pub record IsAsItWas (old : Disk) (faults : ℕ) (new : Disk) (faults' : ℕ) : Type 0 where
  pub same : new ≡ record old { room = new.room }
  pub faults_same : faults' ≡ faults
