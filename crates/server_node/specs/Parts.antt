-- The parts of a step beside what it plans: what it hears, and what it sends.
use Rattle.std.specs.Prelude.{◌≡◌, ℕ, ◌+◌, ◌++◌, ◌<◌, ◌≤◌, ◌∷◌, ◌&&◌, [], if◌then◌else◌, List, Option, IfSome, filter}
use Rattle.cal_base.specs.Faults.{Rose}
use Rattle.cal_base.specs.Limits.{clients}
use Rattle.cal_base.specs.declared.identity.ClientId.{ClientId}
use Rattle.cal_base.specs.declared.identity.ServerId.{ServerId}
use Rattle.cal_base.specs.declared.identity.View.{View}
use Rattle.client_sessions.specs.Mail.{AreBetween, Mail, is_to, session_at}
use Rattle.cluster_law.specs.Delivery.{has_number}
use Rattle.cluster_law.specs.Ends.{making}
use Rattle.cluster_law.specs.Lists.{Each, is_empty}
use Rattle.cluster_law.specs.ServerRules.{Occasion}
use Rattle.cluster_law.specs.ServerState.{ServerState}
use Rattle.cluster_law.specs.declared.node.ServerHalted.{ServerHalted}
use Rattle.cluster_law.specs.declared.node.ServerInput.{ServerInput}
use Rattle.cluster_law.specs.declared.step.Halt.{Halt}
use Rattle.cluster_law.specs.declared.step.Halt.TheVariants.{Fenced, Failed, Stopped, Damaged}
use Rattle.lane_facts.specs.Speaking.{opened_by, packets_with}
use Rattle.server_draft.specs.Acts.{told_to}
use Rattle.server_draft.specs.declared.act.Act.{Act}
use Rattle.server_mail.specs.Step.{AllGoOut, GoesOut, bodies_to, is_owed, packets_to}
use Rattle.server_node.specs.Node.{NodeValue, view_of}
use Rattle.server_node.specs.Step.{again, coming_in, heard_by, hearing_at}
use Rattle.server_node.specs.declared.coming.Came.{Came}
use Rattle.server_opening.specs.Opens.{CanCome}
use Rattle.server_start.specs.declared.stops.StepError.{StepError}
use Rattle.server_start.specs.declared.stops.StepError.TheVariants.{OutOfMemory, Halted}
use Rattle.server_turn.specs.Turn.{IsRefused}
use Rattle.session.specs.Session.{bare_ack_of}
use Rattle.session.specs.declared.packet.Packet.{Packet}
use Rattle.shared_disk.specs.Disk.{Disk, MeetsOther}

-- a node heard an input: each session did its part, and what was let out or repeated goes first
pub record Hears (n : NodeValue) (input : ServerInput) (came : Came) (mail : Mail) : Type 0 where
  pub coming : came.coming ≡ coming_in n input
  pub can : CanCome came.coming
  pub between : AreBetween n.id (view_of n) mail
  pub out : AllGoOut n.id (view_of n) mail
  pub session : (client : ClientId) → client.0 < clients → session_at mail client ≡ hearing_at n input client
  pub steps : (client : ClientId) → client.0 < clients → (session_at mail client).steps ≤ (session_at n.mail client).steps + 1
  pub sent : (client : ClientId) → client.0 < clients → packets_to client mail ≡ again n input client ++ opened_by (session_at n.mail client) (heard_by n input client)
  pub owed : (client : ClientId) → is_owed client came.answers ≡ has_number (heard_by n input client)
  pub bound : IfSome came.answers (λ client. client.0 < clients)

-- the packets to a client, before what is owed: those that were sent before, and then those of the acts
abbrev pub packets_behind : View → Mail → List Act → ClientId → List Packet
packets_behind view old acts client = packets_to client old ++ packets_with (session_at old client) (bodies_to view.0 client acts)

-- a client that is owed an acknowledgement, and to which nothing goes, is sent one by itself
abbrev pub bare_behind : View → Mail → List Act → ClientId → Option ClientId → List Packet
bare_behind view old acts client answers = if is_owed client answers && is_empty (packets_behind view old acts client) then bare_ack_of (session_at old client) ∷ [] else []

-- the sessions of a server sent the messages of some acts behind what was sent before, and then what is owed; these are
-- all packets of the step
pub record Sends (id : ServerId) (view : View) (old : Mail) (acts : List Act) (answers : Option ClientId) (sent : List Packet) (new : Mail) : Type 0 where
  pub between : AreBetween id view new
  pub unsent : new.sent ≡ []
  pub out : Each (GoesOut id view) sent
  pub session : (client : ClientId) → client.0 < clients → session_at new client ≡ making (session_at old client) (bodies_to view.0 client acts)
  pub steps : (client : ClientId) → client.0 < clients → (session_at new client).steps ≡ (session_at old client).steps + told_to client.0 acts
  pub all : (client : ClientId) → client.0 < clients → filter (is_to client) sent ≡ packets_behind view old acts client ++ bare_behind view old acts client answers

-- why a step halts that reads: the key is another, or the count of faults rose
abbrev pub IsReadHalt : Disk → ℕ → ℕ → Halt → ℕ → Type 0
IsReadHalt disk view faults (Fenced mine current) faults' = MeetsOther disk view mine current
IsReadHalt disk view faults (Failed count) faults' = (count ≡ faults') × (disk.key ≡ view) × Rose faults faults'
IsReadHalt disk view faults Stopped faults' = ⊥
IsReadHalt disk view faults (Damaged sector) faults' = ⊥

-- a step halted while it was planned: it wrote nothing, and the head of its line would read
pub record HaltsPlanning (view : ℕ) (o : Occasion) (start : ServerState) (disk : Disk) (faults : ℕ) (halted : ServerHalted) (faults' : ℕ) : Type 0 where
  pub refused : IsRefused view o start
  pub writes : halted.writes ≡ []
  pub entries : halted.entries ≡ []
  pub cause : IsReadHalt disk view faults halted.halt faults'

abbrev pub StopsPlanning : ℕ → Occasion → ServerState → Disk → ℕ → StepError → ℕ → Type 0
StopsPlanning view o start disk faults OutOfMemory faults' = Unit {0}
StopsPlanning view o start disk faults (Halted halted) faults' = HaltsPlanning view o start disk faults halted faults'
