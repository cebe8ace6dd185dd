-- How a step halts: at a read while it is planned, or at a write.
use Rattle.std.proofs.Common.{false, ◌≡◌, ◌≢◌, ◌≤◌, inl, inr, [], ℕ, List, Option, Some, Result, Err, ap, subst, sym, ◌∙◌}
use Rattle.std.specs.Prelude.{IsTrue}
use Rattle.cluster_law.specs.DiskRules.{MeetsKey, WritesOn, would_read}
use Rattle.cluster_law.specs.Granting.{head}
use Rattle.cluster_law.specs.History.{writes_of_acts}
use Rattle.cluster_law.specs.Lanes as law
use Rattle.cluster_law.specs.Noted.{DiskAt}
use Rattle.cluster_law.specs.ServerState.{ServerState, after_acts, is_admitted}
use Rattle.cluster_law.specs.declared.node.ServerHalted.{ServerHalted}
use Rattle.cluster_law.specs.declared.node.ServerInput.{ServerInput}
use Rattle.cluster_law.specs.declared.step.Halt.{Halt}
use Rattle.cluster_law.specs.declared.step.Halt.TheVariants.{Fenced, Failed, Stopped, Damaged}
use Rattle.membership.specs.Membership.{Membership}
use Rattle.server_desk.specs.Desk.{DeskValue}
use Rattle.server_disk.specs.Carrying.{Carries, HasEntries, LeavesEntries, LeavesRoom, is_failure, planned_by}
use Rattle.server_disk.specs.declared.carrying.Carried.{Carried}
use Rattle.server_draft.specs.Acts.{acts_of}
use Rattle.server_draft.specs.declared.act.Act.{Act}
use Rattle.server_line.specs.Known.{SeesOwn}
use Rattle.server_node.specs.Node.{NodeValue}
use Rattle.server_node.specs.Parts.{HaltsPlanning, IsReadHalt, StopsPlanning}
use Rattle.server_node.specs.Step.{Halts, StandsFor, Stops, coming_in, occasion_of, start_of}
use Rattle.server_node.proofs.Unopened.{mounts-nothing, none-left}
use Rattle.server_node.proofs.Unwritten.{writes-later, writes-nothing}
use Rattle.server_opening.specs.Opens.{GoesOut, begun, occasion}
use Rattle.server_opening.specs.declared.opening.Coming.{Coming}
use Rattle.server_start.specs.declared.stops.StepError.{StepError}
use Rattle.server_start.specs.declared.stops.StepError.TheVariants.{OutOfMemory, Halted}
use Rattle.server_turn.specs.Turn.{IsPlanned}
use Rattle.server_turn.specs.declared.planning.Planned.{Planned}
use Rattle.server_writes.specs.Ending.{StandsAs}
use Rattle.server_writes.specs.Halted.{entries_left}
use Rattle.shared_disk.specs.Disk.{Disk}
use Rattle.shared_disk.specs.declared.stop.Stop.{Stop}
use Rattle.volume.specs.Volume.{Volume}
use Rattle.volume_names.specs.Named.{AreNamed}

-- a server plans a step from each server of the law that it stands for
abbrev pub PlansFrom : ℕ → DeskValue → Volume → Membership → Disk → Planned → Coming → Type 0
PlansFrom view desk image members disk planned coming = (server : ServerState) → GoesOut view server desk image coming → AreNamed image → SeesOwn (begun view server coming) view disk
    → IsPlanned view (occasion view members (is_admitted server) coming) (begun view server coming) disk planned

-- or stops
abbrev pub StopsFrom : ℕ → DeskValue → Volume → Membership → Disk → ℕ → StepError → ℕ → Coming → Type 0
StopsFrom view desk image members disk faults error faults' coming = (server : ServerState) → GoesOut view server desk image coming → AreNamed image → SeesOwn (begun view server coming) view disk
    → StopsPlanning view (occasion view members (is_admitted server) coming) (begun view server coming) disk faults error faults'

pub plans : (n : NodeValue) (members : Membership) (input : ServerInput) (disk : Disk) (planned : Planned) (coming : Coming) (server : ServerState) → coming ≡ coming_in n input → PlansFrom n.port.view n.desk n.image members disk planned coming
    → StandsFor n input server disk → IsPlanned n.port.view (occasion_of n members input server) (start_of n input server) disk planned
plans n members input disk planned coming server is from stands = subst (PlansFrom n.port.view n.desk n.image members disk planned) is from server stands.goes stands.named stands.sees

-- under another key it would have read
meets-reading : (view key : ℕ) (start : ServerState) (acts : List law.Act) (disk : Disk) (faults : ℕ) (halt : Halt) (faults' : ℕ) → IsReadHalt disk view faults halt faults' → IsTrue (would_read (after_acts start acts) (head (after_acts start acts)))
    → MeetsKey false view key start acts (Some halt)
meets-reading view key start acts disk faults (Fenced mine current) faults' cause reads = inr reads
meets-reading view key start acts disk faults (Failed count) faults' cause reads = tt
meets-reading view key start acts disk faults Stopped faults' cause reads = absurd cause
meets-reading view key start acts disk faults (Damaged sector) faults' cause reads = absurd cause

-- or it has something to write
meets-writing : (view key : ℕ) (start : ServerState) (acts : List law.Act) (halt : Halt) → writes_of_acts acts ≢ [] → MeetsKey false view key start acts (Some halt)
meets-writing view key start acts (Fenced mine current) some = inl some
meets-writing view key start acts (Failed count) some = tt
meets-writing view key start acts Stopped some = tt
meets-writing view key start acts (Damaged sector) some = tt

halts-unwritten : (n : NodeValue) (members : Membership) (input : ServerInput) (stop : Option Stop) (server : ServerState) (old new : Disk) (faults faults' : ℕ) (halted : ServerHalted) → new ≡ old → faults ≤ faults'
    → HaltsPlanning n.port.view (occasion_of n members input server) (start_of n input server) old faults halted faults' → Halts n members input stop server old faults halted new faults'
halts-unwritten n members input stop server old new faults faults' halted same later h =
    let view = n.port.view in
    let acts = h.refused.acts in
    record {
      acts = acts;
      mounts = mounts-nothing view acts;
      well = h.refused.well;
      writes = λ before after b a. subst (λ (ws : List (ℕ × List ℕ)). WritesOn false view (planned_by view acts) stop before after ws (Some halted.halt)) (sym h.writes)
          (writes-nothing view (planned_by view acts) stop old new faults faults' before after halted.halt same later h.cause b a);
      entries = h.entries ∙ sym (none-left (is_failure halted.halt) (acts_of view acts)) ∙ ap (λ (ws : List (ℕ × List ℕ)). entries_left (is_failure halted.halt) ws (acts_of view acts)) (sym h.writes);
      meets = meets-reading view old.key (start_of n input server) (acts_of view acts) old faults halted.halt faults' h.cause h.refused.reads;
    }

-- a step stopped while it was planned
pub stops-unwritten : (n : NodeValue) (members : Membership) (input : ServerInput) (stop : Option Stop) (old new : Disk) (faults faults' : ℕ) (coming : Coming) (error : StepError) → coming ≡ coming_in n input → new ≡ old → faults ≤ faults'
    → StopsFrom n.port.view n.desk n.image members old faults error faults' coming → Stops n members input stop old faults error new faults'
stops-unwritten n members input stop old new faults faults' coming OutOfMemory is same later from = same ∙ ap (λ (d : Disk). record old { room = d.room }) (sym same)
stops-unwritten n members input stop old new faults faults' coming (Halted halted) is same later from = λ server stands.
    halts-unwritten n members input stop server old new faults faults' halted same later
    (subst (StopsFrom n.port.view n.desk n.image members old faults (Halted halted) faults') is from server stands.goes stands.named stands.sees)

-- a step halted while it was written
pub halts-writing : (n : NodeValue) (members : Membership) (input : ServerInput) (stop : Option Stop) (server : ServerState) (old disk new : Disk) (faults counted faults' : ℕ) (planned : Planned) (halted : ServerHalted) → disk ≡ old → faults ≤ counted
    → IsPlanned n.port.view (occasion_of n members input server) (start_of n input server) old planned
    → ((before after : DiskAt) → StandsAs disk counted before → StandsAs new faults' after → WritesOn false n.port.view (planned_by n.port.view planned.draft.acts) stop before after halted.writes (Some halted.halt))
    → LeavesEntries n.port.view planned.draft.acts halted → Halts n members input stop server old faults halted new faults'
halts-writing n members input stop server old disk new faults counted faults' planned halted same later p writes left =
    let view = n.port.view in
    let acts = planned.draft.acts in
    record {
      acts = acts;
      mounts = mounts-nothing view acts;
      well = p.follows.well;
      writes = writes-later view (planned_by view acts) stop old disk new faults counted faults' halted.writes (Some halted.halt) same later writes;
      entries = left.left;
      meets = meets-writing view old.key (start_of n input server) (acts_of view acts) halted.halt left.some;
    }

-- what a plan is carried out to, on a disk that has failed so often before
pub record CarriedSo (view : ℕ) (acts : List Act) (stop : Option Stop) (disk : Disk) (counted : ℕ) (result : Result Carried StepError) (new : Disk) (faults' : ℕ) : Type 0 where
  pub carries : (before after : DiskAt) → StandsAs disk counted before → StandsAs new faults' after → Carries view acts stop before after result
  pub entries : HasEntries view acts result
  pub room : LeavesRoom disk new result

-- a step stopped once it was planned
pub stops-written : (n : NodeValue) (members : Membership) (input : ServerInput) (stop : Option Stop) (old disk new : Disk) (faults counted faults' : ℕ) (coming : Coming) (planned : Planned) (error : StepError) → coming ≡ coming_in n input
    → PlansFrom n.port.view n.desk n.image members old planned coming → disk ≡ old → faults ≤ counted → CarriedSo n.port.view planned.draft.acts stop disk counted (Err error) new faults' → Stops n members input stop old faults error new faults'
stops-written n members input stop old disk new faults counted faults' coming planned OutOfMemory is from same later carried = carried.room ∙ ap (λ (d : Disk). record d { room = new.room }) same
stops-written n members input stop old disk new faults counted faults' coming planned (Halted halted) is from same later carried = λ server stands.
    halts-writing n members input stop server old disk new faults counted faults' planned halted same later (plans n members input old planned coming server is from stands) carried.carries carried.entries
