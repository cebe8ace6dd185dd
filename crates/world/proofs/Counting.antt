-- No machine's step changes how many steps or packets a world counts.
use Rattle.std.proofs.Common.{◌≡◌, ◌+◌, ℕ, List, Option, Some, None, length, refl, ap, ◌∙◌, inl, inr}
use Rattle.std.proofs.lemmas.List.{length-append}
use Rattle.cal_base.specs.declared.identity.NodeId.{NodeId}
use Rattle.cal_base.specs.declared.identity.NodeId.TheVariants.{Client, Server}
use Rattle.cal_base.specs.declared.identity.ServerId.{ServerId}
use Rattle.cal_base.specs.declared.identity.ServerId.TheVariants.{A, B}
use Rattle.cluster_law.specs.declared.node.ServerInput.{ServerInput}
use Rattle.cluster_law.specs.declared.step.Event.{Event}
use Rattle.cluster_law.specs.declared.step.Event.TheVariants.{Start, Deliver, Tick, Crash, NewView, Gone, WriteBack}
use Rattle.cluster_law.specs.declared.step.TraceStep.{TraceStep}
use Rattle.server_node.specs.Node.{NodeValue as ServerNode}
use Rattle.session.specs.declared.packet.Packet.{Packet}
use Rattle.shared_disk.specs.Disk.{Disk}
use Rattle.shared_disk.specs.declared.stop.Stop.{Stop}
use Rattle.world.specs.Step.{Makes, Opens, Receives, ServerMakes, StepsSo, Ticks, crashed, opening}
use Rattle.world.specs.World.{WorldValue, with_server}

-- a world counts as many steps as another, and has the packets of that one
record Counts (moved old : WorldValue) : Type 0 where
  steps : moved.steps ≡ old.steps
  packets : moved.packets ≡ old.packets

alike : (moved w old : WorldValue) → moved ≡ w → Counts w old → Counts moved old
alike moved w old is counts = record { steps = ap (λ (v : WorldValue). v.steps) is ∙ counts.steps; packets = ap (λ (v : WorldValue). v.packets) is ∙ counts.packets }

with_server_counts : (w : WorldValue) (s : ServerId) (node : Option ServerNode) → Counts (with_server w s node) w
with_server_counts w A running = record { steps = refl; packets = refl }
with_server_counts w B running = record { steps = refl; packets = refl }

opening_counts : (w : WorldValue) (s : ServerId) → Counts (opening w s) w
opening_counts w A = record { steps = refl; packets = refl }
opening_counts w B = record { steps = refl; packets = refl }

opened_counts : (w : WorldValue) (s : ServerId) (node : Option ServerNode) → Counts (with_server (opening w s) s node) w
opened_counts w A running = record { steps = refl; packets = refl }
opened_counts w B running = record { steps = refl; packets = refl }

crashed_counts : (w : WorldValue) (node : NodeId) → Counts (crashed w node) w
crashed_counts w (Client c) = record { steps = refl; packets = refl }
crashed_counts w (Server s) = with_server_counts w s None

server_counts : (old : WorldValue) (disk : Disk) (faults : ℕ) (s : ServerId) (input : ServerInput) (stop : Option Stop) (event : Event) (step : TraceStep) (moved : WorldValue) (disk' : Disk) (faults' : ℕ) → ServerMakes old disk faults s input stop event step moved disk' faults' → Counts moved old
server_counts old disk faults s input stop event step moved disk' faults' (inl on) = alike moved (with_server old s (Some on.next)) old on.moved_is (with_server_counts old s (Some on.next))
server_counts old disk faults s input stop event step moved disk' faults' (inr halts) = alike moved (with_server old s None) old halts.moved_is (with_server_counts old s None)

receives_counts : (old : WorldValue) (disk : Disk) (faults : ℕ) (node : NodeId) (packet : Packet) (stop : Option Stop) (event : Event) (step : TraceStep) (moved : WorldValue) (disk' : Disk) (faults' : ℕ) → Receives old disk faults node packet stop event step moved disk' faults' → Counts moved old
receives_counts old disk faults (Client c) packet stop event step moved disk' faults' made = alike moved _ old made.0.moved_is (record { steps = refl; packets = refl })
receives_counts old disk faults (Server s) packet stop event step moved disk' faults' made = server_counts old disk faults s _ stop event step moved disk' faults' made

ticks_counts : (old : WorldValue) (disk : Disk) (faults : ℕ) (node : NodeId) (stop : Option Stop) (step : TraceStep) (moved : WorldValue) (disk' : Disk) (faults' : ℕ) → Ticks old disk faults node stop step moved disk' faults' → Counts moved old
ticks_counts old disk faults (Client c) stop step moved disk' faults' made = alike moved _ old made.0.moved_is (record { steps = refl; packets = refl })
ticks_counts old disk faults (Server s) stop step moved disk' faults' made = server_counts old disk faults s _ stop _ step moved disk' faults' made

opens_counts : (old : WorldValue) (disk : Disk) (faults : ℕ) (s : ServerId) (stop : Option Stop) (step : TraceStep) (moved : WorldValue) (disk' : Disk) (faults' : ℕ) → Opens old disk faults s stop step moved disk' faults' → Counts moved old
opens_counts old disk faults s stop step moved disk' faults' (inl boots) = alike moved (with_server (opening old s) s (Some boots.node)) old boots.moved_is (opened_counts old s (Some boots.node))
opens_counts old disk faults s stop step moved disk' faults' (inr halts) = alike moved (opening old s) old halts.moved_is (opening_counts old s)

makes_counts : (old : WorldValue) (disk : Disk) (faults : ℕ) (event : Event) (step : TraceStep) (moved : WorldValue) (disk' : Disk) (faults' : ℕ) → Makes old disk faults event step moved disk' faults' → Counts moved old
makes_counts old disk faults (Start client call) step moved disk' faults' made = alike moved _ old made.0.moved_is (record { steps = refl; packets = refl })
makes_counts old disk faults (Deliver packet stop) step moved disk' faults' made =
    let counts = receives_counts _ disk faults made.packet.to made.packet stop _ step moved disk' faults' made.received in
    record { steps = counts.steps; packets = counts.packets }
makes_counts old disk faults (Tick node stop) step moved disk' faults' made = ticks_counts old disk faults node stop step moved disk' faults' made
makes_counts old disk faults (Crash node) step moved disk' faults' made = alike moved (crashed old node) old made.0.moved_is (crashed_counts old node)
makes_counts old disk faults (NewView server stop) step moved disk' faults' made = opens_counts old disk faults server stop step moved disk' faults' made
makes_counts old disk faults (Gone client) step moved disk' faults' made = alike moved _ old made.0.moved_is (record { steps = refl; packets = refl })
makes_counts old disk faults (WriteBack client fd) step moved disk' faults' made = alike moved _ old made.0.moved_is (record { steps = refl; packets = refl })

-- a step is counted once, and what it sends stands behind the packets sent before
pub step-counted : (old : WorldValue) (disk : Disk) (faults : ℕ) (event : Event) (step : TraceStep) (new : WorldValue) (disk' : Disk) (faults' : ℕ) → StepsSo old disk faults event step new disk' faults' → (new.steps ≡ old.steps + 1) × (length new.packets ≡ length old.packets + length step.sent)
step-counted old disk faults event step new disk' faults' so =
    let counts = makes_counts old disk faults event step so.moved disk' faults' so.makes in
    let packets : length new.packets ≡ length old.packets + length step.sent = ap (λ (w : WorldValue). length w.packets) so.keeps ∙ length-append so.moved.packets step.sent ∙ ap (λ (ps : List Packet). length ps + length step.sent) counts.packets in
    (ap (λ (w : WorldValue). w.steps) so.keeps ∙ ap (λ (n : ℕ). n + 1) counts.steps, packets)
