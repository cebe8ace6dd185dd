-- What a step that goes on comes to, and that a node stays one.
use Rattle.std.proofs.Common.{◌≡◌, ◌<◌, ◌≤◌, ◌+◌, ◌^◌, ◌++◌, ◌∷◌, ◌&&◌, [], ℕ, List, Option, None, Ok, if◌then◌else◌, All, length, append_assoc, ap, refl, subst, sym, ◌∙◌, arith}
use Rattle.cal_base.specs.Limits.{clients}
use Rattle.cal_base.specs.declared.identity.ClientId.{ClientId}
use Rattle.client_sessions.specs.Mail.{AreBetween, Mail, session_at}
use Rattle.cluster_law.specs.Ends.{making}
use Rattle.cluster_law.specs.Lists.{is_empty}
use Rattle.cluster_law.specs.declared.node.ServerInput.{ServerInput}
use Rattle.cluster_law.specs.declared.node.ServerOutput.{ServerOutput}
use Rattle.fence.specs.Port.{PortState}
use Rattle.lane_facts.specs.Speaking.{opened_by, packets_with}
use Rattle.membership.specs.Membership.{Membership}
use Rattle.server_disk.specs.Carrying.{planned_by}
use Rattle.server_disk.specs.declared.carrying.Carried.{Carried}
use Rattle.server_draft.specs.Acts.{CanBeDone}
use Rattle.server_draft.specs.Draft.{told_or_waiting}
use Rattle.server_draft.specs.declared.act.Act.{Act}
use Rattle.server_draft.specs.declared.draft.Draft.{Draft}
use Rattle.server_mail.specs.Step.{HasRoom, bodies_to}
use Rattle.server_node.specs.Node.{IsNode, NodeValue, view_of}
use Rattle.server_node.specs.Parts.{Hears, Sends, bare_behind, packets_behind}
use Rattle.server_node.specs.Step.{Steps, again, bare, fresh, heard_by, hearing_at}
use Rattle.server_node.specs.declared.coming.Came.{Came}
use Rattle.server_node.proofs.Refusing.{CarriedSo, PlansFrom, plans}
use Rattle.server_node.proofs.Unopened.{mounts-nothing}
use Rattle.server_node.proofs.Unwritten.{writes-later}
use Rattle.server_turn.specs.declared.planning.Planned.{Planned}
use Rattle.session.specs.Session.{SessionState, bare_ack_of}
use Rattle.session.specs.declared.packet.Packet.{Packet}
use Rattle.shared_disk.specs.Disk.{Disk}
use Rattle.shared_disk.specs.declared.stop.Stop.{Stop}

-- few messages were made, and few requests wait
abbrev pub IsFew : NodeValue → Draft → Type 0
IsFew n draft = (to : ℕ) → told_or_waiting to draft ≤ length n.desk.requests + 2 ^ 11

-- the node after a step
abbrev pub node_after : NodeValue → PortState → Draft → Mail → NodeValue
node_after n port draft mail = record { id = n.id; port = port; desk = draft.desk; image = draft.image; mail = mail; steps = n.steps + 1 }

-- there is room in each session for what is told
pub room-to-send : (n : NodeValue) (input : ServerInput) (came : Came) (mail : Mail) (draft : Draft) → IsNode n → n.steps < 2 ^ 48 → Hears n input came mail → IsFew n draft → HasRoom mail draft.acts
room-to-send n input came mail draft node few h told = λ client within.
    let a = node.counts client within in
    let b = h.steps client within in
    let c = told client.0 in
    omega (arith, a, b, c, few)

-- a node is one after a step
pub node-stays : (n : NodeValue) (input : ServerInput) (came : Came) (mail mail' : Mail) (draft : Draft) (sent : List Packet) (port : PortState) → IsNode n → Hears n input came mail → IsFew n draft
    → Sends n.id (view_of n) mail draft.acts came.answers sent mail' → port.view ≡ n.port.view → IsNode (node_after n port draft mail')
node-stays n input came mail mail' draft sent port node h told s view = record {
  between = subst (λ (v : ℕ). AreBetween n.id (record { 0 = v }) mail') (sym view) s.between;
  unsent = s.unsent;
  counts = λ client within. (
      let a = node.counts client within in
      let b = h.steps client within in
      let c = told client.0 in
      let d = s.steps client within in
      omega (arith, a, b, c, d));
}

-- what goes to a client before what is owed
front : (n : NodeValue) (input : ServerInput) (came : Came) (mail : Mail) (acts : List Act) (client : ClientId) → client.0 < clients → Hears n input came mail
    → packets_behind (view_of n) mail acts client ≡ again n input client ++ fresh n input client acts
front n input came mail acts client within h =
    let bodies = bodies_to n.port.view client acts in
    (λ i. h.sent client within i ++ packets_with (h.session client within i) bodies)
    ∙ append_assoc (again n input client) (opened_by (session_at n.mail client) (heard_by n input client)) (packets_with (hearing_at n input client) bodies)

-- and what is owed
behind : (n : NodeValue) (input : ServerInput) (came : Came) (mail : Mail) (acts : List Act) (client : ClientId) → client.0 < clients → Hears n input came mail
    → bare_behind (view_of n) mail acts client came.answers ≡ bare n input client acts
behind n input came mail acts client within h = λ i. if h.owed client i && is_empty (front n input came mail acts client within h i) then bare_ack_of (h.session client within i) ∷ [] else []

-- a step goes on to its end
pub steps-on : (n : NodeValue) (members : Membership) (input : ServerInput) (stop : Option Stop) (old disk new : Disk) (faults counted faults' : ℕ) (came : Came) (mail mail' : Mail) (planned : Planned) (sent : List Packet) (port : PortState) (carried : Carried)
    → Hears n input came mail → PlansFrom n.port.view n.desk n.image members old planned came.coming → All CanBeDone planned.draft.acts → Sends n.id (view_of n) mail planned.draft.acts came.answers sent mail'
    → disk ≡ old → faults ≤ counted → port.view ≡ n.port.view
    → CarriedSo n.port.view planned.draft.acts stop disk counted (Ok carried) new faults'
    → Steps n members input stop old faults (node_after n port planned.draft mail') (record { sent = sent; writes = carried.writes; entries = carried.entries; head = planned.head }) new faults'
steps-on n members input stop old disk new faults counted faults' came mail mail' planned sent port carried h from can s same later view done =
    let acts = planned.draft.acts in
    record {
      acts = acts;
      doable = can;
      mounts = mounts-nothing n.port.view acts;
      id = refl;
      view = view;
      steps = refl;
      speaks = λ client within. record {
        session = s.session client within ∙ ap (λ (k : SessionState). making k (bodies_to n.port.view client acts)) (h.session client within);
        sent = s.all client within ∙ (λ i. front n input came mail acts client within h i ++ behind n input came mail acts client within h i);
      };
      out = s.out;
      writes = writes-later n.port.view (planned_by n.port.view acts) stop old disk new faults counted faults' carried.writes None same later done.carries;
      entries = done.entries;
      law = λ server stands. plans n members input old planned came.coming server h.coming from stands;
    }

-- the same node steps so
pub steps-of : (n k : NodeValue) (members : Membership) (input : ServerInput) (stop : Option Stop) (old : Disk) (faults : ℕ) (next : NodeValue) (output : ServerOutput) (new : Disk) (faults' : ℕ) → n ≡ k
    → Steps n members input stop old faults next output new faults' → Steps k members input stop old faults next output new faults'
steps-of n k members input stop old faults next output new faults' same s = subst (λ (m : NodeValue). Steps m members input stop old faults next output new faults') same s
