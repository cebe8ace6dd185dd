-- What a server hears of what comes, in each of its sessions.
use Rattle.std.proofs.Common.{◌≡◌, ◌<◌, ◌≤◌, ◌+◌, ◌++◌, [], List, Option, Some, None, filter, ap, subst, sym, ◌∙◌, arith}
use Rattle.std.specs.Prelude.{IfSome, slice_index_or}
use Rattle.std.proofs.lemmas.List.{append-nil}
use Rattle.cal_base.specs.Limits.{clients}
use Rattle.cal_base.specs.declared.identity.ClientId.{ClientId}
use Rattle.cal_base.specs.declared.identity.ServerId.{ServerId}
use Rattle.cal_base.specs.declared.identity.View.{View}
use Rattle.client_sessions.specs.Mail.{AreBetween, Mail, is_to, no_session, session_at}
use Rattle.cluster_law.specs.Delivery.{has_number}
use Rattle.cluster_law.specs.Ends.{hearing}
use Rattle.cluster_law.specs.Lists.{Each}
use Rattle.cluster_law.specs.declared.node.ServerInput.TheVariants.{Packet as Comes, Tick}
use Rattle.lane_facts.specs.Speaking.{opened_by}
use Rattle.message.specs.Range.{IsMessage}
use Rattle.server_mail.specs.Step.{AllGoOut, GoesOut, brought, heard_from, is_owed, owed, packets_to, part_of, resent}
use Rattle.server_mail.specs.declared.hearing.FromClient.{FromClient}
use Rattle.server_node.specs.Node.{IsNode, NodeValue, view_of}
use Rattle.server_node.specs.Parts.{Hears}
use Rattle.server_node.specs.Step.{coming_with, heard_by}
use Rattle.server_node.specs.declared.coming.Came.{Came}
use Rattle.server_opening.specs.Opens.{CanCome}
use Rattle.server_opening.specs.declared.opening.Coming.TheVariants.{Tick as Ticks}
use Rattle.session.specs.Session.{SessionState}
use Rattle.session.specs.declared.packet.Packet.{Packet}
use Rattle.volume.specs.Volume.{Volume}

-- sessions heard a packet
pub record HeardSo (m : Mail) (volume : Volume) (p : Packet) (took : Option FromClient) (answers : Option ClientId) (new : Mail) : Type 0 where
  pub took_is : took ≡ brought m p (heard_from m volume p)
  pub spelled : IfSome took (λ from. (from.client.0 < clients) × IsMessage from.message)
  pub answers_is : answers ≡ owed p (heard_from m volume p)
  pub bound : IfSome answers (λ client. client.0 < clients)
  pub between : (server : ServerId) (view : View) → AreBetween server view m → AreBetween server view new
  pub out : (server : ServerId) (view : View) → AreBetween server view m → AllGoOut server view m → AllGoOut server view new
  pub session : (server : ServerId) (view : View) (client : ClientId) → AreBetween server view m → client.0 < clients → session_at new client ≡ hearing (session_at m client) (part_of client p (heard_from m volume p))
  pub steps : (client : ClientId) → (session_at new client).steps ≤ (session_at m client).steps + 1
  pub sent : (server : ServerId) (view : View) (client : ClientId) → AreBetween server view m → client.0 < clients → packets_to client new ≡ packets_to client m ++ opened_by (session_at m client) (part_of client p (heard_from m volume p))

-- sessions sent again what isn't acknowledged
pub record ResentSo (m : Mail) (volume : Volume) (new : Mail) : Type 0 where
  pub sessions : new.sessions ≡ m.sessions
  pub between : (server : ServerId) (view : View) → AreBetween server view m → AreBetween server view new
  pub out : (server : ServerId) (view : View) → AreBetween server view m → AllGoOut server view m → AllGoOut server view new
  pub sent : (server : ServerId) (view : View) (client : ClientId) → AreBetween server view m → client.0 < clients → packets_to client new ≡ packets_to client m ++ resent volume m client

-- what is owed for a packet is owed to the client whose session hears its number
abbrev pub OwesByNumber : Type 0
OwesByNumber = (client : ClientId) (packet : Packet) (from : Option ClientId) → is_owed client (owed packet from) ≡ has_number (part_of client packet from)

-- a message that was taken can come
can-come : (took : Option FromClient) → IfSome took (λ from. (from.client.0 < clients) × IsMessage from.message) → CanCome (coming_with took)
can-come None spelled = tt
can-come (Some from) spelled = spelled

-- where nothing is sent, all that is sent goes out
none-out : (server : ServerId) (view : View) (m : Mail) → m.sent ≡ [] → AllGoOut server view m
none-out server view m none = subst (λ (list : List Packet). Each (GoesOut server view) list) (sym none) tt

pub hears-packet : (n : NodeValue) (p : Packet) (m : Mail) (volume : Volume) (took : Option FromClient) (answers : Option ClientId) (came : Came) (new : Mail) → OwesByNumber → came.coming ≡ coming_with took → came.answers ≡ answers
    → HeardSo m volume p took answers new → IsNode n → n.mail ≡ m → n.image ≡ volume → Hears n (Comes p) came new
hears-packet n p m volume took answers came new owing comes owed-is heard node mail image =
    let h = subst (λ (k : Mail). HeardSo k n.image p took answers new) (sym mail) (subst (λ (v : Volume). HeardSo m v p took answers new) (sym image) heard) in
    record {
      coming = comes ∙ ap coming_with h.took_is;
      can = subst CanCome (sym comes) (can-come took h.spelled);
      between = h.between n.id (view_of n) node.between;
      out = h.out n.id (view_of n) node.between (none-out n.id (view_of n) n.mail node.unsent);
      session = λ client within. h.session n.id (view_of n) client node.between within;
      steps = λ client within. h.steps client;
      sent = λ client within. h.sent n.id (view_of n) client node.between within ∙ ap (λ (list : List Packet). filter (is_to client) list ++ opened_by (session_at n.mail client) (heard_by n (Comes p) client)) node.unsent;
      owed = λ client. ap (is_owed client) (owed-is ∙ h.answers_is) ∙ owing client p (heard_from n.mail n.image p);
      bound = subst (λ (o : Option ClientId). IfSome o (λ client. client.0 < clients)) (sym owed-is) h.bound;
    }

pub hears-tick : (n : NodeValue) (m : Mail) (volume : Volume) (came : Came) (new : Mail) → came.coming ≡ Ticks → came.answers ≡ None → ResentSo m volume new → IsNode n → n.mail ≡ m → n.image ≡ volume → Hears n Tick came new
hears-tick n m volume came new ticks none heard node mail image =
    let h = subst (λ (k : Mail). ResentSo k n.image new) (sym mail) (subst (λ (v : Volume). ResentSo m v new) (sym image) heard) in
    record {
      coming = ticks;
      can = subst CanCome (sym ticks) tt;
      between = h.between n.id (view_of n) node.between;
      out = h.out n.id (view_of n) node.between (none-out n.id (view_of n) n.mail node.unsent);
      session = λ client within. ap (λ (all : List SessionState). slice_index_or all client.0 no_session) h.sessions;
      steps = λ client within. (let same = ap (λ (all : List SessionState). (slice_index_or all client.0 no_session).steps) h.sessions in omega (arith, same));
      sent = λ client within. h.sent n.id (view_of n) client node.between within ∙ ap (λ (list : List Packet). filter (is_to client) list ++ resent n.image n.mail client) node.unsent ∙ sym (append-nil (resent n.image n.mail client));
      owed = λ client. ap (is_owed client) none;
      bound = subst (λ (o : Option ClientId). IfSome o (λ client. client.0 < clients)) (sym none) tt;
    }
