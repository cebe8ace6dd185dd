-- What goes to each client: the messages of the acts, behind what went before, and then what is owed.
use Rattle.std.proofs.Common.{◌≡◌, ◌<◌, ◌+◌, ◌++◌, ◌∷◌, ◌&&◌, [], ℕ, List, Option, if◌then◌else◌, filter, ap, refl, subst, sym, ◌∙◌}
use Rattle.std.specs.Prelude.{slice_index_or}
use Rattle.cal_base.specs.Limits.{clients}
use Rattle.cal_base.specs.declared.identity.ClientId.{ClientId}
use Rattle.cal_base.specs.declared.identity.ServerId.{ServerId}
use Rattle.cal_base.specs.declared.identity.View.{View}
use Rattle.client_sessions.specs.Mail.{AreBetween, Mail, after_taking, is_to, no_session, session_at}
use Rattle.cluster_law.specs.Ends.{making}
use Rattle.cluster_law.specs.Lists.{Each, is_empty}
use Rattle.server_draft.specs.Acts.{told_to}
use Rattle.server_draft.specs.declared.act.Act.{Act}
use Rattle.server_mail.specs.Step.{AllGoOut, GoesOut, bare_to, bodies_to, is_owed, packets_to}
use Rattle.server_node.specs.Parts.{Sends, bare_behind, packets_behind}
use Rattle.session.specs.Session.{SessionState, after_send, bare_ack_of}
use Rattle.session.specs.declared.packet.Packet.{Packet}

-- the sessions of a server of a view sent the messages of acts
pub record SentSo (id : ServerId) (view : View) (old : Mail) (acts : List Act) (new : Mail) : Type 0 where
  pub between : AreBetween id view new
  pub out : AllGoOut id view new
  pub session : (client : ClientId) → client.0 < clients → session_at new client ≡ making (session_at old client) (bodies_to view.0 client acts)
  pub steps : (client : ClientId) → client.0 < clients → (session_at new client).steps ≡ (session_at old client).steps + told_to client.0 acts
  pub sent : (client : ClientId) → client.0 < clients → packets_to client new ≡ packets_behind view old acts client

-- and what is owed
pub record OwedSo (id : ServerId) (view : View) (old : Mail) (answers : Option ClientId) (new : Mail) : Type 0 where
  pub sessions : new.sessions ≡ old.sessions
  pub between : AreBetween id view new
  pub out : AllGoOut id view new
  pub sent : (client : ClientId) → client.0 < clients → packets_to client new ≡ packets_to client old ++ bare_to client old answers

-- a session that is handed bodies acknowledges what it did
bare-made : (s : SessionState) (bodies : List (List ℕ)) → bare_ack_of (making s bodies) ≡ bare_ack_of s
bare-made s [] = refl
bare-made s (body ∷ bodies) = bare-made (after_send s body) bodies

bare-is : (id : ServerId) (view : View) (old mid : Mail) (acts : List Act) (answers : Option ClientId) (client : ClientId) → client.0 < clients → SentSo id view old acts mid → bare_to client mid answers ≡ bare_behind view old acts client answers
bare-is id view old mid acts answers client within s =
    let bare : bare_ack_of (session_at mid client) ≡ bare_ack_of (session_at old client) = ap (λ (k : SessionState). bare_ack_of k) (s.session client within) ∙ bare-made (session_at old client) (bodies_to view.0 client acts) in
    λ i. if is_owed client answers && is_empty (s.sent client within i) then bare i ∷ [] else []

pub sends : (id : ServerId) (view : View) (old mid last new : Mail) (acts : List Act) (answers : Option ClientId) (sent : List Packet) → SentSo id view old acts mid → OwedSo id view mid answers last
    → sent ≡ last.sent → new ≡ after_taking last → Sends id view old acts answers sent new
sends id view old mid last new acts answers sent s o sent-is taken =
    let all : new.sessions ≡ mid.sessions = ap (λ (m : Mail). m.sessions) taken ∙ o.sessions in
    record {
      between = subst (AreBetween id view) (sym taken) (record { count = o.between.count; each = o.between.each });
      unsent = ap (λ (m : Mail). m.sent) taken;
      out = subst (λ (list : List Packet). Each (GoesOut id view) list) (sym sent-is) o.out;
      session = λ client within. ap (λ (list : List SessionState). slice_index_or list client.0 no_session) all ∙ s.session client within;
      steps = λ client within. ap (λ (list : List SessionState). (slice_index_or list client.0 no_session).steps) all ∙ s.steps client within;
      all = λ client within. ap (λ (list : List Packet). filter (is_to client) list) sent-is ∙ o.sent client within
          ∙ (λ i. s.sent client within i ++ bare-is id view old mid acts answers client within s i);
    }
