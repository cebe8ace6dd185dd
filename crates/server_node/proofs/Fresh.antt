-- What a server begins with that formats a disk.
use Rattle.std.proofs.Common.{◌≡◌, ◌++◌, ◌∷◌, [], ℕ, zero, suc, List, ap, refl, subst, sym, arith}
use Rattle.std.specs.Prelude.{slice_index_or}
use Rattle.cal_base.specs.Limits.{clients}
use Rattle.cal_base.specs.declared.identity.NodeId.TheVariants.{Client, Server}
use Rattle.cal_base.specs.declared.identity.ServerId.{ServerId}
use Rattle.cal_base.specs.declared.identity.View.{View}
use Rattle.client_sessions.specs.Mail.{AreBetween, Mail, first_mail, new_sessions, no_session, session_at}
use Rattle.cluster_law.specs.Lists.{Each}
use Rattle.server_desk.specs.Desk.{DeskValue}
use Rattle.server_node.specs.Node.{Begins}
use Rattle.server_start.specs.Formats.{ServesFresh}
use Rattle.server_start.specs.declared.started.Started.{Started}
use Rattle.session.specs.Session.{SessionState, new_session}

-- new sessions have made no step
abbrev pub Unused : SessionState → Type 0
Unused s = s.steps ≡ 0

unused-each : (server : ServerId) (view : View) (n : ℕ) → Each Unused (new_sessions server view n)
unfolding new_sessions
unused-each server view zero = tt
unused-each server view (suc n) = behind (new_sessions server view n) (unused-each server view n)
  where
    behind : (list : List SessionState) → Each Unused list → Each Unused (list ++ new_session (Server server) (Client (record { 0 = n })) view ∷ [])
    behind [] each = (refl, tt)
    behind (s ∷ list) each = (each.0, behind list each.1)

unused-at : (list : List SessionState) (place : ℕ) → Each Unused list → Unused (slice_index_or list place no_session)
unused-at [] place each = refl
unused-at (s ∷ list) zero each = each.0
unused-at (s ∷ list) (suc place) each = unused-at list place each.1

-- so a server that formats a disk begins
pub begins-fresh : (id : ServerId) (count window : ℕ) (started : Started) → ((id : ServerId) (view : View) → AreBetween id view (first_mail id view)) → ServesFresh id count window started → Begins id started
begins-fresh id count window started between h =
    let first : View = record { 0 = 1 } in
    let same : first ≡ record { 0 = started.port.view } = λ i. record { 0 = sym h.view i } in
    record {
      between = subst (λ (v : View). AreBetween id v started.mail) same (subst (AreBetween id first) (sym h.mail) (between id first));
      unsent = ap (λ (m : Mail). m.sent) h.mail;
      unwanted = ap (λ (d : DeskValue). d.requests) h.desk;
      steps = λ client within. (
          let none = unused-at (new_sessions id first clients) client.0 (unused-each id first clients) in
          let c = ap (λ (m : Mail). (session_at m client).steps) h.mail in
          omega (arith, none, c));
    }
