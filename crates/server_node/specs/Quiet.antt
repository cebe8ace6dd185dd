-- A server whose tick would do nothing.
use Rattle.std.specs.Prelude.{◌≡◌, ◌<◌, [], false, IsTrue}
use Rattle.cal_base.specs.Limits.{clients}
use Rattle.cal_base.specs.declared.identity.ClientId.{ClientId}
use Rattle.client_sessions.specs.Mail.{session_at}
use Rattle.cluster_law.specs.Removing.{removes_nothing}
use Rattle.cluster_law.specs.ServerState.{ServerState}
use Rattle.membership.specs.Membership.{Membership}
use Rattle.server_mail.specs.Step.{is_purged}
use Rattle.server_node.specs.Node.{NodeValue}
use Rattle.server_removals.specs.Removals.{gone_in}
use Rattle.session.specs.Session.{unacknowledged}

-- a client has acknowledged all messages, unless its purge is marked
abbrev pub IsQuietWith : NodeValue → ClientId → Type 0
IsQuietWith n client = is_purged n.image client ≡ false → unacknowledged (session_at n.mail client) ≡ []

abbrev pub IsQuiet : NodeValue → Type 0
IsQuiet n = (client : ClientId) → client.0 < clients → IsQuietWith n client

-- a tick would send nothing again, and neither remove nor ask for anything
pub record IsIdle (n : NodeValue) (members : Membership) (server : ServerState) : Type 0 where
  pub quiet : IsQuiet n
  pub rests : IsTrue (removes_nothing (gone_in members) server)
