-- A regular file.
use Rattle.std.specs.Prelude.{◌==◌, ℕ, Bool, false, List, [], Option, Some, None, if◌then◌else◌}
use Rattle.cal_base.specs.declared.identity.ClientId.{ClientId}

-- its present bytes, those that last, and the client whose writes aren't flushed yet
pub record FileState : Type 0 where
  pub contents : List ℕ
  pub kept : List ℕ
  pub writer : Option ClientId

abbrev pub new_file : FileState
new_file = record { contents = []; kept = []; writer = None }

-- a client is the writer
abbrev pub is_writer : Option ClientId → ClientId → Bool
is_writer None client = false
is_writer (Some writer) client = writer.0 == client.0

-- a client has changed the present bytes; what lasts is as before
abbrev pub changed_file : ClientId → List ℕ → FileState → FileState
changed_file client contents file = record { contents = contents; kept = file.kept; writer = Some client }

-- the present bytes last from now on
abbrev pub flushed_file : FileState → FileState
flushed_file file = record { contents = file.contents; kept = file.contents; writer = None }

-- what lasts alone
abbrev pub kept_file : FileState → FileState
kept_file file = record { contents = file.kept; kept = file.kept; writer = None }

-- without the unflushed writes of a client
abbrev pub restored_file : ClientId → FileState → FileState
restored_file client file = if is_writer file.writer client then kept_file file else file
