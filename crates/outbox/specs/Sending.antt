-- The messages that a client makes in a step, as their bodies, in order.
use Rattle.std.specs.Prelude.{◌++◌, ◌∷◌, [], ◌&&◌, ℕ, Bool, List, if◌then◌else◌}
use Rattle.message.specs.Spelling.{message_bytes}
use Rattle.message.specs.declared.message.Message.{Message}
use Rattle.client_book.specs.Made.{is_kept_back}

-- whether the client is moving to another server, and the bodies so far
pub record Sending : Type 0 where
  pub moving : Bool
  pub bodies : List (List ℕ)

-- one body more
abbrev pub with_body : Sending → List ℕ → Sending
with_body s body = record { moving = s.moving; bodies = s.bodies ++ body ∷ [] }

-- a message goes out, but for a flush while the client is moving
abbrev pub put_in : Sending → Message → Sending
put_in s message = if s.moving && is_kept_back message then s else with_body s (message_bytes message)

-- messages go out one after the other
unfoldable pub put_all : Sending → List Message → Sending
put_all s [] = s
put_all s (message ∷ messages) = put_all (put_in s message) messages
