-- The packets of one end of a session.
use Rattle.std.specs.Prelude.{◌++◌, ◌∷◌, [], ℕ, List, Option, Some, None}
use Rattle.std.specs.Option.{option_to_list}
use Rattle.session.specs.Session.{SessionState, after_send, let_out, sent_packet}
use Rattle.session.specs.declared.packet.Packet.{Packet}

-- what goes out as bodies are handed to a session, one after the other
unfoldable pub packets_with : SessionState → List (List ℕ) → List Packet
packets_with s [] = []
packets_with s (body ∷ bodies) = option_to_list (sent_packet s body) ++ packets_with (after_send s body) bodies

-- what a heard packet lets out of a session's queue; none without one
abbrev pub opened_by : SessionState → Option Packet → List Packet
opened_by s None = []
opened_by s (Some p) = let_out s p
