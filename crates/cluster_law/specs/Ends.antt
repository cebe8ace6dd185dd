-- One end of a session against the lane of a trace on which it speaks.
use Rattle.std.specs.Prelude.{◌≡◌, ℕ, List, [], ◌∷◌, map, drop, Option, Some, None}
use Rattle.cal_base.specs.declared.identity.NodeId.{NodeId}
use Rattle.cal_base.specs.declared.identity.NodeId.TheVariants.{Client, Server}
use Rattle.cal_base.specs.declared.identity.ServerId.{ServerId}
use Rattle.message.specs.Spelling.{message_bytes}
use Rattle.session.specs.Session.{SessionState, after_packet, after_send}
use Rattle.session.specs.declared.packet.Packet.{Packet}
use Rattle.cluster_law.specs.Lanes.{Way, Up, Down, Lane, back}
use Rattle.cluster_law.specs.Noted.{Setting, Noted}
use Rattle.cluster_law.specs.Sessions.{made_in, acked_in, taken_in}
use Rattle.cluster_law.specs.Trace.{server_of}

-- the node that speaks on a lane of this way, and the one that hears it
abbrev pub speaker : Way → ℕ → ServerId → NodeId
speaker Up client server = Client (record { 0 = client })
speaker Down client server = Server server

abbrev pub hearer : Way → ℕ → ServerId → NodeId
hearer Up client server = Server server
hearer Down client server = Client (record { 0 = client })

-- a session is the end that speaks on this lane: it counts as acknowledged and taken what the trace does,
-- and has the bodies of the messages that aren't acknowledged
pub record SessionFits (w : Setting) (trace : List Noted) (lane : Lane) (s : SessionState) : Type 0 where
  pub me : s.me ≡ speaker lane.way lane.client (server_of lane.view trace)
  pub peer : s.peer ≡ hearer lane.way lane.client (server_of lane.view trace)
  pub view : s.view.0 ≡ lane.view
  pub acknowledged : s.acknowledged ≡ acked_in w lane trace
  pub taken : s.taken ≡ taken_in w (back lane) trace
  pub bodies : s.bodies ≡ map message_bytes (drop (acked_in w lane trace) (made_in lane trace))

-- a session after a packet of it was heard, or none
abbrev pub hearing : SessionState → Option Packet → SessionState
hearing s None = s
hearing s (Some p) = after_packet s p

-- a session after these bodies were handed to it, one after the other
abbrev pub making : SessionState → List (List ℕ) → SessionState
making s [] = s
making s (body ∷ bodies) = making (after_send s body) bodies
