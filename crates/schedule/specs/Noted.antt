-- What a step that was made changes of what is still to come.
use Rattle.std.specs.Prelude.{◌+◌, ◌||◌, ℕ, nat_lt, length, List, [], ◌∷◌, Option, Some, None, is_some, option_map, slice_get}
use Rattle.cluster_law.specs.declared.step.Event.{Event}
use Rattle.cluster_law.specs.declared.step.Event.TheVariants.{Start, Deliver, Tick, Crash, NewView, Gone, WriteBack}
use Rattle.cluster_law.specs.declared.step.TraceStep.{TraceStep}
use Rattle.packet_links.specs.Links.{LinksValue, after_remove, after_send}
use Rattle.session.specs.declared.packet.Packet.{Packet}
use Rattle.world.specs.World.{WorldValue}
use Rattle.schedule.specs.Schedule.{ScheduleValue}
use Rattle.schedule.specs.Stops as stops
use Rattle.schedule.specs.declared.choice.Settle.{Settle}

-- a packet that was delivered waits no longer
abbrev pub delivered : LinksValue → ℕ → Option Packet → LinksValue
delivered links number None = links
delivered links number (Some packet) = after_remove number packet.from packet.to links

abbrev pub after_event : WorldValue → LinksValue → Event → LinksValue
after_event w links (Start client call) = links
after_event w links (Deliver number stop) = delivered links number (slice_get w.packets number)
after_event w links (Tick node stop) = links
after_event w links (Crash node) = links
after_event w links (NewView server stop) = links
after_event w links (Gone client) = links
after_event w links (WriteBack client fd) = links

-- the packets that were sent wait, numbered from the first on
abbrev pub after_sent : LinksValue → ℕ → List Packet → LinksValue
after_sent links number [] = links
after_sent links number (packet ∷ packets) = after_sent (after_send number packet.from packet.to links) (number + 1) packets

-- an answer or an accepted write is something to a `settle`
abbrev pub settle_after : TraceStep → Settle → Settle
settle_after step settle = record settle { moved = settle.moved || is_some step.answer || nat_lt 0 (length step.writes) }

-- what is still to come once a step was made, as the cluster stands after it, where its first packet has this number
abbrev pub after_step : WorldValue → ScheduleValue → ℕ → TraceStep → ScheduleValue
after_step w s first step = record s { links = after_sent (after_event w s.links step.event) first step.sent; stops = stops.after_step s.stops step; settle = option_map (settle_after step) s.settle }
