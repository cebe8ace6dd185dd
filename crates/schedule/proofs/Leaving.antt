-- What a choice leaves: an event that its grammar spells, and fewer turns.
use Rattle.std.proofs.Common.{◌≡◌, ◌+◌, ◌-◌, ◌*◌, ◌<◌, ◌≤◌, ◌∙◌, ◌∷◌, [], ℕ, zero, suc, Bool, true, false, List, All, Option, Some, None, length, nat_eq, if◌then◌else◌, slice_get, refl, sym, subst, ap, arith}
use Rattle.std.proofs.lemmas.List.Elements.{All-head}
use Rattle.cal_base.specs.declared.identity.ClientId.{ClientId}
use Rattle.cal_base.specs.declared.identity.NodeId.{NodeId}
use Rattle.cluster_law.specs.declared.step.Event.{Event}
use Rattle.cluster_law.specs.declared.step.Event.TheVariants as events
use Rattle.packet_links.specs.Links.{waiting}
use Rattle.script.specs.Spelling.{IsCall, IsLine}
use Rattle.script.specs.declared.script.Line.{Line}
use Rattle.script.specs.declared.script.Line.TheVariants as lines
use Rattle.session.specs.declared.packet.Packet.{Packet}
use Rattle.tree_law.specs.declared.call.Call.{Call}
use Rattle.tree_law.specs.declared.call.Call.TheVariants as calls
use Rattle.world.specs.Step.{IsSpelled}
use Rattle.world.specs.World.{WorldValue, is_busy}
use Rattle.schedule.specs.Choosing.{Chooses, ChoosesBy, ChoosesLine, HasSpelledEvent}
use Rattle.schedule.specs.Lines.{Chosen, are_there, chosen_by, delivery, loses, passes_first, refuses, tick}
use Rattle.schedule.specs.Budget.{budget}
use Rattle.schedule.specs.Nodes.{one_if, outstanding}
use Rattle.schedule.specs.Schedule.{IsSchedule, ScheduleValue}
use Rattle.schedule.specs.Settling.{DeliversNext, SettlesIn, SettlesOn, begins_round, ends, ends_round, goes_on, quiet_after, ticks_one}
use Rattle.schedule.specs.Turns.{LeavesFewer, turns_left, turns_of_phase, turns_of_settle}
use Rattle.schedule.specs.declared.choice.Choice.{Choice}
use Rattle.schedule.specs.declared.choice.Choice.TheVariants as choices
use Rattle.schedule.specs.declared.choice.Phase.{Phase}
use Rattle.schedule.specs.declared.choice.Phase.TheVariants.{Delivers, Ticks}
use Rattle.schedule.specs.declared.choice.Settle.{Settle}
use Rattle.trace_text.specs.declared.runs.Settled.{Settled}
use Rattle.trace_text.specs.declared.runs.Settled.TheVariants.{Idle, Stuck, Spent}
use Rattle.world.specs.declared.refusals.Refused.TheVariants.{NoSuch, NoPacket}

-- a choice of which all events are spelled, which takes no line and leaves fewer turns of a `settle` than so many
record Leaves (s : ScheduleValue) (bound : ℕ) (chosen : Chosen) : Type 0 where
  spelled : HasSpelledEvent chosen.choice
  lines : chosen.after.lines ≡ s.lines
  turns : turns_of_settle chosen.after.settle < bound

-- what a script spells of a call the trace spells
call_spelled : (client : ClientId) (call : Call) → IsCall call → IsSpelled (events.Start client call)
call_spelled client (calls.Create path) is = is
call_spelled client (calls.Mkdir path) is = is
call_spelled client (calls.Unlink path) is = is
call_spelled client (calls.Rmdir path) is = is
call_spelled client (calls.Rename path goal) is = is
call_spelled client (calls.Open path mode) is = is
call_spelled client (calls.Close fd) is = tt
call_spelled client (calls.Read fd offset len) is = tt
call_spelled client (calls.Write fd offset bytes) is = (is.2.some, is.2.few)
call_spelled client (calls.Truncate fd size) is = tt
call_spelled client (calls.Stat path) is = is
call_spelled client (calls.Readdir path) is = is
call_spelled client (calls.Fsync fd) is = tt

-- no `settle` is under way
unset : (o : Option Settle) → o ≡ None → turns_of_settle o < 35651586
unset o none = subst (λ (o : Option Settle). turns_of_settle o < 35651586) (sym none) (omega arith)

stays : (s : ScheduleValue) → s.settle ≡ None → (choice : Choice) (after : ScheduleValue) → HasSpelledEvent choice → after.lines ≡ s.lines → after.settle ≡ s.settle → Leaves s 35651586 (record { choice = choice; after = after })
stays s none choice after is same kept = record { spelled = is; lines = same; turns = unset after.settle (kept ∙ none) }

lost : (s : ScheduleValue) → s.settle ≡ None → (number packet : ℕ) (o : Option Packet) → Leaves s 35651586 (loses s number packet o)
lost s none number packet None = stays s none (choices.Refused number NoPacket) s tt refl refl
lost s none number packet (Some found) = record { spelled = tt; lines = refl; turns = unset s.settle none }

passed_first : (w : WorldValue) (s : ScheduleValue) → s.settle ≡ None → (number : ℕ) (o : Option ℕ) → Leaves s 35651586 (passes_first w s number o)
passed_first w s none number None = stays s none (choices.Refused number NoPacket) s tt refl refl
passed_first w s none number (Some packet) = stays s none (choices.Event number (delivery w s packet)) s tt refl refl

passed : (w : WorldValue) (s : ScheduleValue) → s.settle ≡ None → (number : ℕ) (o : Option ℕ) (there : Bool) → Leaves s 35651586 (if there then passes_first w s number o else refuses s number NoSuch)
passed w s none number o true = passed_first w s none number o
passed w s none number o false = stays s none (choices.Refused number NoSuch) s tt refl refl

one_call : (busy : Bool) → one_if busy ≤ 1
one_call false = omega arith
one_call true = omega arith

few_calls : (w : WorldValue) (number : ℕ) → outstanding w number ≤ number
few_calls w zero = omega arith
few_calls w (suc number) =
    let few = few_calls w number in
    let one = one_call (is_busy w (record { 0 = number })) in
    omega (arith, few, one)

begun : (calls clients : ℕ) → calls ≤ 16 → clients ≤ 255 → budget calls clients * 2 + 1 < 35651586
begun calls clients few low = omega (arith, few, low)

-- a line leaves less than the turns of one
by_line : (w : WorldValue) (s : ScheduleValue) (number : ℕ) (line : Line) → IsLine line → s.settle ≡ None → w.members.clients ≤ 255 → Leaves s 35651586 (chosen_by w s number line)
by_line w s number (lines.Call client call) is none few = stays s none (choices.Event number (events.Start client call)) s (call_spelled client call is.1) refl refl
by_line w s number (lines.Deliver packet) is none few = stays s none (choices.Event number (delivery w s packet)) s tt refl refl
by_line w s number (lines.Drop packet) is none few = lost s none number packet (slice_get w.packets packet)
by_line w s number (lines.Pass from to) is none few = passed w s none number (slice_get (waiting s.links from to) 0) (are_there w from to)
by_line w s number (lines.Cut from to) is none few = record { spelled = tt; lines = refl; turns = unset s.settle none }
by_line w s number (lines.Mend from to) is none few = record { spelled = tt; lines = refl; turns = unset s.settle none }
by_line w s number (lines.Tick node) is none few = stays s none (choices.Event number (tick s node)) s tt refl refl
by_line w s number (lines.Crash node) is none few = stays s none (choices.Event number (events.Crash node)) s tt refl refl
by_line w s number (lines.Gone client) is none few = stays s none (choices.Event number (events.Gone client)) s tt refl refl
by_line w s number (lines.View server) is none few = record { spelled = tt; lines = refl; turns = unset s.settle none }
by_line w s number (lines.WriteBack client fd) is none few = stays s none (choices.Event number (events.WriteBack client fd)) s tt refl refl
by_line w s number (lines.Stop server after how) is none few = record { spelled = tt; lines = refl; turns = unset s.settle none }
by_line w s number lines.Settle is none few = record { spelled = tt; lines = refl; turns = begun (outstanding w 16) w.members.clients (few_calls w 16) few }

ended : (s : ScheduleValue) (settle : Settle) (how : Settled) (bound : ℕ) → 0 < bound → Leaves s bound (ends s settle how)
ended s settle how bound some = record { spelled = tt; lines = refl; turns = some }

phase_turns : (phase : Phase) → turns_of_phase phase ≤ 2
phase_turns Delivers = omega arith
phase_turns (Ticks due made) = omega arith

spent : (left phase : ℕ) → nat_eq left 0 ≡ false → phase ≤ 2 → (left - 1) * 2 + phase < left * 2 + 1
spent left phase some low = grind (arith, some, low)

-- a further step leaves fewer turns
went : (s : ScheduleValue) (settle : Settle) (event : Event) (bound : ℕ) → IsSpelled event → settle.left * 2 + 1 ≤ bound → Leaves s bound (goes_on s settle event)
went s settle event bound is low = by (nat_eq settle.left 0) refl
  where
    by : (b : Bool) → nat_eq settle.left 0 ≡ b → Leaves s bound (if b then ends s settle Spent else record { choice = choices.Event settle.line event; after = record s { settle = Some (record settle { left = settle.left - 1 }) } })
    by true e = ended s settle Spent bound (omega (arith, low))
    by false e =
        let fewer : (settle.left - 1) * 2 + turns_of_phase settle.phase < settle.left * 2 + 1 = spent settle.left (turns_of_phase settle.phase) e (phase_turns settle.phase) in
        record { spelled = is; lines = refl; turns = omega (arith, fewer, low) }

round_over : (s : ScheduleValue) (settle : Settle) → Leaves s (settle.left * 2 + 2) (ends_round s settle)
round_over s settle = by (nat_eq (quiet_after settle) 8)
  where
    by : (b : Bool) → Leaves s (settle.left * 2 + 2) (if b then ends s settle Stuck else record { choice = choices.Nothing; after = record s { settle = Some (record settle { quiet = quiet_after settle; moved = false; phase = Delivers }) } })
    by true = ended s settle Stuck (settle.left * 2 + 2) (omega arith)
    by false = record { spelled = tt; lines = refl; turns = omega arith }

one_ticks : (s : ScheduleValue) (settle : Settle) (due : List NodeId) (made : ℕ) (next : Option NodeId) → Leaves s (settle.left * 2 + 2) (ticks_one s settle due made next)
one_ticks s settle due made None = round_over s settle
one_ticks s settle due made (Some node) = went s (record settle { phase = Ticks due (made + 1) }) (tick s node) (settle.left * 2 + 2) tt (omega arith)

round_begun : (s : ScheduleValue) (settle : Settle) (due : List NodeId) → Leaves s (settle.left * 2 + 1) (begins_round s settle due)
round_begun s settle [] = ended s settle Idle (settle.left * 2 + 1) (omega arith)
round_begun s settle (node ∷ due) = went s (record settle { cycles = settle.cycles + 1; phase = Ticks (node ∷ due) 1 }) (tick s node) (settle.left * 2 + 1) tt (omega arith)

next_delivered : (w : WorldValue) (s : ScheduleValue) (settle : Settle) (first : Option ℕ) (chosen : Chosen) → DeliversNext w s settle first chosen → Leaves s (settle.left * 2 + 1) chosen
next_delivered w s settle None chosen begins = subst (Leaves s (settle.left * 2 + 1)) (sym begins.chosen_is) (round_begun s settle begins.due)
next_delivered w s settle (Some packet) chosen is = subst (Leaves s (settle.left * 2 + 1)) (sym is) (went s _ (delivery w s packet) (settle.left * 2 + 1) tt (omega arith))

-- a turn of a `settle` leaves fewer of them
in_settle : (w : WorldValue) (s : ScheduleValue) (settle : Settle) (phase : Phase) (chosen : Chosen) → SettlesIn w s settle phase chosen → Leaves s (settle.left * 2 + turns_of_phase phase) chosen
in_settle w s settle Delivers chosen goes = next_delivered w s settle goes.first chosen goes.next
in_settle w s settle (Ticks due made) chosen is = subst (Leaves s (settle.left * 2 + 2)) (sym is) (one_ticks s settle due made (slice_get due made))

-- every choice but the end leaves fewer turns, where fewer are left
if_fewer : (choice : Choice) (old new : ScheduleValue) → turns_left new < turns_left old → LeavesFewer choice old new
if_fewer choices.End old new fewer = tt
if_fewer choices.Nothing old new fewer = fewer
if_fewer (choices.Event line event) old new fewer = fewer
if_fewer (choices.Refused line why) old new fewer = fewer
if_fewer (choices.Settled line cycles how) old new fewer = fewer

one_line : (new old turns : ℕ) → old ≡ new + 1 → turns < 35651586 → new * 35651586 + turns < old * 35651586 + 0
one_line new old turns e low = omega (arith, e, low)

-- what is said of every choice
pub record IsSooner (choice : Choice) (old new : ScheduleValue) : Type 0 where
  pub spelled : HasSpelledEvent choice
  pub fewer : LeavesFewer choice old new

line_sooner : (w : WorldValue) (old new : ScheduleValue) (choice : Choice) (rest : List (ℕ × Line)) → IsSchedule old → w.members.clients ≤ 255 → old.settle ≡ None → old.lines ≡ rest → ChoosesLine w old rest (record { choice = choice; after = new }) → IsSooner choice old new
line_sooner w old new choice [] is_old few none e is = subst (λ (choice : Choice). IsSooner choice old new) (sym (ap (λ (chosen : Chosen). chosen.choice) is)) (record { spelled = tt; fewer = tt })
line_sooner w old new choice (line ∷ rest) is_old few none e is = record { spelled = left.spelled; fewer = if_fewer choice old new fewer }
  where
    after : ScheduleValue
    after = record old { lines = rest }

    spelled : IsLine line.1
    spelled = All-head (λ (line : ℕ × Line). IsLine line.1) line rest (subst (All (λ (line : ℕ × Line). IsLine line.1)) e is_old.lines)

    left : Leaves after 35651586 (record { choice = choice; after = new })
    left = subst (Leaves after 35651586) (sym is) (by_line w after line.0 line.1 spelled none few)

    longer : length old.lines ≡ length new.lines + 1
    longer = ap length e ∙ ap (λ (lines : List (ℕ × Line)). length (line ∷ lines)) (sym left.lines) ∙ one (length new.lines)
      where
        one : (n : ℕ) → suc n ≡ n + 1
        one n = omega arith

    fewer : turns_left new < turns_left old
    fewer = subst (λ (o : Option Settle). turns_left new < length old.lines * 35651586 + turns_of_settle o) (sym none) (one_line (length new.lines) (length old.lines) (turns_of_settle new.settle) longer left.turns)

settle_sooner : (w : WorldValue) (old new : ScheduleValue) (choice : Choice) (settle : Settle) → old.settle ≡ Some settle → SettlesOn w (record old { settle = None }) settle (record { choice = choice; after = new }) → IsSooner choice old new
settle_sooner w old new choice settle e on = record { spelled = left.spelled; fewer = if_fewer choice old new fewer }
  where
    left : Leaves (record old { settle = None }) (settle.left * 2 + turns_of_phase settle.phase) (record { choice = choice; after = new })
    left = in_settle w (record old { settle = None }) settle settle.phase (record { choice = choice; after = new }) on

    more : (lines turns bound : ℕ) → turns < bound → lines * 35651586 + turns < lines * 35651586 + bound
    more lines turns bound low = omega (arith, low)

    fewer : turns_left new < turns_left old
    fewer = subst (λ (o : Option Settle). turns_left new < length old.lines * 35651586 + turns_of_settle o) (sym e)
        (subst (λ (lines : List (ℕ × Line)). length lines * 35651586 + turns_of_settle new.settle < length old.lines * 35651586 + turns_of_settle (Some settle)) (sym left.lines)
        (more (length old.lines) (turns_of_settle new.settle) (turns_of_settle (Some settle)) left.turns))

pub sooner : (w : WorldValue) (old new : ScheduleValue) (choice : Choice) → IsSchedule old → w.members.clients ≤ 255 → Chooses w old choice new → IsSooner choice old new
sooner w old new choice is_old few is = by old.settle refl is
  where
    by : (o : Option Settle) → old.settle ≡ o → ChoosesBy w old o (record { choice = choice; after = new }) → IsSooner choice old new
    by None e is = line_sooner w old new choice old.lines is_old few e refl is
    by (Some settle) e is = settle_sooner w old new choice settle e is
