-- An event is read from its text.
use Rattle.std.proofs.Common.{◌≡◌, ◌++◌, ℕ, true, List, [], ◌∷◌, refl, ap, ◌∙◌, Ok, Option, Some, None, codes, decimal, append_assoc, append-nil}
use Rattle.std.specs.List.{join_with_byte}
use Rattle.cal_base.specs.declared.identity.View.{View}
use Rattle.tree_law.specs.declared.call.Call.{Call}
use Rattle.reply_text.specs.Text.{spaced}
use Rattle.shared_disk.specs.declared.stop.Stop.{Stop}
use Rattle.script.specs.Spelling.{client_word, command_of, places_of, call_words, IsCall, IsWide}
use Rattle.trace_text.specs.Calls.{call_text}
use Rattle.trace_text.specs.Events.{how_text, stop_text}
use Rattle.line_words.specs.Places.{number_of, client_of, call_of}
use Rattle.line_words.specs.Words.{words}
use Rattle.line_words.proofs.Joined.{is_free, and_both, words_joined}
use Rattle.line_words.proofs.Reading.{chain, number_is, client_is, call_is}
use Rattle.line_words.proofs.WordsFree.{number_free, client_free, call_free}
use Rattle.trace_lines.specs.Events.{stop_in, event_in}
use Rattle.trace_lines.specs.Limits.{IsStop}
use Rattle.trace_lines.specs.Lines.{step_event_text, IsStepEvent}
use Rattle.trace_lines.specs.Places.{number32_of, descriptor_of, view_of}
use Rattle.trace_lines.specs.Sectors.{torn_of}
use Rattle.trace_lines.specs.declared.line.StepEvent.{StepEvent}
use Rattle.trace_lines.specs.declared.line.StepEvent.TheVariants.{Start, Deliver, Tick, Crash, NewView, Gone, WriteBack}
use Rattle.trace_lines.proofs.Filling.{torn_is, torn_free}
use Rattle.trace_lines.proofs.PlacesRead.{taking, number32_is, number32_free, descriptor_is, descriptor_free, view_is}
use Rattle.trace_lines.proofs.Texts.{before, front_is, one_is, all_are}

-- calls

spaced_is : (word : List ℕ) (more : List (List ℕ)) → word ++ spaced more ≡ join_with_byte 32 (word ∷ more)
spaced_is word [] = append-nil word
spaced_is word (next ∷ more) = ap (λ (text : List ℕ). word ++ (32 ∷ text)) (spaced_is next more)

call_words_are : (call : Call) → IsCall call → words (call_text call) ≡ call_words call
call_words_are call h = ap words (spaced_is (command_of call) (places_of call)) ∙ words_joined (command_of call) (places_of call) (call_free call h)

-- stops

abbrev stop_words : Option Stop → List (List ℕ)
stop_words None = []
stop_words (Some stop) = codes "stop" ∷ decimal stop.after ∷ how_text stop.torn ∷ []

stop_is : (stop : Option Stop) → IsStop stop → stop_in (stop_words stop) ≡ Ok stop
stop_is None h = refl
stop_is (Some stop) h =
    let by-how = how_text stop.torn ∷ [] in
    taking number32_of (decimal stop.after) by-how stop.after _ _ (number32_is stop.after h.0)
    (chain (torn_of (how_text stop.torn)) stop.torn _ _ (torn_is stop.torn h.1) refl)

armed_text : (last after how : List ℕ) → last ++ (codes " stop " ++ after ++ codes " " ++ how) ≡ before (last ∷ codes "stop" ∷ after ∷ []) how
armed_text last after how = simp append_assoc

-- a word and a stop behind it
stopped : (last : List ℕ) (stop : Option Stop) → is_free last ≡ true → IsStop stop → words (last ++ stop_text stop) ≡ last ∷ stop_words stop
stopped last None free h = ap words (append-nil last) ∙ one_is last free
stopped last (Some stop) free h =
    let after = decimal stop.after in
    ap words (armed_text last after (how_text stop.torn))
    ∙ all_are (last ∷ codes "stop" ∷ after ∷ []) (how_text stop.torn) (and_both _ _ free (and_both _ _ refl (and_both _ _ (number32_free stop.after h.0) refl))) (torn_free stop.torn h.1)

-- events

start_is : (number : ℕ) (call : Call) → IsWide number → IsCall call → event_in (codes "start" ∷ decimal number ∷ call_words call) ≡ Ok (Start number call)
start_is number call hn hc =
    taking number_of (decimal number) (call_words call) number _ _ (number_is number hn)
    (chain (call_of (call_words call)) call _ _ (call_is call hc) refl)

start_words : (number : ℕ) (call : Call) → IsWide number → IsCall call → words (step_event_text (Start number call)) ≡ codes "start" ∷ decimal number ∷ call_words call
start_words number call hn hc =
    ap words (in_order (decimal number) (call_text call))
    ∙ front_is (codes "start" ∷ decimal number ∷ []) (call_text call) (and_both _ _ refl (and_both _ _ (number_free number hn) refl))
    ∙ ap (λ (parts : List (List ℕ)). codes "start" ∷ decimal number ∷ parts) (call_words_are call hc)
  where
    in_order : (number call : List ℕ) → codes "start " ++ number ++ codes " " ++ call ≡ before (codes "start" ∷ number ∷ []) call
    in_order number call = simp append_assoc

-- a word, and a word with a stop behind it
one_stopped : (word last : List ℕ) (stop : Option Stop) → is_free word ≡ true → is_free last ≡ true → IsStop stop → words (word ++ (32 ∷ (last ++ stop_text stop))) ≡ word ∷ last ∷ stop_words stop
one_stopped word last stop free more h = front_is (word ∷ []) (last ++ stop_text stop) (and_both _ _ free refl) ∙ ap (λ (parts : List (List ℕ)). word ∷ parts) (stopped last stop more h)

deliver_is : (packet : ℕ) (stop : Option Stop) → IsWide packet → IsStop stop → event_in (codes "deliver" ∷ decimal packet ∷ stop_words stop) ≡ Ok (Deliver packet stop)
deliver_is packet stop hp hs =
    taking number_of (decimal packet) (stop_words stop) packet _ _ (number_is packet hp)
    (chain (stop_in (stop_words stop)) stop _ _ (stop_is stop hs) refl)

view_event_is : (view : View) (stop : Option Stop) → IsWide view.0 → IsStop stop → event_in (codes "view" ∷ decimal view.0 ∷ stop_words stop) ≡ Ok (NewView view stop)
view_event_is view stop hv hs =
    taking view_of (decimal view.0) (stop_words stop) view _ _ (view_is view hv)
    (chain (stop_in (stop_words stop)) stop _ _ (stop_is stop hs) refl)

-- what an event tells is read from its text
pub event_is : (event : StepEvent) → IsStepEvent event → event_in (words (step_event_text event)) ≡ Ok event
event_is (Start number call) h = ap event_in (start_words number call h.0 h.1) ∙ start_is number call h.0 h.1
event_is (Deliver packet stop) h = ap event_in (one_stopped (codes "deliver") (decimal packet) stop refl (number_free packet h.0) h.1) ∙ deliver_is packet stop h.0 h.1
event_is (Tick stop) h = ap event_in (stopped (codes "tick") stop refl h) ∙ chain (stop_in (stop_words stop)) stop _ _ (stop_is stop h) refl
event_is Crash h = ap event_in (one_is (codes "crash") refl)
event_is (NewView view stop) h = ap event_in (one_stopped (codes "view") (decimal view.0) stop refl (number_free view.0 h.0) h.1) ∙ view_event_is view stop h.0 h.1
event_is (Gone client) h =
    ap event_in (all_are (codes "gone" ∷ []) (client_word client) refl (client_free client h))
    ∙ chain (client_of (client_word client)) client _ _ (client_is client h) refl
event_is (WriteBack fd) h =
    ap event_in (all_are (codes "writeback" ∷ []) (decimal fd) refl (descriptor_free fd h))
    ∙ chain (descriptor_of (decimal fd)) fd _ _ (descriptor_is fd h) refl
