-- What is read is within the limits of its place.
use Rattle.std.proofs.Common.{◌≡◌, ◌&&◌, ◌++◌, ◌+◌, ◌-◌, ◌≤◌, ℕ, zero, suc, true, not, List, [], ◌∷◌, length, replicate, nat_le, refl, subst, arith, length-append, Result, Ok, Some, None, codes, bytes_eq}
use Rattle.std.proofs.lemmas.Bool.{and_parts}
use Rattle.std.proofs.lemmas.Bool.Decides.{nat_tests}
use Rattle.std.proofs.lemmas.List.{length-replicate}
use Rattle.cal_base.specs.declared.identity.Ino.{Ino}
use Rattle.cal_base.specs.declared.identity.View.{View}
use Rattle.script.specs.Spelling.{IsWide}
use Rattle.script.proofs.ReadPlaces.{number_range}
use Rattle.trace_text.specs.Packets.{body_name}
use Rattle.line_words.specs.Outcome.{outside, then_read}
use Rattle.line_words.specs.Places.{number_of, client_of, call_of}
use Rattle.line_words.specs.Values.{node_of, hex_of}
use Rattle.line_words.specs.Words.{first_as}
use Rattle.line_words.specs.declared.read_error.OutOfForm.{OutOfForm}
use Rattle.line_words.proofs.Ranges.{no_value, is_value, first_read, in_script, passed, let_through, choice, first_within, number_within, client_within, call_within, node_within, number_to_within, hex_within}
use Rattle.trace_lines.specs.Events.{armed_in, stop_in, start_in, deliver_in, tick_in, view_in, gone_in, write_back_in, event_in}
use Rattle.trace_lines.specs.Limits.{AreBytes, IsActor, IsMade, IsNumber32, IsSector, IsStop, IsTorn}
use Rattle.trace_lines.specs.Lines.{IsStepEvent}
use Rattle.trace_lines.specs.Places.{number32_of, descriptor_of, clients_of, window_of, view_of, ino_of, new_of, actor_of}
use Rattle.trace_lines.specs.Sectors.{some_bytes_of, bytes_of, ends_in_zero, padded, sector_with, sector_of, torn_of, body_in}
use Rattle.trace_lines.specs.Words.{one_word, alone}
use Rattle.trace_lines.specs.declared.line.StepEvent.TheVariants.{Start, Deliver, Tick, Crash, NewView, Gone, WriteBack}
use Rattle.trace_lines.proofs.Filling.{more_bytes, no_bytes}

-- what each value that is read is
abbrev pub Good : {T : Type 0} → (T → Type 0) → Result T OutOfForm → Type 0
Good P r = (value : _) → r ≡ Ok value → P value

pub none_good : {T : Type 0} (P : T → Type 0) → Good P outside
none_good P value e = absurd (no_value (record {}) value outside refl e)

pub value_good : {T : Type 0} (P : T → Type 0) (one : T) → P one → Good P (Ok one)
value_good P one h value e = is_value P one value (Ok one) refl h e

-- no word is left behind this value
pub alone_good : {T : Type 0} (P : T → Type 0) (one : T) (words : List (List ℕ)) → P one → Good P (alone one words)
alone_good P one [] h = value_good P one h
alone_good P one (word ∷ more) h = none_good P

-- numbers

pub number32_within : (word : List ℕ) → Good IsNumber32 (number32_of word)
number32_within word n e = number_to_within 4294967295 word n e

descriptor_within : (word : List ℕ) → Good (λ n. n ≤ 255) (descriptor_of word)
descriptor_within word n e = number_to_within 255 word n e

pub clients_within : (word : List ℕ) → Good (λ n. (1 ≤ n) × (n ≤ 16)) (clients_of word)
clients_within word n e = number_range 1 16 n word (in_script _ n e)

pub window_within : (word : List ℕ) → Good (λ n. (1 ≤ n) × (n ≤ 8)) (window_of word)
window_within word n e = number_range 1 8 n word (in_script _ n e)

pub view_within : (word : List ℕ) → Good (λ (view : View). IsWide view.0) (view_of word)
view_within word view e =
    let one = first_read (number_of word) _ view e in
    is_value (λ (v : View). IsWide v.0) (record { 0 = one.first }) view _ refl (number_within word one.first one.is) one.rest

pub ino_within : (word : List ℕ) → Good (λ (ino : Ino). IsNumber32 ino.0) (ino_of word)
ino_within word ino e =
    let one = first_read (number32_of word) _ ino e in
    is_value (λ (i : Ino). IsNumber32 i.0) (record { 0 = one.first }) ino _ refl (number32_within word one.first one.is) one.rest

made_within : (word : List ℕ) → Good IsMade (then_read (ino_of word) (λ ino. Ok (Some ino)))
made_within word new e =
    let one = first_read (ino_of word) _ new e in
    is_value IsMade (Some one.first) new _ refl (ino_within word one.first one.is) one.rest

pub new_within : (word : List ℕ) → Good IsMade (new_of word)
new_within word = choice (Good IsMade) (bytes_eq word (codes "-")) _ _ (value_good IsMade None tt) (made_within word)

acts_within : (word : List ℕ) → Good IsActor (then_read (node_of word) (λ node. Ok (Some node)))
acts_within word actor e =
    let one = first_read (node_of word) _ actor e in
    is_value IsActor (Some one.first) actor _ refl (node_within word one.first one.is) one.rest

pub actor_within : (word : List ℕ) → Good IsActor (actor_of word)
actor_within word = choice (Good IsActor) (bytes_eq word (codes "members")) _ _ (value_good IsActor None tt) (acts_within word)

-- bytes and sectors

some_within : (word : List ℕ) → Good AreBytes (some_bytes_of word)
some_within word bytes e = hex_within word bytes (let_through _ (hex_of word) bytes e)

bytes_within : (word : List ℕ) → Good AreBytes (bytes_of word)
bytes_within word = choice (Good AreBytes) (bytes_eq word (codes "-")) _ _ (value_good AreBytes [] no_bytes) (some_within word)

abbrev zeros : ℕ → List ℕ
zeros count = replicate count 0

are_zeros : (count : ℕ) → AreBytes (zeros count)
are_zeros zero = no_bytes
are_zeros (suc count) = more_bytes 0 (zeros count) (omega arith) (are_zeros count)

bytes_then : (bytes more : List ℕ) → AreBytes bytes → AreBytes more → AreBytes (bytes ++ more)
bytes_then [] more h hs = hs
bytes_then (byte ∷ bytes) more h hs = more_bytes byte (bytes ++ more) (h 0 0 (omega arith)) (bytes_then bytes more (λ k d l. h (suc k) d (omega (arith, l))) hs)

whole_length : (bytes : List ℕ) (size : ℕ) → length bytes ≤ size → length (bytes ++ zeros (size - length bytes)) ≡ size
whole_length bytes size few =
    let one : length (bytes ++ zeros (size - length bytes)) ≡ length bytes + length (zeros (size - length bytes)) = length-append bytes (zeros (size - length bytes)) in
    let two : length (zeros (size - length bytes)) ≡ size - length bytes = length-replicate (size - length bytes) 0 in
    omega (arith, one, two, few)

few_bytes : (count size : ℕ) → nat_le count size ≡ true → count ≤ size
few_bytes count size e = grind (arith, nat_tests)

filled_within : (bytes : List ℕ) → AreBytes bytes → Good IsSector (sector_with bytes)
filled_within bytes h sector e =
    let through = passed (nat_le (length bytes) 4096 && not (ends_in_zero bytes)) (padded bytes) sector e in
    let few = few_bytes (length bytes) 4096 (and_parts (nat_le (length bytes) 4096) (not (ends_in_zero bytes)) through.0).0 in
    subst IsSector through.1 (record { whole = whole_length bytes 4096 few; bytes = bytes_then bytes (zeros (4096 - length bytes)) h (are_zeros (4096 - length bytes)) })

pub sector_within : (word : List ℕ) → Good IsSector (sector_of word)
sector_within word sector e =
    let one = first_read (bytes_of word) sector_with sector e in
    filled_within one.first (bytes_within word one.first one.is) sector one.rest

left_within : (word : List ℕ) → Good IsTorn (then_read (sector_of word) (λ sector. Ok (Some sector)))
left_within word torn e =
    let one = first_read (sector_of word) _ torn e in
    is_value IsTorn (Some one.first) torn _ refl (sector_within word one.first one.is) one.rest

torn_within : (word : List ℕ) → Good IsTorn (torn_of word)
torn_within word = choice (Good IsTorn) (bytes_eq word (codes "clean")) _ _ (value_good IsTorn None tt) (left_within word)

pub body_within : (words : List (List ℕ)) → Good AreBytes (body_in words)
body_within [] = none_good AreBytes
body_within (name ∷ behind) = λ body e.
    let word = first_read (one_word behind) _ body e in
    let bytes = first_read (bytes_of word.first) _ body word.rest in
    subst AreBytes (passed (bytes_eq name (body_name bytes.first)) bytes.first body bytes.rest).1 (bytes_within word.first bytes.first bytes.is)

-- events

armed_within : (words : List (List ℕ)) → Good IsStop (armed_in words)
armed_within words stop e =
    let after = first_read (first_as number32_of words) _ stop e in
    let word = first_read (one_word after.first.1) _ stop after.rest in
    let torn = first_read (torn_of word.first) _ stop word.rest in
    is_value IsStop (Some (record { after = after.first.0; torn = torn.first })) stop _ refl
    (first_within IsNumber32 number32_of number32_within words after.first after.is, torn_within word.first torn.first torn.is)
    torn.rest

stop_within : (words : List (List ℕ)) → Good IsStop (stop_in words)
stop_within [] = value_good IsStop None tt
stop_within (word ∷ behind) = choice (Good IsStop) (bytes_eq word (codes "stop")) _ _ (armed_within behind) (none_good IsStop)

start_within : (words : List (List ℕ)) → Good IsStepEvent (start_in words)
start_within words event e =
    let number = first_read (first_as number_of words) _ event e in
    let call = first_read (call_of number.first.1) _ event number.rest in
    is_value IsStepEvent (Start number.first.0 call.first) event _ refl
    (first_within IsWide number_of number_within words number.first number.is, call_within number.first.1 call.first call.is)
    call.rest

deliver_within : (words : List (List ℕ)) → Good IsStepEvent (deliver_in words)
deliver_within words event e =
    let packet = first_read (first_as number_of words) _ event e in
    let stop = first_read (stop_in packet.first.1) _ event packet.rest in
    is_value IsStepEvent (Deliver packet.first.0 stop.first) event _ refl
    (first_within IsWide number_of number_within words packet.first packet.is, stop_within packet.first.1 stop.first stop.is)
    stop.rest

tick_within : (words : List (List ℕ)) → Good IsStepEvent (tick_in words)
tick_within words event e =
    let stop = first_read (stop_in words) _ event e in
    is_value IsStepEvent (Tick stop.first) event _ refl (stop_within words stop.first stop.is) stop.rest

view_event_within : (words : List (List ℕ)) → Good IsStepEvent (view_in words)
view_event_within words event e =
    let view = first_read (first_as view_of words) _ event e in
    let stop = first_read (stop_in view.first.1) _ event view.rest in
    is_value IsStepEvent (NewView view.first.0 stop.first) event _ refl
    (first_within (λ (v : View). IsWide v.0) view_of view_within words view.first view.is, stop_within view.first.1 stop.first stop.is)
    stop.rest

gone_within : (words : List (List ℕ)) → Good IsStepEvent (gone_in words)
gone_within words event e =
    let word = first_read (one_word words) _ event e in
    let client = first_read (client_of word.first) _ event word.rest in
    is_value IsStepEvent (Gone client.first) event _ refl (client_within word.first client.first client.is) client.rest

write_back_within : (words : List (List ℕ)) → Good IsStepEvent (write_back_in words)
write_back_within words event e =
    let word = first_read (one_word words) _ event e in
    let fd = first_read (descriptor_of word.first) _ event word.rest in
    is_value IsStepEvent (WriteBack fd.first) event _ refl (descriptor_within word.first fd.first fd.is) fd.rest

pub event_within : (words : List (List ℕ)) → Good IsStepEvent (event_in words)
event_within [] = none_good IsStepEvent
event_within (word ∷ behind) =
    choice (Good IsStepEvent) (bytes_eq word (codes "start")) _ _ (start_within behind)
    (choice (Good IsStepEvent) (bytes_eq word (codes "deliver")) _ _ (deliver_within behind)
    (choice (Good IsStepEvent) (bytes_eq word (codes "tick")) _ _ (tick_within behind)
    (choice (Good IsStepEvent) (bytes_eq word (codes "crash")) _ _ (alone_good IsStepEvent Crash behind tt)
    (choice (Good IsStepEvent) (bytes_eq word (codes "view")) _ _ (view_event_within behind)
    (choice (Good IsStepEvent) (bytes_eq word (codes "gone")) _ _ (gone_within behind)
    (choice (Good IsStepEvent) (bytes_eq word (codes "writeback")) _ _ (write_back_within behind) (none_good IsStepEvent)))))))
