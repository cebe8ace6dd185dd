-- What a line can tell is read from its words, and from these written as a line.
use Rattle.std.proofs.Common.{◌≡◌, ◌≤◌, ℕ, Bool, true, false, List, [], ◌∷◌, cond, refl, sym, ap, ◌∙◌, arith, Result, Ok, Err, Option, Some, None, codes, decimal, bytes_eq}
use Rattle.std.specs.List.{join_with_byte}
use Rattle.std.proofs.lemmas.Slice.Eq.{bytes_eq-Decides}
use Rattle.cal_base.specs.declared.identity.ClientId.{ClientId}
use Rattle.cal_base.specs.declared.identity.Ino.{Ino}
use Rattle.tree_law.specs.declared.call.Call.{Call}
use Rattle.script.specs.Numbers.{number_in}
use Rattle.script.specs.Spelling.{client_word, call_words, IsClient, IsWide, IsCall}
use Rattle.script.specs.declared.bad_line.BadWhy.TheVariants.{Number}
use Rattle.script.proofs.ReadPlaces.{no_value}
use Rattle.script.proofs.Written.{number_written}
use Rattle.history_check.specs.declared.told.Told.{Told}
use Rattle.history_check.specs.declared.told.Told.TheVariants.{Starts, Enters, Flushes, Purges, Answers as Answered}
use Rattle.line_words.specs.Outcome.{outside, then_read, in_form}
use Rattle.line_words.specs.Places.{client_of, number_of, call_of}
use Rattle.text_lines.specs.Places.{ino_of, any_ino, new_ino}
use Rattle.text_lines.specs.Replies.{reply_of}
use Rattle.text_lines.specs.Spelling.{new_word, told_words, IsNew, IsReply, IsTold}
use Rattle.text_lines.specs.Telling.{start_told, call_entry_told, flush_told, purge_told, answer_told, tells, words_told, told_in}
use Rattle.line_words.specs.Words.{words, first_as}
use Rattle.line_words.specs.declared.read_error.OutOfForm.{OutOfForm}
use Rattle.line_words.proofs.Joined.{are_free, and_both, words_joined, words_free}
use Rattle.line_words.proofs.Kept.{text_again}
use Rattle.line_words.proofs.WordsFree.{number_free, client_free, call_free}
use Rattle.line_words.proofs.Reading.{chain, first_is, number_is, client_is, call_is}
use Rattle.text_lines.proofs.WordsFree.{new_free}

-- places

ino_is : (least : ℕ) (ino : Ino) → least ≤ ino.0 → ino.0 ≤ 511 → ino_of least (decimal ino.0) ≡ Ok ino
ino_is least ino low high = chain (in_form (number_in least 511 (decimal ino.0))) ino.0 (λ number. Ok (record { 0 = number })) (Ok ino) (ap in_form (number_written least 511 ino.0 low high (omega arith))) refl

-- a number isn't a dash
no_dash : (n : ℕ) → n ≤ 511 → (b : Bool) → bytes_eq (decimal n) (codes "-") ≡ b → b ≡ false
no_dash n h true e = absurd (no_value Number n (number_in 0 511 (codes "-")) refl (ap (number_in 0 511) (sym ((bytes_eq-Decides (decimal n) (codes "-")).0 e)) ∙ number_written 0 511 n (omega arith) h (omega arith)))
no_dash n h false e = refl

new_is : (new : Option Ino) → IsNew new → new_ino (new_word new) ≡ Ok new
new_is None h = refl
new_is (Some ino) h =
    ap (λ (b : Bool). cond b (Ok None) (then_read (ino_of 1 (decimal ino.0)) (λ ino. Ok (Some ino)))) (no_dash ino.0 h.1 (bytes_eq (decimal ino.0) (codes "-")) refl)
    ∙ chain (ino_of 1 (decimal ino.0)) ino (λ ino. Ok (Some ino)) (Ok (Some ino)) (ino_is 1 ino h.0 h.1) refl

reply_is : (reply : List ℕ) → IsReply reply → reply_of (words reply) ≡ Ok reply
reply_is reply h = ap (λ (b : Bool). cond b (Ok (join_with_byte 32 (words reply))) outside) h ∙ ap (λ (text : List ℕ). Ok text) (text_again reply)

-- lines, of which the first words are taken off

start_is : (step : ℕ) (client : ClientId) (number : ℕ) (call : Call) → IsWide step → IsClient client → IsWide number → IsCall call → start_told (decimal step ∷ client_word client ∷ codes "start" ∷ decimal number ∷ call_words call) ≡ Ok (Starts client number call)
start_is step client number call hs hc hn hk =
    let by-call = call_words call in
    let by-number = decimal number ∷ by-call in
    let by-start = codes "start" ∷ by-number in
    let by-client = client_word client ∷ by-start in
    chain (first_as number_of (decimal step ∷ by-client)) (step, by-client) _ _ (first_is number_of (decimal step) by-client step (number_is step hs))
    (chain (first_as client_of by-client) (client, by-start) _ _ (first_is client_of (client_word client) by-start client (client_is client hc))
    (chain (first_as number_of by-number) (number, by-call) _ _ (first_is number_of (decimal number) by-call number (number_is number hn))
    (chain (call_of by-call) call _ _ (call_is call hk) refl)))

call_entry_is : (client : ClientId) (number : ℕ) (new : Option Ino) (reply : List ℕ) → IsClient client → IsWide number → IsNew new → IsReply reply → call_entry_told (client_word client ∷ decimal number ∷ codes "new" ∷ new_word new ∷ codes "reply" ∷ words reply) ≡ Ok (Enters client number new reply)
call_entry_is client number new reply hc hn hi hr =
    let by-answer = words reply in
    let by-reply = codes "reply" ∷ by-answer in
    let by-ino = new_word new ∷ by-reply in
    let by-new = codes "new" ∷ by-ino in
    let by-number = decimal number ∷ by-new in
    chain (first_as client_of (client_word client ∷ by-number)) (client, by-number) _ _ (first_is client_of (client_word client) by-number client (client_is client hc))
    (chain (first_as number_of by-number) (number, by-new) _ _ (first_is number_of (decimal number) by-new number (number_is number hn))
    (chain (first_as new_ino by-ino) (new, by-reply) _ _ (first_is new_ino (new_word new) by-reply new (new_is new hi))
    (chain (reply_of by-answer) reply _ _ (reply_is reply hr) refl)))

flush_is : (client : ClientId) (ino : Ino) → IsClient client → ino.0 ≤ 511 → flush_told (client_word client ∷ decimal ino.0 ∷ []) ≡ Ok (Flushes client ino)
flush_is client ino hc hi =
    let by-ino = decimal ino.0 ∷ [] in
    chain (first_as client_of (client_word client ∷ by-ino)) (client, by-ino) _ _ (first_is client_of (client_word client) by-ino client (client_is client hc))
    (chain (any_ino (decimal ino.0)) ino _ _ (ino_is 0 ino (omega arith) hi) refl)

purge_is : (client : ClientId) → IsClient client → purge_told (client_word client ∷ []) ≡ Ok (Purges client)
purge_is client hc = chain (client_of (client_word client)) client _ _ (client_is client hc) refl

answer_is : (client : ClientId) (number : ℕ) (reply : List ℕ) → IsClient client → IsWide number → IsReply reply → answer_told (client_word client ∷ decimal number ∷ words reply) ≡ Ok (Answered client number reply)
answer_is client number reply hc hn hr =
    let by-reply = words reply in
    let by-number = decimal number ∷ by-reply in
    chain (first_as client_of (client_word client ∷ by-number)) (client, by-number) _ _ (first_is client_of (client_word client) by-number client (client_is client hc))
    (chain (first_as number_of by-number) (number, by-reply) _ _ (first_is number_of (decimal number) by-reply number (number_is number hn))
    (chain (reply_of by-reply) reply _ _ (reply_is reply hr) refl))

-- what is told is read from its words
told_is : (step : ℕ) (told : Told) → IsWide step → IsTold told → words_told (told_words step told) ≡ Ok (Some told)
told_is step (Starts client number call) hs h = ap tells (start_is step client number call hs h.0 h.1 h.2)
told_is step (Enters client number new reply) hs h = ap tells (call_entry_is client number new reply h.0 h.1 h.2 h.3)
told_is step (Flushes client ino) hs h = ap tells (flush_is client ino h.0 h.1)
told_is step (Purges client) hs h = ap tells (purge_is client h)
told_is step (Answered client number reply) hs h = ap tells (answer_is client number reply h.0 h.1 h.2)

-- no word of a line has a space

told_free : (step : ℕ) (told : Told) → IsWide step → IsTold told → are_free (told_words step told) ≡ true
told_free step (Starts client number call) hs h =
    and_both _ _ refl (and_both _ _ (number_free step hs) (and_both _ _ (client_free client h.0) (and_both _ _ refl (and_both _ _ (number_free number h.1) (call_free call h.2)))))
told_free step (Enters client number new reply) hs h =
    and_both _ _ refl (and_both _ _ refl (and_both _ _ (client_free client h.0) (and_both _ _ (number_free number h.1) (and_both _ _ refl (and_both _ _ (new_free new h.2) (and_both _ _ refl (words_free reply)))))))
told_free step (Flushes client ino) hs h = and_both _ _ refl (and_both _ _ refl (and_both _ _ (client_free client h.0) (and_both _ _ (number_free ino.0 (omega (arith, h.1))) refl)))
told_free step (Purges client) hs h = and_both _ _ refl (and_both _ _ refl (and_both _ _ (client_free client h) refl))
told_free step (Answered client number reply) hs h = and_both _ _ refl (and_both _ _ (client_free client h.0) (and_both _ _ (number_free number h.1) (words_free reply)))

is_read : Result (Option Told) OutOfForm → Bool
is_read (Ok told) = true
is_read (Err form) = false

no_told : (told : Told) → words_told [] ≡ Ok (Some told) → ⊥
unfolding is_read
no_told told e = let same : false ≡ true = ap is_read e in grind arith

-- words without spaces are read alike from the line that they make
read_joined : (parts : List (List ℕ)) (told : Told) → are_free parts ≡ true → words_told parts ≡ Ok (Some told) → words_told (words (join_with_byte 32 parts)) ≡ Ok (Some told)
read_joined [] told h e = absurd (no_told told e)
read_joined (word ∷ behind) told h e = ap words_told (words_joined word behind h) ∙ e

-- what a line can tell is told by its line
pub line_is : (step : ℕ) (told : Told) → IsWide step → IsTold told → told_in (join_with_byte 32 (told_words step told)) ≡ Ok (Some told)
unfolding told_in
line_is step told hs h = read_joined (told_words step told) told (told_free step told hs h) (told_is step told hs h)
