-- What is told is within the limits of its places.
use Rattle.std.proofs.Common.{◌≡◌, ◌≤◌, ℕ, Bool, true, false, List, [], ◌∷◌, cond, refl, ap, ◌∙◌, subst, arith, Result, Ok, Option, Some, None, codes, bytes_eq}
use Rattle.std.specs.List.{join_with_byte}
use Rattle.cal_base.specs.declared.identity.Ino.{Ino}
use Rattle.script.specs.Numbers.{number_in}
use Rattle.script.specs.Spelling.{IsClient, IsWide}
use Rattle.script.proofs.ReadPlaces.{number_range}
use Rattle.history_check.specs.declared.told.Told.{Told}
use Rattle.history_check.specs.declared.told.Told.TheVariants.{Starts, Enters, Flushes, Purges, Answers as Answered}
use Rattle.line_words.specs.Outcome.{outside, then_read, in_form}
use Rattle.line_words.specs.Places.{client_of, number_of, call_of}
use Rattle.text_lines.specs.Places.{ino_of, any_ino, new_ino}
use Rattle.text_lines.specs.Replies.{is_reply, reply_of}
use Rattle.text_lines.specs.Spelling.{IsNew, IsReply, IsTold}
use Rattle.text_lines.specs.Telling.{is_start, start_told, call_entry_told, flush_told, purge_told, entry_told, answer_told, tells, step_told, is_passed_over, words_told, told_in}
use Rattle.line_words.specs.Words.{words, first_as, behind_word, last_as}
use Rattle.line_words.specs.declared.read_error.OutOfForm.{OutOfForm}
use Rattle.std.proofs.lemmas.Bool.{and_parts}
use Rattle.line_words.proofs.Joined.{is_free, are_free, words_joined, words_free}
use Rattle.line_words.proofs.Ranges.{same_read, no_value, is_value, first_read, in_script, passed, client_within, number_within, call_within, first_within, last_within, choice}

told_or : Told → Option Told → Told
told_or other None = other
told_or other (Some told) = told

some_same : (one other : Told) → Some one ≡ Some other → one ≡ other
unfolding told_or
some_same one other e = ap (told_or one) e

is_told : Option Told → Bool
is_told None = false
is_told (Some told) = true

none_some : (told : Told) → None ≡ Some told → ⊥
unfolding is_told
none_some told e = let same : false ≡ true = ap is_told e in grind arith

ino_within : (least : ℕ) (word : List ℕ) (ino : Ino) → ino_of least word ≡ Ok ino → (least ≤ ino.0) × (ino.0 ≤ 511)
ino_within least word ino e =
    let one = first_read (in_form (number_in least 511 word)) _ ino e in
    is_value (λ (i : Ino). (least ≤ i.0) × (i.0 ≤ 511)) (record { 0 = one.first }) ino _ refl (number_range least 511 one.first word (in_script _ one.first one.is)) one.rest

new_within : (word : List ℕ) (new : Option Ino) → new_ino word ≡ Ok new → IsNew new
new_within word new e = elim (bytes_eq word (codes "-")) as (λ b. cond b (Ok None) (then_read (ino_of 1 word) (λ ino. Ok (Some ino))) ≡ Ok new → IsNew new) [
  | true ↦ λ f. is_value IsNew None new _ refl tt f
  | false ↦ λ f. let one = first_read (ino_of 1 word) _ new f in is_value IsNew (Some one.first) new _ refl (ino_within 1 word one.first one.is) one.rest
] e

is_again : (parts : List (List ℕ)) → are_free parts ≡ true → is_reply parts ≡ true → is_reply (words (join_with_byte 32 parts)) ≡ true
is_again [] h e = absurd (let same : false ≡ true = e in grind arith)
is_again (word ∷ behind) h e = ap is_reply (words_joined word behind h) ∙ e

reply_within : (parts : List (List ℕ)) (reply : List ℕ) → are_free parts ≡ true → reply_of parts ≡ Ok reply → IsReply reply
reply_within parts reply h e =
    let through = passed (is_reply parts) (join_with_byte 32 parts) reply e in
    subst IsReply through.1 (is_again parts h through.0)

-- the words behind

behind_free : {T : Type 0} (read : List ℕ → Result T OutOfForm) (words : List (List ℕ)) (found : T × List (List ℕ)) → are_free words ≡ true → first_as read words ≡ Ok found → are_free found.1 ≡ true
behind_free read [] found h e = absurd (no_value (record {}) found outside refl e)
behind_free read (word ∷ behind) found h e =
    let one = first_read (read word) _ found e in
    is_value (λ (f : _ × List (List ℕ)). are_free f.1 ≡ true) (one.first, behind) found _ refl (and_parts (is_free word) (are_free behind) h).1 one.rest

after_free : (wanted : List ℕ) (words behind : List (List ℕ)) → are_free words ≡ true → behind_word wanted words ≡ Ok behind → are_free behind ≡ true
after_free wanted [] behind h e = absurd (no_value (record {}) behind outside refl e)
after_free wanted (word ∷ rest) behind h e = subst (λ (parts : List (List ℕ)). are_free parts ≡ true) (passed (bytes_eq word wanted) rest behind e).1 (and_parts (is_free word) (are_free rest) h).1

-- lines

start_within : (words : List (List ℕ)) (told : Told) → start_told words ≡ Ok told → IsTold told
start_within words told e =
    let index = first_read (first_as number_of words) _ told e in
    let client = first_read (first_as client_of index.first.1) _ told index.rest in
    let behind = first_read (behind_word (codes "start") client.first.1) _ told client.rest in
    let number = first_read (first_as number_of behind.first) _ told behind.rest in
    let call = first_read (call_of number.first.1) _ told number.rest in
    is_value IsTold (Starts client.first.0 number.first.0 call.first) told _ refl
    (first_within IsClient client_of client_within index.first.1 client.first client.is, first_within IsWide number_of number_within behind.first number.first number.is, call_within number.first.1 call.first call.is)
    call.rest

call_entry_within : (words : List (List ℕ)) (told : Told) → are_free words ≡ true → call_entry_told words ≡ Ok told → IsTold told
call_entry_within words told h e =
    let client = first_read (first_as client_of words) _ told e in
    let number = first_read (first_as number_of client.first.1) _ told client.rest in
    let behind = first_read (behind_word (codes "new") number.first.1) _ told number.rest in
    let new = first_read (first_as new_ino behind.first) _ told behind.rest in
    let answer = first_read (behind_word (codes "reply") new.first.1) _ told new.rest in
    let reply = first_read (reply_of answer.first) _ told answer.rest in
    let free-1 = behind_free client_of words client.first h client.is in
    let free-2 = behind_free number_of client.first.1 number.first free-1 number.is in
    let free-3 = after_free (codes "new") number.first.1 behind.first free-2 behind.is in
    let free-4 = behind_free new_ino behind.first new.first free-3 new.is in
    let free-5 = after_free (codes "reply") new.first.1 answer.first free-4 answer.is in
    is_value IsTold (Enters client.first.0 number.first.0 new.first.0 reply.first) told _ refl
    (first_within IsClient client_of client_within words client.first client.is, first_within IsWide number_of number_within client.first.1 number.first number.is, first_within IsNew new_ino new_within behind.first new.first new.is, reply_within answer.first reply.first free-5 reply.is)
    reply.rest

flush_within : (words : List (List ℕ)) (told : Told) → flush_told words ≡ Ok told → IsTold told
flush_within words told e =
    let client = first_read (first_as client_of words) _ told e in
    let ino = first_read (last_as any_ino client.first.1) _ told client.rest in
    is_value IsTold (Flushes client.first.0 ino.first) told _ refl
    (first_within IsClient client_of client_within words client.first client.is, (last_within (λ (i : Ino). (0 ≤ i.0) × (i.0 ≤ 511)) any_ino (ino_within 0) client.first.1 ino.first ino.is).1)
    ino.rest

purge_within : (words : List (List ℕ)) (told : Told) → purge_told words ≡ Ok told → IsTold told
purge_within words told e =
    let client = first_read (last_as client_of words) _ told e in
    is_value IsTold (Purges client.first) told _ refl (last_within IsClient client_of client_within words client.first client.is) client.rest

answer_within : (words : List (List ℕ)) (told : Told) → are_free words ≡ true → answer_told words ≡ Ok told → IsTold told
answer_within words told h e =
    let client = first_read (first_as client_of words) _ told e in
    let number = first_read (first_as number_of client.first.1) _ told client.rest in
    let reply = first_read (reply_of number.first.1) _ told number.rest in
    let free-1 = behind_free client_of words client.first h client.is in
    let free-2 = behind_free number_of client.first.1 number.first free-1 number.is in
    is_value IsTold (Answered client.first.0 number.first.0 reply.first) told _ refl
    (first_within IsClient client_of client_within words client.first client.is, first_within IsWide number_of number_within client.first.1 number.first number.is, reply_within number.first.1 reply.first free-2 reply.is)
    reply.rest

entry_within : (words : List (List ℕ)) → are_free words ≡ true → (told : Told) → entry_told words ≡ Ok told → IsTold told
entry_within [] h = λ told e. absurd (no_value (record {}) told outside refl e)
entry_within (kind ∷ behind) h =
    let free = (and_parts (is_free kind) (are_free behind) h).1 in
    let Good : Result Told OutOfForm → Type 0 = λ r. (told : Told) → r ≡ Ok told → IsTold told in
    choice Good (bytes_eq kind (codes "call")) _ _ (λ told e. call_entry_within behind told free e)
    (choice Good (bytes_eq kind (codes "flush")) _ _ (λ told e. flush_within behind told e)
    (choice Good (bytes_eq kind (codes "purge")) _ _ (λ told e. purge_within behind told e) (λ told e. absurd (no_value (record {}) told outside refl e))))

-- where something is told, it is so
tells_within : (P : Told → Type 0) (r : Result Told OutOfForm) → ((told : Told) → r ≡ Ok told → P told) → (told : Told) → tells r ≡ Ok (Some told) → P told
tells_within P r h told e =
    let one = first_read r _ (Some told) e in
    let value : Some one.first ≡ Some told = same_read (Some one.first) (Some told) (Ok (Some one.first)) refl one.rest in
    subst P (some_same one.first told value) (h one.first one.is)

abbrev nothing : Result (Option Told) OutOfForm
nothing = Ok None

nothing_told : (P : Told → Type 0) (told : Told) → nothing ≡ Ok (Some told) → P told
nothing_told P told e = absurd (none_some told (same_read None (Some told) nothing refl e))

step_within : (words : List (List ℕ)) (told : Told) → step_told words ≡ Ok (Some told) → IsTold told
step_within words =
    let Good : Result (Option Told) OutOfForm → Type 0 = λ r. (told : Told) → r ≡ Ok (Some told) → IsTold told in
    choice Good (is_start words) _ _ (λ told e. tells_within IsTold (start_told words) (start_within words) told e) (λ told e. nothing_told IsTold told e)

words_within : (words : List (List ℕ)) → are_free words ≡ true → (told : Told) → words_told words ≡ Ok (Some told) → IsTold told
words_within [] h = λ told e. absurd (no_value (record {}) (Some told) outside refl e)
words_within (word ∷ behind) h =
    let free = (and_parts (is_free word) (are_free behind) h).1 in
    let Good : Result (Option Told) OutOfForm → Type 0 = λ r. (told : Told) → r ≡ Ok (Some told) → IsTold told in
    choice Good (bytes_eq word (codes "step")) _ _ (step_within behind)
    (choice Good (bytes_eq word (codes "entry")) _ _ (λ told e. tells_within IsTold (entry_told behind) (entry_within behind free) told e)
    (choice Good (bytes_eq word (codes "ans")) _ _ (λ told e. tells_within IsTold (answer_told behind) (λ one f. answer_within behind one free f) told e)
    (choice Good (is_passed_over word) _ _ (λ told e. nothing_told IsTold told e) (λ told e. absurd (no_value (record {}) (Some told) outside refl e)))))

pub line_within : (line : List ℕ) (told : Told) → told_in line ≡ Ok (Some told) → IsTold told
unfolding told_in
line_within line told e = words_within (words line) (words_free line) told e
