-- What a line of a text tells of its history.
use Rattle.std.specs.Prelude.{ℕ, ◌||◌, Bool, false, List, [], ◌∷◌, if◌then◌else◌, Option, Some, None, Result, Ok, codes, bytes_eq}
use Rattle.history_check.specs.declared.told.Told.{Told}
use Rattle.history_check.specs.declared.told.Told.TheVariants.{Starts, Enters, Flushes, Purges, Answers as Answered}
use Rattle.line_words.specs.Outcome.{outside, then_read}
use Rattle.line_words.specs.Places.{client_of, number_of, call_of}
use Rattle.text_lines.specs.Places.{any_ino, new_ino}
use Rattle.text_lines.specs.Replies.{reply_of}
use Rattle.line_words.specs.Words.{words, first_as, behind_word, last_as}
use Rattle.line_words.specs.declared.read_error.OutOfForm.{OutOfForm}

-- the third of these words, behind a number and a node, is `start`
abbrev pub is_start : List (List ℕ) → Bool
is_start [] = false
is_start (index ∷ []) = false
is_start (index ∷ node ∷ []) = false
is_start (index ∷ node ∷ event ∷ more) = bytes_eq event (codes "start")

-- `I cX start N CALL`
abbrev pub start_told : List (List ℕ) → Result Told OutOfForm
start_told words =
    then_read (first_as number_of words) (λ index.
    then_read (first_as client_of index.1) (λ client.
    then_read (behind_word (codes "start") client.1) (λ behind.
    then_read (first_as number_of behind) (λ number.
    then_read (call_of number.1) (λ call.
    Ok (Starts client.0 number.0 call))))))

-- `call cX N new I reply R` behind its first word
abbrev pub call_entry_told : List (List ℕ) → Result Told OutOfForm
call_entry_told words =
    then_read (first_as client_of words) (λ client.
    then_read (first_as number_of client.1) (λ number.
    then_read (behind_word (codes "new") number.1) (λ behind.
    then_read (first_as new_ino behind) (λ new.
    then_read (behind_word (codes "reply") new.1) (λ answer.
    then_read (reply_of answer) (λ reply.
    Ok (Enters client.0 number.0 new.0 reply)))))))

-- `flush cX I` behind its first word
abbrev pub flush_told : List (List ℕ) → Result Told OutOfForm
flush_told words =
    then_read (first_as client_of words) (λ client.
    then_read (last_as any_ino client.1) (λ ino.
    Ok (Flushes client.0 ino)))

-- `purge cX` behind its first word
abbrev pub purge_told : List (List ℕ) → Result Told OutOfForm
purge_told words = then_read (last_as client_of words) (λ client. Ok (Purges client))

-- an entry: of a call, of a flush or of a purge
abbrev pub entry_told : List (List ℕ) → Result Told OutOfForm
entry_told [] = outside
entry_told (kind ∷ behind) =
    if bytes_eq kind (codes "call") then call_entry_told behind
    else if bytes_eq kind (codes "flush") then flush_told behind
    else if bytes_eq kind (codes "purge") then purge_told behind
    else outside

-- `cX N R`
abbrev pub answer_told : List (List ℕ) → Result Told OutOfForm
answer_told words =
    then_read (first_as client_of words) (λ client.
    then_read (first_as number_of client.1) (λ number.
    then_read (reply_of number.1) (λ reply.
    Ok (Answered client.0 number.0 reply))))

-- what is told of the history
abbrev pub tells : Result Told OutOfForm → Result (Option Told) OutOfForm
tells read = then_read read (λ told. Ok (Some told))

-- a step with a start; any other step tells nothing of the history
abbrev pub step_told : List (List ℕ) → Result (Option Told) OutOfForm
step_told words = if is_start words then tells (start_told words) else Ok None

-- the first word of a line that tells nothing of the history, and is passed over by this word alone
abbrev pub is_passed_over : List ℕ → Bool
is_passed_over word =
    bytes_eq word (codes "write") || bytes_eq word (codes "send") || bytes_eq word (codes "sync")
    || bytes_eq word (codes "head") || bytes_eq word (codes "halt") || bytes_eq word (codes "refused")
    || bytes_eq word (codes "settled") || bytes_eq word (codes "chose") || bytes_eq word (codes "run")
    || bytes_eq word (codes "end")

-- what the words of a line tell of the history
abbrev pub words_told : List (List ℕ) → Result (Option Told) OutOfForm
words_told [] = outside
words_told (word ∷ behind) =
    if bytes_eq word (codes "step") then step_told behind
    else if bytes_eq word (codes "entry") then tells (entry_told behind)
    else if bytes_eq word (codes "ans") then tells (answer_told behind)
    else if is_passed_over word then Ok None
    else outside

-- what a line tells of the history, or nothing, or that it is outside its form
unfoldable pub told_in : List ℕ → Result (Option Told) OutOfForm
told_in line = words_told (words line)
