-- A line of the text of a run, from its words.
use Rattle.std.specs.Prelude.{ℕ, List, [], ◌∷◌, if◌then◌else◌, Result, Ok, codes, bytes_eq}
use Rattle.token_kind.specs.declared.block.Block.{Block}
use Rattle.session.specs.declared.packet.Packet.{Packet}
use Rattle.cluster_law.specs.declared.step.Halt.{Halt}
use Rattle.cluster_law.specs.declared.step.Halt.TheVariants.{Fenced, Failed, Stopped, Damaged}
use Rattle.line_words.specs.Outcome.{outside, then_read}
use Rattle.line_words.specs.Places.{number_of, client_of}
use Rattle.line_words.specs.Words.{words, first_as, behind_word, last_as}
use Rattle.line_words.specs.declared.read_error.OutOfForm.{OutOfForm}
use Rattle.trace_lines.specs.Events.{event_in}
use Rattle.trace_lines.specs.Places.{number32_of, clients_of, window_of, view_of, ino_of, new_of, node_of, actor_of, class_of, cause_of, settled_of}
use Rattle.trace_lines.specs.Sectors.{sector_of, body_in}
use Rattle.trace_lines.specs.Words.{one_word, alone, text_left}
use Rattle.trace_lines.specs.declared.lines.Sending.{Sending}
use Rattle.trace_lines.specs.declared.line.TraceLine.{TraceLine}
use Rattle.trace_lines.specs.declared.line.TraceLine.TheVariants.{Step, Write, CallEntry, FlushEntry, PurgeEntry, Send, Answer, Head, Halt as Halts, Refused, Settled as Settles}

-- `I ACTOR EVENT`
abbrev pub step_in : List (List ℕ) → Result TraceLine OutOfForm
step_in words =
    then_read (first_as number_of words) (λ index.
    then_read (first_as actor_of index.1) (λ actor.
    then_read (event_in actor.1) (λ event.
    Ok (Step index.0 actor.0 event))))

-- `S SECTOR`
abbrev pub write_in : List (List ℕ) → Result TraceLine OutOfForm
write_in words =
    then_read (first_as number32_of words) (λ number.
    then_read (one_word number.1) (λ word.
    then_read (sector_of word) (λ sector.
    Ok (Write (number.0, sector)))))

-- `cX N new I reply R`
abbrev pub call_entry_in : List (List ℕ) → Result TraceLine OutOfForm
call_entry_in words =
    then_read (first_as client_of words) (λ client.
    then_read (first_as number_of client.1) (λ number.
    then_read (behind_word (codes "new") number.1) (λ behind.
    then_read (first_as new_of behind) (λ new.
    then_read (behind_word (codes "reply") new.1) (λ answer.
    then_read (text_left answer) (λ reply.
    Ok (CallEntry client.0 number.0 new.0 reply)))))))

-- `cX I`
abbrev pub flush_entry_in : List (List ℕ) → Result TraceLine OutOfForm
flush_entry_in words =
    then_read (first_as client_of words) (λ client.
    then_read (one_word client.1) (λ word.
    then_read (ino_of word) (λ ino.
    Ok (FlushEntry client.0 ino))))

-- `cX`
abbrev pub purge_entry_in : List (List ℕ) → Result TraceLine OutOfForm
purge_entry_in words = then_read (last_as client_of words) (λ client. Ok (PurgeEntry client))

-- an entry of a call, of a flush or of a purge
abbrev pub entry_in : List (List ℕ) → Result TraceLine OutOfForm
entry_in [] = outside
entry_in (kind ∷ behind) =
    if bytes_eq kind (codes "call") then call_entry_in behind
    else if bytes_eq kind (codes "flush") then flush_entry_in behind
    else if bytes_eq kind (codes "purge") then purge_entry_in behind
    else outside

-- a packet's view, the number of its message, how many messages its sender has taken, and its body
abbrev pub sending_in : List (List ℕ) → Result Sending OutOfForm
sending_in words =
    then_read (first_as view_of words) (λ view.
    then_read (first_as number_of view.1) (λ seq.
    then_read (first_as number_of seq.1) (λ ack.
    then_read (body_in ack.1) (λ body.
    Ok (record { view = view.0; seq = seq.0; ack = ack.0; body = body })))))

-- a packet: who sent it, for whom it is, and the rest
abbrev pub packet_in : List (List ℕ) → Result Packet OutOfForm
packet_in words =
    then_read (first_as node_of words) (λ from.
    then_read (first_as node_of from.1) (λ to.
    then_read (sending_in to.1) (λ sending.
    Ok (record { from = from.0; to = to.0; view = sending.view; seq = sending.seq; ack = sending.ack; body = sending.body }))))

-- `N PACKET`
abbrev pub send_in : List (List ℕ) → Result TraceLine OutOfForm
send_in words =
    then_read (first_as number_of words) (λ number.
    then_read (packet_in number.1) (λ packet.
    Ok (Send number.0 packet)))

-- `cX N R`
abbrev pub answer_in : List (List ℕ) → Result TraceLine OutOfForm
answer_in words =
    then_read (first_as client_of words) (λ client.
    then_read (first_as number_of client.1) (λ number.
    then_read (text_left number.1) (λ reply.
    Ok (Answer client.0 number.0 reply))))

-- `cX N blocked cY I CLASS`
abbrev pub block_in : List (List ℕ) → Result Block OutOfForm
block_in words =
    then_read (first_as client_of words) (λ client.
    then_read (first_as number_of client.1) (λ number.
    then_read (behind_word (codes "blocked") number.1) (λ behind.
    then_read (first_as client_of behind) (λ holder.
    then_read (first_as ino_of holder.1) (λ ino.
    then_read (one_word ino.1) (λ word.
    then_read (class_of word) (λ class.
    Ok (record { client = client.0; number = number.0; holder = holder.0; ino = ino.0; class = class }))))))))

abbrev pub head_in : List (List ℕ) → Result TraceLine OutOfForm
head_in words = then_read (block_in words) (λ block. Ok (Head block))

-- `V V` behind `fenced`
abbrev pub fenced_in : List (List ℕ) → Result Halt OutOfForm
fenced_in words =
    then_read (first_as view_of words) (λ mine.
    then_read (one_word mine.1) (λ word.
    then_read (view_of word) (λ current.
    Ok (Fenced mine.0 current))))

-- `N` behind `failed`
abbrev pub failed_in : List (List ℕ) → Result Halt OutOfForm
failed_in words =
    then_read (one_word words) (λ word.
    then_read (number_of word) (λ faults.
    Ok (Failed faults)))

abbrev pub stopped_in : List (List ℕ) → Result Halt OutOfForm
stopped_in words = alone Stopped words

-- `S` behind `damaged`
abbrev pub damaged_in : List (List ℕ) → Result Halt OutOfForm
damaged_in words =
    then_read (one_word words) (λ word.
    then_read (number32_of word) (λ sector.
    Ok (Damaged sector)))

-- why a node halts
abbrev pub reason_in : List (List ℕ) → Result Halt OutOfForm
reason_in [] = outside
reason_in (word ∷ behind) =
    if bytes_eq word (codes "fenced") then fenced_in behind
    else if bytes_eq word (codes "failed") then failed_in behind
    else if bytes_eq word (codes "stopped") then stopped_in behind
    else if bytes_eq word (codes "damaged") then damaged_in behind
    else outside

-- `ACTOR REASON`
abbrev pub halt_in : List (List ℕ) → Result TraceLine OutOfForm
halt_in words =
    then_read (first_as actor_of words) (λ actor.
    then_read (reason_in actor.1) (λ halt.
    Ok (Halts actor.0 halt)))

-- `L CAUSE`
abbrev pub refused_in : List (List ℕ) → Result TraceLine OutOfForm
refused_in words =
    then_read (first_as number32_of words) (λ line.
    then_read (one_word line.1) (λ word.
    then_read (cause_of word) (λ cause.
    Ok (Refused line.0 cause))))

-- `L N HOW`
abbrev pub settled_in : List (List ℕ) → Result TraceLine OutOfForm
settled_in words =
    then_read (first_as number32_of words) (λ line.
    then_read (first_as number_of line.1) (λ cycles.
    then_read (one_word cycles.1) (λ word.
    then_read (settled_of word) (λ how.
    Ok (Settles line.0 cycles.0 how)))))

-- a head, a halt, or a line between steps
abbrev pub short_line : List ℕ → List (List ℕ) → Result TraceLine OutOfForm
short_line word behind =
    if bytes_eq word (codes "head") then head_in behind
    else if bytes_eq word (codes "halt") then halt_in behind
    else if bytes_eq word (codes "refused") then refused_in behind
    else if bytes_eq word (codes "settled") then settled_in behind
    else outside

-- a line, by its first word
abbrev pub line_in : List (List ℕ) → Result TraceLine OutOfForm
line_in [] = outside
line_in (word ∷ behind) =
    if bytes_eq word (codes "step") then step_in behind
    else if bytes_eq word (codes "write") then write_in behind
    else if bytes_eq word (codes "entry") then entry_in behind
    else if bytes_eq word (codes "send") then send_in behind
    else if bytes_eq word (codes "ans") then answer_in behind
    else short_line word behind

-- what a line tells, or that it is outside its form
unfoldable pub line_of : List ℕ → Result TraceLine OutOfForm
line_of text = line_in (words text)

-- the first line: `run clients N window K`
abbrev pub run_in : List (List ℕ) → Result (ℕ × ℕ) OutOfForm
run_in words =
    then_read (behind_word (codes "run") words) (λ run.
    then_read (behind_word (codes "clients") run) (λ behind.
    then_read (first_as clients_of behind) (λ clients.
    then_read (behind_word (codes "window") clients.1) (λ asked.
    then_read (one_word asked) (λ word.
    then_read (window_of word) (λ window.
    Ok (clients.0, window)))))))

-- the last line: `end N`
abbrev pub end_in : List (List ℕ) → Result ℕ OutOfForm
end_in words =
    then_read (behind_word (codes "end") words) (λ behind.
    then_read (one_word behind) (λ word.
    number_of word))
