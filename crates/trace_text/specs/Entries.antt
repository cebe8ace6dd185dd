-- Entries of the history, and answers.
use Rattle.std.specs.Prelude.{ℕ, List, [], ◌∷◌, ◌++◌, codes, Option, Some, None}
use Rattle.std.specs.Fmt.{decimal}
use Rattle.cal_base.specs.declared.identity.ClientId.{ClientId}
use Rattle.cal_base.specs.declared.identity.Ino.{Ino}
use Rattle.cal_base.specs.declared.identity.NodeId.{NodeId}
use Rattle.cal_base.specs.declared.identity.NodeId.TheVariants.{Client, Server}
use Rattle.tree_law.specs.declared.reply.Reply.{Reply}
use Rattle.tree_law.specs.declared.entry.Entry.{Entry}
use Rattle.tree_law.specs.declared.entry.Entry.TheVariants.{Call as Called, Flush, Purge}
use Rattle.cluster_law.specs.declared.step.Answer.{Answer}
use Rattle.reply_text.specs.Text.{reply_text}
use Rattle.trace_text.specs.Line.{line}

-- the inode that a call made, or a dash
abbrev pub new_text : Option Ino → List ℕ
new_text None = codes "-"
new_text (Some ino) = decimal ino.0

-- the call of an entry, and the inode that it made
abbrev pub entry_front : ClientId → ℕ → Option Ino → List ℕ
entry_front client number new = codes "entry call c" ++ decimal client.0 ++ codes " " ++ decimal number ++ codes " new " ++ new_text new

abbrev pub call_entry_line : ClientId → ℕ → Reply → Option Ino → List ℕ
call_entry_line client number reply new = entry_front client number new ++ codes " reply " ++ reply_text reply

-- what happened to the file tree
abbrev pub entry_line : Entry → List ℕ
entry_line (Called client number call reply new) = call_entry_line client number reply new
entry_line (Flush client ino) = codes "entry flush c" ++ decimal client.0 ++ codes " " ++ decimal ino.0
entry_line (Purge client) = codes "entry purge c" ++ decimal client.0

-- a line for each entry, in order
abbrev pub entries_text : List Entry → List ℕ
entries_text [] = []
entries_text (entry ∷ entries) = line (entry_line entry) ++ entries_text entries

-- the answer to a client's call
abbrev pub answer_line : ClientId → ℕ → Reply → List ℕ
answer_line client number reply = codes "ans c" ++ decimal client.0 ++ codes " " ++ decimal number ++ codes " " ++ reply_text reply

abbrev pub answer_to : ClientId → Option Answer → List ℕ
answer_to client None = []
answer_to client (Some answer) = line (answer_line client answer.number answer.reply)

-- the line of a client's answer, where its step has one
abbrev pub answer_text : Option NodeId → Option Answer → List ℕ
answer_text (Some (Client client)) answer = answer_to client answer
answer_text (Some (Server server)) answer = []
answer_text None answer = []
