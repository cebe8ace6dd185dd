-- How a line is written that tells something of the history, word by word, and what lines can tell.
use Rattle.std.specs.Prelude.{◌≡◌, ◌≤◌, ℕ, true, List, [], ◌∷◌, Option, Some, None, codes, decimal, ⊤}
use Rattle.cal_base.specs.Limits as limits
use Rattle.cal_base.specs.declared.identity.Ino.{Ino}
use Rattle.script.specs.Spelling.{client_word, call_words, IsWide, IsClient, IsCall}
use Rattle.history_check.specs.declared.told.Told.{Told}
use Rattle.history_check.specs.declared.told.Told.TheVariants.{Starts, Enters, Flushes, Purges, Answers as Answered}
use Rattle.text_lines.specs.Replies.{is_reply}
use Rattle.line_words.specs.Words.{words}

-- the inode that a call made, or a dash
abbrev pub new_word : Option Ino → List ℕ
new_word None = codes "-"
new_word (Some ino) = decimal ino.0

-- the words of a line that tells this; a start stands in the line of the step of this number
abbrev pub told_words : ℕ → Told → List (List ℕ)
told_words step (Starts client number call) = codes "step" ∷ decimal step ∷ client_word client ∷ codes "start" ∷ decimal number ∷ call_words call
told_words step (Enters client number new reply) = codes "entry" ∷ codes "call" ∷ client_word client ∷ decimal number ∷ codes "new" ∷ new_word new ∷ codes "reply" ∷ words reply
told_words step (Flushes client ino) = codes "entry" ∷ codes "flush" ∷ client_word client ∷ decimal ino.0 ∷ []
told_words step (Purges client) = codes "entry" ∷ codes "purge" ∷ client_word client ∷ []
told_words step (Answered client number reply) = codes "ans" ∷ client_word client ∷ decimal number ∷ words reply

-- an inode that a call can have made: any but the root
abbrev pub IsNew : Option Ino → Type 0
IsNew None = ⊤
IsNew (Some ino) = (1 ≤ ino.0) × (ino.0 ≤ limits.last_inode)

-- a reply to some call, as it is written
abbrev pub IsReply : List ℕ → Type 0
IsReply reply = is_reply (words reply) ≡ true

-- what a line can tell: clients, numbers, calls and inodes within their limits, and replies in their form
abbrev pub IsTold : Told → Type 0
IsTold (Starts client number call) = IsClient client × IsWide number × IsCall call
IsTold (Enters client number new reply) = IsClient client × IsWide number × IsNew new × IsReply reply
IsTold (Flushes client ino) = IsClient client × (ino.0 ≤ limits.last_inode)
IsTold (Purges client) = IsClient client
IsTold (Answered client number reply) = IsClient client × IsWide number × IsReply reply
