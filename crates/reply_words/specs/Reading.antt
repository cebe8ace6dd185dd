-- What is answered of the text of a reply.
use Rattle.std.specs.Prelude.{◌≡◌, ◌≢◌, ℕ, List, Result, Ok, Err, ⊤}
use Rattle.tree_law.specs.declared.call.Call.{Call}
use Rattle.tree_law.specs.declared.reply.Reply.{Reply}
use Rattle.reply_text.specs.Text.{reply_text}
use Rattle.line_words.specs.declared.read_error.ReadWordsError.{ReadWordsError}
use Rattle.line_words.specs.declared.read_error.ReadWordsError.TheVariants.{Form, OutOfMemory}
use Rattle.reply_words.specs.Limits.{IsReplyOf}

-- the one reply to this call that has this text; or none has it; or memory ran out
abbrev pub ReadsReply : Call → List ℕ → Result Reply ReadWordsError → Type 0
ReadsReply call text (Ok reply) = IsReplyOf call reply × (reply_text reply ≡ text) × ((other : Reply) → IsReplyOf call other → reply_text other ≡ text → other ≡ reply)
ReadsReply call text (Err Form) = (other : Reply) → IsReplyOf call other → reply_text other ≢ text
ReadsReply call text (Err OutOfMemory) = ⊤
