-- What is answered of a text, by what its words tell.
use Rattle.std.proofs.Common.{◌≡◌, ◌≢◌, ℕ, List, Ok, Err, length, sym, ap, ◌∙◌, subst}
use Rattle.tree_law.specs.declared.call.Call.{Call}
use Rattle.tree_law.specs.declared.reply.Reply.{Reply}
use Rattle.reply_text.specs.Text.{reply_text}
use Rattle.script.specs.Spelling.{IsWide}
use Rattle.line_words.specs.Outcome.{Answers}
use Rattle.line_words.specs.declared.read_error.ReadWordsError.{ReadWordsError}
use Rattle.line_words.specs.declared.read_error.ReadWordsError.TheVariants.{Form, OutOfMemory}
use Rattle.line_words.proofs.Ranges.{no_value, same_read}
use Rattle.reply_words.specs.Limits.{IsReplyOf, told_by}
use Rattle.reply_words.specs.Reading.{ReadsReply}
use Rattle.reply_words.specs.Telling.{reply_said}
use Rattle.reply_words.proofs.Again.{said_again}
use Rattle.reply_words.proofs.Within.{said_within}

-- whoever can answer the call and has this text is what its words tell
told_of : (call : Call) (text : List ℕ) → IsWide (length text) → (other : Reply) → IsReplyOf call other → reply_text other ≡ text → reply_said (told_by call) text ≡ Ok other
told_of call text wide other h e =
    subst (λ (t : List ℕ). reply_said (told_by call) t ≡ Ok other) e
    (said_again (told_by call) other h (subst (λ (t : List ℕ). IsWide (length t)) (sym e) wide))

pub refused : (call : Call) (text : List ℕ) (error : ReadWordsError) → IsWide (length text) → Answers (reply_said (told_by call) text) (Err error) → ReadsReply call text (Err error)
refused call text Form wide h = λ other is e. no_value (record {}) other (reply_said (told_by call) text) h (told_of call text wide other is e)
refused call text OutOfMemory wide h = tt

pub read : (call : Call) (text : List ℕ) (reply : Reply) → IsWide (length text) → reply_said (told_by call) text ≡ Ok reply → reply_text reply ≡ text → ReadsReply call text (Ok reply)
read call text reply wide h e =
    (said_within (told_by call) text reply h, e, λ other is f. same_read other reply (reply_said (told_by call) text) (told_of call text wide other is f) h)

pub differs : (call : Call) (text : List ℕ) (reply : Reply) → IsWide (length text) → reply_said (told_by call) text ≡ Ok reply → reply_text reply ≢ text → ReadsReply call text (Err Form)
differs call text reply wide h e =
    λ other is f. e (ap reply_text (same_read reply other (reply_said (told_by call) text) h (told_of call text wide other is f)) ∙ f)
