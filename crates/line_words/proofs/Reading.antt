-- What is written of words is read from them.
use Rattle.std.proofs.Common.{◌≡◌, ℕ, Bool, true, List, ◌∷◌, cond, not, refl, ap, ◌∙◌, arith, Result, Ok, decimal}
use Rattle.cal_base.specs.declared.identity.ClientId.{ClientId}
use Rattle.tree_law.specs.declared.call.Call.{Call}
use Rattle.tree_law.specs.declared.call.Call.TheVariants.{Create, Mkdir, Unlink, Rmdir, Rename, Open, Close, Read, Write, Truncate, Stat, Readdir, Fsync}
use Rattle.script.specs.CallLine.{call_said}
use Rattle.script.specs.Spelling.{client_word, call_words, IsClient, IsWide, IsCall}
use Rattle.script.proofs.Spelled.{call_written}
use Rattle.script.proofs.Written.{number_written, client_written}
use Rattle.line_words.specs.Outcome.{outside, then_read, in_form}
use Rattle.line_words.specs.Places.{client_of, number_of, are_whole, is_fill, call_of}
use Rattle.line_words.specs.Words.{first_as}
use Rattle.line_words.specs.declared.read_error.OutOfForm.{OutOfForm}
use Rattle.line_words.proofs.Joined.{and_both}
use Rattle.line_words.proofs.WordsFree.{call_whole}

-- what follows of a value that is read
pub chain : {T U : Type 0} (r : Result T OutOfForm) (value : T) (next : T → Result U OutOfForm) (result : Result U OutOfForm) → r ≡ Ok value → next value ≡ result → then_read r next ≡ result
chain r value next result e f = ap (λ x. then_read x next) e ∙ f

pub first_is : {T : Type 0} (read : List ℕ → Result T OutOfForm) (word : List ℕ) (behind : List (List ℕ)) (value : T) → read word ≡ Ok value → first_as read (word ∷ behind) ≡ Ok (value, behind)
first_is read word behind value e = ap (λ x. then_read x (λ value. Ok (value, behind))) e

pub number_is : (n : ℕ) → IsWide n → number_of (decimal n) ≡ Ok n
number_is n h = ap in_form (number_written 0 18446744073709551615 n (omega arith) h (omega arith))

pub client_is : (client : ClientId) → IsClient client → client_of (client_word client) ≡ Ok client
client_is client h = ap in_form (client_written client h)

no_fill : (call : Call) → not (is_fill (call_words call)) ≡ true
no_fill (Create path) = refl
no_fill (Mkdir path) = refl
no_fill (Unlink path) = refl
no_fill (Rmdir path) = refl
no_fill (Rename from to) = refl
no_fill (Open path mode) = refl
no_fill (Close fd) = refl
no_fill (Read fd offset count) = refl
no_fill (Write fd offset bytes) = refl
no_fill (Truncate fd size) = refl
no_fill (Stat path) = refl
no_fill (Readdir path) = refl
no_fill (Fsync fd) = refl

pub call_is : (call : Call) → IsCall call → call_of (call_words call) ≡ Ok call
call_is call h =
    ap (λ (b : Bool). cond b (in_form (call_said (call_words call))) outside) (and_both (are_whole (call_words call)) (not (is_fill (call_words call))) (call_whole call h) (no_fill call))
    ∙ ap in_form (call_written call h)
