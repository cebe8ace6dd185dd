-- Where no word is empty, a script's words of a text are its words between single spaces.
use Rattle.std.proofs.Common.{◌≡◌, ℕ, Bool, true, List, [], ◌∷◌, length, nat_lt, cond, refl, sym, ap, ◌∙◌, Ok, Err}
use Rattle.std.specs.List.{list_all, filter, join_with_byte}
use Rattle.std.proofs.lemmas.Bool.{and_parts}
use Rattle.std.proofs.lemmas.List.Splits.{join_with_byte-slice_split}
use Rattle.tree_law.specs.declared.call.Call.{Call}
use Rattle.script.specs.CallLine.{call_said}
use Rattle.script.specs.Words.{words as script_words}
use Rattle.script.specs.declared.bad_line.BadWhy.{BadWhy}
use Rattle.line_words.specs.Outcome.{in_form, outside}
use Rattle.line_words.specs.Places.{are_whole}
use Rattle.line_words.specs.Words.{words}

-- a filter that lets all through leaves the list
all_kept : {X : Type 0} (p : X → Bool) (xs : List X) → list_all p xs ≡ true → filter p xs ≡ xs
all_kept p [] h = refl
all_kept p (x ∷ xs) h = let both = and_parts (p x) (list_all p xs) h in ap (λ (b : Bool). cond b (x ∷ filter p xs) (filter p xs)) both.0 ∙ ap (λ ys. x ∷ ys) (all_kept p xs both.1)

same_words : (text : List ℕ) → are_whole (words text) ≡ true → script_words text ≡ words text
same_words text whole = all_kept (λ word. nat_lt 0 (length word)) (words text) whole

pub good_call : (text : List ℕ) (call : Call) → are_whole (words text) ≡ true → call_said (script_words text) ≡ Ok call → in_form (call_said (words text)) ≡ Ok call
good_call text call whole e = ap in_form (ap call_said (sym (same_words text whole)) ∙ e)

pub bad_call : (text : List ℕ) (why : BadWhy) → are_whole (words text) ≡ true → call_said (script_words text) ≡ Err why → in_form (call_said (words text)) ≡ outside
bad_call text why whole e = ap in_form (ap call_said (sym (same_words text whole)) ∙ e)

-- the words of a text with one space between each two are the text
pub text_again : (text : List ℕ) → join_with_byte 32 (words text) ≡ text
text_again text = join_with_byte-slice_split 32 text
