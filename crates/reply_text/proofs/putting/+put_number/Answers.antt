use Rattle.std.proofs.Common.{◌≡◌, ◌+◌, ◌<◌, ◌≤◌, ◌^◌, ◌/◌, ◌%◌, ◌++◌, ◌∷◌, [], ℕ, List, append_assoc}
use Rattle.std.specs.Fmt.{decimal}
use Rattle.std.proofs.lemmas.Fmt.{decimal_step}
use Rattle.reply_text.proofs.putting.+put_number.Goals as goal

-- the last digit comes behind the others
last_digit : (number : ℕ) (text front whole : List ℕ) → 10 ≤ number → number < 2 ^ 64 → front ≡ text ++ decimal (number / 10) → whole ≡ front ++ ((48 + number % 10) ∷ [])
    → whole ≡ text ++ decimal number
last_digit number text front whole many fits is_front is_whole = rw (is_whole, is_front, decimal_step number many fits) (append_assoc text (decimal (number / 10)) ((48 + number % 10) ∷ []))

pub returns : goal.returns
returns t c = last_digit c.args.number _ _ _ c.if-number-lt10.false c.ranges.number.fits c.in_ok-put_number.ensures c.in_ok-put_digit.ensures
