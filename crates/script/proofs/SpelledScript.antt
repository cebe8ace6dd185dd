-- What a script that is read says can be written.
use Rattle.std.proofs.Common.{◌≡◌, ◌==◌, ◌&&◌, ◌+◌, ◌<◌, ◌≤◌, ℕ, Bool, true, false, List, [], ◌∷◌, length, length-append, All, nat_lt, cond, refl, sym, subst, arith, Result, Ok, Err, codes, bytes_eq}
use Rattle.std.proofs.lemmas.List.Elements.{All-cons, All-head, All-tail, All-append}
use Rattle.script.specs.CommandLine.{first_said, words_said, clients_of}
use Rattle.script.specs.Lines.{NumberedLine, numbered}
use Rattle.script.specs.Numbers.{number_in}
use Rattle.script.specs.Reasons.{IsGood, fits, is_comment, line_said}
use Rattle.script.specs.Script.{with_said, with_read, with_lines, no_lines, IsSpelledScript}
use Rattle.script.specs.Spelling.{IsLine, IsSaid}
use Rattle.script.specs.Words.{words}
use Rattle.script.specs.declared.bad_line.BadWhy.{BadWhy}
use Rattle.script.specs.declared.bad_line.BadWhy.TheVariants.{First}
use Rattle.script.specs.declared.script.Line.{Line}
use Rattle.script.specs.declared.script.Said.{Said}
use Rattle.script.specs.declared.script.Said.TheVariants.{Nothing, Clients, Window, Line as Does}
use Rattle.script.specs.declared.script.Script.{Script}
use Rattle.script.proofs.LinesRead.{good_number}
use Rattle.script.proofs.ReadPlaces.{same_read, first_read, no_value, number_range}
use Rattle.script.proofs.ReadLines.{words_good, first_good}

comment_good : (b : Bool) (number : ℕ) (text : List ℕ) (said : Said) → cond b (Ok Nothing) (words_said number (words text)) ≡ Ok said → IsSaid said
comment_good true number text said e = subst IsSaid (same_read Nothing said (Ok Nothing) refl e) tt
comment_good false number text said e = words_good number (words text) said e

text_good : (b : Bool) (number : ℕ) (text : List ℕ) (said : Said) → cond b (first_said (words text)) (cond (is_comment text) (Ok Nothing) (words_said number (words text))) ≡ Ok said → IsSaid said
text_good true number text said e = first_good (words text) said e
text_good false number text said e = comment_good (is_comment text) number text said e

-- what a line says by the grammar can be written
pub line_good : (line : NumberedLine) (said : Said) → line_said line ≡ Ok said → IsSaid said
line_good line said e = let one = first_read (fits line) _ said e in text_good (line.number == 1) line.number line.text said one.rest

-- a script whose counts and lines are within the limits of their places, with at most so many lines
record IsSpelledTo (most : ℕ) (script : Script) : Type 0 where
  clients : (1 ≤ script.clients) × (script.clients ≤ 16)
  window : (1 ≤ script.window) × (script.window ≤ 8)
  lines : All (λ line. IsLine line.1) script.lines
  few : length script.lines ≤ most

keeps : (most : ℕ) (script : Script) (number : ℕ) (said : Said) → IsSaid said → IsSpelledTo most script → IsSpelledTo (most + 1) (with_said script number said)
keeps most script number Nothing h so = record { clients = so.clients; window = so.window; lines = so.lines; few = omega (arith, so.few) }
keeps most script number (Clients count) h so = record { clients = h; window = so.window; lines = so.lines; few = omega (arith, so.few) }
keeps most script number (Window window) h so = record { clients = so.clients; window = h; lines = so.lines; few = omega (arith, so.few) }
keeps most script number (Does line) h so = record {
  clients = so.clients;
  window = so.window;
  lines = All-append (λ (l : ℕ × Line). IsLine l.1) script.lines ((number, line) ∷ []) so.lines (All-cons (λ (l : ℕ × Line). IsLine l.1) (number, line) [] h (λ (k : ℕ) (d : ℕ × Line) (l : k < 0). absurd (omega arith)));
  few = let longer = length-append script.lines ((number, line) ∷ []) in omega (arith, so.few, longer);
}

more : (a b : ℕ) (script : Script) → a ≡ b → IsSpelledTo a script → IsSpelledTo b script
more a b script e so = subst (λ (most : ℕ). IsSpelledTo most script) e so

-- good lines keep what a script says such
lines_spell : (most : ℕ) (lines : List NumberedLine) (script : Script) → All IsGood lines → IsSpelledTo most script → IsSpelledTo (most + length lines) (with_lines script lines)
lines_spell most [] script good so = more most (most + 0) script (omega arith) so
lines_spell most (line ∷ lines) script good so =
    let first : IsGood line = All-head IsGood line lines good in
    let kept = keeps most script line.number first.said (line_good line first.said first.is) so in
    let next : Script = with_read script line.number (line_said line) in
    let kept_so : IsSpelledTo (most + 1) next = subst (λ (r : Result Said BadWhy). IsSpelledTo (most + 1) (with_read script line.number r)) (sym first.is) kept in
    more (most + 1 + length lines) (most + length (line ∷ lines)) (with_lines next lines) (omega arith) (lines_spell (most + 1) lines next (All-tail IsGood line lines good) kept_so)

-- the first line says how many clients there are
abbrev IsBegun : Said → Type 0
IsBegun said = IsSpelledTo 0 (with_said no_lines 1 said)

begun : (count : ℕ) → (1 ≤ count) × (count ≤ 16) → IsBegun (Clients count)
begun count range = record { clients = range; window = (omega arith, omega arith); lines = λ (k : ℕ) (d : ℕ × Line) (l : k < 0). absurd (omega arith); few = omega arith }

of_clients : (b : Bool) (count : List ℕ) (r : Result ℕ BadWhy) (said : Said) → r ≡ number_in 1 16 count → cond b (clients_of r) (Err First) ≡ Ok said → IsBegun said
of_clients true count (Ok n) said is e = subst IsBegun (same_read (Clients n) said (Ok (Clients n)) refl e) (begun n (number_range 1 16 n count (sym is)))
of_clients true count (Err why) said is e = absurd (no_value First said (Err First) refl e)
of_clients false count r said is e = absurd (no_value First said (Err First) refl e)

first_begins : (words : List (List ℕ)) (said : Said) → first_said words ≡ Ok said → IsBegun said
first_begins [] said e = absurd (no_value First said (Err First) refl e)
first_begins (word ∷ []) said e = absurd (no_value First said (Err First) refl e)
first_begins (word ∷ count ∷ []) said e = of_clients (bytes_eq word (codes "clients")) count (number_in 1 16 count) said refl e
first_begins (word ∷ count ∷ other ∷ more) said e = absurd (no_value First said (Err First) refl e)

first_spells : (through_bytes : ℕ) (text : List ℕ) (said : Said) → line_said (record { number = 1; through = through_bytes; text = text }) ≡ Ok said → IsBegun said
first_spells through_bytes text said e =
    let line : NumberedLine = record { number = 1; through = through_bytes; text = text } in
    let read = first_read (fits line) _ said e in
    first_begins (words text) said read.rest

last_few : (n : ℕ) (b : Bool) (line : NumberedLine) → n ≤ 65537 → line.number ≡ n → All IsGood (cond b [] (line ∷ [])) → length (cond b [] (line ∷ [])) + n ≤ 65537
last_few n true line h is good = omega (arith, h)
last_few n false line h is good = let number = good_number line (All-head IsGood line [] good) in omega (arith, number, is)

-- good lines are few, since each has its number
numbered_few : (n at : ℕ) (parts : List (List ℕ)) → n ≤ 65537 → All IsGood (numbered n at parts) → length (numbered n at parts) + n ≤ 65537
numbered_few n at [] h good = omega (arith, h)
numbered_few n at (text ∷ []) h good = last_few n ((length text == 0) && nat_lt 1 n) (record { number = n; through = at + length text; text = text }) h refl good
numbered_few n at (text ∷ next ∷ parts) h good =
    let line : NumberedLine = record { number = n; through = at + length text + 1; text = text } in
    let others : List NumberedLine = numbered (n + 1) (at + length text + 1) (next ∷ parts) in
    let number : n ≤ 65536 = good_number line (All-head IsGood line others good) in
    let rest : length others + (n + 1) ≤ 65537 = numbered_few (n + 1) (at + length text + 1) (next ∷ parts) (omega (arith, number)) (All-tail IsGood line others good) in
    omega (arith, rest)

-- the script of good lines can be written
pub script_spells : (taken : ℕ) (text : List ℕ) (parts : List (List ℕ)) (said : Said) (begun script : Script) → line_said (record { number = 1; through = taken; text = text }) ≡ Ok said → begun ≡ with_said no_lines 1 said
    → All IsGood (numbered 2 taken parts) → script ≡ with_lines begun (numbered 2 taken parts) → IsSpelledScript script
script_spells taken text parts said begun script reads is_begun good says =
    let first : IsSpelledTo 0 begun = subst (IsSpelledTo 0) (sym is_begun) (first_spells taken text said reads) in
    let so : IsSpelledTo (0 + length (numbered 2 taken parts)) script = subst (IsSpelledTo (0 + length (numbered 2 taken parts))) (sym says) (lines_spell 0 (numbered 2 taken parts) begun good first) in
    let few = numbered_few 2 taken parts (omega arith) good in
    record { clients = so.clients; window = so.window; lines = so.lines; few = omega (arith, so.few, few) }
