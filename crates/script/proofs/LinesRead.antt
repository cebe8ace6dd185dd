-- Lines read one after the other.
use Rattle.std.proofs.Common.{◌≡◌, ◌≢◌, ◌==◌, ◌&&◌, ◌+◌, ◌<◌, ◌≤◌, ◌^◌, ℕ, Bool, true, false, List, [], ◌∷◌, ◌++◌, length, All, nat_lt, cond, refl, sym, ap, ◌∙◌, subst, arith, append_assoc, Option, Some, None, Result, Ok, Err}
use Rattle.std.proofs.lemmas.Bool.Decides.{nat_tests}
use Rattle.std.proofs.lemmas.List.Elements.{All-cons, All-append}
use Rattle.std.proofs.lemmas.List.Splits.{length-slice_split}
use Rattle.std.specs.Borrow.{Bor}
use Rattle.std.specs.List.{slice_split}
use Rattle.std.specs.Option.{option_map_or}
use Rattle.script.specs.Lines.{NumberedLine, lines_of, numbered, last_line, parts_of}
use Rattle.script.specs.Reasons.{IsGood, line_said}
use Rattle.script.specs.Script.{WhyNotRead, IsScript, WhyBad, with_said, with_read, with_lines, no_lines}
use Rattle.script.specs.declared.bad_line.BadWhy.{BadWhy}
use Rattle.script.specs.declared.bad_line.BadWhy.TheVariants.{Big, Many}
use Rattle.script.specs.declared.reading.ReadScriptError.{ReadScriptError}
use Rattle.script.specs.declared.reading.ReadScriptError.TheVariants.{BadLine as Bad, OutOfMemory}
use Rattle.script.specs.declared.script.Said.{Said}
use Rattle.script.specs.declared.script.Script.{Script}

-- of all these lines some were read, and say this; the parts that are left are the others
pub record AreRead (all : List NumberedLine) (number through : ℕ) (left : List (List ℕ)) (start script : Script) : Type 0 where
  pub done : List NumberedLine
  pub all_are : all ≡ done ++ numbered number through left
  pub good : All IsGood done
  pub says : script ≡ with_lines start done
  pub begun : 1 < number
  pub few : number ≤ 65537

-- what was read, and the bytes: so many in all, so many read, so many left
pub record IsWithin (Read : Type 0) (total through left : ℕ) : Type 0 where
  pub read : Read
  pub whole : through + left ≡ total
  pub fits : total < 2 ^ 64
  pub small : through ≤ 67108864

abbrev line_at : ℕ → ℕ → List ℕ → NumberedLine
line_at number through text = record { number = number; through = through; text = text }

with_lines-append : (script : Script) (lines : List NumberedLine) (line : NumberedLine) → with_lines script (lines ++ line ∷ []) ≡ with_read (with_lines script lines) line.number (line_said line)
with_lines-append script [] line = refl
with_lines-append script (first ∷ lines) line = with_lines-append (with_read script first.number (line_said first)) lines line

-- a good line holds no byte behind the limit, and isn't behind the last
big_line : (line : NumberedLine) → nat_lt 67108864 line.through ≡ true → line_said line ≡ Err Big
big_line line e = rw e refl

many_line : (line : NumberedLine) → nat_lt 67108864 line.through ≡ false → nat_lt 65536 line.number ≡ true → line_said line ≡ Err Many
many_line line small e = rw (small, e) refl

not_both : (said : Said) (why : BadWhy) (line : NumberedLine) → line_said line ≡ Ok said → line_said line ≡ Err why → ⊥
not_both said why line one other = let same : Ok said ≡ Err why = sym one ∙ other in grind arith

less : (a b : ℕ) → a < b → nat_lt a b ≡ true
less a b h = grind (arith, nat_tests)

no_less : (a b : ℕ) → ¬ (a < b) → nat_lt a b ≡ false
no_less a b h = grind (arith, nat_tests)

is_small : (line : NumberedLine) (said : Said) → line_said line ≡ Ok said → ¬ (67108864 < line.through)
is_small line said reads big = not_both said Big line reads (big_line line (less _ _ big))

is_within : (line : NumberedLine) (said : Said) → line_said line ≡ Ok said → ¬ (67108864 < line.through) × ¬ (65536 < line.number)
is_within line said reads = (is_small line said reads, λ many. not_both said Many line reads (many_line line (no_less _ _ (is_small line said reads)) (less _ _ many)))

-- a good line has a number within the limit
pub good_number : (line : NumberedLine) → IsGood line → line.number ≤ 65536
good_number line good = let within : ¬ (65536 < line.number) = (is_within line good.said good.is).1 in omega arith

-- a good line holds no byte behind the limit
pub good_is_small : (number through : ℕ) (text : List ℕ) (said : Said) → line_said (line_at number through text) ≡ Ok said → through ≤ 67108864
good_is_small number through text said reads = let small : ¬ (67108864 < through) = is_small (line_at number through text) said reads in omega arith

numbered_cons : (n at : ℕ) (text : List ℕ) (parts : List (List ℕ)) → 0 < length parts → numbered n at (text ∷ parts) ≡ line_at n (at + length text + 1) text ∷ numbered (n + 1) (at + length text + 1) parts
numbered_cons n at text [] some = absurd (omega arith)
numbered_cons n at text (part ∷ parts) some = refl

is_last : (n length : ℕ) → length ≢ 0 → ((length == 0) && nat_lt 1 n) ≡ false
is_last n length some = grind (arith, nat_tests)

is_only : (length : ℕ) → ((length == 0) && nat_lt 1 1) ≡ false
is_only length = grind (arith, nat_tests)

-- a line that takes bytes is the first of the numbered ones
pub numbered_more : (n at taken : ℕ) (text : List ℕ) (rest : Option (Bor (List ℕ))) → taken ≡ length text + option_map_or (λ _. 1) rest 0 → taken ≢ 0
    → numbered n at (text ∷ parts_of rest) ≡ line_at n (at + taken) text ∷ numbered (n + 1) (at + taken) (parts_of rest)
numbered_more n at taken text None is some =
    let whole : taken ≡ length text = omega arith in
    subst (λ (t : ℕ). last_line n at text ≡ line_at n (at + t) text ∷ []) (sym whole)
    (ap (λ (b : Bool). cond b [] (line_at n (at + length text) text ∷ [])) (is_last n (length text) (λ none. some (whole ∙ none))))
numbered_more n at taken text (Some rest) is some =
    let total : at + length text + 1 ≡ at + taken = omega arith in
    subst (λ (t : ℕ). numbered n at (text ∷ slice_split (λ byte. byte == 10) rest.now) ≡ line_at n t text ∷ numbered (n + 1) t (slice_split (λ byte. byte == 10) rest.now)) total
    (numbered_cons n at text _ (omega (arith, length-slice_split (λ byte. byte == 10) rest.now)))

-- no line is read yet
pub none_read : (all : List NumberedLine) (number through : ℕ) (left : List (List ℕ)) (begun : Script) → all ≡ numbered number through left → 1 < number → number ≤ 65537 → AreRead all number through left begun begun
none_read all number through left begun is from few = record { done = []; all_are = is; good = λ (k : ℕ) (d : NumberedLine) (h : k < 0). absurd (omega arith); says = refl; begun = from; few = few }

next_line : (number through taken : ℕ) (left : List (List ℕ)) (text : List ℕ) (rest : Option (Bor (List ℕ))) → left ≡ text ∷ parts_of rest → taken ≡ length text + option_map_or (λ _. 1) rest 0 → taken ≢ 0
    → numbered number through left ≡ line_at number (through + taken) text ∷ numbered (number + 1) (through + taken) (parts_of rest)
next_line number through taken left text rest is is_taken some = ap (numbered number through) is ∙ numbered_more number through taken text rest is_taken some

-- one more line is read
pub one_more : (all : List NumberedLine) (number through taken : ℕ) (left : List (List ℕ)) (text : List ℕ) (rest : Option (Bor (List ℕ))) (begun script longer : Script) (said : Said)
    → AreRead all number through left begun script → left ≡ text ∷ parts_of rest → taken ≡ length text + option_map_or (λ _. 1) rest 0 → taken ≢ 0
    → line_said (line_at number (through + taken) text) ≡ Ok said → longer ≡ with_said script number said
    → AreRead all (number + 1) (through + taken) (parts_of rest) begun longer
one_more all number through taken left text rest begun script longer said so is is_taken some reads is_longer =
    let line : NumberedLine = line_at number (through + taken) text in
    let few : ¬ (65536 < number) = (is_within line said reads).1 in
    let good : IsGood line = record { said = said; is = reads } in
    record {
      done = so.done ++ line ∷ [];
      all_are = so.all_are ∙ ap (λ (others : List NumberedLine). so.done ++ others) (next_line number through taken left text rest is is_taken some) ∙ sym (append_assoc so.done (line ∷ []) _);
      good = All-append IsGood so.done (line ∷ []) so.good (All-cons IsGood line [] good (λ (k : ℕ) (d : NumberedLine) (h : k < 0). absurd (omega arith)));
      says = is_longer ∙ ap (λ (s : Script). with_said s number said) so.says ∙ sym (with_lines-append begun so.done line ∙ ap (λ (r : Result Said BadWhy). with_read (with_lines begun so.done) number r) reads);
      begun = omega (arith, so.begun);
      few = omega arith;
    }

-- the next line is bad
pub next_is_bad : (all : List NumberedLine) (number through taken : ℕ) (left : List (List ℕ)) (text : List ℕ) (rest : Option (Bor (List ℕ))) (begun script : Script) (error : ReadScriptError)
    → AreRead all number through left begun script → left ≡ text ∷ parts_of rest → taken ≡ length text + option_map_or (λ _. 1) rest 0 → taken ≢ 0
    → WhyBad (line_at number (through + taken) text) error → WhyNotRead all error
next_is_bad all number through taken left text rest begun script (Bad bad) so is is_taken some why = record {
  before = so.done;
  line = line_at number (through + taken) text;
  behind = numbered (number + 1) (through + taken) (parts_of rest);
  lines_are = so.all_are ∙ ap (λ (others : List NumberedLine). so.done ++ others) (next_line number through taken left text rest is is_taken some);
  good = so.good;
  number = why.0;
  reason = why.1;
}
next_is_bad all number through taken left text rest begun script OutOfMemory so is is_taken some why = tt

-- the first line of a script, which is one whatever it has
pub first_line : (taken : ℕ) (bytes text : List ℕ) (rest : Option (Bor (List ℕ))) → slice_split (λ byte. byte == 10) bytes ≡ text ∷ parts_of rest → taken ≡ length text + option_map_or (λ _. 1) rest 0
    → lines_of bytes ≡ line_at 1 taken text ∷ numbered 2 taken (parts_of rest)
first_line taken bytes text None is is_taken =
    let whole : taken ≡ 0 + length text = omega arith in
    ap (numbered 1 0) is ∙ ap (λ (b : Bool). cond b [] (line_at 1 (0 + length text) text ∷ [])) (is_only (length text)) ∙ ap (λ (t : ℕ). line_at 1 t text ∷ []) (sym whole)
first_line taken bytes text (Some rest) is is_taken =
    let total : 0 + length text + 1 ≡ taken = omega arith in
    ap (numbered 1 0) is ∙ subst (λ (t : ℕ). numbered 1 0 (text ∷ slice_split (λ byte. byte == 10) rest.now) ≡ line_at 1 t text ∷ numbered 2 t (slice_split (λ byte. byte == 10) rest.now)) total
    (numbered_cons 1 0 text _ (omega (arith, length-slice_split (λ byte. byte == 10) rest.now)))

-- the first line is bad
pub first_is_bad : (taken : ℕ) (bytes text : List ℕ) (rest : Option (Bor (List ℕ))) (error : ReadScriptError) → slice_split (λ byte. byte == 10) bytes ≡ text ∷ parts_of rest → taken ≡ length text + option_map_or (λ _. 1) rest 0
    → WhyBad (line_at 1 taken text) error → WhyNotRead (lines_of bytes) error
first_is_bad taken bytes text rest (Bad bad) is is_taken why = record {
  before = [];
  line = line_at 1 taken text;
  behind = numbered 2 taken (parts_of rest);
  lines_are = first_line taken bytes text rest is is_taken;
  good = λ (k : ℕ) (d : NumberedLine) (h : k < 0). absurd (omega arith);
  number = why.0;
  reason = why.1;
}
first_is_bad taken bytes text rest OutOfMemory is is_taken why = tt

-- a line behind a good first one is bad
pub later_is_bad : (taken : ℕ) (bytes text : List ℕ) (rest : Option (Bor (List ℕ))) (error : ReadScriptError) → slice_split (λ byte. byte == 10) bytes ≡ text ∷ parts_of rest → taken ≡ length text + option_map_or (λ _. 1) rest 0
    → (said : Said) → line_said (line_at 1 taken text) ≡ Ok said → WhyNotRead (numbered 2 taken (parts_of rest)) error → WhyNotRead (lines_of bytes) error
later_is_bad taken bytes text rest (Bad bad) is is_taken said reads why = record {
  before = line_at 1 taken text ∷ why.before;
  line = why.line;
  behind = why.behind;
  lines_are = first_line taken bytes text rest is is_taken ∙ ap (λ (lines : List NumberedLine). line_at 1 taken text ∷ lines) why.lines_are;
  good = All-cons IsGood (line_at 1 taken text) why.before (record { said = said; is = reads }) why.good;
  number = why.number;
  reason = why.reason;
}
later_is_bad taken bytes text rest OutOfMemory is is_taken said reads why = tt

-- all lines are good, and this is the script
pub all_read : (taken : ℕ) (bytes text : List ℕ) (rest : Option (Bor (List ℕ))) (said : Said) (begun script : Script) → slice_split (λ byte. byte == 10) bytes ≡ text ∷ parts_of rest → taken ≡ length text + option_map_or (λ _. 1) rest 0
    → line_said (line_at 1 taken text) ≡ Ok said → begun ≡ with_said no_lines 1 said → All IsGood (numbered 2 taken (parts_of rest)) → script ≡ with_lines begun (numbered 2 taken (parts_of rest)) → IsScript bytes script
all_read taken bytes text rest said begun script is is_taken reads is_begun others says =
    let lines = first_line taken bytes text rest is is_taken in
    let behind = numbered 2 taken (parts_of rest) in
    let good : IsGood (line_at 1 taken text) = record { said = said; is = reads } in
    let from : with_read no_lines 1 (line_said (line_at 1 taken text)) ≡ begun = ap (λ (r : Result Said BadWhy). with_read no_lines 1 r) reads ∙ sym is_begun in
    record {
      good = rw lines (All-cons IsGood (line_at 1 taken text) behind good others);
      says = rw lines (says ∙ sym (ap (λ (s : Script). with_lines s behind) from));
    }
