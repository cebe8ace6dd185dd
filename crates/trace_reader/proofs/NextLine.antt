-- The next of the lines that are left.
use Rattle.std.proofs.Common.{◌≡◌, ◌==◌, ℕ, true, false, List, [], ◌∷◌, Option, Some, None, Result, Ok, Err, OnOk, refl, sym, ap, ◌∙◌, subst}
use Rattle.std.specs.Borrow.{Bor}
use Rattle.std.specs.List.{slice_split}
use Rattle.std.specs.Option.{option_map_or}
use Rattle.trace_lines.specs.Lines.{IsTraceLine, line_text}
use Rattle.trace_lines.specs.declared.line.TraceLine.{TraceLine}
use Rattle.trace_lines.specs.declared.line.TraceLine.TheVariants.{Step, Write, CallEntry, FlushEntry, PurgeEntry, Send, Answer, Head, Halt, Refused, Settled}
use Rattle.trace_reader.specs.Outcome.{Leads}
use Rattle.trace_reader.specs.Taking.{Takes}
use Rattle.trace_reader.specs.Whole.{Awaits, Goes, GoesBy, ends_with, is_end, lines_left}
use Rattle.trace_reader.specs.declared.read_error.ReadTraceError.{ReadTraceError}
use Rattle.trace_reader.specs.declared.read_error.ReadTraceError.TheVariants.{BadTrace, OutOfMemory}
use Rattle.trace_reader.specs.declared.reading.Reading.{Reading}

-- where no line is left
pub none_left : (rest : Option (Bor (List ℕ))) → ((left : Bor (List ℕ)) → rest ≡ Some left → ⊥) → lines_left rest ≡ []
none_left None none = refl
none_left (Some left) none = absurd (none left refl)

pub after_cut : (behind : Option (Bor (List ℕ))) → option_map_or (λ (r : Bor (List ℕ)). slice_split (λ byte. byte == 10) r.now) behind [] ≡ lines_left behind
after_cut None = refl
after_cut (Some r) = refl

-- what is left is a line, and what is left behind it
pub cut_off : (rest behind : Option (Bor (List ℕ))) (left : Bor (List ℕ)) (text : List ℕ) → rest ≡ Some left → slice_split (λ byte. byte == 10) left.now ≡ text ∷ option_map_or (λ (r : Bor (List ℕ)). slice_split (λ byte. byte == 10) r.now) behind []
    → lines_left rest ≡ text ∷ lines_left behind
cut_off rest behind left text is parts = ap lines_left is ∙ parts ∙ ap (λ l. text ∷ l) (after_cut behind)

-- what follows where a result is a value
pub on_ok : {P Q : Type 0} → (result : Result Unit ReadTraceError) → OnOk result P → (P → Q) → OnOk result Q
on_ok (Ok done) is then = then is
on_ok (Err error) is then = tt

no_end : (line : TraceLine) → is_end (line_text line) ≡ false
no_end (Step index actor event) = refl
no_end (Write write) = refl
no_end (CallEntry client number new reply) = refl
no_end (FlushEntry client ino) = refl
no_end (PurgeEntry client) = refl
no_end (Send number packet) = refl
no_end (Answer client number reply) = refl
no_end (Head block) = refl
no_end (Halt actor halt) = refl
no_end (Refused line cause) = refl
no_end (Settled line cycles how) = refl

-- a line is left at least
pub some_left : (left : List (List ℕ)) (reading last : Reading) → left ≡ [] → Awaits left reading last → ⊥
some_left left reading last is awaits = never awaits.lines awaits.end awaits.more (sym is ∙ awaits.left_is)
  where
    never : (lines : List TraceLine) (end : List ℕ) (more : List (List ℕ)) → [] ≡ ends_with lines end more → ⊥
    never [] end more e = absurd (cc)
    never (line ∷ lines) end more e = absurd (cc)

-- the next line, where it isn't the last
pub record Next (text : List ℕ) (rest : List (List ℕ)) (reading last : Reading) : Type 0 where
  pub line : TraceLine
  pub next : Reading
  pub spelled : line_text line ≡ text
  pub goes : GoesBy line reading next
  pub awaits : Awaits rest next last

next_by : (text : List ℕ) (rest : List (List ℕ)) (reading last : Reading) (lines : List TraceLine) (end : List ℕ) (more : List (List ℕ)) → text ∷ rest ≡ ends_with lines end more → is_end end ≡ true → Goes reading lines last → is_end text ≡ false
    → Next text rest reading last
next_by text rest reading last [] end more is ends goes other = absurd (cc)
next_by text rest reading last (line ∷ lines) end more is ends goes other = record {
  line = line;
  next = goes.0;
  spelled = cc;
  goes = goes.1;
  awaits = record { lines = lines; end = end; more = more; left_is = cc; ends = ends; goes = goes.2 };
}

pub next_line : (left : List (List ℕ)) (text : List ℕ) (rest : List (List ℕ)) (reading last : Reading) → left ≡ text ∷ rest → is_end text ≡ false → Awaits left reading last → Next text rest reading last
next_line left text rest reading last is other awaits = next_by text rest reading last awaits.lines awaits.end awaits.more (sym is ∙ awaits.left_is) awaits.ends awaits.goes other

-- all is read at the last line
pub all_read : (left : List (List ℕ)) (text : List ℕ) (rest : List (List ℕ)) (reading last : Reading) → left ≡ text ∷ rest → is_end text ≡ true → Awaits left reading last → reading ≡ last
all_read left text rest reading last is ends awaits = at_end awaits.lines awaits.end awaits.more (sym is ∙ awaits.left_is) awaits.goes
  where
    at_end : (lines : List TraceLine) (end : List ℕ) (more : List (List ℕ)) → text ∷ rest ≡ ends_with lines end more → Goes reading lines last → reading ≡ last
    at_end [] end more e goes = sym goes
    at_end (line ∷ lines) end more e goes = let same : text ≡ line_text line = cc in let no = no_end line in absurd (cc)

-- what the next line led to
pub leads_on : (left : List (List ℕ)) (text : List ℕ) (rest : List (List ℕ)) (reading after last : Reading) (done : Unit {0}) → left ≡ text ∷ rest → is_end text ≡ false
    → ((line : TraceLine) (next : Reading) → IsTraceLine line → line_text line ≡ text → Takes reading line next → Leads next after (Ok done)) → Awaits left reading last → Awaits rest after last
leads_on left text rest reading after last done is other leads awaits =
    let n = next_line left text rest reading last is other awaits in
    subst (λ (r : Reading). Awaits rest r last) (sym (leads n.line n.next n.goes.is n.spelled n.goes.takes)) n.awaits

-- the next line was refused, or memory ran out
pub leads_nowhere : (left : List (List ℕ)) (text : List ℕ) (rest : List (List ℕ)) (reading after last : Reading) (error : ReadTraceError) → left ≡ text ∷ rest → is_end text ≡ false
    → ((line : TraceLine) (next : Reading) → IsTraceLine line → line_text line ≡ text → Takes reading line next → Leads next after (Err error)) → Awaits left reading last → Leads last after (Err error)
leads_nowhere left text rest reading after last BadTrace is other leads awaits = let n = next_line left text rest reading last is other awaits in leads n.line n.next n.goes.is n.spelled n.goes.takes
leads_nowhere left text rest reading after last OutOfMemory is other leads awaits = tt
