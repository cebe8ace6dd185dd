-- The text of a run is cut into its lines, which lead to the run.
use Rattle.std.proofs.Common.{◌≡◌, ◌==◌, ◌&&◌, ◌++◌, ℕ, suc, zero, Bool, true, false, List, [], ◌∷◌, All, Option, nat_le, refl, sym, ap, ◌∙◌, arith, append_assoc}
use Rattle.std.specs.Borrow.{Bor}
use Rattle.std.specs.List.{slice_split}
use Rattle.std.specs.Option.{option_map_or}
use Rattle.std.proofs.lemmas.Bool.Decides.{nat_tests}
use Rattle.std.proofs.lemmas.List.Splits.{slice_split_at}
use Rattle.trace_text.specs.Kinds.{is_plain}
use Rattle.trace_text.specs.Line.{line}
use Rattle.trace_text.specs.Runs.{end_line, run_line}
use Rattle.trace_lines.specs.Limits.{IsRun}
use Rattle.trace_lines.specs.Lines.{line_text}
use Rattle.trace_lines.specs.declared.line.TraceLine.{TraceLine}
use Rattle.run_trace.specs.Past.{after_all, start}
use Rattle.run_trace.specs.Texts.{items_text, text_of}
use Rattle.run_trace.specs.Traces.{IsTrace}
use Rattle.run_trace.specs.declared.trace.Trace.{Trace}
use Rattle.trace_reader.specs.Adding.{closed, nothing}
use Rattle.trace_reader.specs.Whole.{Awaits, ends_with, lines_left}
use Rattle.trace_reader.specs.declared.reading.Reading.{Reading}
use Rattle.trace_reader.proofs.Going.{GoesTo, goes_items}
use Rattle.trace_reader.proofs.NextLine.{after_cut}
use Rattle.trace_reader.proofs.Plain.{ArePlain, end_plain, items_plain, run_plain}
use Rattle.trace_reader.proofs.Sound.{knows_nothing}
use Rattle.trace_reader.proofs.TraceTexts.{items_are, items_lines, texts}

both_parts : (a b : Bool) → (a && b) ≡ true → (a ≡ true) × (b ≡ true)
both_parts true b is = (refl, is)
both_parts false b is = absurd (cc)

no_feed : (byte : ℕ) → nat_le 32 byte ≡ true → (byte == 10) ≡ false
no_feed byte high = grind (arith, nat_tests)

no_feeds : (text : List ℕ) → is_plain text ≡ true → All (λ byte. (byte == 10) ≡ false) text
no_feeds [] plain k d l = absurd (omega (arith, l))
no_feeds (byte ∷ text) plain zero d l = no_feed byte (both_parts (nat_le 32 byte) (is_plain text) plain).0
no_feeds (byte ∷ text) plain (suc k) d l = no_feeds text (both_parts (nat_le 32 byte) (is_plain text) plain).1 k d (omega (arith, l))

abbrev is_feed : ℕ → Bool
is_feed byte = byte == 10

first_cut : (front rest : List ℕ) → is_plain front ≡ true → slice_split is_feed (line front ++ rest) ≡ front ∷ slice_split is_feed rest
first_cut front rest plain = ap (slice_split is_feed) (append_assoc front (10 ∷ []) rest) ∙ slice_split_at is_feed front 10 rest (no_feeds front plain) refl

lines_cut : (lines : List TraceLine) (end : List ℕ) → ArePlain lines → is_plain end ≡ true → slice_split is_feed (texts lines ++ line end) ≡ ends_with lines end ([] ∷ [])
lines_cut [] end plain plain_too = slice_split_at is_feed end 10 [] (no_feeds end plain_too) refl
lines_cut (one ∷ lines) end plain plain_too =
    ap (slice_split is_feed) (append_assoc (line (line_text one)) (texts lines) (line end)) ∙ first_cut (line_text one) (texts lines ++ line end) plain.0 ∙ ap (λ (parts : List (List ℕ)). line_text one ∷ parts) (lines_cut lines end plain.1 plain_too)

-- how the text of a run begins, and what is left behind its first line
pub record Opened (trace : Trace) (first : List ℕ) (left : List (List ℕ)) : Type 0 where
  pub run : IsRun (trace.clients, trace.window)
  pub spelled : run_line trace.clients trace.window ≡ first
  pub last : Reading
  pub awaits : Awaits left nothing last
  pub closed_is : closed last ≡ trace.items

all_cut : (trace : Trace) → IsTrace trace → slice_split is_feed (text_of trace) ≡ run_line trace.clients trace.window ∷ ends_with (items_lines start trace.items) (end_line (after_all start trace.items).steps) ([] ∷ [])
unfolding text_of
all_cut trace is =
    ap (slice_split is_feed) (append_assoc (line (run_line trace.clients trace.window)) (items_text start trace.items) (line (end_line (after_all start trace.items).steps)))
    ∙ first_cut (run_line trace.clients trace.window) (items_text start trace.items ++ line (end_line (after_all start trace.items).steps)) (run_plain trace.clients trace.window)
    ∙ ap (λ (t : List ℕ). run_line trace.clients trace.window ∷ slice_split is_feed (t ++ line (end_line (after_all start trace.items).steps))) (sym (items_are start trace.items))
    ∙ ap (λ (parts : List (List ℕ)). run_line trace.clients trace.window ∷ parts) (lines_cut (items_lines start trace.items) (end_line (after_all start trace.items).steps) (items_plain start trace.items is.items) (end_plain (after_all start trace.items).steps))

pub opened : (trace : Trace) (text first : List ℕ) (behind : Option (Bor (List ℕ))) → IsTrace trace → text_of trace ≡ text
    → slice_split (λ byte. byte == 10) text ≡ first ∷ option_map_or (λ (r : Bor (List ℕ)). slice_split (λ byte. byte == 10) r.now) behind [] → Opened trace first (lines_left behind)
opened trace text first behind is e parts =
    let lines = items_lines start trace.items in
    let end = end_line (after_all start trace.items).steps in
    let cut : run_line trace.clients trace.window ∷ ends_with lines end ([] ∷ []) ≡ first ∷ lines_left behind = sym (all_cut trace is) ∙ ap (slice_split is_feed) e ∙ parts ∙ ap (λ (l : List (List ℕ)). first ∷ l) (after_cut behind) in
    let to : GoesTo nothing lines trace.items = goes_items nothing start trace.items is.items knows_nothing (record { steps = is.steps; packets = is.packets; view = is.view; calls = λ client. omega arith }) in
    record {
      run = is.first;
      spelled = front_of _ _ _ _ cut;
      last = to.last;
      awaits = record { lines = lines; end = end; more = [] ∷ []; left_is = sym (rest_of _ _ _ _ cut); ends = refl; goes = to.goes };
      closed_is = to.closed_is;
    }
  where
    front_of : (a b : List ℕ) (l m : List (List ℕ)) → a ∷ l ≡ b ∷ m → a ≡ b
    front_of a b l m e = cc

    rest_of : (a b : List ℕ) (l m : List (List ℕ)) → a ∷ l ≡ b ∷ m → l ≡ m
    rest_of a b l m e = cc
