-- Texts printed piece by piece.
use Rattle.std.proofs.Common.{◌≡◌, ◌+◌, ◌≤◌, ◌++◌, ℕ, List, [], take, length, min, Option, Some, None, Ok, Err, refl, sym, ap, ◌∙◌, subst, arith, append_assoc, append-nil}
use Rattle.std.proofs.Math.Seq.{take-append-add}
use Rattle.std.proofs.lemmas.Grind.{common_steps}
use Rattle.std.specs.Io.KnownBytes.{append_known}
use Rattle.cal_base.specs.Faults.{Rose}
use Rattle.cal_base.specs.Sink.{TakesPrefix}
use Rattle.run_status.specs.Printing.{Held, Prints}
use Rattle.run_status.specs.declared.printout.PrintError.{PrintError}
use Rattle.run_status.specs.declared.printout.PrintError.TheVariants.{WriteFault, OutOfMemory}

-- two pieces put one after the other are one
pub append_known-append : (known : Option (List ℕ)) (a b : List ℕ) → append_known (append_known known a) b ≡ append_known known (a ++ b)
append_known-append None a b = refl
append_known-append (Some bytes) a b = ap Some (append_assoc bytes a b)

pub append_known-nil : (known : Option (List ℕ)) → append_known known [] ≡ known
append_known-nil None = refl
append_known-nil (Some bytes) = ap Some (append-nil bytes)

shorter_prefix : (n : ℕ) (a b : List ℕ) → take n a ≡ take (min n (length a)) (a ++ b)
shorter_prefix n a b = grind (arith, common_steps)

-- a prefix of what comes behind a printed text is a prefix of the whole
pub prefix_behind : (known new : Option (List ℕ)) (a b c : List ℕ) → TakesPrefix (append_known known a) b new → TakesPrefix known (a ++ (b ++ c)) new
prefix_behind known new a b c taken = record {
  taken = length a + min taken.taken (length b);
  grown = taken.grown ∙ append_known-append known a (take taken.taken b)
      ∙ ap (append_known known) (ap (λ (rest : List ℕ). a ++ rest) (shorter_prefix taken.taken b c) ∙ sym (take-append-add a (b ++ c) (min taken.taken (length b))));
}

pub rose_later : (before between now : ℕ) → before ≤ between → Rose between now → Rose before now
rose_later before between now later rose = omega arith

-- so much of the text was printed, and this is left
pub record IsPrintedTo (old now : Held) (text rest : List ℕ) : Type 0 where
  pub done : List ℕ
  pub whole : text ≡ done ++ rest
  pub printed : now.held ≡ append_known old.held done
  pub later : old.faults ≤ now.faults

-- one more piece is printed
pub printed_on : (old now after : Held) (text rest piece behind : List ℕ) → IsPrintedTo old now text rest → rest ≡ piece ++ behind → Prints now piece (Ok tt) after → IsPrintedTo old after text behind
printed_on old now after text rest piece behind so is prints = record {
  done = so.done ++ piece;
  whole = so.whole ∙ ap (λ (r : List ℕ). so.done ++ r) is ∙ sym (append_assoc so.done piece behind);
  printed = prints.0 ∙ ap (λ (known : Option (List ℕ)). append_known known piece) so.printed ∙ append_known-append old.held so.done piece;
  later = omega (arith, so.later, prints.1);
}

-- the sink fails in a piece
pub cut_short : (old now after : Held) (text rest piece behind : List ℕ) (error : PrintError) → IsPrintedTo old now text rest → rest ≡ piece ++ behind → Prints now piece (Err error) after → ¬ (error ≡ OutOfMemory)
    → Prints old text (Err error) after
cut_short old now after text rest piece behind WriteFault so is prints other =
    let taken : TakesPrefix (append_known old.held so.done) piece after.held = subst (λ (known : Option (List ℕ)). TakesPrefix known piece after.held) so.printed prints.0 in
    let whole : text ≡ so.done ++ (piece ++ behind) = so.whole ∙ ap (λ (r : List ℕ). so.done ++ r) is in
    (rw whole (prefix_behind old.held after.held so.done piece behind taken), rose_later _ _ _ so.later prints.1)
cut_short old now after text rest piece behind OutOfMemory so is prints other = absurd (other refl)

-- a prefix of what comes last is a prefix of the whole
pub prefix_last : (known new : Option (List ℕ)) (a b : List ℕ) → TakesPrefix (append_known known a) b new → TakesPrefix known (a ++ b) new
prefix_last known new a b taken = subst (λ (text : List ℕ). TakesPrefix known (a ++ text) new) (append-nil b) (prefix_behind known new a b [] taken)
