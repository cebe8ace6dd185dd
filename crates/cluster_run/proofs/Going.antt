-- A run that goes on, turn by turn.
use Rattle.std.proofs.Common.{◌≡◌, ◌≤◌, ◌++◌, ℕ, List, [], ◌∷◌, Option, Ok, Err, sym, ap, ◌∙◌, subst, arith, append-nil, append_assoc}
use Rattle.std.specs.Io.KnownBytes.{append_known}
use Rattle.cal_base.specs.Sink.{TakesPrefix}
use Rattle.run_status.proofs.Printed.{append_known-append, append_known-nil, prefix_last, rose_later}
use Rattle.run_status.specs.Printing.{Held}
use Rattle.run_status.specs.declared.printout.PrintError.{PrintError}
use Rattle.run_status.specs.declared.printout.PrintError.TheVariants.{WriteFault, OutOfMemory}
use Rattle.cluster_run.specs.Following.{GoesOnSo, GoesToEnd, TurnEnds}
use Rattle.cluster_run.specs.Happening.{KeepsRoom}
use Rattle.cluster_run.specs.Items.{Item, item_text, items_text}
use Rattle.cluster_run.specs.Turns.{HasRoom, Runs, Standing, begun, turned}
use Rattle.cluster_run.specs.declared.run.Turn.TheVariants.{GoesOn, Ends}

-- the items of two stretches of a run, one after the other
pub items_of_both : (earlier later : List Item) → items_text (later ++ earlier) ≡ items_text earlier ++ items_text later
items_of_both earlier [] = sym (append-nil (items_text earlier))
items_of_both earlier (item ∷ later) = ap (λ (text : List ℕ). text ++ item_text item) (items_of_both earlier later) ∙ append_assoc (items_text earlier) (items_text later) (item_text item)

-- turns were taken, and their items printed
pub record IsGoing (first : Standing) (before : Held) (at : Standing) (now : Held) : Type 0 where
  pub items : List Item
  pub runs : Runs first items at
  pub printed : now.held ≡ append_known before.held (items_text items)
  pub later : before.faults ≤ now.faults
  pub room : HasRoom at

pub not_gone : (first : Standing) (before : Held) → HasRoom first → IsGoing first before first before
not_gone first before room = record { items = []; runs = begun; printed = sym (append_known-nil before.held); later = omega arith; room = room }

-- one turn more
pub goes_on : (first : Standing) (before : Held) (at : Standing) (now : Held) (new : Standing) (after : Held) → IsGoing first before at now → TurnEnds at now (Ok GoesOn) new after → KeepsRoom at (Ok GoesOn) new → IsGoing first before new after
goes_on first before at now new after going turn keeps = record {
  items = turn.items ++ going.items;
  runs = turned going.items turn.items at new going.runs turn.turn;
  printed = turn.printed ∙ ap (λ (known : Option (List ℕ)). append_known known (items_text turn.items)) going.printed
      ∙ append_known-append before.held (items_text going.items) (items_text turn.items)
      ∙ ap (append_known before.held) (sym (items_of_both going.items turn.items));
  later = omega (arith, going.later, turn.later);
  room = keeps.room;
}

-- nothing is left to come
pub goes_to_end : (first : Standing) (before : Held) (at : Standing) (now : Held) (new : Standing) (after : Held) → IsGoing first before at now → TurnEnds at now (Ok Ends) new after → GoesToEnd first before new after
goes_to_end first before at now new after going turn = record {
  items = going.items;
  at = at;
  runs = going.runs;
  over = turn.over;
  world = turn.world;
  disk = turn.disk;
  printed = turn.unprinted ∙ going.printed;
  later = omega (arith, going.later, turn.later);
}

-- the last turn isn't printed whole
pub goes_short : (first : Standing) (before : Held) (at : Standing) (now : Held) (new : Standing) (after : Held) (error : PrintError) → IsGoing first before at now → TurnEnds at now (Err error) new after
    → GoesOnSo first before (Err error) new after
goes_short first before at now new after WriteFault going turn = record {
  items = turn.items ++ going.items;
  runs = turned going.items turn.items at new going.runs turn.turn;
  takes = subst (λ (text : List ℕ). TakesPrefix before.held text after.held) (sym (items_of_both going.items turn.items))
      (prefix_last before.held after.held (items_text going.items) (items_text turn.items) (subst (λ (known : Option (List ℕ)). TakesPrefix known (items_text turn.items) after.held) going.printed turn.takes));
  rose = rose_later _ _ _ going.later turn.rose;
}
goes_short first before at now new after OutOfMemory going turn = record { items = going.items; at = at; runs = going.runs; left = turn.left; printed = turn.unprinted ∙ going.printed }
