-- Writing items, one after the other.
use Rattle.std.proofs.Common.{◌≡◌, ◌++◌, ◌<◌, ◌+◌, ℕ, List, [], ◌∷◌, drop, get_or, length, refl, sym, ap, ◌∙◌, subst, append_assoc, append-nil}
use Rattle.std.proofs.lemmas.List.{drop_more}
use Rattle.cluster_law.specs.declared.step.Event.{Event}
use Rattle.cluster_law.specs.declared.step.Event.TheVariants.{Start, Deliver, Tick, Crash, NewView, Gone, WriteBack}
use Rattle.cluster_law.specs.declared.step.TraceStep.{TraceStep}
use Rattle.trace_lines.specs.Limits.{IsActor}
use Rattle.run_trace.specs.Counted.{IsCounted, ItemStartsAtClient, StartsAtClient}
use Rattle.run_trace.specs.Past.{Past, start, after, after_all}
use Rattle.run_trace.specs.Texts.{item_text, items_text}
use Rattle.run_trace.specs.Traces.{AreItems, IsEventOf, IsItem}
use Rattle.run_trace.specs.declared.counts.Counts.{Counts}
use Rattle.run_trace.specs.declared.trace.TraceItem.{TraceItem}
use Rattle.run_trace.specs.declared.trace.TraceItem.TheVariants.{Step, Refused, Settled}

-- behind some items: what they come to, and what is left
pub record Written (old text : List ℕ) (items left : List TraceItem) (counts : Counts) : Type 0 where
  pub past : Past
  pub counted : IsCounted past counts
  pub lines : text ++ items_text past left ≡ old ++ items_text start items
  pub good : AreItems past left
  pub all : after_all past left ≡ after_all start items

pub none_yet : (old : List ℕ) (items : List TraceItem) (counts : Counts) → IsCounted start counts → AreItems start items → Written old old items items counts
none_yet old items counts counted good = record { past = start; counted = counted; lines = refl; good = good; all = refl }

starter : (step : TraceStep) (event : Event) → step.event ≡ event → IsActor step.node → IsEventOf step.node event → StartsAtClient event
starter step (Start client call) is actor own = subst IsActor own actor
starter step (Deliver packet stop) is actor own = tt
starter step (Tick node stop) is actor own = tt
starter step (Crash node) is actor own = tt
starter step (NewView server stop) is actor own = tt
starter step (Gone client) is actor own = tt
starter step (WriteBack client fd) is actor own = tt

pub item_starter : (past : Past) (item : TraceItem) → IsItem past item → ItemStartsAtClient item
item_starter past (Step step) good = starter step step.event refl good.actor good.own
item_starter past (Refused line cause) good = tt
item_starter past (Settled line cycles how) good = tt

good_front : (past : Past) (item : TraceItem) (more : List TraceItem) → AreItems past (item ∷ more) → IsItem past item
unfolding AreItems
good_front past item more good = good.0

-- the next item is written
pub one_more : (old text next : List ℕ) (items left more : List TraceItem) (item : TraceItem) (counts after_it : Counts) → left ≡ item ∷ more → Written old text items left counts
    → ((past : Past) → IsCounted past counts → next ≡ text ++ item_text past item) → ((past : Past) → IsCounted past counts → IsCounted (after past item) after_it)
    → Written old next items more after_it
unfolding items_text AreItems after_all
one_more old text next items left more item counts after_it is w lines counted =
    let s : Written old text items (item ∷ more) counts = subst (λ l. Written old text items l counts) is w in
    record {
      past = after s.past item;
      counted = counted s.past s.counted;
      lines = ap (λ t. t ++ items_text (after s.past item) more) (lines s.past s.counted) ∙ append_assoc text (item_text s.past item) (items_text (after s.past item) more) ∙ s.lines;
      good = s.good.1;
      all = s.all;
    }

pub next_starter : (old text : List ℕ) (items left more : List TraceItem) (item : TraceItem) (counts : Counts) → left ≡ item ∷ more → Written old text items left counts → ItemStartsAtClient item
next_starter old text items left more item counts is w =
    let s : Written old text items (item ∷ more) counts = subst (λ l. Written old text items l counts) is w in item_starter s.past item (good_front s.past item more s.good)

pub next_of : (items : List TraceItem) (i : ℕ) (item : TraceItem) → i < length items → item ≡ get_or items i item → drop i items ≡ item ∷ drop (i + 1) items
next_of items i item more is = drop_more items i item more ∙ ap (λ x. x ∷ drop (i + 1) items) (sym is)

pub all_written : (old text : List ℕ) (items left : List TraceItem) (counts : Counts) → left ≡ [] → Written old text items left counts → text ≡ old ++ items_text start items
unfolding items_text
all_written old text items left counts is w = let s : Written old text items [] counts = subst (λ l. Written old text items l counts) is w in sym (append-nil text) ∙ s.lines

pub all_counted : (old text : List ℕ) (items left : List TraceItem) (counts : Counts) → left ≡ [] → Written old text items left counts → counts.steps ≡ (after_all start items).steps
unfolding after_all
all_counted old text items left counts is w =
    let s : Written old text items [] counts = subst (λ l. Written old text items l counts) is w in s.counted.steps ∙ ap (λ (past : Past). past.steps) s.all
