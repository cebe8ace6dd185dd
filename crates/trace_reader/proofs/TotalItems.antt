-- Counting items, one after the other.
use Rattle.std.proofs.Common.{◌≡◌, ◌<◌, ◌≤◌, ◌+◌, ◌^◌, arith, ℕ, List, [], ◌∷◌, drop, get_or, length, refl, sym, ap, ◌∙◌, subst}
use Rattle.std.proofs.lemmas.List.{drop_more}
use Rattle.cluster_law.specs.declared.step.Event.{Event}
use Rattle.cluster_law.specs.declared.step.Event.TheVariants.{Start, Deliver, Tick, Crash, NewView, Gone, WriteBack}
use Rattle.run_trace.specs.Past.{Past, start, after, after_all, after_step, views_by}
use Rattle.run_trace.specs.declared.trace.TraceItem.{TraceItem}
use Rattle.run_trace.specs.declared.trace.TraceItem.TheVariants.{Step as StepItem, Refused as RefusedItem, Settled as SettledItem}
use Rattle.trace_reader.specs.Totals.{IsTotal}
use Rattle.trace_reader.specs.declared.totals.Totals.{Totals}

-- behind some items: what they come to, and what is left
pub record Counted (items left : List TraceItem) (totals : Totals) : Type 0 where
  pub past : Past
  pub counted : IsTotal past totals
  pub all : after_all past left ≡ after_all start items

pub none_yet : (items : List TraceItem) (totals : Totals) → IsTotal start totals → Counted items items totals
none_yet items totals counted = record { past = start; counted = counted; all = refl }

pub next_of : (items : List TraceItem) (i : ℕ) (item : TraceItem) → i < length items → item ≡ get_or items i item → drop i items ≡ item ∷ drop (i + 1) items
next_of items i item more is = drop_more items i item more ∙ ap (λ x. x ∷ drop (i + 1) items) (sym is)

pub one_more : (items left more : List TraceItem) (item : TraceItem) (totals next : Totals) → left ≡ item ∷ more → Counted items left totals → ((past : Past) → IsTotal past totals → IsTotal (after past item) next) → Counted items more next
unfolding after_all
one_more items left more item totals next is w counted =
    let s : Counted items (item ∷ more) totals = subst (λ l. Counted items l totals) is w in
    record { past = after s.past item; counted = counted s.past s.counted; all = s.all }

pub all_counted : (items left : List TraceItem) (totals : Totals) → left ≡ [] → Counted items left totals → IsTotal (after_all start items) totals
unfolding after_all
all_counted items left totals is w = let s : Counted items [] totals = subst (λ l. Counted items l totals) is w in subst (λ (past : Past). IsTotal past totals) s.all s.counted

-- no more views are opened than steps are made

one_view : (event : Event) → views_by event ≤ 1
one_view (Start starter call) = omega arith
one_view (Deliver packet stop) = omega arith
one_view (Tick node stop) = omega arith
one_view (Crash node) = omega arith
one_view (NewView server stop) = omega arith
one_view (Gone client) = omega arith
one_view (WriteBack writer fd) = omega arith

pub views_by_steps : (past : Past) (items : List TraceItem) → past.view ≤ past.steps + 1 → (after_all past items).view ≤ (after_all past items).steps + 1
unfolding after_all
views_by_steps past [] few = few
views_by_steps past (StepItem step ∷ items) few = let one = one_view step.event in views_by_steps (after_step past step) items (omega (arith, few, one))
views_by_steps past (RefusedItem line cause ∷ items) few = views_by_steps past items few
views_by_steps past (SettledItem line cycles how ∷ items) few = views_by_steps past items few

pub views_few : (items : List TraceItem) (totals : Totals) → IsTotal (after_all start items) totals → totals.steps < 18446744073709551615 → (after_all start items).view < 2 ^ 64
views_few items totals total few = let most = views_by_steps start items (omega arith) in omega (arith, most, total.steps, few)
