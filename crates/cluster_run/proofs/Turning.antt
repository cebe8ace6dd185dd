-- One turn, and the lines that are put of it.
use Rattle.std.proofs.Common.{◌≡◌, ◌+◌, ◌-◌, ◌++◌, ℕ, List, [], ◌∷◌, length, None, Result, Ok, Err, refl, sym, ap, ◌∙◌, subst, arith, inl, inr}
use Rattle.std.specs.Prelude.{OnOk}
use Rattle.cal_base.specs.declared.oom.Oom.{Oom}
use Rattle.cluster_law.specs.declared.step.Event.{Event}
use Rattle.cluster_law.specs.declared.step.TraceStep.{TraceStep}
use Rattle.schedule.specs.Noted.{after_step}
use Rattle.schedule.specs.Schedule.{ScheduleValue}
use Rattle.schedule.specs.declared.choice.Choice.{Choice}
use Rattle.schedule.specs.declared.choice.Choice.TheVariants.{Refused as IsRefused, Settled as HasSettled}
use Rattle.shared_disk.specs.Disk.{Disk}
use Rattle.trace_text.specs.Line.{line}
use Rattle.trace_text.specs.Runs.{refused_line, settled_line}
use Rattle.trace_text.specs.Steps.{step_text}
use Rattle.trace_text.specs.declared.runs.Cause.{Cause}
use Rattle.trace_text.specs.declared.runs.Settled.{Settled}
use Rattle.world.specs.Made.{CantHappen as CannotHappen}
use Rattle.world.specs.Refusals.{refusal_of}
use Rattle.world.specs.Step.{StepsSo}
use Rattle.world.specs.World.{WorldValue}
use Rattle.world.specs.declared.refusals.Refused.{Refused}
use Rattle.cluster_run.specs.Happening.{CarriesOut, HappensSo, place_after}
use Rattle.cluster_run.specs.Items.{step, refused, settled}
use Rattle.cluster_run.specs.Turns.{Standing, call_in, cause_of, place_of}

-- what stands in a step's place, seen before it and after it
place_same : (old new : WorldValue) (made : TraceStep) → new.steps ≡ old.steps + 1 → length new.packets ≡ length old.packets + length made.sent → place_after new made ≡ place_of old new made
place_same old new made steps packets =
    let before : new.steps - 1 ≡ old.steps = omega (arith, steps) in
    let first : length new.packets - length made.sent ≡ length old.packets = omega (arith, packets) in
    λ i. record { step = before i; packet = first i; call = call_in new made.event; view = new.members.view }

-- a text that was put behind nothing
behind_nothing : (before text put : List ℕ) → before ≡ [] → text ≡ before ++ put → text ≡ put
behind_nothing before text put empty is = is ∙ ap (λ (b : List ℕ). b ++ put) empty

-- a standing whose world, disk and count of faults are the same is the same
same_standing : (at : Standing) (world : WorldValue) (disk : Disk) (faults : ℕ) → world ≡ at.world → disk ≡ at.disk → faults ≡ at.faults → record { world = world; schedule = at.schedule; disk = disk; faults = faults } ≡ at
same_standing at world disk faults w d f = λ i. record { world = w i; schedule = at.schedule; disk = d i; faults = f i }

happens_in : (at : Standing) (world : WorldValue) (schedule : ScheduleValue) (disk : Disk) (faults number : ℕ) (event : Event) (before text : List ℕ) (made : TraceStep)
    → refusal_of at.world event ≡ None → StepsSo at.world at.disk at.faults event made world disk faults
    → (world.steps ≡ at.world.steps + 1) × (length world.packets ≡ length at.world.packets + length made.sent)
    → before ≡ [] → schedule ≡ after_step world at.schedule (length world.packets - length made.sent) made → text ≡ before ++ step_text (place_after world made) made
    → HappensSo at number event text (record { world = world; schedule = schedule; disk = disk; faults = faults })
happens_in at world schedule disk faults number event before text made allowed steps counted empty noted told =
    let first : length world.packets - length made.sent ≡ length at.world.packets = omega (arith, counted.1) in
    record {
      items = step (place_of at.world world made) made ∷ [];
      comes = inr (record { made = made; allowed = allowed; steps = steps; told = refl; noted = noted ∙ ap (λ (n : ℕ). after_step world at.schedule n made) first });
      told = behind_nothing before text (step_text (place_after world made) made) empty told ∙ ap (λ place. step_text place made) (place_same at.world world made counted.0 counted.1);
    }

-- an event happened, and its lines were put
pub happens : (at : Standing) (world after : WorldValue) (schedule : ScheduleValue) (disk : Disk) (faults number : ℕ) (event : Event) (before text : List ℕ) (made : TraceStep) (result : Result (Unit {0}) Oom)
    → (refusal_of at.world event ≡ None) × StepsSo at.world at.disk at.faults event made world disk faults
    → (world.steps ≡ at.world.steps + 1) × (length world.packets ≡ length at.world.packets + length made.sent)
    → before ≡ [] → after ≡ world → OnOk result (schedule ≡ after_step world at.schedule (length world.packets - length made.sent) made) → OnOk result (text ≡ before ++ step_text (place_after world made) made)
    → OnOk result (HappensSo at number event text (record { world = after; schedule = schedule; disk = disk; faults = faults }))
happens at world after schedule disk faults number event before text made (Ok done) steps counted empty same noted told =
    subst (λ (w : WorldValue). HappensSo at number event text (record { world = w; schedule = schedule; disk = disk; faults = faults })) (sym same)
    (happens_in at world schedule disk faults number event before text made steps.0 steps.1 counted empty noted told)
happens at world after schedule disk faults number event before text made (Err oom) steps counted empty same noted told = tt

-- an event couldn't happen, and that was put
pub is_refused : (at : Standing) (world : WorldValue) (disk : Disk) (faults number : ℕ) (event : Event) (before text : List ℕ) (why : Refused) (cause : Cause) (result : Result (Unit {0}) Oom)
    → CannotHappen at.world at.disk at.faults event why world disk faults → cause ≡ cause_of why → before ≡ [] → OnOk result (text ≡ before ++ line (refused_line number cause))
    → OnOk result (HappensSo at number event text (record { world = world; schedule = at.schedule; disk = disk; faults = faults }))
is_refused at world disk faults number event before text why cause (Ok done) cannot is empty told = record {
  items = refused number (cause_of why) ∷ [];
  comes = inl (record { why = why; is_refused = cannot.refused; told = refl; same = same_standing at world disk faults cannot.same cannot.untouched.same cannot.untouched.unfailed });
  told = behind_nothing before text (line (refused_line number cause)) empty told ∙ ap (λ (c : Cause). line (refused_line number c)) is;
}
is_refused at world disk faults number event before text why cause (Err oom) cannot is empty told = tt

-- a line that can't be carried out was told
pub carries_refused : (at : Standing) (choice : Choice) (number : ℕ) (why : Refused) (cause : Cause) (before text : List ℕ) → choice ≡ IsRefused number why → cause ≡ cause_of why → before ≡ []
    → text ≡ before ++ line (refused_line number cause) → CarriesOut at choice text at
carries_refused at choice number why cause before text chosen is empty told = record {
  items = refused number (cause_of why) ∷ [];
  comes = rw chosen (refl, refl);
  told = behind_nothing before text (line (refused_line number cause)) empty told ∙ ap (λ (c : Cause). line (refused_line number c)) is;
}

-- the end of a `settle` was told
pub carries_settled : (at : Standing) (choice : Choice) (number cycles : ℕ) (how : Settled) (before text : List ℕ) → choice ≡ HasSettled number cycles how → before ≡ [] → text ≡ before ++ line (settled_line number cycles how)
    → CarriesOut at choice text at
carries_settled at choice number cycles how before text chosen empty told = record {
  items = settled number cycles how ∷ [];
  comes = rw chosen (refl, refl);
  told = behind_nothing before text (line (settled_line number cycles how)) empty told;
}
