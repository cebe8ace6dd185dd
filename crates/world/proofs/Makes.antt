-- A client or a server made its step, put together from what was done.
use Rattle.std.proofs.Common.{◌≤◌, ◌≡◌, ℕ, List, Option, Some, None, slice_set, refl, ap, ◌∙◌, subst, inr, ◌+◌, Result, Ok, Err, length, inl}
use Rattle.std.specs.Option.{option_to_list}
use Rattle.cal_base.specs.declared.identity.ClientId.{ClientId}
use Rattle.cal_base.specs.declared.identity.ServerId.{ServerId}
use Rattle.cal_base.specs.declared.identity.ServerId.TheVariants.{A, B}
use Rattle.client_book.specs.Made.{messages_in}
use Rattle.client_book.specs.Sound.{KeepsLaw, MayCome}
use Rattle.client_node.specs.Node.{NodeValue as ClientNode, turn_in}
use Rattle.client_node.specs.Step.{AnswersCovered, Gives, node_after}
use Rattle.cluster_law.specs.declared.node.ClientInput.{ClientInput}
use Rattle.cluster_law.specs.declared.node.ClientOutput.{ClientOutput}
use Rattle.cluster_law.specs.declared.node.ServerHalted.{ServerHalted}
use Rattle.cluster_law.specs.declared.node.ServerInput.{ServerInput}
use Rattle.cluster_law.specs.declared.step.Event.{Event}
use Rattle.cluster_law.specs.declared.step.TraceStep.{TraceStep}
use Rattle.membership.specs.Membership.{Membership}
use Rattle.server_node.specs.Node.{IsNew, NodeValue as ServerNode, served}
use Rattle.server_node.specs.Step.{Steps, Stops}
use Rattle.cal_base.specs.Limits as limits
use Rattle.cal_base.specs.declared.identity.View.{View}
use Rattle.cluster_law.specs.Noted.{DiskAt}
use Rattle.cluster_law.specs.declared.node.ServerOutput.{ServerOutput}
use Rattle.cluster_law.specs.declared.step.Event.TheVariants.{NewView}
use Rattle.server_start.specs.Boots.{BootEnds}
use Rattle.server_start.specs.Disks.{IsAt, StandsSo}
use Rattle.server_start.specs.declared.stops.StepError.{StepError}
use Rattle.server_start.specs.declared.stops.StepError.TheVariants.{Halted}
use Rattle.shared_disk.specs.Disk.{Disk}
use Rattle.shared_disk.specs.declared.stop.Stop.{Stop}
use Rattle.world.specs.Step.{BootsSo, ClientMakes, Opens, ServerMakes, next_view, opening}
use Rattle.world.specs.Trace.{client_step, halted_step, server_step}
use Rattle.world.specs.World.{WorldValue, client_at, server_at, with_server}
use Rattle.world.proofs.Places.{set_again}

abbrev pub with_clients : WorldValue → List (Option ClientNode) → WorldValue
with_clients w clients = record w { clients = clients }

abbrev pub with_members : WorldValue → Membership → WorldValue
with_members w members = record w { members = members }

abbrev pub with_view : Membership → View → ServerId → Membership
with_view m view s = record m { view = view; server = s }

-- a client was taken out of its place, made its step, and was put back
pub client_made : (w old : WorldValue) (c : ClientId) (input : ClientInput) (event : Event) (step : TraceStep) (taken put : List (Option ClientNode)) (node next : ClientNode) (output : ClientOutput)
    → w ≡ old → client_at w c ≡ Some node → taken ≡ slice_set w.clients c.0 None → put ≡ slice_set taken c.0 (Some next)
    → next ≡ node_after node input → Gives node input output → AnswersCovered node input output
    → (MayCome node.client (turn_in node input) → KeepsLaw node.id.0 node.client next.client (turn_in node input) (messages_in node.client (turn_in node input)) output.answer (option_to_list output.entry))
    → step ≡ client_step c event output → ClientMakes old c input event step (record w { clients = put })
client_made w old c input event step taken put node next output same at e f state gives covered law is =
    let set : put ≡ slice_set w.clients c.0 (Some next) = f ∙ ap (λ (cs : List (Option ClientNode)). slice_set cs c.0 (Some next)) e ∙ set_again w.clients c.0 None (Some next) in
    let made : ClientMakes w c input event step (record w { clients = put }) = record { node = node; running = at; next = next; output = output; state = state; gives = gives; covered = covered; law = law; step_is = is; moved_is = ap (λ (cs : List (Option ClientNode)). with_clients w cs) set } in
    subst (λ (v : WorldValue). ClientMakes v c input event step (record w { clients = put })) same made

same_members : (w : WorldValue) (s : ServerId) → (with_server w s None).members ≡ w.members
same_members w A = refl
same_members w B = refl

-- a server was taken out of its place, and halted
pub server_halted : (old taken : WorldValue) (members : Membership) (disk : Disk) (faults : ℕ) (s : ServerId) (input : ServerInput) (stop : Option Stop) (event : Event) (step : TraceStep) (node : ServerNode) (error : StepError) (halted : ServerHalted) (disk' : Disk) (faults' : ℕ)
    → server_at old s ≡ Some node → taken ≡ with_server old s None → members ≡ taken.members
    → error ≡ Halted halted → Stops node members input stop disk faults error disk' faults' → faults ≤ faults' → step ≡ halted_step s event halted → ServerMakes old disk faults s input stop event step taken disk' faults'
server_halted old taken members disk faults s input stop event step node error halted disk' faults' at e f by stops later is =
    let same : members ≡ old.members = f ∙ ap (λ (w : WorldValue). w.members) e ∙ same_members old s in
    inr (record { node = node; running = at; halted = halted; stops = subst (λ (m : Membership). Stops node m input stop disk faults (Halted halted) disk' faults') same (subst (λ (x : StepError). Stops node members input stop disk faults x disk' faults') by stops); later = later; step_is = is; moved_is = e })

put_over : (w : WorldValue) (s : ServerId) (next : ServerNode) → with_server (with_server w s None) s (Some next) ≡ with_server w s (Some next)
put_over w A next = refl
put_over w B next = refl

-- a server was taken out of its place, made its step, and was put back
pub server_went_on : (old taken moved : WorldValue) (members : Membership) (disk : Disk) (faults : ℕ) (s : ServerId) (input : ServerInput) (stop : Option Stop) (event : Event) (step : TraceStep) (node next : ServerNode) (output : ServerOutput) (disk' : Disk) (faults' : ℕ)
    → server_at old s ≡ Some node → taken ≡ with_server old s None → members ≡ taken.members → moved ≡ with_server taken s (Some next)
    → Steps node members input stop disk faults next output disk' faults' → faults ≤ faults' → step ≡ server_step s event output → ServerMakes old disk faults s input stop event step moved disk' faults'
server_went_on old taken moved members disk faults s input stop event step node next output disk' faults' at e f put steps later is =
    let same : members ≡ old.members = f ∙ ap (λ (w : WorldValue). w.members) e ∙ same_members old s in
    inl (record { node = node; running = at; next = next; output = output; steps = subst (λ (m : Membership). Steps node m input stop disk faults next output disk' faults') same steps; later = later; step_is = is; moved_is = put ∙ ap (λ (w : WorldValue). with_server w s (Some next)) e ∙ put_over old s next })

-- the view that was opened is the next one
same_window : (w : WorldValue) (s : ServerId) → (with_server w s None).window ≡ w.window
same_window w A = refl
same_window w B = refl

is_next : (old e : WorldValue) (view : View) (s : ServerId) → e ≡ with_server old s None → view.0 ≡ e.members.view.0 + 1 → view ≡ next_view old.members
is_next old e view s is next =
    let number : view.0 ≡ old.members.view.0 + 1 = next ∙ ap (λ (w : WorldValue). w.members.view.0 + 1) is ∙ ap (λ (m : Membership). m.view.0 + 1) (same_members old s) in
    ap (λ (n : ℕ). let it : View = record { 0 = n } in it) number

members_open : (old e : WorldValue) (view : View) (s : ServerId) (m : Membership) → e ≡ with_server old s None → view.0 ≡ e.members.view.0 + 1 → m ≡ record e.members { view = view; server = s } → m ≡ record old.members { view = next_view old.members; server = s }
members_open old e view s m is next opened = opened ∙ ap (λ (w : WorldValue). with_view w.members view s) is ∙ ap (λ (n : Membership). with_view n view s) (same_members old s) ∙ ap (λ (v : View). with_view old.members v s) (is_next old e view s is next)

world_opens : (old : WorldValue) (s : ServerId) (m : Membership) → m ≡ record old.members { view = next_view old.members; server = s } → with_members (with_server old s None) m ≡ opening old s
world_opens old A m is = ap (λ (n : Membership). with_members (with_server old A None) n) is
world_opens old B m is = ap (λ (n : Membership). with_members (with_server old B None) n) is

is_opening : (old e : WorldValue) (view : View) (s : ServerId) (m : Membership) → e ≡ with_server old s None → view.0 ≡ e.members.view.0 + 1 → m ≡ record e.members { view = view; server = s } → with_members e m ≡ opening old s
is_opening old e view s m is next opened = ap (λ (w : WorldValue). with_members w m) is ∙ world_opens old s m (members_open old e view s m is next opened)

-- how the boot ended, with the window and the view that it was handed
abbrev pub EndsSo : ServerId → View → ℕ → Option Stop → Result (ServerNode × ServerOutput) StepError → Disk → ℕ → Disk → ℕ → Type 0
EndsSo s view window stop booted disk faults disk' faults' = (before : DiskAt) → IsAt disk faults before → length before.sectors ≡ limits.sectors → StandsSo disk' faults' (BootEnds s view window stop before (served booted))

boots_so : (old e : WorldValue) (view : View) (disk : Disk) (faults : ℕ) (s : ServerId) (stop : Option Stop) (booted : Result (ServerNode × ServerOutput) StepError) (disk' : Disk) (faults' : ℕ)
    → e ≡ with_server old s None → view.0 ≡ e.members.view.0 + 1 → EndsSo s view e.window stop booted disk faults disk' faults' → BootsSo old disk faults s stop booted disk' faults'
boots_so old e view disk faults s stop booted disk' faults' is next ends =
    let window : e.window ≡ old.window = ap (λ (w : WorldValue). w.window) is ∙ same_window old s in
    subst (λ (v : View). EndsSo s v old.window stop booted disk faults disk' faults') (is_next old e view s is next) (subst (λ (n : ℕ). EndsSo s view n stop booted disk faults disk' faults') window ends)

-- the next view was opened, and its server booted
pub server_booted : (old e moved : WorldValue) (m : Membership) (view : View) (disk : Disk) (faults : ℕ) (s : ServerId) (stop : Option Stop) (step : TraceStep) (node : ServerNode) (output : ServerOutput) (disk' : Disk) (faults' : ℕ)
    → e ≡ with_server old s None → view.0 ≡ e.members.view.0 + 1 → m ≡ record e.members { view = view; server = s } → moved ≡ with_server (record e { members = m }) s (Some node)
    → IsNew s node → EndsSo s view e.window stop (Ok (node, output)) disk faults disk' faults' → step ≡ server_step s (NewView s stop) output → Opens old disk faults s stop step moved disk' faults'
server_booted old e moved m view disk faults s stop step node output disk' faults' is next opened put new ends step_is =
    inl (record { node = node; output = output; is_new = new; booted = boots_so old e view disk faults s stop (Ok (node, output)) disk' faults' is next ends; step_is = step_is; moved_is = put ∙ ap (λ (w : WorldValue). with_server w s (Some node)) (is_opening old e view s m is next opened) })

-- or it halted
pub boot_halted : (old e : WorldValue) (m : Membership) (view : View) (disk : Disk) (faults : ℕ) (s : ServerId) (stop : Option Stop) (step : TraceStep) (error : StepError) (halted : ServerHalted) (disk' : Disk) (faults' : ℕ)
    → e ≡ with_server old s None → view.0 ≡ e.members.view.0 + 1 → m ≡ record e.members { view = view; server = s } → error ≡ Halted halted
    → EndsSo s view e.window stop (Err error) disk faults disk' faults' → step ≡ halted_step s (NewView s stop) halted → Opens old disk faults s stop step (record e { members = m }) disk' faults'
boot_halted old e m view disk faults s stop step error halted disk' faults' is next opened by ends step_is =
    let stops : EndsSo s view e.window stop (Err (Halted halted)) disk faults disk' faults' = subst (λ (x : StepError). EndsSo s view e.window stop (Err x) disk faults disk' faults') by ends in
    inr (record { halted = halted; booted = boots_so old e view disk faults s stop (Err (Halted halted)) disk' faults' is next stops; step_is = step_is; moved_is = is_opening old e view s m is next opened })
