-- A change at the head of the line: answered again, dropped, carried out, or blocked.
use Rattle.std.proofs.Common.{◌≡◌, ◌==◌, ◌≤◌, ◌<◌, ◌+◌, ◌++◌, ◌∷◌, [], ℕ, nat_le, nat_lt, List, Bool, true, false, Option, Some, None, IsTrue, drop, map, if◌then◌else◌, refl, sym, ap, subst, ◌∙◌, arith, rules}
use Rattle.std.specs.Prelude.{is_none}
use Rattle.std.specs.List.{All}
use Rattle.std.proofs.lemmas.List.{append-nil}
use Rattle.std.proofs.lemmas.List.Elements.{All-contains, All-map}
use Rattle.cal_base.specs.declared.identity.ClientId.{ClientId}
use Rattle.cal_base.specs.declared.identity.Ino.{Ino}
use Rattle.image.specs.Planning.{touch_numbers}
use Rattle.image.specs.declared.plans.Planned.{Planned}
use Rattle.message.specs.declared.message.Message.{Message}
use Rattle.message.specs.declared.message.Message.TheVariants.{Done}
use Rattle.rebuild.specs.Collecting.{missing_of}
use Rattle.request_log.specs.Judge.{judged}
use Rattle.request_log.specs.declared.judge.Judged.TheVariants.{New, Kept, Old}
use Rattle.request_log.specs.declared.slot.Slot.{Slot}
use Rattle.revocation.specs.Formed.{AreAskable, is_of_directory}
use Rattle.revocation.specs.Revokes.{revokes_of}
use Rattle.revocation.specs.Waiting.{asked_at}
use Rattle.revocation.proofs.Askable.{touchers_askable}
use Rattle.token_kind.specs.Class.{class_number}
use Rattle.token_kind.specs.declared.block.Block.{Block}
use Rattle.token_kind.specs.declared.blocker.Blocker.{Blocker}
use Rattle.token_kind.specs.declared.«class».Class.{Class}
use Rattle.token_kind.specs.declared.«class».Class.TheVariants.{Names, Data, Attr, Open}
use Rattle.token_table.specs.Blockers.{touchers_of}
use Rattle.token_table.specs.Table.{IsTable}
use Rattle.tree_law.specs.Rename.{is_directory}
use Rattle.tree_law.specs.Tree.{node_at}
use Rattle.tree_law.specs.declared.call.Call.{Call}
use Rattle.tree_law.specs.declared.reply.Reply.{Reply}
use Rattle.tree_law.specs.declared.request.Asked.TheVariants.{Change as Alters}
use Rattle.volume.specs.Volume.{Volume}
use Rattle.volume_edit.specs.Edit.{slot_at}
use Rattle.volume_plan.specs.Plans.{Plan, free_count, is_opened, plan}
use Rattle.volume_plan.specs.Shown.{shown}
use Rattle.cluster_law.specs.Blocking as law
use Rattle.cluster_law.specs.Lanes as lanes
use Rattle.cluster_law.specs.ServerRules.{ActsWell, Occasion}
use Rattle.cluster_law.specs.ServerState.{ServerState, after_act, as_request, is_admitted, telling, without_head}
use Rattle.cluster_law.specs.Tokens.{class_numbered, touch_of}
use Rattle.server_book.proofs.Deciding.{reserve}
use Rattle.server_desk.specs.Desk.{DeskValue, IsLike}
use Rattle.server_draft.specs.Acts.{act_of, acts_of, tells, told_to}
use Rattle.server_draft.specs.Draft.{Follows, HasSpace, IsWithin, reached}
use Rattle.server_draft.specs.declared.act.Act.TheVariants.{Tells, Drops}
use Rattle.server_draft.specs.declared.draft.Draft.{Draft}
use Rattle.server_line.specs.Blocked.{AreBlockers, CanBeAsked}
use Rattle.server_line.specs.Changed.{IsPlanned, unnamed_by}
use Rattle.server_line.specs.Known.{HasHead, IsHead, known}
use Rattle.volume_names.specs.Named.{AreNamed}
use Rattle.server_line.specs.Served.{IsAnswer, ReadNothing, Serves}
use Rattle.server_line.specs.declared.resting.Blockers.{Blockers}
use Rattle.server_line.proofs.Asking.{plan-alone}
use Rattle.server_line.proofs.Counting.{has-head, head-gone, one-more}
use Rattle.server_line.proofs.Gaps.{touchers-within}
use Rattle.server_line.proofs.Going.{alike-known, answer-quiet, answer-reads, answer-tells, keeps-one, well-reached}
use Rattle.server_line.proofs.Touches.{plan-fits}

-- a server is admitted where none is missing
pub admitted-known : (draft : Draft) (sectors : List (List ℕ)) → missing_of draft.desk.collecting ≡ None → IsTrue (is_admitted (known draft sectors))
admitted-known draft sectors none = subst (λ (m : Option ClientId). IsTrue (is_none m)) (sym none) refl

-- what a draft knows keeps blocks for what is held
pub space-known : (view : ℕ) (o : Occasion) (start : ServerState) (draft : Draft) → Follows view o start draft → HasSpace (known draft (reached view start draft).sectors)
space-known view o start draft f =
    let same = reserve (known draft (reached view start draft).sectors) (reached view start draft) (alike-known view o start draft f) in
    let free : free_count draft.image ≡ free_count (reached view start draft).volume = ap (λ (v : Volume). free_count v) f.volume in
    let space = f.space in
    omega arith

-- the head is answered
pub answer-serves : (old new : Draft) (client : ClientId) (message : Message) (desk : DeskValue) → desk ≡ record old.desk { requests = drop 1 old.desk.requests }
    → ((server : ServerState) → IsLike old.desk server → IsLike desk (without_head server))
    → new ≡ record old { desk = desk; acts = old.acts ++ Tells client message ∷ [] }
    → ((view : ℕ) → acts_of view new.acts ≡ act_of view (Tells client message) ∷ acts_of view old.acts)
    → ((view : ℕ) (o : Occasion) (start : ServerState) (before : Draft) → Follows view o start before → old.image ≡ before.image → old.acts ≡ before.acts
    → IsLike desk (telling (reached view start before) client message) → HasSpace (telling (reached view start before) client message)
    → ActsWell o start (reached view start before) (acts_of view before.acts) (act_of view (Tells client message)) → Follows view o start new)
    → ((to : ℕ) → told_to to new.acts ≡ told_to to old.acts + tells to (Tells client message))
    → HasHead old → IsAnswer message
    → ((view : ℕ) (o : Occasion) (start : ServerState) → Follows view o start old → ActsWell o start (known old (reached view start old).sectors) (acts_of view old.acts) (act_of view (Tells client message)))
    → Serves (λ start. Unit {0}) (Unit {0}) old new None
answer-serves old new client message desk desk-is like is acts follows count has answers well = record {
  goes = record {
    keeps = keeps-one old new (Tells client message) (ap (λ (d : Draft). d.acts) is) acts
        (ap (λ (d : Draft). record d.desk.collecting { table = old.desk.collecting.table }) is ∙ ap (λ (k : DeskValue). record k.collecting { table = old.desk.collecting.table }) desk-is)
        (λ q. ap (λ (d : Draft). asked_at d.desk.asked q) is ∙ ap (λ (k : DeskValue). asked_at k.asked q) desk-is)
        (λ view c before. answer-quiet view client message c before answers) (λ view before. refl);
    names = λ names. subst (λ (v : Volume). AreNamed v) (sym (ap (λ (d : Draft). d.image) is)) names;
    follows = λ view o start sees names f.
        let tells = answer-tells message answers (reached view start old) client in
        follows view o start old f refl refl
        (subst (λ (s : ServerState). IsLike desk s) tells (like (reached view start old) f.like))
        (subst (λ (s : ServerState). HasSpace s) tells f.space)
        (well-reached view o start old (act_of view (Tells client message)) f (well view o start f));
    unread = λ view o start sees other names f all. subst (λ (told : List lanes.Act). ReadNothing start told) (sym (acts view)) (all, answer-reads message answers (reached view start old) (record { client = client.0; view = view; way = lanes.Down }));
  };
  few = head-gone old new has gone (one-more old.acts new.acts (Tells client message) count);
  gone = λ none. gone;
  rests = λ view o start block one. absurd (let no-block : ◌≡◌ {A = Option Block} None (Some block) = one in cc);
}
  where
    gone : new.desk.requests ≡ drop 1 old.desk.requests
    gone = ap (λ (d : Draft). d.desk.requests) is ∙ ap (λ (k : DeskValue). k.requests) desk-is

-- an old request is dropped
pub drop-serves : (old new : Draft) (client : ClientId) (number : ℕ) (call : Call)
    → new ≡ record old { desk = record old.desk { requests = drop 1 old.desk.requests }; acts = old.acts ++ Drops ∷ [] }
    → ((view : ℕ) → acts_of view new.acts ≡ act_of view Drops ∷ acts_of view old.acts)
    → ((view : ℕ) (o : Occasion) (start : ServerState) → Follows view o start old → ActsWell o start (reached view start old) (acts_of view old.acts) (act_of view Drops) → Follows view o start new)
    → ((to : ℕ) → told_to to new.acts ≡ told_to to old.acts)
    → IsHead old (as_request client number (Alters call)) → number < (slot_at old.image.slots client.0).call
    → Serves (λ start. Unit {0}) (Unit {0}) old new None
unfolding after_act
drop-serves old new client number call is acts follows untold head below = record {
  goes = record {
    keeps = keeps-one old new Drops (ap (λ (d : Draft). d.acts) is) acts (ap (λ (d : Draft). record d.desk.collecting { table = old.desk.collecting.table }) is) (λ q. ap (λ (d : Draft). asked_at d.desk.asked q) is)
        (λ view c before. record { waits = refl; flushed = refl; admits = refl }) (λ view before. refl);
    names = λ names. subst (λ (v : Volume). AreNamed v) (sym (ap (λ (d : Draft). d.image) is)) names;
    follows = λ view o start sees names f. follows view o start f (well-reached view o start old (act_of view Drops) f (well view o start f));
    unread = λ view o start sees other names f all. subst (λ (told : List lanes.Act). ReadNothing start told) (sym (acts view)) (all, tt);
  };
  few = head-gone old new (has-head old (as_request client number (Alters call)) head) (ap (λ (d : Draft). d.desk.requests) is) (λ to. let told = untold to in omega arith);
  gone = λ none. ap (λ (d : Draft). d.desk.requests) is;
  rests = λ view o start block one. absurd (let no-block : ◌≡◌ {A = Option Block} None (Some block) = one in cc);
}
  where
    well : (view : ℕ) (o : Occasion) (start : ServerState) → Follows view o start old → ActsWell o start (known old (reached view start old).sectors) (acts_of view old.acts) (act_of view Drops)
    well view o start f = record {
      grants = tt;
      refuses = tt;
      commits = record { old = as_request client number (Alters call); call = call; admitted = admitted-known old (reached view start old).sectors head.admitted; head_is = head.head_is; call_is = refl; below = below };
      collects = tt;
      revokes = tt;
      removes = tt;
      reserve = λ is. space-known view o start old f;
    }

-- a Done that tells what the slot keeps
pub done-well : (draft : Draft) (client : ClientId) (number : ℕ) (call : Call) (reply : Reply) → IsHead draft (as_request client number (Alters call)) → (slot_at draft.image.slots client.0).call ≡ number → (slot_at draft.image.slots client.0).reply ≡ reply
    → (view : ℕ) (o : Occasion) (start : ServerState) → Follows view o start draft → ActsWell o start (known draft (reached view start draft).sectors) (acts_of view draft.acts) (act_of view (Tells client (Done number reply)))
unfolding after_act
done-well draft client number call reply head called kept view o start f = record {
  grants = tt;
  refuses = tt;
  commits = record { call = call; admitted = admitted-known draft (reached view start draft).sectors head.admitted; head_is = head.head_is; number_is = called; reply_is = kept };
  collects = tt;
  revokes = tt;
  removes = tt;
  reserve = λ is. space-known view o start draft f;
}

-- what a slot says of a number
pub kept-by : (s : Slot) (n : ℕ) (reply : Reply) → judged s n ≡ Kept reply → (s.call ≡ n) × (s.reply ≡ reply)
kept-by s n reply e = by (n == s.call) refl (nat_lt n s.call) e
  where
    by : (b : Bool) → (n == s.call) ≡ b → (c : Bool) → (if b then Kept s.reply else if c then Old else New) ≡ Kept reply → (s.call ≡ n) × (s.reply ≡ reply)
    by true f c g = let one : s.reply ≡ reply = cc in (search rules, one)
    by false f true g = absurd (cc)
    by false f false g = absurd (cc)

-- the plan is the law's
pub plan-is : (draft : Draft) (client : ClientId) (number : ℕ) (call : Call) (p : Plan) (opened listed : List Ino) → opened ≡ listed
    → ((ino : Ino) → unnamed_by draft.image call ≡ Some ino → is_opened listed ino ≡ is_opened (law.opened_files (known draft [])) ino)
    → p ≡ plan draft.image client number call opened → p ≡ law.planned (known draft []) client number call
plan-is draft client number call p opened listed read alike e =
    e ∙ ap (plan draft.image client number call) read ∙ plan-alone draft.image client number call listed (law.opened_files (known draft [])) alike

-- touches by the numbers of their classes
touch-again : (touch : Ino × Class) → touch_of (touch.0, class_number touch.1) ≡ touch
touch-again touch = by touch.1 refl
  where
    by : (cls : Class) → touch.1 ≡ cls → ◌≡◌ {A = Ino × Class} (touch.0, class_numbered (class_number cls)) (touch.0, cls)
    by Names e = refl
    by Data e = refl
    by Attr e = refl
    by Open e = refl

touches-again : (touches : List (Ino × Class)) → map touch_of (touch_numbers touches) ≡ touches
touches-again [] = refl
touches-again (touch ∷ touches) = λ i. touch-again touch i ∷ touches-again touches i

pub new-not-done : (n call : ℕ) → call < n → nat_le n call ≡ false
new-not-done n call lt = by (nat_le n call) refl
  where
    by : (b : Bool) → nat_le n call ≡ b → b ≡ false
    by false e = refl
    by true e = absurd (let le : n ≤ call = search rules in omega arith)

module _ (draft : Draft) (client : ClientId) (number : ℕ) (call : Call) (planned : Planned) (is : IsPlanned draft client number call planned) (new : (slot_at draft.image.slots client.0).call < number) (table : IsTable draft.desk.collecting.table) where
  touches-are : map touch_of (law.planned (known draft []) client number call).touches ≡ planned.plan.touches
  touches-are = ap (λ (p : Plan). map touch_of p.touches) (sym is.plan_is) ∙ touches-again planned.plan.touches

  fits : All (λ (touch : Ino × Class). is_of_directory touch.1 ≡ is_directory (node_at (shown draft.image) touch.0)) planned.plan.touches
  fits =
      subst (λ (ts : List (Ino × Class)). All (λ (touch : Ino × Class). is_of_directory touch.1 ≡ is_directory (node_at (shown draft.image) touch.0)) ts) touches-are
      (All-map (λ (touch : Ino × Class). is_of_directory touch.1 ≡ is_directory (node_at (shown draft.image) touch.0)) touch_of (law.planned (known draft []) client number call).touches
      (plan-fits draft.image client number call (law.opened_files (known draft []))))

  pub change-askable : (holds blockers : Blockers) → holds.to_ask ≡ touchers_of draft.desk.collecting.table planned.plan.touches → (CanBeAsked holds → CanBeAsked blockers) → CanBeAsked blockers
  change-askable holds blockers are keeps = keeps (record {
    askable = subst (λ (bs : List Blocker). AreAskable bs) (sym are) (touchers_askable draft.desk.collecting.table (λ ino. is_directory (node_at (shown draft.image) ino)) planned.plan.touches
        (λ touch among. All-contains (λ (touch : Ino × Class). is_of_directory touch.1 ≡ is_directory (node_at (shown draft.image) touch.0)) planned.plan.touches touch fits among));
    within = subst (λ (bs : List Blocker). All IsWithin bs) (sym are) (touchers-within draft.desk.collecting.table table planned.plan.touches);
  })

  not-done : nat_le number (slot_at draft.image.slots client.0).call ≡ false
  not-done = new-not-done number (slot_at draft.image.slots client.0).call new

  needed-is : law.blocks_for (known draft []) client number (Alters call) ≡ planned.plan.needed
  needed-is = ap (λ (b : Bool). if b then 0 else (law.planned (known draft []) client number call).needed) not-done ∙ ap (λ (p : Plan). p.needed) (sym is.plan_is)

  holds-are : law.holds_for (known draft []) client number (Alters call) ≡ touchers_of draft.desk.collecting.table planned.plan.touches
  holds-are = ap (λ (b : Bool). if b then [] else touchers_of draft.desk.collecting.table (map touch_of (law.planned (known draft []) client number call).touches)) not-done ∙ ap (touchers_of draft.desk.collecting.table) touches-are

  pub change-blocked : (holds blockers : Blockers) → holds.to_ask ≡ touchers_of draft.desk.collecting.table planned.plan.touches → holds.own ≡ [] → blockers.to_ask ++ blockers.own ≡ law.or_space (known draft []) planned.plan.needed (holds.to_ask ++ holds.own)
      → blockers.own ≡ holds.own → AreBlockers (known draft []) (as_request client number (Alters call)) blockers
  unfolding law.blocks
  change-blocked holds blockers are none all same = record {
    all = (λ i. law.or_space (known draft []) (needed-is i) (holds-are i)) ∙ ap (law.or_space (known draft []) planned.plan.needed) (sym (ap (λ (l : List Blocker). holds.to_ask ++ l) none ∙ append-nil holds.to_ask ∙ are)) ∙ sym all;
    asked = ap (λ (l : List Blocker). revokes_of draft.desk.asked (blockers.to_ask ++ l)) (same ∙ none) ∙ ap (revokes_of draft.desk.asked) (append-nil blockers.to_ask);
    table = table;
  }
