-- What a message leaves that is put to a draft.
use Rattle.std.proofs.Common.{◌≡◌, ◌∷◌, ◌++◌, ◌&&◌, [], ℕ, Bool, true, false, nat_eq, if◌then◌else◌, List, Some, append_assoc, append-nil, map, ap, refl, subst, sym, ◌∙◌}
use Rattle.cal_base.specs.declared.identity.ClientId.{ClientId}
use Rattle.message.specs.declared.message.Message.{Message}
use Rattle.message.specs.declared.message.Message.TheVariants.{Ask, Admit, Wait}
use Rattle.rebuild.specs.Collecting.{missing_of, next_of}
use Rattle.cluster_law.specs.Asking.{Admits, Waits, was_told}
use Rattle.cluster_law.specs.Lanes as law
use Rattle.cluster_law.specs.Lists.{Each, onto}
use Rattle.cluster_law.specs.Removing.{has_removed}
use Rattle.cluster_law.specs.ServerRules.{ActsWell, Occasion}
use Rattle.cluster_law.specs.ServerState.{ServerState, after_act}
use Rattle.server_book.proofs.Deciding.{missing, next}
use Rattle.server_desk.specs.Desk.{with_desk}
use Rattle.server_draft.specs.Acts.{act_of, acts_of}
use Rattle.server_draft.specs.Draft.{Follows, HasSpace, TellsOnly, reached}
use Rattle.server_draft.specs.declared.act.Act.{Act}
use Rattle.server_draft.specs.declared.act.Act.TheVariants.{Tells}
use Rattle.server_draft.specs.declared.draft.Draft.{Draft}

-- the last act stands first in the law's list
last-first : (view : ℕ) (acts : List Act) (act : Act) (old : List law.Act) → onto (map (act_of view) (acts ++ act ∷ [])) old ≡ act_of view act ∷ onto (map (act_of view) acts) old
last-first view [] act old = refl
last-first view (first ∷ acts) act old = last-first view acts act (act_of view first ∷ old)

pub put : (view : ℕ) (acts : List Act) (act : Act) → acts_of view (acts ++ act ∷ []) ≡ act_of view act ∷ acts_of view acts
unfolding acts_of
put view acts act = last-first view acts act []

-- whether something was told, once one message more is
pub told-put : (view client : ℕ) (test : Message → Bool) (acts : List Act) (to : ClientId) (message : Message)
    → was_told client test (acts_of view (acts ++ Tells to message ∷ [])) ≡ (if nat_eq to.0 client && test message then true else was_told client test (acts_of view acts))
told-put view client test acts to message = ap (was_told client test) (put view acts (Tells to message))

-- a message that a test doesn't pass tells nothing of it
skipped : (here passes : Bool) (before : Bool) → passes ≡ false → (if here && passes then true else before) ≡ before
skipped here passes before fails = subst (λ (b : Bool). (if here && b then true else before) ≡ before) (sym fails) (at here)
  where
    at : (b : Bool) → (if b && false then true else before) ≡ before
    at true = refl
    at false = refl

-- nothing is put
pub tells-none : (messages : List Message) (acts : List Act) → TellsOnly messages acts acts
tells-none messages acts = record {
  grows = record { more = []; is = sym (append-nil acts) };
  others = λ view client test none. refl;
  removed = λ view. refl;
}

-- one of the messages is put
pub tells-one-more : (messages : List Message) (old mid new : List Act) (to : ClientId) (message : Message) → ((test : Message → Bool) → Each (λ other. test other ≡ false) messages → test message ≡ false)
    → TellsOnly messages old mid → new ≡ mid ++ Tells to message ∷ [] → TellsOnly messages old new
tells-one-more messages old mid new to message among tells is = record {
  grows = record {
    more = tells.grows.more ++ Tells to message ∷ [];
    is = is ∙ ap (λ (acts : List Act). acts ++ Tells to message ∷ []) tells.grows.is ∙ append_assoc old tells.grows.more (Tells to message ∷ []);
  };
  others = λ view client test none.
      ap (λ (acts : List Act). was_told client test (acts_of view acts)) is
      ∙ told-put view client test mid to message
      ∙ skipped (nat_eq to.0 client) (test message) (was_told client test (acts_of view mid)) (among test none)
      ∙ tells.others view client test none;
  removed = λ view.
      ap (λ (acts : List Act). has_removed (acts_of view acts)) is ∙ ap has_removed (put view mid (Tells to message)) ∙ tells.removed view;
}

-- a Wait that is told once, for the client that is missing, is as the law asks
pub waits-well : (view : ℕ) (o : Occasion) (start server : ServerState) (before : List law.Act) (client : ClientId) (number : ℕ) (least : ClientId) → HasSpace server → Waits server o.took before client number least
    → ActsWell o start server before (act_of view (Tells client (Wait number least)))
unfolding after_act
waits-well view o start server before client number least space waits = record {
  grants = tt;
  refuses = tt;
  commits = tt;
  collects = waits;
  revokes = tt;
  removes = tt;
  reserve = λ _. space;
}

-- so is an Ask of the client that is next
pub asks-well : (view : ℕ) (o : Occasion) (start server : ServerState) (before : List law.Act) (client : ClientId) → HasSpace server → next_of server.collecting ≡ Some client
    → ActsWell o start server before (act_of view (Tells client Ask))
unfolding after_act
asks-well view o start server before client space next = record {
  grants = tt;
  refuses = tt;
  commits = tt;
  collects = next;
  revokes = tt;
  removes = tt;
  reserve = λ _. space;
}

-- and an Admit of the first that may be admitted
pub admits-well : (view : ℕ) (o : Occasion) (start server : ServerState) (before : List law.Act) (client : ClientId) → HasSpace server → Admits o.was_admitted server before client
    → ActsWell o start server before (act_of view (Tells client Admit))
unfolding after_act
admits-well view o start server before client space admits = record {
  grants = tt;
  refuses = tt;
  commits = tt;
  collects = admits;
  revokes = tt;
  removes = tt;
  reserve = λ _. space;
}

-- whom a draft's desk misses and asks next, the law's server does
pub law-misses : (view : ℕ) (o : Occasion) (start : ServerState) (d : Draft) → Follows view o start d → missing_of d.desk.collecting ≡ missing_of (reached view start d).collecting
law-misses view o start d follows = let server = reached view start d in missing (with_desk d.desk server.volume server.sectors) server follows.like

pub law-asks : (view : ℕ) (o : Occasion) (start : ServerState) (d : Draft) → Follows view o start d → next_of d.desk.collecting ≡ next_of (reached view start d).collecting
law-asks view o start d follows = let server = reached view start d in next (with_desk d.desk server.volume server.sectors) server follows.like
