-- Acts that grant nothing read nothing.
use Rattle.std.proofs.Common.{◌≡◌, ◌∷◌, [], ◌&&◌, ℕ, Bool, true, false, nat_eq, if◌then◌else◌, List, ap, refl, sym, ◌∙◌, true≢false}
use Rattle.std.proofs.lemmas.Bool.{eq-eqb}
use Rattle.message.specs.declared.message.Message.{Message}
use Rattle.message.specs.declared.message.Message.TheVariants.{Acquire, Grant, Refuse, Change, Done, Flush, Flushed, Revoke as Asks, Release, Ask, Piece, Wait, Admit}
use Rattle.cluster_law.specs.Asking.{was_told}
use Rattle.cluster_law.specs.DiskRules.{ReadsNothing}
use Rattle.cluster_law.specs.Lanes as law
use Rattle.cluster_law.specs.ServerState.{ServerState, after_acts}
use Rattle.server_draft.specs.Draft.{TellsOnly}
use Rattle.server_draft.specs.declared.act.Act.{Act}
use Rattle.server_line.specs.Served.{ReadNothing}
use Rattle.server_opening.specs.Ungranted.{HasGrantedNobody, is_grant}

-- what isn't so of all isn't so of the first, nor of the rest
first-untrue : (here rest : Bool) → (if here then true else rest) ≡ false → here ≡ false
first-untrue true rest e = absurd (true≢false e)
first-untrue false rest e = refl

rest-untrue : (here rest : Bool) → (if here then true else rest) ≡ false → rest ≡ false
rest-untrue true rest e = absurd (true≢false e)
rest-untrue false rest e = e

no-grant : (client : ℕ) (test : Bool) → (nat_eq client client && test) ≡ false → test ≡ false
no-grant client test e = sym (ap (λ (b : Bool). b && test) (eq-eqb client client refl)) ∙ e

message-reads : (server : ServerState) (lane : law.Lane) (m : Message) → is_grant m ≡ false → ReadsNothing server (law.Tells lane m)
message-reads server lane (Acquire number want) e = tt
message-reads server lane (Grant number items) e = absurd (true≢false e)
message-reads server lane (Refuse number free needed) e = tt
message-reads server lane (Change number call) e = tt
message-reads server lane (Done number reply) e = tt
message-reads server lane (Flush flush) e = tt
message-reads server lane (Flushed number) e = tt
message-reads server lane (Asks revoke) e = tt
message-reads server lane (Release release) e = tt
message-reads server lane Ask e = tt
message-reads server lane (Piece piece) e = tt
message-reads server lane (Wait number least) e = tt
message-reads server lane Admit e = tt

pub ungranted-unread : (start : ServerState) (acts : List law.Act) → ((client : ℕ) → was_told client is_grant acts ≡ false) → ReadNothing start acts
ungranted-unread start [] none = tt
ungranted-unread start (law.Mounts volume ∷ before) none = (ungranted-unread start before none, tt)
ungranted-unread start (law.Tells lane message ∷ before) none = (
  ungranted-unread start before (λ client. rest-untrue (nat_eq lane.client client && is_grant message) (was_told client is_grant before) (none client)),
  message-reads (after_acts start before) lane message (no-grant lane.client (is_grant message) (first-untrue (nat_eq lane.client lane.client && is_grant message) (was_told lane.client is_grant before) (none lane.client))),
)
ungranted-unread start (law.Commits commit ∷ before) none = (ungranted-unread start before none, tt)
ungranted-unread start (law.Drops ∷ before) none = (ungranted-unread start before none, tt)

-- who is asked or admitted is granted nothing
pub still-ungranted : (view : ℕ) (old new : List Act) → TellsOnly (Ask ∷ Admit ∷ []) old new → HasGrantedNobody view old → HasGrantedNobody view new
still-ungranted view old new tells none = λ client. tells.others view client is_grant (refl, (refl, tt)) ∙ none client
