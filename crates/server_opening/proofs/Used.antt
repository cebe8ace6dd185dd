-- How the law hears a message, by whether it is used.
use Rattle.std.proofs.Common.{◌≡◌, ◌↔◌, Bool, true, false, IsTrue, if◌then◌else◌, ap, refl, subst, sym, ◌∙◌, true≢false}
use Rattle.cal_base.specs.declared.identity.ClientId.{ClientId}
use Rattle.message.specs.declared.message.Message.{Message}
use Rattle.message.specs.declared.message.Message.TheVariants.{Flush}
use Rattle.token_kind.specs.declared.flush.Flush.{Flush as FlushRecord}
use Rattle.cluster_law.specs.ServerState.{ServerState, hearing, taking, uses}
use Rattle.server_desk.specs.Desk.{DeskValue, IsLike}

-- a message that isn't used leaves the server as it was, and one that is used is taken
passed : (server : ServerState) (client : ClientId) (message : Message) → uses server client message ≡ false → hearing server client message ≡ server
unfolding hearing
passed server client message e = ap (λ (used : Bool). if used then taking server client message else server) e

taken : (server : ServerState) (client : ClientId) (message : Message) → uses server client message ≡ true → hearing server client message ≡ taking server client message
unfolding hearing
taken server client message e = ap (λ (used : Bool). if used then taking server client message else server) e

pub passes : (desk : DeskValue) (server : ServerState) (client : ClientId) (message : Message) → uses server client message ≡ false → IsLike desk server → IsLike desk (hearing server client message)
passes desk server client message e like = subst (λ (s : ServerState). IsLike desk s) (sym (passed server client message e)) like

pub takes : (desk : DeskValue) (server : ServerState) (client : ClientId) (message : Message) → uses server client message ≡ true → IsLike desk (taking server client message) → IsLike desk (hearing server client message)
takes desk server client message e like = subst (λ (s : ServerState). IsLike desk s) (sym (taken server client message e)) like

-- a flush leaves the server as it was, until it is committed
pub hears-flush : (desk : DeskValue) (server : ServerState) (client : ClientId) (flush : FlushRecord) → IsLike desk server → IsLike desk (hearing server client (Flush flush))
hears-flush desk server client flush like = by (uses server client (Flush flush)) refl
  where
    by : (used : Bool) → uses server client (Flush flush) ≡ used → IsLike desk (hearing server client (Flush flush))
    by true e = takes desk server client (Flush flush) e like
    by false e = passes desk server client (Flush flush) e like

pub unused : (a b : Bool) → (IsTrue a ↔ IsTrue b) → a ≡ false → b ≡ false
unused a b both e = by b refl
  where
    by : (t : Bool) → b ≡ t → b ≡ false
    by false f = f
    by true f = absurd (true≢false (sym (both.1 f) ∙ e))
