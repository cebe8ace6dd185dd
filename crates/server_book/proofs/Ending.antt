-- What a server owes at the end of a step is done where an alike one has done it.
use Rattle.std.proofs.Common.{◌∷◌, [], List, Bool, true, false, Option, Some, None, IsTrue, subst, sym, ◌∙◌}
use Rattle.cal_base.specs.declared.identity.ClientId.{ClientId}
use Rattle.cal_base.specs.declared.identity.Ino.{Ino}
use Rattle.message.specs.declared.message.Message.{Message}
use Rattle.message.specs.declared.message.Message.TheVariants.{Acquire, Grant, Refuse, Change, Done, Flush, Flushed, Revoke, Release, Ask, Piece, Wait, Admit}
use Rattle.token_kind.specs.declared.block.Block.{Block}
use Rattle.token_kind.specs.declared.blocker.Blocker.{Blocker}
use Rattle.tree_law.specs.declared.request.Request.{Request}
use Rattle.cluster_law.specs.Asking.{deserted, holders_of}
use Rattle.cluster_law.specs.Granting.{head}
use Rattle.cluster_law.specs.Lanes.{Act}
use Rattle.cluster_law.specs.Removing.{due}
use Rattle.cluster_law.specs.ServerRules.{AnswersMessage, AnswersTaken, Collected, DealsWithOrphan, EndsWell, FreesOrAsks, IsBlocked, IsNamed, LineRests, Occasion, Removes, Rests}
use Rattle.cluster_law.specs.ServerState.{ServerState, after_acts, is_admitted}
use Rattle.cluster_law.specs.Sessions.{Taken}
use Rattle.server_book.specs.Alike.{Alike}
use Rattle.server_book.proofs.Deciding.{admits, admitted, blocked, head-same, holders, next, orphan, purged, revoked, used}
use Rattle.server_book.proofs.Keeping.{head-revoke}
use Rattle.server_book.proofs.Moving.{acts-all}

module _ (a b : ServerState) (alike : Alike a b) where
  -- the message that was taken is answered
  answers-message : (acts : List Act) (client : ClientId) (message : Message) → AnswersMessage a acts client message → AnswersMessage b acts client message
  answers-message acts client (Acquire number want) h = λ e. h (admitted a b alike ∙ e)
  answers-message acts client (Grant number items) h = h
  answers-message acts client (Refuse number free needed) h = h
  answers-message acts client (Change number call) h = λ e. h (admitted a b alike ∙ e)
  answers-message acts client (Done number reply) h = h
  answers-message acts client (Flush flush) h = h
  answers-message acts client (Flushed number) h = h
  answers-message acts client (Revoke revoke) h = h
  answers-message acts client (Release release) h = h
  answers-message acts client Ask h = h
  answers-message acts client (Piece piece) h = h
  answers-message acts client (Wait number least) h = h
  answers-message acts client Admit h = h

  answers-taken : (acts : List Act) (took : Option Taken) → AnswersTaken a acts took → AnswersTaken b acts took
  answers-taken acts None h = h
  answers-taken acts (Some t) h = λ uses-it.
      answers-message acts (record { 0 = t.lane.client }) t.message (h (subst IsTrue (sym (used a b alike (record { 0 = t.lane.client }) t.message)) uses-it))

  -- reports are asked for, and all are admitted
  collected : (o : Occasion) (acts : List Act) → Collected o a acts → Collected o b acts
  collected o acts g = record {
    asked = sym (next a b alike) ∙ g.asked;
    admitted = λ was is. sym (admits a b alike acts) ∙ g.admitted was (subst IsTrue (sym (admitted a b alike)) is);
  }

  -- the line rests
  named-by : (o : Option Request) (named : Option Block) → IsNamed a o named → IsNamed b o named
  named-by None named h = h
  named-by (Some request) named h = subst (λ (bs : List Blocker). IsBlocked request bs named) (blocked a b alike request) h

  rests : (named : Option Block) → Rests a named → Rests b named
  rests named g = record {
    named_is = subst (λ (o : Option Request). IsNamed b o named) (head-same a b alike) (named-by (head a) named g.named_is);
    asked = sym (head-revoke a b alike) ∙ g.asked;
  }

  line-rests : (is : Bool) (named : Option Block) → LineRests is a named → LineRests is b named
  line-rests true named h = rests named h
  line-rests false named h = h

  line : (named : Option Block) → LineRests (is_admitted a) a named → LineRests (is_admitted b) b named
  line named h = subst (λ (is : Bool). LineRests is b named) (admitted a b alike) (line-rests (is_admitted a) named h)

module _ (start start' a b : ServerState) (starts : Alike start start') (alike : Alike a b) (acts : List Act) where
  -- the client that is due is purged, or the least orphan is freed or asked for
  frees-or-asks : (ino : Ino) (bs : List Blocker) → FreesOrAsks start a acts ino bs → FreesOrAsks start' b acts ino bs
  frees-or-asks ino [] h = h
  frees-or-asks ino (holder ∷ holders) h = sym (revoked a b alike (holder ∷ holders)) ∙ h

  deals : (o : Option Ino) → DealsWithOrphan start a acts o → DealsWithOrphan start' b acts o
  deals None h = h
  deals (Some ino) h =
      subst (λ (bs : List Blocker). FreesOrAsks start' b acts ino bs) (holders start start' starts (Some ino)) (frees-or-asks ino (holders_of start (Some ino)) h)

  removes-by : (o : Option ClientId) → Removes start a acts o → Removes start' b acts o
  removes-by (Some client) h = h
  removes-by None h = λ is.
      subst (λ (o : Option Ino). DealsWithOrphan start' b acts o) (orphan start start' starts) (deals (deserted start) (h (subst IsTrue (sym (admitted start start' starts)) is)))

  pub removes : (gone : ClientId → Bool) → Removes start a acts (due gone start) → Removes start' b acts (due gone start')
  removes gone h = subst (λ (o : Option ClientId). Removes start' b acts o) (purged start start' starts gone) (removes-by (due gone start) h)

-- a step that ends well from a server does so from an alike one
pub ends-keeps : (o : Occasion) (a b : ServerState) (acts : List Act) (named : Option Block) → Alike a b → EndsWell o a acts named → EndsWell o b acts named
ends-keeps o a b acts named alike g =
    let x = after_acts a acts in
    let y = after_acts b acts in
    let ends : Alike x y = acts-all a b acts alike in
    record {
      taken = answers-taken a b alike acts o.took g.taken;
      collected = collected x y ends o acts g.collected;
      line = line x y ends named g.line;
      removed = λ tick. removes a b x y alike ends acts o.gone (g.removed tick);
    }
