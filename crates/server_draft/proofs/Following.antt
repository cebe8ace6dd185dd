-- A draft follows the law's server with each act that is put to it.
use Rattle.std.proofs.Common.{◌≡◌, ◌++◌, ◌∷◌, [], ℕ, List, map, ap, refl, subst, sym, ◌∙◌}
use Rattle.cal_base.specs.declared.identity.ClientId.{ClientId}
use Rattle.message.specs.declared.message.Message.{Message}
use Rattle.message.specs.declared.message.Message.TheVariants.{Acquire, Grant, Refuse, Change, Done, Flush, Flushed, Revoke as AsksBack, Release, Ask, Piece, Wait, Admit}
use Rattle.token_kind.specs.declared.revoke.Revoke.{Revoke}
use Rattle.volume.specs.Stands.{AreBlocksKept}
use Rattle.volume.specs.Volume.{Volume}
use Rattle.volume_edit.specs.Blocks.{TakesFree}
use Rattle.volume_edit.specs.Edit.{edited}
use Rattle.cluster_law.specs.Lanes as law
use Rattle.cluster_law.specs.ServerRules.{ActsWell, EachAct, Occasion}
use Rattle.cluster_law.specs.ServerState.{ServerState, after_act, after_acts, doing, telling, without_head}
use Rattle.server_book.specs.Alike.{revoking}
use Rattle.server_desk.specs.Desk.{DeskValue, IsLike}
use Rattle.server_draft.specs.Acts.{act_of, acts_of, asked_back, commit_of, deed_of}
use Rattle.server_draft.specs.Draft.{Begins, Follows, HasSpace, reached}
use Rattle.server_draft.specs.declared.act.Act.{Act}
use Rattle.server_draft.specs.declared.act.Act.TheVariants.{Tells, Commits, Drops}
use Rattle.server_draft.specs.declared.act.Commit.{Commit}
use Rattle.server_draft.specs.declared.draft.Draft.{Draft}
use Rattle.server_draft.proofs.Acting.{acts-asked, acts-one}

-- to follow, by the acts as the law has them
follows-by : (view : ℕ) (o : Occasion) (start : ServerState) (draft : Draft) (acts : List law.Act) → acts_of view draft.acts ≡ acts
    → IsLike draft.desk (after_acts start acts) → draft.image ≡ (after_acts start acts).volume → EachAct start (ActsWell o start) acts → AreBlocksKept draft.image → HasSpace (after_acts start acts)
    → Follows view o start draft
follows-by view o start draft acts is like volume well kept space = record {
  like = subst (λ (done : List law.Act). IsLike draft.desk (after_acts start done)) (sym is) like;
  volume = subst (λ (done : List law.Act). draft.image ≡ (after_acts start done).volume) (sym is) volume;
  well = subst (λ (done : List law.Act). EachAct start (ActsWell o start) done) (sym is) well;
  kept = kept;
  space = subst (λ (done : List law.Act). HasSpace (after_acts start done)) (sym is) space;
}

-- a draft without an act follows the server from which it begins
pub begins : (view : ℕ) (o : Occasion) (start : ServerState) (draft : Draft) → draft.acts ≡ [] → Begins start draft → Follows view o start draft
unfolding acts_of after_acts
begins view o start draft none begin = follows-by view o start draft [] (ap (acts_of view) none) begin.like begin.volume tt begin.kept begin.space

-- one act more
follows-one : (view : ℕ) (o : Occasion) (start : ServerState) (before after : Draft) (act : Act) → Follows view o start before → after.acts ≡ before.acts ++ act ∷ []
    → IsLike after.desk (after_act (reached view start before) (act_of view act)) → after.image ≡ (after_act (reached view start before) (act_of view act)).volume → AreBlocksKept after.image
    → HasSpace (after_act (reached view start before) (act_of view act)) → ActsWell o start (reached view start before) (acts_of view before.acts) (act_of view act)
    → Follows view o start after
unfolding after_acts
follows-one view o start before after act follows more like volume kept space well =
    follows-by view o start after (act_of view act ∷ acts_of view before.acts) (acts-one view before.acts after.acts act more) like volume (follows.well, well) kept space

-- a message leaves the volume
told-volume : (server : ServerState) (client : ClientId) (message : Message) → server.volume ≡ (telling server client message).volume
told-volume server client (Acquire number want) = refl
told-volume server client (Grant number items) = refl
told-volume server client (Refuse number free needed) = refl
told-volume server client (Change number call) = refl
told-volume server client (Done number reply) = refl
told-volume server client (Flush flush) = refl
told-volume server client (Flushed number) = refl
told-volume server client (AsksBack revoke) = refl
told-volume server client (Release release) = refl
told-volume server client Ask = refl
told-volume server client (Piece piece) = refl
told-volume server client (Wait number least) = refl
told-volume server client Admit = refl

pub tells : (old new : Draft) (client : ClientId) (message : Message) → new.desk ≡ old.desk → new.image ≡ old.image → new.acts ≡ old.acts ++ Tells client message ∷ []
    → (view : ℕ) (o : Occasion) (start : ServerState) (before : Draft) → Follows view o start before → old.image ≡ before.image → old.acts ≡ before.acts
    → IsLike old.desk (telling (reached view start before) client message) → HasSpace (telling (reached view start before) client message)
    → ActsWell o start (reached view start before) (acts_of view before.acts) (act_of view (Tells client message)) → Follows view o start new
unfolding after_act
tells old new client message desk image more view o start before follows same acts like space well =
    follows-one view o start before new (Tells client message) follows (more ∙ ap (λ (put : List Act). put ++ Tells client message ∷ []) acts)
    (subst (λ (d : DeskValue). IsLike d (telling (reached view start before) client message)) (sym desk) like)
    (image ∙ same ∙ follows.volume ∙ told-volume (reached view start before) client message)
    (subst AreBlocksKept (sym (image ∙ same)) follows.kept) space well

-- the head of the line is dropped
pub drops : (old new : Draft) → ((server : ServerState) → IsLike old.desk server → IsLike new.desk (without_head server)) → new.image ≡ old.image → new.acts ≡ old.acts ++ Drops ∷ []
    → (view : ℕ) (o : Occasion) (start : ServerState) → Follows view o start old → ActsWell o start (reached view start old) (acts_of view old.acts) (act_of view Drops) → Follows view o start new
unfolding after_act
drops old new like same more view o start follows well =
    follows-one view o start old new Drops follows more (like (reached view start old) follows.like)
    (same ∙ follows.volume) (subst AreBlocksKept (sym same) follows.kept) follows.space well

-- of a commit only the deed matters to the desk
commits-like : (desk : DeskValue) (server : ServerState) (commit : law.Commit) → IsLike desk (doing server commit.deed) → IsLike desk (after_act server (law.Commits commit))
unfolding after_act
commits-like desk server commit like = record { standing = like.standing; table = like.table; requests = like.requests; asked = like.asked; volume = refl; sectors = refl }

-- a deed is made final
pub commits : (old new : Draft) (commit : Commit) → (TakesFree old.image commit.edit → AreBlocksKept old.image → AreBlocksKept new.image)
    → new.desk ≡ old.desk → new.image ≡ edited old.image commit.edit → new.acts ≡ old.acts ++ Commits commit ∷ []
    → (view : ℕ) (o : Occasion) (start : ServerState) (before : Draft) → Follows view o start before → old.image ≡ before.image → old.acts ≡ before.acts
    → TakesFree before.image commit.edit → IsLike old.desk (doing (reached view start before) (deed_of commit.deed)) → HasSpace (after_act (reached view start before) (act_of view (Commits commit)))
    → ActsWell o start (reached view start before) (acts_of view before.acts) (act_of view (Commits commit)) → Follows view o start new
unfolding after_act
commits old new commit keeps desk image more view o start before follows same acts takes like space well =
    follows-one view o start before new (Commits commit) follows (more ∙ ap (λ (put : List Act). put ++ Commits commit ∷ []) acts)
    (commits-like new.desk (reached view start before) (commit_of commit) (subst (λ (d : DeskValue). IsLike d (doing (reached view start before) (deed_of commit.deed))) (sym desk) like))
    (image ∙ ap (λ (v : Volume). edited v commit.edit) (same ∙ follows.volume))
    (keeps (subst (λ (v : Volume). TakesFree v commit.edit) (sym same) takes) (subst AreBlocksKept (sym same) follows.kept)) space well

-- clients are asked back: neither the volume nor the table changes
record Kept (old new : ServerState) : Type 0 where
  volume : old.volume ≡ new.volume
  space : HasSpace old → HasSpace new

asked-keeps : (view : ℕ) (start : ServerState) (sents : List (ClientId × Revoke)) (before : List law.Act) → Kept (after_acts start before) (after_acts start (revoking view sents before))
unfolding after_acts after_act revoking
asked-keeps view start [] before = record { volume = refl; space = λ space. space }
asked-keeps view start (sent ∷ sents) before =
    let rest = asked-keeps view start sents (act_of view (asked_back sent) ∷ before) in
    record { volume = rest.volume; space = rest.space }

pub asks : (old new : Draft) (sents : List (ClientId × Revoke)) → new.image ≡ old.image → new.acts ≡ old.acts ++ map asked_back sents
    → ((start : ServerState) (before : List law.Act) (view : ℕ) → IsLike old.desk (after_acts start before) → IsLike new.desk (after_acts start (revoking view sents before)))
    → (view : ℕ) (o : Occasion) (start : ServerState) → Follows view o start old → EachAct start (ActsWell o start) (revoking view sents (acts_of view old.acts)) → Follows view o start new
asks old new sents same more like view o start follows well =
    let kept = asked-keeps view start sents (acts_of view old.acts) in
    follows-by view o start new (revoking view sents (acts_of view old.acts)) (acts-asked view old.acts new.acts sents more) (like start (acts_of view old.acts) view follows.like)
    (same ∙ follows.volume ∙ kept.volume) well (subst AreBlocksKept (sym same) follows.kept) (kept.space follows.space)
