-- A step begins as the law says.
use Rattle.std.proofs.Common.{◌≡◌, [], false, ℕ, Option, None, subst, sym, ◌∙◌, true≢false}
use Rattle.cal_base.specs.declared.identity.ClientId.{ClientId}
use Rattle.message.specs.declared.message.Message.{Message}
use Rattle.volume.specs.Volume.{Volume}
use Rattle.cluster_law.specs.Removing.{due}
use Rattle.cluster_law.specs.ServerRules.{AnswersTaken, Occasion, Removes}
use Rattle.cluster_law.specs.ServerState.{ServerState, hearing}
use Rattle.cluster_law.specs.Sessions.{Taken}
use Rattle.server_desk.specs.Desk.{DeskValue, IsLike}
use Rattle.server_draft.specs.Acts.{acts_of}
use Rattle.server_draft.specs.Draft.{Begins, Follows, HasSpace, reached}
use Rattle.server_draft.specs.declared.draft.Draft.{Draft}
use Rattle.server_reports.specs.Reports.{HasAdmittedNobody}
use Rattle.server_opening.proofs.Owing.{answers, hearing-volume}
use Rattle.server_opening.proofs.Paying.{nobody-none, owed-taken, ungranted-none}
use Rattle.server_opening.specs.Opens.{GoesOut, Opens, begun, taken_of}
use Rattle.server_opening.specs.Owed.{IsOwedFor, IsPaid, owed_for}
use Rattle.server_opening.specs.Ungranted.{HasGrantedNobody}
use Rattle.server_opening.specs.declared.hearing.Owed.{Owed}
use Rattle.server_opening.specs.declared.opening.Coming.{Coming}
use Rattle.server_opening.specs.declared.opening.Coming.TheVariants.{Message as Comes}

-- a draft in which the message was heard begins from the law's server that has heard it
pub begins-heard : (view : ℕ) (s : ServerState) (desk heard : DeskValue) (v : Volume) (client : ClientId) (m : Message) (draft : Draft) → GoesOut view s desk v (Comes client m) → IsLike heard (hearing s client m)
    → draft ≡ record { desk = heard; image = v; acts = [] } → Begins (hearing s client m) draft
begins-heard view s desk heard v client m draft out like e = subst (Begins (hearing s client m)) (sym e) (record {
  like = like;
  volume = out.volume_is ∙ sym (hearing-volume s client m);
  kept = out.kept;
  space = out.space;
})

pub begins-still : (view : ℕ) (s : ServerState) (desk : DeskValue) (v : Volume) (coming : Coming) (draft : Draft) → begun view s coming ≡ s → GoesOut view s desk v coming → draft ≡ record { desk = desk; image = v; acts = [] } → Begins s draft
begins-still view s desk v coming draft same out e = subst (Begins s) (sym e) (record {
  like = out.like;
  volume = out.volume_is;
  kept = out.kept;
  space = subst (λ (x : ServerState). HasSpace x) same out.space;
})

-- for a message: what is owed for it is told, and nothing is to be removed
pub opens-answer : (view : ℕ) (o : Occasion) (s : ServerState) (desk heard : DeskValue) (v : Volume) (client : ClientId) (m : Message) (first last : Draft) (owed : Owed)
    → GoesOut view s desk v (Comes client m) → IsLike heard (hearing s client m) → o.took ≡ taken_of view (Comes client m) → o.tick ≡ false
    → owed ≡ owed_for desk v m → first ≡ record { desk = heard; image = v; acts = [] }
    → (IsOwedFor o.took client owed → Follows view o (hearing s client m) last) → IsPaid first.desk (hearing s client m) client owed (acts_of view last.acts) → HasAdmittedNobody view last.acts → HasGrantedNobody view last.acts
    → Opens view o (hearing s client m) last
opens-answer view o s desk heard v client m first last owed out like took tick owes e follows paid nobody ungranted = record {
  follows = follows (subst (λ (t : Option Taken). IsOwedFor t client owed) (sym took) (subst (λ (w : Owed). IsOwedFor (taken_of view (Comes client m)) client w) (sym owes) (owed-taken view desk v client m)));
  taken = subst (AnswersTaken (hearing s client m) (acts_of view last.acts)) (sym took) (λ used. answers desk heard v s client m (acts_of view last.acts) out.like out.volume_is like paid' used);
  removed = λ ticks. absurd (true≢false (sym ticks ∙ tick));
  nobody = nobody;
  ungranted = ungranted;
}
  where
    paid' : IsPaid heard (hearing s client m) client (owed_for desk v m) (acts_of view last.acts)
    paid' = subst (λ (w : Owed). IsPaid heard (hearing s client m) client w (acts_of view last.acts)) owes (subst (λ (d : Draft). IsPaid d.desk (hearing s client m) client owed (acts_of view last.acts)) e paid)

-- for a tick: what is to be removed is, and no message was taken
pub opens-remove : (view : ℕ) (o : Occasion) (s : ServerState) (last : Draft) → o.took ≡ None → Follows view o s last → Removes s (reached view s last) (acts_of view last.acts) (due o.gone s) → HasAdmittedNobody view last.acts → HasGrantedNobody view last.acts → Opens view o s last
opens-remove view o s last took follows removes nobody ungranted = record {
  follows = follows;
  taken = subst (AnswersTaken s (acts_of view last.acts)) (sym took) tt;
  removed = λ ticks. removes;
  nobody = nobody;
  ungranted = ungranted;
}

-- for nothing: nothing is owed
pub opens-nothing : (view : ℕ) (o : Occasion) (s : ServerState) (last : Draft) → o.took ≡ None → o.tick ≡ false → last.acts ≡ [] → Follows view o s last → Opens view o s last
opens-nothing view o s last took tick none follows = record {
  follows = follows;
  taken = subst (AnswersTaken s (acts_of view last.acts)) (sym took) tt;
  removed = λ ticks. absurd (true≢false (sym ticks ∙ tick));
  nobody = nobody-none view last.acts none;
  ungranted = ungranted-none view last.acts none;
}
