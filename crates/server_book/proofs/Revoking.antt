-- A server that asks all that blocks is alike the law's after the Revokes.
use Rattle.std.proofs.Common.{◌≡◌, ℕ, List, [], ◌∷◌, refl, sym, subst, ◌∙◌}
use Rattle.cal_base.specs.declared.identity.ClientId.{ClientId}
use Rattle.message.specs.declared.message.Message.TheVariants.{Revoke as Asks}
use Rattle.revocation.specs.Revokes.{AsksAll, revokes_of}
use Rattle.token_kind.specs.declared.blocker.Blocker.{Blocker}
use Rattle.token_kind.specs.declared.hold.Hold.{Hold}
use Rattle.token_kind.specs.declared.revoke.Revoke.{Revoke}
use Rattle.token_table.specs.declared.hold_key.HoldKey.{HoldKey}
use Rattle.cluster_law.specs.Lanes.{Act, Tells, Down}
use Rattle.cluster_law.specs.ServerState.{ServerState, after_act, after_acts}
use Rattle.server_book.specs.Alike.{Alike, revoking}
use Rattle.server_book.proofs.Faces.{after_by, asked-path, revokes_by}
use Rattle.server_book.proofs.Telling.{all-told, tell_all}

-- Revokes that are told alter what is asked alone
pub tells-alone : (start : ServerState) (view : ℕ) (sents : List (ClientId × Revoke)) (before : List Act)
    → after_acts start (revoking view sents before) ≡ record (after_acts start before) { asked = tell_all sents (after_acts start before).asked }
unfolding after_acts after_act revoking
tells-alone start view [] before = refl
tells-alone start view (sent ∷ rest) before = tells-alone start view rest (Tells (record { client = sent.0.0; view = view; way = Down }) (Asks sent.1) ∷ before)

pub asks : (server start : ServerState) (before : List Act) (view : ℕ) (asked : List (HoldKey × Hold)) (blockers : List Blocker) → Alike server (after_acts start before) → AsksAll server.asked asked blockers
    → Alike (record server { asked = asked }) (after_acts start (revoking view (revokes_of server.asked blockers) before))
asks server start before view asked blockers alike all =
    let law = after_acts start before in
    let same = asked-path server.asked law.asked alike.asked in
    let sents : revokes_of law.asked blockers ≡ revokes_of server.asked blockers = (λ i. revokes_by (sym same i) blockers) in
    subst (λ (l : List (ClientId × Revoke)). Alike (record server { asked = asked }) (after_acts start (revoking view l before))) sents
    (subst (λ (s : ServerState). Alike (record server { asked = asked }) s) (sym (tells-alone start view (revokes_of law.asked blockers) before))
    (record {
      standing = alike.standing;
      table = alike.table;
      requests = alike.requests;
      asked = λ q. all q ∙ (λ i. after_by (same i) blockers q) ∙ sym (all-told law.asked blockers q);
      volume = alike.volume;
      sectors = alike.sectors;
    }))
