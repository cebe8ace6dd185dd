-- The Revokes for the holds on a deserted orphan keep the rules, each where it is told.
use Rattle.std.proofs.Common.{◌≡◌, inr, ℕ, List, [], ◌∷◌, Some, IsTrue, refl, sym, ap, subst, ◌∙◌}
use Rattle.cal_base.specs.declared.identity.ClientId.{ClientId}
use Rattle.message.specs.declared.message.Message.TheVariants.{Revoke as Asks}
use Rattle.revocation.specs.Revokes.{revokes_of}
use Rattle.token_kind.specs.declared.blocker.Blocker.{Blocker}
use Rattle.token_kind.specs.declared.revoke.Revoke.{Revoke}
use Rattle.cluster_law.specs.Asking.{deserted, holders_of, next_revoke}
use Rattle.cluster_law.specs.Lanes.{Act, Down, Lane, Tells}
use Rattle.cluster_law.specs.Lists.{first_of}
use Rattle.cluster_law.specs.ServerRules.{ActsWell, EachAct, HasReserve, Occasion, looks_at_orphans}
use Rattle.cluster_law.specs.ServerState.{ServerState, after_act, after_acts, is_admitted}
use Rattle.server_book.specs.Alike.{revoking}
use Rattle.server_book.proofs.Turning.{told-once}

-- what holds of each Revoke where it is the next one, in a server that is as before but for what is asked, holds of all
pub each-told : (P : ServerState → List Act → Act → Type 0) (base : ServerState) (blockers : List Blocker)
    → ((server : ServerState) (before : List Act) (lane : Lane) (revoke : Revoke) → record server { asked = base.asked } ≡ base → next_revoke server blockers ≡ Some (record { 0 = lane.client }, revoke) → P server before (Tells lane (Asks revoke)))
    → (start : ServerState) (view : ℕ) (sents : List (ClientId × Revoke)) (before : List Act) → record (after_acts start before) { asked = base.asked } ≡ base → revokes_of (after_acts start before).asked blockers ≡ sents
    → EachAct start P before → EachAct start P (revoking view sents before)
unfolding after_acts after_act revoking
each-told P base blockers right start view [] before same e g = g
each-told P base blockers right start view (sent ∷ rest) before same e g =
    let lane : Lane = record { client = sent.0.0; view = view; way = Down } in
    each-told P base blockers right start view rest (Tells lane (Asks sent.1) ∷ before) same
    (told-once (after_acts start before).asked blockers sent rest e)
    (g, right (after_acts start before) before lane sent.1 same (ap (λ (l : List (ClientId × Revoke)). first_of l) e))

-- a Revoke for the orphan that is looked at keeps the rules
orphan-revoke : (o : Occasion) (start base server : ServerState) (before : List Act) (lane : Lane) (revoke : Revoke) → IsTrue (looks_at_orphans o start) → IsTrue (is_admitted base) → HasReserve base
    → record server { asked = base.asked } ≡ base → next_revoke server (holders_of base (deserted base)) ≡ Some (record { 0 = lane.client }, revoke) → ActsWell o start server before (Tells lane (Asks revoke))
unfolding after_act
orphan-revoke o start base server before lane revoke looks admitted reserve same next = record {
  grants = tt;
  refuses = tt;
  commits = tt;
  collects = tt;
  revokes = record {
    admitted = subst IsTrue (sym (ap (λ (s : ServerState). is_admitted s) same)) admitted;
    next = inr (looks, ap (next_revoke server) (ap (λ (s : ServerState). holders_of s (deserted s)) same) ∙ next);
  };
  removes = tt;
  reserve = subst (λ (s : ServerState). HasReserve s) (sym same) reserve;
}

pub orphans-told : (o : Occasion) (start : ServerState) (before : List Act) (view : ℕ) → IsTrue (looks_at_orphans o start) → IsTrue (is_admitted (after_acts start before)) → HasReserve (after_acts start before)
    → EachAct start (ActsWell o start) before
    → EachAct start (ActsWell o start) (revoking view (revokes_of (after_acts start before).asked (holders_of (after_acts start before) (deserted (after_acts start before)))) before)
orphans-told o start before view looks admitted reserve g =
    let base = after_acts start before in
    each-told (ActsWell o start) base (holders_of base (deserted base))
    (λ server b lane revoke same next. orphan-revoke o start base server b lane revoke looks admitted reserve same next)
    start view (revokes_of base.asked (holders_of base (deserted base))) before refl refl g
