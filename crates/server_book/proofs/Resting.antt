-- Once the Revokes for what blocks the head of the line are told, none is left.
use Rattle.std.proofs.Common.{◌≡◌, inr, ℕ, List, [], ◌∷◌, None, IsTrue, refl, sym, ap, subst, ◌∙◌}
use Rattle.cal_base.specs.declared.identity.ClientId.{ClientId}
use Rattle.revocation.specs.Revokes.{revokes_of}
use Rattle.token_kind.specs.declared.blocker.Blocker.{Blocker}
use Rattle.token_kind.specs.declared.hold.Hold.{Hold}
use Rattle.token_kind.specs.declared.revoke.Revoke.{Revoke}
use Rattle.token_table.specs.Table.{IsTable}
use Rattle.token_table.specs.declared.hold_key.HoldKey.{HoldKey}
use Rattle.cluster_law.specs.Asking.{blocks_of, next_revoke}
use Rattle.cluster_law.specs.Granting.{head}
use Rattle.cluster_law.specs.Lanes.{Act}
use Rattle.cluster_law.specs.Lists.{first_of}
use Rattle.cluster_law.specs.ServerRules.{HasReserve}
use Rattle.cluster_law.specs.ServerState.{ServerState, after_acts, asked_with as asked_in, is_admitted, table_in}
use Rattle.server_book.specs.Alike.{revoking}
use Rattle.server_book.proofs.Heads.{steady-of}
use Rattle.server_book.proofs.Revoking.{tells-alone}
use Rattle.server_book.proofs.Telling.{all-told, tell_all}
use Rattle.server_book.proofs.Turning.{told-once}

none-left : (bs : List Blocker) (sents : List (ClientId × Revoke)) (asked : List (HoldKey × Hold)) → revokes_of asked bs ≡ sents → revokes_of (tell_all sents asked) bs ≡ []
none-left bs [] asked e = e
none-left bs (sent ∷ rest) asked e = none-left bs rest (asked_in sent.0 sent.1.ino sent.1.items asked) (told-once asked bs sent rest e)

abbrev rests-in : ServerState → Type 0
rests-in s = next_revoke s (blocks_of s (head s)) ≡ None

pub rests : (start : ServerState) (before : List Act) (view : ℕ) → IsTable (table_in (after_acts start before)) → IsTrue (is_admitted (after_acts start before)) → HasReserve (after_acts start before)
    → rests-in (after_acts start (revoking view (revokes_of (after_acts start before).asked (blocks_of (after_acts start before) (head (after_acts start before)))) before))
rests start before view table admitted reserve =
    let base = after_acts start before in
    let bs = blocks_of base (head base) in
    let ys = tell_all (revokes_of base.asked bs) base.asked in
    subst (λ (s : ServerState). rests-in s) (sym (tells-alone start view (revokes_of base.asked bs) before))
    (ap (next_revoke (record base { asked = ys })) (steady-of base table (reserve admitted) (head base) ys (λ q. inr (all-told base.asked bs q)))
    ∙ ap (λ (l : List (ClientId × Revoke)). first_of l) (none-left bs (revokes_of base.asked bs) base.asked refl))
