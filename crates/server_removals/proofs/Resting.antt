-- Whether all holds of the bytes and the size of an orphan are asked back, client by client.
use Rattle.std.proofs.Common.{◌≡◌, ◌++◌, ◌∷◌, ◌&&◌, ◌||◌, [], Bool, true, false, not, List, Option, Some, None, is_none, is_some, true≢false, if◌then◌else◌, ap, refl, sym, ◌∙◌, append-nil}
use Rattle.std.specs.Prelude.{◌↔◌, IsTrue}
use Rattle.std.specs.List.{cons_option, filter_map, list_all, list_any}
use Rattle.std.proofs.lemmas.List.Folds.{list_all-append}
use Rattle.cal_base.specs.declared.identity.ClientId.{ClientId}
use Rattle.cal_base.specs.declared.identity.Ino.{Ino}
use Rattle.revocation.specs.Revokes.{is_asked, is_within, revokes_of}
use Rattle.revocation.specs.Waiting.{asked_at}
use Rattle.revocation.proofs.Sent.{nothing_sent}
use Rattle.token_kind.specs.Hold.{is_held}
use Rattle.token_kind.specs.declared.blocker.Blocker.{Blocker}
use Rattle.token_kind.specs.declared.«class».Class.{Class}
use Rattle.token_kind.specs.declared.«class».Class.TheVariants.{Attr, Data}
use Rattle.token_kind.specs.declared.hold.Hold.TheVariants.{None as Nothing}
use Rattle.token_kind.specs.declared.revoke.Revoke.{Revoke}
use Rattle.token_table.specs.Blockers.{clients_below, is_open, toucher_of}
use Rattle.token_table.specs.Table.{held_of, key_of}
use Rattle.volume.specs.Volume.{Volume}
use Rattle.cluster_law.specs.Asking.{deserted, holders_of}
use Rattle.cluster_law.specs.Lists.{first_of, is_empty}
use Rattle.cluster_law.specs.Removing.{is_dealt_with}
use Rattle.cluster_law.specs.ServerState.{ServerState, is_admitted}
use Rattle.server_book.specs.Alike.{Alike}
use Rattle.server_book.proofs.Deciding.{admitted, holders, orphan, revoked}
use Rattle.server_desk.specs.Desk.{DeskValue, IsLike, with_desk}
use Rattle.server_removals.specs.Removals.{at_desk, has_dealt, is_asked_back, is_asked_for, rests_with_orphans}

none-first : {Y : Type 0} (b : Bool) (sents : List Y) → IsTrue b ↔ (sents ≡ []) → is_none (first_of sents) ≡ b
none-first true [] all = refl
none-first true (sent ∷ sents) all = let none : sent ∷ sents ≡ [] = all.0 refl in absurd (cc)
none-first false [] all = sym (all.1 refl)
none-first false (sent ∷ sents) all = refl

-- an orphan is dealt with where it has holders, and all are asked
dealt-is : (server : ServerState) (ino : Ino) (bs : List Blocker) → is_dealt_with server (Some ino) bs ≡ (not (is_empty bs) && list_all (is_asked server.asked) bs)
dealt-is server ino [] = refl
dealt-is server ino (b ∷ bs) = none-first (list_all (is_asked server.asked) (b ∷ bs)) (revokes_of server.asked (b ∷ bs)) (nothing_sent server.asked (b ∷ bs))

module _ (desk : DeskValue) (ino : Ino) (cls : Class) (closed : is_open cls ≡ false) where
  -- there are holders in a class where some client has a hold
  has-holders : (cs : List ClientId) → not (is_empty (filter_map (toucher_of desk.collecting.table (ino, cls)) cs)) ≡ list_any (λ c. is_held (held_of desk.collecting.table c ino cls)) cs
  has-holders [] = refl
  has-holders (c ∷ cs) = by (is_held (held_of desk.collecting.table c ino cls)) (has-holders cs)
    where
      by : (held : Bool) → not (is_empty (filter_map (toucher_of desk.collecting.table (ino, cls)) cs)) ≡ list_any (λ d. is_held (held_of desk.collecting.table d ino cls)) cs
          → not (is_empty (cons_option (if held then Some (record { client = c; ino = ino; «class» = cls; asked = Nothing }) else None) (filter_map (toucher_of desk.collecting.table (ino, cls)) cs)))
          ≡ (held || list_any (λ d. is_held (held_of desk.collecting.table d ino cls)) cs)
      by true later = refl
      by false later = later

  -- they are asked where each client's hold is
  are-asked : (cs : List ClientId) → list_all (is_asked desk.asked) (filter_map (toucher_of desk.collecting.table (ino, cls)) cs) ≡ list_all (is_asked_back desk ino cls) cs
  are-asked [] = refl
  are-asked (c ∷ cs) = by (is_held (held_of desk.collecting.table c ino cls)) (are-asked cs)
    where
      by : (held : Bool) → list_all (is_asked desk.asked) (filter_map (toucher_of desk.collecting.table (ino, cls)) cs) ≡ list_all (is_asked_back desk ino cls) cs
          → list_all (is_asked desk.asked) (cons_option (if held then Some (record { client = c; ino = ino; «class» = cls; asked = Nothing }) else None) (filter_map (toucher_of desk.collecting.table (ino, cls)) cs))
          ≡ ((not held || is_within (asked_at desk.asked (key_of c ino cls)) Nothing) && list_all (is_asked_back desk ino cls) cs)
      by true later = λ i. (closed i || is_within (asked_at desk.asked (key_of c ino cls)) Nothing) && later i
      by false later = later

some-append : (xs ys : List Blocker) → not (is_empty (xs ++ ys)) ≡ (not (is_empty xs) || not (is_empty ys))
some-append [] ys = refl
some-append (x ∷ xs) ys = refl

-- client by client, in both classes
pub dealt-with : (desk : DeskValue) (v : Volume) (ino : Ino)
    → has_dealt (at_desk desk v) (Some ino) ≡ is_asked_for desk ino
dealt-with desk v ino =
    dealt-is (at_desk desk v) ino (datas ++ (attrs ++ []))
    ∙ ap (λ (bs : List Blocker). not (is_empty (datas ++ bs)) && list_all (is_asked desk.asked) (datas ++ bs)) (append-nil attrs)
    ∙ (λ i. some-append datas attrs i && list_all-append (is_asked desk.asked) datas attrs i)
    ∙ (λ i. (has-holders desk ino Data refl (clients_below 16) i || has-holders desk ino Attr refl (clients_below 16) i)
    && (are-asked desk ino Data refl (clients_below 16) i && are-asked desk ino Attr refl (clients_below 16) i))
  where
    datas : List Blocker
    datas = filter_map (toucher_of desk.collecting.table (ino, Data)) (clients_below 16)

    attrs : List Blocker
    attrs = filter_map (toucher_of desk.collecting.table (ino, Attr)) (clients_below 16)

-- alike servers rest alike
module _ (a b : ServerState) (alike : Alike a b) where
  dealt-same : (ino : Option Ino) (bs : List Blocker) → is_dealt_with a ino bs ≡ is_dealt_with b ino bs
  dealt-same None bs = refl
  dealt-same (Some ino) [] = refl
  dealt-same (Some ino) (blocker ∷ bs) = ap (λ (next : Option (ClientId × Revoke)). is_none next) (revoked a b alike (blocker ∷ bs))

  rests-same : rests_with_orphans a ≡ rests_with_orphans b
  rests-same =
      (λ i. not (admitted a b alike i) || dealt-same (deserted a) (holders_of a (deserted a)) i)
      ∙ (λ i. not (is_admitted b) || is_dealt_with b (orphan a b alike i) (holders-same i))
    where
      holders-same : holders_of a (deserted a) ≡ holders_of b (deserted b)
      holders-same = holders a b alike (deserted a) ∙ ap (holders_of b) (orphan a b alike)

pub rests-like : (desk : DeskValue) (v : Volume) (server : ServerState) → IsLike desk server → server.volume ≡ v → rests_with_orphans (at_desk desk v) ≡ rests_with_orphans server
rests-like desk v server like same =
    ap (λ (u : Volume). rests_with_orphans (with_desk desk u server.sectors)) (sym same)
    ∙ rests-same (with_desk desk server.volume server.sectors) server like

-- there is nothing where it is answered so
pub none-of : (o : Option ClientId) (answer : Bool) → is_some o ≡ not answer → answer ≡ true → is_none o ≡ true
none-of None answer e is = refl
none-of (Some client) answer e is = absurd (true≢false (e ∙ ap not is))
