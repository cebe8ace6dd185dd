-- What the parts of a server promise of their changes, against the law's server after the message or the act.
use Rattle.std.proofs.Common.{◌≡◌, ◌∷◌, [], List, Bool, true, Option, None, ℕ, drop, if◌then◌else◌, map, ap, refl, subst, sym, ◌∙◌}
use Rattle.cal_base.specs.declared.identity.ClientId.{ClientId}
use Rattle.cal_base.specs.declared.identity.Ino.{Ino}
use Rattle.message.specs.declared.message.Message.{Message}
use Rattle.message.specs.declared.message.Message.TheVariants.{Grant, Release, Piece}
use Rattle.rebuild.specs.Collecting.{Collecting, with_standing}
use Rattle.rebuild.specs.Reports.{Fits, Grants, Lowers, Purges as PurgesIn, Releases, Takes, after_piece, judged}
use Rattle.rebuild.specs.declared.reporting.Reporting.{Reporting}
use Rattle.rebuild.specs.declared.reporting.Reporting.TheVariants.{Purged}
use Rattle.revocation.specs.Waiting.{Answers, AsksNothing, without_client}
use Rattle.revocation.proofs.Drops.{asked_at-without_client}
use Rattle.shared_disk.specs.Sectors.{written}
use Rattle.token_kind.specs.Hold.{lesser_of}
use Rattle.token_kind.specs.declared.«class».Class.{Class}
use Rattle.token_kind.specs.declared.flush.Flush.{Flush as FlushRecord}
use Rattle.token_kind.specs.declared.grant_item.GrantItem.{GrantItem}
use Rattle.token_kind.specs.declared.hold.Hold.{Hold}
use Rattle.token_kind.specs.declared.piece.Piece.{Piece as PieceRecord}
use Rattle.token_kind.specs.declared.release.Release.{Release as ReleaseRecord}
use Rattle.token_table.specs.Changes.{Drops as DropsIn, Sets}
use Rattle.token_table.specs.Series.{Same, lowered_token, put_last, with_hold, with_holds, with_lowered}
use Rattle.token_table.specs.Table.{Table, held_of, key_of, same_client}
use Rattle.token_table.specs.declared.hold_key.HoldKey.{HoldKey}
use Rattle.token_table.proofs.Drops.{hold_at-without_client}
use Rattle.token_table.proofs.Series.{sets_same}
use Rattle.tree_law.specs.declared.request.Request.{Request}
use Rattle.volume_edit.specs.Edit.{edited}
use Rattle.cluster_law.specs.Lanes.{Tells, Commits, Commit, Deed, Flushes, Purges, Lane}
use Rattle.cluster_law.specs.ServerState.{ServerState, after_act, answered, answered_all, doing, granted_token, hearing, last_flush, left_by, lowering, purging, reporting, table_in, taking, uses, without_holds}
use Rattle.server_book.specs.Alike.{Alike, AnswersAll}
use Rattle.server_book.proofs.Deciding.{flushes, used}
use Rattle.server_book.proofs.Fitting.{fits-used}
use Rattle.server_book.proofs.SameAsked.{answers, ask-answered-all}
use Rattle.server_book.proofs.SameTables.{same-dropped, same-holds, same-last, same-lowered, same-refl, same-trans}

-- a table after one hold was lowered is the law's
pub lowered-one : (old new : Table) (c : ClientId) (ino : Ino) (cls : Class) (to : Hold) → Sets old new c ino cls (lesser_of (held_of old c ino cls) to) → Same new (with_hold old c (lowered_token old c ino (cls, to)))
lowered-one old new c ino cls to sets = sets_same old new old c (lowered_token old c ino (cls, to)) (same-refl old) sets

-- lowering a hold, and then others, is lowering all of them
pub lowers-first : (old mid new : Collecting) (c : ClientId) (ino : Ino) (cls : Class) (to : Hold) (items : List (Class × Hold))
    → Lowers old mid c ino cls to → Releases mid new c (record { ino = ino; items = items }) → Releases old new c (record { ino = ino; items = (cls, to) ∷ items })
lowers-first old mid new c ino cls to items one rest = record {
  rest = ap (λ (s : Collecting). record s { table = old.table }) rest.rest ∙ one.rest;
  table =
      same-trans new.table (with_lowered mid.table c ino items) (with_lowered old.table c ino ((cls, to) ∷ items)) rest.table
      (same-lowered mid.table (with_hold old.table c (lowered_token old.table c ino (cls, to))) c ino items (lowered-one old.table mid.table c ino cls to one.table));
}

-- nothing is lowered
pub lowers-none : (old : Collecting) (c : ClientId) (ino : Ino) → Releases old old c (record { ino = ino; items = [] })
lowers-none old c ino = record { rest = refl; table = same-refl old.table }

-- a hold is answered, and then others: all of them are
pub answers-first : (t : Table) (c : ClientId) (ino : Ino) (item : Class × Hold) (items : List (Class × Hold)) (old mid new : List (HoldKey × Hold))
    → Answers old mid (key_of c ino item.0) (held_of t c ino item.0) → AnswersAll t c ino items mid new → AnswersAll t c ino (item ∷ items) old new
unfolding answered_all
answers-first t c ino item items old mid new one rest q =
    rest q ∙ ask-answered-all t t c ino items mid (answered old (key_of c ino item.0) (held_of t c ino item.0)) (same-refl t)
    (λ p. one p ∙ sym (answers old (key_of c ino item.0) (held_of t c ino item.0) p)) q

pub answers-none : (t : Table) (c : ClientId) (ino : Ino) (old : List (HoldKey × Hold)) → AnswersAll t c ino [] old old
unfolding answered_all
answers-none t c ino old q = refl

-- a table without a client's holds is the law's
pub dropped-holds : (old new : Table) (c : ClientId) → DropsIn old new c → Same new (without_holds old c)
dropped-holds old new c drops = record {
  holds = λ q. drops.holds q.client q.ino q.«class» ∙ sym (hold_at-without_client c old.holds q);
  order = drops.order;
}

module _ (s law : ServerState) (alike : Alike s law) (new : Collecting) where
  -- where clients stand beside any table
  stays : (t : Table) → record new { table = table_in s } ≡ s.collecting → record new { table = t } ≡ record law.collecting { table = t }
  stays t rest = ap (λ (x : Collecting). record x { table = t }) rest ∙ ap (λ (x : Collecting). record x { table = t }) alike.standing

  stands : (t : Table) (client : ClientId) (standing : Reporting) → record new { table = table_in s } ≡ with_standing s.collecting client standing
      → record new { table = t } ≡ record (with_standing law.collecting client standing) { table = t }
  stands t client standing rest =
      ap (λ (x : Collecting). record x { table = t }) rest ∙ ap (λ (x : Collecting). record (with_standing x client standing) { table = t }) alike.standing

  -- a message that is used is taken
  heard : (client : ClientId) (message : Message) (a : ServerState) → uses s client message ≡ true → Alike a (taking law client message) → Alike a (hearing law client message)
  unfolding hearing
  heard client message a e taken =
      subst (λ (b : Bool). Alike a (if b then taking law client message else law)) (sym (sym (used s law alike client message) ∙ e)) taken

  -- a piece is taken
  pub takes : (client : ClientId) (piece : PieceRecord) → Fits s.collecting client piece (last_flush s client) → Takes s.collecting new client piece (last_flush s client)
      → Alike (record s { collecting = new }) (hearing law client (Piece piece))
  takes client piece fits took =
      heard client (Piece piece) (record s { collecting = new }) (fits-used s client piece fits)
      (record {
        standing = stands (table_in (reporting law client piece)) client (after_piece piece) took.standing;
        table =
            same-trans new.table (with_holds (put_last (table_in s) client) client (map (judged (last_flush s client)) piece.holds)) (table_in (reporting law client piece)) took.table
            (subst (λ n. Same (with_holds (put_last (table_in s) client) client (map (judged (last_flush s client)) piece.holds)) (with_holds (put_last (table_in law) client) client (map (judged n) piece.holds))) (flushes s law alike client)
            (same-holds (put_last (table_in s) client) (put_last (table_in law) client) client (map (judged (last_flush s client)) piece.holds) (same-last (table_in s) (table_in law) client alike.table)));
        requests = alike.requests;
        asked = alike.asked;
        volume = alike.volume;
        sectors = alike.sectors;
      })

  -- holds are lowered, and answered
  lowers : (client : ClientId) (ino : Ino) (items : List (Class × Hold)) (asked : List (HoldKey × Hold)) → Releases s.collecting new client (record { ino = ino; items = items })
      → AnswersAll new.table client ino items s.asked asked → Alike (record s { collecting = new; asked = asked }) (lowering law client ino items)
  lowers client ino items asked released answer =
      let table : Same new.table (with_lowered (table_in law) client ino items) =
      same-trans new.table (with_lowered (table_in s) client ino items) (with_lowered (table_in law) client ino items) released.table (same-lowered (table_in s) (table_in law) client ino items alike.table) in
      record {
        standing = stays (table_in (lowering law client ino items)) released.rest;
        table = table;
        requests = alike.requests;
        asked = λ q. answer q ∙ ask-answered-all new.table (with_lowered (table_in law) client ino items) client ino items s.asked law.asked table alike.asked q;
        volume = alike.volume;
        sectors = alike.sectors;
      }

  pub releases : (client : ClientId) (release : ReleaseRecord) (asked : List (HoldKey × Hold)) → Releases s.collecting new client release
      → AnswersAll new.table client release.ino release.items s.asked asked → Alike (record s { collecting = new; asked = asked }) (hearing law client (Release release))
  releases client release asked released answer =
      heard client (Release release) (record s { collecting = new; asked = asked }) refl (lowers client release.ino release.items asked released answer)

  -- a Grant is made
  pub grants : (lane : Lane) (number : ℕ) (items : List GrantItem) → Grants s.collecting new (record { 0 = lane.client }) (map granted_token items)
      → Alike (record s { collecting = new; requests = drop 1 s.requests }) (after_act law (Tells lane (Grant number items)))
  unfolding after_act
  grants lane number items granted = record {
    standing = stays (with_holds (table_in law) (record { 0 = lane.client }) (map granted_token items)) granted.rest;
    table =
        same-trans new.table (with_holds (table_in s) (record { 0 = lane.client }) (map granted_token items)) (with_holds (table_in law) (record { 0 = lane.client }) (map granted_token items)) granted.table
        (same-holds (table_in s) (table_in law) (record { 0 = lane.client }) (map granted_token items) alike.table);
    requests = ap (λ (rs : List Request). drop 1 rs) alike.requests;
    asked = alike.asked;
    volume = alike.volume;
    sectors = alike.sectors;
  }

  -- a deed is committed
  commits : (commit : Commit) (collecting : Collecting) (requests : List Request) (asked : List (HoldKey × Hold)) → Alike (record s { collecting = collecting; requests = requests; asked = asked }) (doing law commit.deed)
      → Alike (record { collecting = collecting; requests = requests; asked = asked; volume = edited s.volume commit.edit; sectors = written (written s.sectors commit.lays) commit.homes }) (after_act law (Commits commit))
  unfolding after_act
  commits commit collecting requests asked done = record {
    standing = done.standing;
    table = done.table;
    requests = done.requests;
    asked = done.asked;
    volume = ap (λ v. edited v commit.edit) alike.volume;
    sectors = ap (λ ss. written (written ss commit.lays) commit.homes) alike.sectors;
  }

  -- a flush
  pub flushed : (client : ℕ) (flush : FlushRecord) (commit : Commit) (asked : List (HoldKey × Hold)) → commit.deed ≡ Flushes client flush
      → Releases s.collecting new (record { 0 = client }) (record { ino = flush.ino; items = left_by flush }) → AnswersAll new.table (record { 0 = client }) flush.ino (left_by flush) s.asked asked
      → Alike (record { collecting = new; requests = s.requests; asked = asked; volume = edited s.volume commit.edit; sectors = written (written s.sectors commit.lays) commit.homes }) (after_act law (Commits commit))
  flushed client flush commit asked deed released answer =
      commits commit new s.requests asked
      (subst (λ (d : Deed). Alike (record s { collecting = new; asked = asked }) (doing law d)) (sym deed) (lowers (record { 0 = client }) flush.ino (left_by flush) asked released answer))

  -- a purge
  purged-in : (client : ClientId) (asked : List (HoldKey × Hold)) → PurgesIn s.collecting new client → AsksNothing s.asked asked client
      → Alike (record s { collecting = new; requests = without_client s.requests client; asked = asked }) (purging law client)
  purged-in client asked purge nothing = record {
    standing = stands (table_in (purging law client)) client Purged purge.standing;
    table =
        same-trans new.table (without_holds (table_in s) client) (without_holds (table_in law) client) (dropped-holds (table_in s) new.table client purge.table)
        (same-dropped (table_in s) (table_in law) client alike.table);
    requests = ap (λ rs. without_client rs client) alike.requests;
    asked = λ q. nothing q ∙ ap (λ (o : Option Hold). if same_client client q.client then None else o) (alike.asked q) ∙ sym (asked_at-without_client client law.asked q);
    volume = alike.volume;
    sectors = alike.sectors;
  }

  pub purged : (client : ℕ) (commit : Commit) (asked : List (HoldKey × Hold)) → commit.deed ≡ Purges client → PurgesIn s.collecting new (record { 0 = client }) → AsksNothing s.asked asked (record { 0 = client })
      → Alike (record { collecting = new; requests = without_client s.requests (record { 0 = client }); asked = asked; volume = edited s.volume commit.edit; sectors = written (written s.sectors commit.lays) commit.homes }) (after_act law (Commits commit))
  purged client commit asked deed purge nothing =
      commits commit new (without_client s.requests (record { 0 = client })) asked
      (subst (λ (d : Deed). Alike (record s { collecting = new; requests = without_client s.requests (record { 0 = client }); asked = asked }) (doing law d)) (sym deed) (purged-in (record { 0 = client }) asked purge nothing))
