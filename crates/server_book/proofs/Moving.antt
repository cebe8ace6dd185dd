-- Servers that are alike go on alike.
use Rattle.std.proofs.Common.{◌≡◌, ◌∷◌, [], List, Bool, true, false, drop, if◌then◌else◌, map, ap, refl, subst, sym, ◌∙◌}
use Rattle.cal_base.specs.declared.identity.ClientId.{ClientId}
use Rattle.cal_base.specs.declared.identity.Ino.{Ino}
use Rattle.message.specs.declared.message.Message.{Message}
use Rattle.message.specs.declared.message.Message.TheVariants.{Acquire, Grant, Refuse, Change, Done, Flush, Flushed, Revoke, Release, Ask, Piece, Wait, Admit}
use Rattle.rebuild.specs.Collecting.{Collecting, with_standing}
use Rattle.rebuild.specs.Reports.{after_piece, judged}
use Rattle.rebuild.specs.declared.reporting.Reporting.TheVariants.{Asked, Purged}
use Rattle.revocation.specs.Waiting.{queued, without_client}
use Rattle.shared_disk.specs.Sectors.{written}
use Rattle.token_kind.specs.declared.«class».Class.{Class}
use Rattle.token_kind.specs.declared.hold.Hold.{Hold}
use Rattle.token_kind.specs.declared.piece.Piece.{Piece as PieceRecord}
use Rattle.token_table.specs.Series.{Same, put_last, with_holds}
use Rattle.tree_law.specs.declared.request.Asked.TheVariants.{Want as Wants, Change as Alters}
use Rattle.tree_law.specs.declared.request.Request.{Request}
use Rattle.volume.specs.Volume.{Volume}
use Rattle.volume_edit.specs.Edit.{edited}
use Rattle.cluster_law.specs.Lanes.{Act, Mounts, Tells, Commits, Drops, Commit, Deed, Changes, Flushes, Purges, Reaps}
use Rattle.cluster_law.specs.ServerState.{ServerState, after_act, after_acts, arriving, as_request, booted, committing, doing, granted_token, hearing, is_admitted, last_flush, left_by, lowering, purging, reporting, table_in, taking, telling, uses, without_head}
use Rattle.server_book.specs.Alike.{Alike}
use Rattle.server_book.proofs.Deciding.{admitted, flushes, used}
use Rattle.server_book.proofs.SameAsked.{ask-answered-all, ask-dropped, ask-with}
use Rattle.server_book.proofs.SameTables.{same-dropped, same-holds, same-last, same-lowered, same-refl, same-sym, same-trans}

-- a server is alike itself, both ways, and alike what is alike one that is alike
pub alike-refl : (a : ServerState) → Alike a a
alike-refl a = record { standing = refl; table = same-refl (table_in a); requests = refl; asked = λ q. refl; volume = refl; sectors = refl }

pub alike-sym : (a b : ServerState) → Alike a b → Alike b a
alike-sym a b alike = record {
  standing = ap (λ (s : Collecting). record s { table = table_in a }) (sym alike.standing);
  table = same-sym (table_in a) (table_in b) alike.table;
  requests = sym alike.requests;
  asked = λ q. sym (alike.asked q);
  volume = sym alike.volume;
  sectors = sym alike.sectors;
}

pub alike-trans : (a b c : ServerState) → Alike a b → Alike b c → Alike a c
alike-trans a b c one two = record {
  standing = ap (λ (s : Collecting). record s { table = table_in c }) one.standing ∙ two.standing;
  table = same-trans (table_in a) (table_in b) (table_in c) one.table two.table;
  requests = one.requests ∙ two.requests;
  asked = λ q. one.asked q ∙ two.asked q;
  volume = one.volume ∙ two.volume;
  sectors = one.sectors ∙ two.sectors;
}

-- of two choices by tests that are the same
either : (p q : Bool) (a b c d : ServerState) → p ≡ q → Alike a b → Alike c d → Alike (if p then a else c) (if q then b else d)
either p q a b c d e one two = subst (λ (r : Bool). Alike (if p then a else c) (if r then b else d)) e (by p)
  where
    by : (r : Bool) → Alike (if r then a else c) (if r then b else d)
    by true = one
    by false = two

module _ (a b : ServerState) (alike : Alike a b) where
  -- holds are lowered
  pub lowers : (client : ClientId) (ino : Ino) (items : List (Class × Hold)) → Alike (lowering a client ino items) (lowering b client ino items)
  lowers client ino items =
      let table = same-lowered (table_in a) (table_in b) client ino items alike.table in
      record {
        standing = ap (λ (s : Collecting). record s { table = table_in (lowering b client ino items) }) alike.standing;
        table = table;
        requests = alike.requests;
        asked = ask-answered-all (table_in (lowering a client ino items)) (table_in (lowering b client ino items)) client ino items a.asked b.asked table alike.asked;
        volume = alike.volume;
        sectors = alike.sectors;
      }

  -- a request arrives
  pub arrives : (request : Request) → Alike (arriving a request) (arriving b request)
  arrives request =
      either (is_admitted a) (is_admitted b) (record a { requests = queued a.requests request }) (record b { requests = queued b.requests request }) a b (admitted a b alike)
      (record {
        standing = alike.standing;
        table = alike.table;
        requests = ap (λ rs. queued rs request) alike.requests;
        asked = alike.asked;
        volume = alike.volume;
        sectors = alike.sectors;
      }) alike

  -- a piece is taken
  pub reports : (client : ClientId) (piece : PieceRecord) → Alike (reporting a client piece) (reporting b client piece)
  reports client piece = record {
    standing = ap (λ (s : Collecting). record (with_standing s client (after_piece piece)) { table = table_in (reporting b client piece) }) alike.standing;
    table =
        subst (λ n. Same (table_in (reporting a client piece)) (with_holds (put_last (table_in b) client) client (map (judged n) piece.holds))) (flushes a b alike client)
        (same-holds (put_last (table_in a) client) (put_last (table_in b) client) client (map (judged (last_flush a client)) piece.holds) (same-last (table_in a) (table_in b) client alike.table));
    requests = alike.requests;
    asked = alike.asked;
    volume = alike.volume;
    sectors = alike.sectors;
  }

  takes : (client : ClientId) (message : Message) → Alike (taking a client message) (taking b client message)
  takes client (Acquire number want) = arrives (as_request client number (Wants want))
  takes client (Grant number items) = alike
  takes client (Refuse number free needed) = alike
  takes client (Change number call) = arrives (as_request client number (Alters call))
  takes client (Done number reply) = alike
  takes client (Flush flush) = alike
  takes client (Flushed number) = alike
  takes client (Revoke revoke) = alike
  takes client (Release release) = lowers client release.ino release.items
  takes client Ask = alike
  takes client (Piece piece) = reports client piece
  takes client (Wait number least) = alike
  takes client Admit = alike

  pub hears : (client : ClientId) (message : Message) → Alike (hearing a client message) (hearing b client message)
  unfolding hearing
  hears client message = either (uses a client message) (uses b client message) (taking a client message) (taking b client message) a b (used a b alike client message) (takes client message) alike

  -- a message is made
  pub drops-head : Alike (without_head a) (without_head b)
  drops-head = record {
    standing = alike.standing;
    table = alike.table;
    requests = ap (λ (rs : List Request). drop 1 rs) alike.requests;
    asked = alike.asked;
    volume = alike.volume;
    sectors = alike.sectors;
  }

  pub tells : (client : ClientId) (message : Message) → Alike (telling a client message) (telling b client message)
  tells client (Acquire number want) = alike
  tells client (Grant number items) = record {
    standing = ap (λ (s : Collecting). record s { table = with_holds (table_in b) client (map granted_token items) }) alike.standing;
    table = same-holds (table_in a) (table_in b) client (map granted_token items) alike.table;
    requests = ap (λ (rs : List Request). drop 1 rs) alike.requests;
    asked = alike.asked;
    volume = alike.volume;
    sectors = alike.sectors;
  }
  tells client (Refuse number free needed) = drops-head
  tells client (Change number call) = alike
  tells client (Done number reply) = drops-head
  tells client (Flush flush) = alike
  tells client (Flushed number) = alike
  tells client (Revoke revoke) = record {
    standing = alike.standing;
    table = alike.table;
    requests = alike.requests;
    asked = ask-with client revoke.ino revoke.items a.asked b.asked alike.asked;
    volume = alike.volume;
    sectors = alike.sectors;
  }
  tells client (Release release) = alike
  tells client Ask = record {
    standing = ap (λ (s : Collecting). with_standing s client (Asked 0)) alike.standing;
    table = alike.table;
    requests = alike.requests;
    asked = alike.asked;
    volume = alike.volume;
    sectors = alike.sectors;
  }
  tells client (Piece piece) = alike
  tells client (Wait number least) = alike
  tells client Admit = alike

  -- a deed is committed
  pub purges : (client : ClientId) → Alike (purging a client) (purging b client)
  purges client = record {
    standing = ap (λ (s : Collecting). record (with_standing s client Purged) { table = table_in (purging b client) }) alike.standing;
    table = same-dropped (table_in a) (table_in b) client alike.table;
    requests = ap (λ rs. without_client rs client) alike.requests;
    asked = ask-dropped a.asked b.asked client alike.asked;
    volume = alike.volume;
    sectors = alike.sectors;
  }

  does : (deed : Deed) → Alike (doing a deed) (doing b deed)
  does (Changes request reply new_ino) = alike
  does (Flushes client flush) = lowers (record { 0 = client }) flush.ino (left_by flush)
  does (Purges client) = purges (record { 0 = client })
  does (Reaps ino) = alike

  pub commits : (commit : Commit) → Alike (committing a commit) (committing b commit)
  commits commit =
      let done = does commit.deed in
      record {
        standing = done.standing;
        table = done.table;
        requests = done.requests;
        asked = done.asked;
        volume = ap (λ v. edited v commit.edit) alike.volume;
        sectors = ap (λ ss. written (written ss commit.lays) commit.homes) alike.sectors;
      }

  boots : (volume : Volume) → Alike (booted a.collecting.window volume a.sectors) (booted b.collecting.window volume b.sectors)
  boots volume =
      subst (Alike (booted a.collecting.window volume a.sectors)) (λ i. booted (alike.standing i).window volume (alike.sectors i))
      (alike-refl (booted a.collecting.window volume a.sectors))

  pub acts-once : (act : Act) → Alike (after_act a act) (after_act b act)
  unfolding after_act
  acts-once (Mounts volume) = boots volume
  acts-once (Tells lane message) = tells (record { 0 = lane.client }) message
  acts-once (Commits commit) = commits commit
  acts-once Drops = drops-head

-- and so after some acts
pub acts-all : (a b : ServerState) (acts : List Act) → Alike a b → Alike (after_acts a acts) (after_acts b acts)
unfolding after_acts
acts-all a b [] alike = alike
acts-all a b (act ∷ before) alike = acts-once (after_acts a before) (after_acts b before) (acts-all a b before alike) act
