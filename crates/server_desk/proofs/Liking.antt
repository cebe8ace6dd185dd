-- A law's server that is like a desk goes on as the desk does.
use Rattle.std.proofs.Common.{◌≡◌, ◌↔◌, [], List, Bool, true, false, Option, Some, None, ℕ, IsTrue, drop, if◌then◌else◌, map, ap, refl, subst, sym, ◌∙◌}
use Rattle.cal_base.specs.declared.identity.ClientId.{ClientId}
use Rattle.cal_base.specs.declared.identity.Ino.{Ino}
use Rattle.message.specs.declared.message.Message.TheVariants.{Grant, Piece, Release}
use Rattle.rebuild.specs.Collecting.{Collecting, asking, is_unlisted, listing, none_listed, standing_of, with_standing}
use Rattle.rebuild.specs.Reports.{Fits, Grants, Purges as PurgesIn, Releases, Takes}
use Rattle.rebuild.specs.declared.reporting.Reporting.TheVariants.{Listed, Purged}
use Rattle.revocation.specs.Revokes.{AsksAll, revokes_of}
use Rattle.revocation.specs.Waiting.{AsksNothing, Waiting, asked_at, queued, without_client}
use Rattle.revocation.proofs.Drops.{asked_at-without_client}
use Rattle.token_kind.specs.declared.blocker.Blocker.{Blocker}
use Rattle.token_kind.specs.declared.«class».Class.{Class}
use Rattle.token_kind.specs.declared.grant_item.GrantItem.{GrantItem}
use Rattle.token_kind.specs.declared.hold.Hold.{Hold}
use Rattle.token_kind.specs.declared.piece.Piece.{Piece as PieceRecord}
use Rattle.token_kind.specs.declared.release.Release.{Release as ReleaseRecord}
use Rattle.token_kind.specs.declared.token.Token.{Token}
use Rattle.token_table.specs.Series.{Same}
use Rattle.token_table.specs.Table.{IsTable, Table, same_client}
use Rattle.token_table.specs.declared.hold_key.HoldKey.{HoldKey}
use Rattle.tree_law.specs.declared.request.Request.{Request}
use Rattle.volume.specs.Volume.{Volume}
use Rattle.cluster_law.specs.Lanes.{Act, Commit, Commits, Down}
use Rattle.cluster_law.specs.ServerState.{ServerState, after_act, after_acts, arriving, doing, empty_table, granted_token, hearing, is_admitted, last_flush, lowering, purging, serving, table_in, telling, uses, without_head, without_holds}
use Rattle.server_book.specs.Alike.{Alike, AnswersAll, revoking}
use Rattle.server_book.proofs.Bridging.{dropped-holds, grants, releases, takes}
use Rattle.server_book.proofs.Deciding.{used}
use Rattle.server_book.proofs.Fitting.{fits-where-used}
use Rattle.server_book.proofs.Revoking.{asks as asks-back}
use Rattle.server_book.proofs.SameTables.{same-dropped, same-refl, same-trans}
use Rattle.server_desk.specs.Desk.{DeskValue, IsLike, desk_of, with_asked, with_desk, with_listed}

-- whatever volume and sectors a desk stands beside, a server that is alike holds the same
pub like-of : (d : DeskValue) (v : Volume) (ss : List (List ℕ)) (law : ServerState) → Alike (with_desk d v ss) law → IsLike d law
like-of d v ss law alike = record { standing = alike.standing; table = alike.table; requests = alike.requests; asked = alike.asked; volume = refl; sectors = refl }

-- a new desk is like a server that starts
pub starts : (window : ℕ) (v : Volume) (ss : List (List ℕ)) → IsLike (record { collecting = record { window = window; standings = none_listed; table = empty_table }; requests = []; asked = [] }) (serving window v ss)
starts window v ss = record { standing = refl; table = same-refl empty_table; requests = refl; asked = λ q. refl; volume = refl; sectors = refl }

-- of a commit only the deed matters
pub commits : (d : DeskValue) (law : ServerState) (commit : Commit) → IsLike d (doing law commit.deed) → IsLike d (after_act law (Commits commit))
unfolding after_act
commits d law commit like = record { standing = like.standing; table = like.table; requests = like.requests; asked = like.asked; volume = refl; sectors = refl }

-- where clients stand is changed in both, by what leaves the table and doesn't look at it
turned : (f : Collecting → Collecting) → ((s : Collecting) (t : Table) → record (f s) { table = t } ≡ f (record s { table = t })) → (d : DeskValue) (law : ServerState) → IsLike d law
    → IsLike (record d { collecting = f d.collecting }) (record law { collecting = f law.collecting })
turned f apart d law like = record {
  standing =
      ap (λ (t : Table). record (f d.collecting) { table = t }) (sym (keeps law.collecting)) ∙ apart d.collecting (table_in law) ∙ ap f like.standing;
  table =
      subst (λ (t : Table). Same t (f law.collecting).table) (keeps d.collecting) (subst (λ (t : Table). Same d.collecting.table t) (keeps law.collecting) like.table);
  requests = like.requests;
  asked = like.asked;
  volume = refl;
  sectors = refl;
}
  where
    keeps : (s : Collecting) → s.table ≡ (f s).table
    keeps s = ap (λ (x : Collecting). x.table) (apart s s.table)

-- listing a client leaves the table
listing-apart : (client : ClientId) (s : Collecting) (t : Table) → record (listing s client) { table = t } ≡ listing (record s { table = t }) client
listing-apart client s t = by (is_unlisted (standing_of s client))
  where
    by : (b : Bool) → record (if b then with_standing s client Listed else s) { table = t } ≡ (if b then with_standing (record s { table = t }) client Listed else record s { table = t })
    by true = refl
    by false = refl

-- a client is listed
pub lists : (old : DeskValue) (client : ClientId) (law : ServerState) → IsLike old law → IsLike (record old { collecting = listing old.collecting client }) (with_listed law client)
lists old client law like = turned (λ s. listing s client) (listing-apart client) old law like

-- a client is asked to report, if there is one
pub asks : (old : DeskValue) (next : Option ClientId) (law : ServerState) → IsLike old law → IsLike (record old { collecting = asking old.collecting next }) (with_asked law next)
asks old None law like = like
asks old (Some client) law like = turned (λ s. asking s (Some client)) (λ s t. refl) old law like

-- a request arrives at an admitted server
pub arrives : (old : DeskValue) (request : Request) (law : ServerState) → IsLike old law → IsTrue (is_admitted law) → IsLike (record old { requests = queued old.requests request }) (arriving law request)
arrives old request law like admitted =
    subst (λ (b : Bool). IsLike (record old { requests = queued old.requests request }) (if b then record law { requests = queued law.requests request } else law)) (sym admitted)
    (record {
      standing = like.standing;
      table = like.table;
      requests = ap (λ (rs : List Request). queued rs request) like.requests;
      asked = like.asked;
      volume = refl;
      sectors = refl;
    })

-- the head goes
pub drops : (old : DeskValue) (law : ServerState) → IsLike old law → IsLike (record old { requests = drop 1 old.requests }) (without_head law)
drops old law like = record {
  standing = like.standing;
  table = like.table;
  requests = ap (λ (rs : List Request). drop 1 rs) like.requests;
  asked = like.asked;
  volume = refl;
  sectors = refl;
}

-- holds are lowered, and answered
lowered : (old : DeskValue) (new : DeskValue) (client : ClientId) (ino : Ino) (items : List (Class × Hold)) → Releases old.collecting new.collecting client (record { ino = ino; items = items })
    → AnswersAll new.collecting.table client ino items old.asked new.asked → new.requests ≡ old.requests → (law : ServerState) → IsLike old law → IsLike new (lowering law client ino items)
unfolding hearing
lowered old new client ino items released answer same law like =
    let alike = releases (with_desk old law.volume law.sectors) law like new.collecting client (record { ino = ino; items = items }) new.asked released answer in
    record {
      standing = alike.standing;
      table = alike.table;
      requests = same ∙ like.requests;
      asked = alike.asked;
      volume = refl;
      sectors = refl;
    }

-- the same, from what was collected and the line as they stood, where the table is looked up by another name
pub lowers : (old new : Collecting) (line after : Waiting) (client : ClientId) (ino : Ino) (items : List (Class × Hold)) (table : Table) → table ≡ new.table → Releases old new client (record { ino = ino; items = items })
    → AnswersAll table client ino items line.asked after.asked → after.requests ≡ line.requests
    → (desk : DeskValue) → desk_of old line ≡ desk → (law : ServerState) → IsLike desk law → IsLike (desk_of new after) (lowering law client ino items)
lowers old new line after client ino items table named released answer same desk is =
    subst (λ (d : DeskValue). (law : ServerState) → IsLike d law → IsLike (desk_of new after) (lowering law client ino items)) is
    (lowered (desk_of old line) (desk_of new after) client ino items released
    (subst (λ (t : Table). AnswersAll t client ino items line.asked after.asked) named answer) same)

-- what a client releases, and so its items
pub lets-go : (old new : Collecting) (line after : Waiting) (client : ClientId) (release : ReleaseRecord) (table : Table) (items : List (Class × Hold)) → table ≡ new.table → items ≡ release.items → Releases old new client release
    → AnswersAll table client release.ino items line.asked after.asked → after.requests ≡ line.requests
    → (desk : DeskValue) → desk_of old line ≡ desk → (law : ServerState) → IsLike desk law → IsLike (desk_of new after) (hearing law client (Release release))
unfolding hearing
lets-go old new line after client release table items named read released answer same desk is law like =
    lowers old new line after client release.ino release.items table named released
    (subst (λ (xs : List (Class × Hold)). AnswersAll table client release.ino xs line.asked after.asked) read answer) same desk is law like

-- a client is purged
purged : (old new : DeskValue) (client : ClientId) → PurgesIn old.collecting new.collecting client → new.requests ≡ without_client old.requests client → AsksNothing old.asked new.asked client
    → (law : ServerState) → IsLike old law → IsLike new (purging law client)
purged old new client purge same nothing law like = record {
  standing =
      ap (λ (x : Collecting). record x { table = without_holds (table_in law) client }) purge.standing
      ∙ ap (λ (x : Collecting). record (with_standing x client Purged) { table = without_holds (table_in law) client }) like.standing;
  table =
      same-trans new.collecting.table (without_holds old.collecting.table client) (without_holds (table_in law) client) (dropped-holds old.collecting.table new.collecting.table client purge.table)
      (same-dropped old.collecting.table (table_in law) client like.table);
  requests = same ∙ ap (λ (rs : List Request). without_client rs client) like.requests;
  asked = λ q. nothing q ∙ ap (λ (o : Option Hold). if same_client client q.client then None else o) (like.asked q) ∙ sym (asked_at-without_client client law.asked q);
  volume = refl;
  sectors = refl;
}

pub purges : (old new : Collecting) (line after : Waiting) (client : ClientId) → PurgesIn old new client → after.requests ≡ without_client line.requests client → AsksNothing line.asked after.asked client
    → (desk : DeskValue) → desk_of old line ≡ desk → (law : ServerState) → IsLike desk law → IsLike (desk_of new after) (purging law client)
purges old new line after client purge same nothing desk is =
    subst (λ (d : DeskValue). (law : ServerState) → IsLike d law → IsLike (desk_of new after) (purging law client)) is
    (purged (desk_of old line) (desk_of new after) client purge same nothing)

-- the client of the head is granted what it needs
granted : (old new : DeskValue) (client : ClientId) (tokens : List Token) → Grants old.collecting new.collecting client tokens → new.requests ≡ drop 1 old.requests → new.asked ≡ old.asked
    → (law : ServerState) (number : ℕ) (items : List GrantItem) → IsLike old law → map granted_token items ≡ tokens → IsLike new (telling law client (Grant number items))
unfolding after_act
granted old new client tokens given fewer same law number items like are =
    let alike =
    grants (with_desk old law.volume law.sectors) law like new.collecting (record { client = client.0; view = 0; way = Down }) number items
    (subst (λ (ts : List Token). Grants old.collecting new.collecting client ts) (sym are) given) in
    record {
      standing = alike.standing;
      table = alike.table;
      requests = fewer ∙ alike.requests;
      asked = λ q. ap (λ (asked : List (HoldKey × Hold)). asked_at asked q) same ∙ like.asked q;
      volume = refl;
      sectors = refl;
    }

pub gives : (old new : Collecting) (line after : Waiting) (client : ClientId) (tokens : List Token) → Grants old new client tokens → after ≡ record line { requests = drop 1 line.requests }
    → (desk : DeskValue) → desk_of old line ≡ desk
    → (law : ServerState) (number : ℕ) (items : List GrantItem) → IsLike desk law → map granted_token items ≡ tokens → IsLike (desk_of new after) (telling law client (Grant number items))
gives old new line after client tokens given fewer desk is =
    subst (λ (d : DeskValue). (law : ServerState) (number : ℕ) (items : List GrantItem) → IsLike d law → map granted_token items ≡ tokens → IsLike (desk_of new after) (telling law client (Grant number items))) is
    (granted (desk_of old line) (desk_of new after) client tokens given (ap (λ (w : Waiting). w.requests) fewer) (ap (λ (w : Waiting). w.asked) fewer))

-- a piece that fits is taken
reported : (old : DeskValue) (new : Collecting) (client : ClientId) (piece : PieceRecord) (flushed : ℕ) → Fits old.collecting client piece flushed → Takes old.collecting new client piece flushed
    → (law : ServerState) → IsLike old law → last_flush law client ≡ flushed → IsLike (record old { collecting = new }) (hearing law client (Piece piece))
reported old new client piece flushed fits took law like same =
    like-of (record old { collecting = new }) law.volume law.sectors (hearing law client (Piece piece))
    (takes (with_desk old law.volume law.sectors) law like new client piece
    (subst (λ (n : ℕ). Fits old.collecting client piece n) (sym same) fits)
    (subst (λ (n : ℕ). Takes old.collecting new client piece n) (sym same) took))

pub reports : (old new : Collecting) (line : Waiting) (client : ClientId) (piece : PieceRecord) (flushed : ℕ) (desk : DeskValue) → desk_of old line ≡ desk → Fits desk.collecting client piece flushed → Takes old new client piece flushed
    → (law : ServerState) → IsLike desk law → last_flush law client ≡ flushed → IsLike (desk_of new line) (hearing law client (Piece piece))
reports old new line client piece flushed desk is =
    subst (λ (d : DeskValue). Fits d.collecting client piece flushed → Takes old new client piece flushed
    → (law : ServerState) → IsLike d law → last_flush law client ≡ flushed → IsLike (desk_of new line) (hearing law client (Piece piece))) is
    (reported (desk_of old line) new client piece flushed)

-- a piece fits exactly where the law uses it
used-by : (old : DeskValue) (client : ClientId) (piece : PieceRecord) (flushed : ℕ) (answer : Bool) → IsTrue answer ↔ Fits old.collecting client piece flushed
    → (law : ServerState) → IsTable old.collecting.table → IsLike old law → last_flush law client ≡ flushed → IsTrue answer ↔ IsTrue (uses law client (Piece piece))
used-by old client piece flushed answer exact law table like same =
    let server = with_desk old law.volume law.sectors in
    let fitting = fits-where-used server client piece table in
    let alike = used server law like client (Piece piece) in
    (λ yes. subst (λ (b : Bool). IsTrue b) alike (fitting.1 (subst (λ (n : ℕ). Fits old.collecting client piece n) (sym same) (exact.0 yes))), λ uses'. exact.1 (subst (λ (n : ℕ). Fits old.collecting client piece n) same (fitting.0 (subst (λ (b : Bool). IsTrue b) (sym alike) uses'))))

pub fits-where-law-uses : (old : Collecting) (line : Waiting) (client : ClientId) (piece : PieceRecord) (flushed : ℕ) (answer : Bool) → IsTrue answer ↔ Fits old client piece flushed → (desk : DeskValue) → desk_of old line ≡ desk
    → (law : ServerState) → IsTable desk.collecting.table → IsLike desk law → last_flush law client ≡ flushed → IsTrue answer ↔ IsTrue (uses law client (Piece piece))
fits-where-law-uses old line client piece flushed answer exact desk is =
    subst (λ (d : DeskValue). (law : ServerState) → IsTable d.collecting.table → IsLike d law → last_flush law client ≡ flushed → IsTrue answer ↔ IsTrue (uses law client (Piece piece))) is
    (used-by (desk_of old line) client piece flushed answer exact)

-- what blocks is asked back
revoked : (old new : DeskValue) (blockers : List Blocker) → new.collecting ≡ old.collecting → new.requests ≡ old.requests → AsksAll old.asked new.asked blockers
    → (start : ServerState) (before : List Act) (view : ℕ) → IsLike old (after_acts start before) → IsLike new (after_acts start (revoking view (revokes_of old.asked blockers) before))
revoked old new blockers stays same all start before view like =
    let law = after_acts start before in
    let end = after_acts start (revoking view (revokes_of old.asked blockers) before) in
    let alike = asks-back (with_desk old law.volume law.sectors) start before view new.asked blockers like all in
    record {
      standing = ap (λ (s : Collecting). record s { table = table_in end }) stays ∙ alike.standing;
      table = subst (λ (s : Collecting). Same s.table (table_in end)) (sym stays) alike.table;
      requests = same ∙ alike.requests;
      asked = alike.asked;
      volume = refl;
      sectors = refl;
    }

pub revokes : (old : Collecting) (line after : Waiting) (blockers : List Blocker) → after.requests ≡ line.requests → AsksAll line.asked after.asked blockers
    → (desk : DeskValue) → desk_of old line ≡ desk
    → (start : ServerState) (before : List Act) (view : ℕ) → IsLike desk (after_acts start before) → IsLike (desk_of old after) (after_acts start (revoking view (revokes_of desk.asked blockers) before))
revokes old line after blockers same all desk is =
    subst (λ (d : DeskValue). (start : ServerState) (before : List Act) (view : ℕ) → IsLike d (after_acts start before) → IsLike (desk_of old after) (after_acts start (revoking view (revokes_of d.asked blockers) before))) is
    (revoked (desk_of old line) (desk_of old after) blockers refl same all)
