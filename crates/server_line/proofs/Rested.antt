-- A head that is blocked: what blocks it is asked, and the first of it named.
use Rattle.std.proofs.Common.{◌≡◌, ◌≤◌, ◌+◌, ◌++◌, ◌∷◌, inr, [], ℕ, List, false, Option, Some, None, IsTrue, count_by, map, if◌then◌else◌, refl, sym, ap, subst, ◌∙◌, true≢false}
use Rattle.std.specs.Option.{option_map}
use Rattle.std.specs.Prelude.{is_none}
use Rattle.cal_base.specs.Limits as limits
use Rattle.cal_base.specs.declared.identity.ClientId.{ClientId}
use Rattle.revocation.specs.Revokes.{AsksAll, revokes_of}
use Rattle.token_kind.specs.Hold.{conflict}
use Rattle.token_kind.specs.Token.{may_hold}
use Rattle.token_kind.specs.declared.block.Block.{Block}
use Rattle.token_kind.specs.declared.blocker.Blocker.{Blocker}
use Rattle.token_kind.specs.declared.«class».Class.TheVariants.{Data}
use Rattle.token_kind.specs.declared.hold.Hold.{Hold}
use Rattle.token_kind.specs.declared.revoke.Revoke.{Revoke}
use Rattle.token_table.specs.Series.{Same}
use Rattle.token_table.specs.Table.{IsTable, Table, is_data_write, is_held, key_of, same_write}
use Rattle.tree_law.specs.declared.request.Asked.{Asked}
use Rattle.tree_law.specs.declared.request.Request.{Request}
use Rattle.cluster_law.specs.Asking.{blocks_of}
use Rattle.cluster_law.specs.Blocking.{blocks}
use Rattle.cluster_law.specs.Granting.{head}
use Rattle.cluster_law.specs.Lanes as law
use Rattle.cluster_law.specs.Lists.{first_of, is_empty}
use Rattle.cluster_law.specs.Removing.{has_removed}
use Rattle.cluster_law.specs.ServerRules.{ActsWell, EachAct, IsBlocked, IsNamed, Occasion, Rests, block_by}
use Rattle.cluster_law.specs.ServerState.{ServerState, after_acts, as_request, is_admitted, table_in}
use Rattle.server_book.specs.Alike.{Alike, revoking}
use Rattle.server_book.proofs.Deciding.{admitted, blocked}
use Rattle.server_book.proofs.Heads.{head-told, steady-of}
use Rattle.server_book.proofs.Resting.{rests}
use Rattle.server_book.proofs.Revoking.{tells-alone}
use Rattle.server_book.proofs.Telling.{all-told, tell_all}
use Rattle.server_desk.specs.Desk.{DeskValue}
use Rattle.server_draft.specs.Acts.{acts_of, asked_back, told_to}
use Rattle.server_draft.specs.Draft.{Follows, reached}
use Rattle.server_draft.specs.declared.draft.Draft.{Draft}
use Rattle.server_line.specs.Blocked.{AreBlockers}
use Rattle.server_line.specs.Known.{IsHead, known}
use Rattle.volume.specs.Volume.{Volume}
use Rattle.volume_names.specs.Named.{AreNamed}
use Rattle.server_line.specs.Served.{GrewBy, ReadNothing, Serves, TellsNoMore, revokes_for}
use Rattle.server_line.specs.declared.resting.Blockers.{Blockers}
use Rattle.server_line.proofs.Asked.{none-left, revokes-same}
use Rattle.server_line.proofs.Counting.{told-more}
use Rattle.server_line.proofs.Going.{alike-known, revokes-quiet, revokes-read-nothing, revokes-remove-nothing}

-- what holds the same as a table is one
pub same-table : (t u : Table) → Same t u → IsTable t → IsTable u
same-table t u same table = record {
  apart = λ c d ino cls e. sym (λ i. conflict (same.holds (key_of c ino cls) i) (same.holds (key_of d ino cls) i)) ∙ table.apart c d ino cls e;
  listed = λ c ino. sym (ap (count_by (same_write (c, ino))) same.order) ∙ table.listed c ino ∙ ap (λ (h : Hold). if is_data_write Data h then 1 else 0) (same.holds (key_of c ino Data));
  within = λ c ino cls e. table.within c ino cls (ap (λ (h : Hold). is_held h) (same.holds (key_of c ino cls)) ∙ e);
  modes = λ c ino cls. sym (ap (λ (h : Hold). may_hold cls h) (same.holds (key_of c ino cls))) ∙ table.modes c ino cls;
}

-- in whatever sectors files are, the same blocks
pub blocks-anywhere : (draft : Draft) (request : Request) (sectors : List (List ℕ)) → blocks (known draft sectors) request ≡ blocks (known draft []) request
unfolding blocks
blocks-anywhere draft request sectors = refl

named-first : (request : Request) (bs : List Blocker) (named : Option Block) → is_empty bs ≡ false → named ≡ option_map (block_by request) (first_of bs) → IsBlocked request bs named
named-first request [] named e is = absurd (true≢false e)
named-first request (b ∷ bs) named e is = is

module _ (old : Draft) (client : ClientId) (number : ℕ) (asked : Asked) (blockers : Blockers)
    (at-head : IsHead old (as_request client number asked)) (are : AreBlockers (known old []) (as_request client number asked) blockers) (some : is_empty (blockers.to_ask ++ blockers.own) ≡ false)
    (view : ℕ) (o : Occasion) (start : ServerState) (f : Follows view o start old) where
  abbrev law-server : ServerState
  law-server = reached view start old

  abbrev request : Request
  request = as_request client number asked

  alike : Alike (known old law-server.sectors) law-server
  alike = alike-known view o start old f

  table-reached : IsTable (table_in law-server)
  table-reached = same-table old.desk.collecting.table (table_in law-server) alike.table are.table

  admitted-reached : IsTrue (is_admitted law-server)
  admitted-reached = subst IsTrue (admitted (known old law-server.sectors) law-server alike) (subst (λ (m : Option ClientId). IsTrue (is_none m)) (sym at-head.admitted) refl)

  head-reached : head law-server ≡ Some request
  head-reached = ap (λ (l : List Request). first_of l) (sym alike.requests) ∙ at-head.head_is

  blocks-reached : blocks law-server request ≡ blockers.to_ask ++ blockers.own
  blocks-reached = sym (blocked (known old law-server.sectors) law-server alike request) ∙ blocks-anywhere old request law-server.sectors ∙ are.all

  blocks-at-head : blocks_of law-server (head law-server) ≡ blockers.to_ask ++ blockers.own
  blocks-at-head = ap (blocks_of law-server) head-reached ∙ blocks-reached

  -- the Revokes for what may be asked are those for all that blocks
  sents : revokes_of law-server.asked (blocks_of law-server (head law-server)) ≡ revokes_of old.desk.asked blockers.to_ask
  sents = ap (revokes_of law-server.asked) blocks-at-head ∙ sym (revokes-same law-server.asked old.desk.asked alike.asked (blockers.to_ask ++ blockers.own)) ∙ are.asked

  pub told-well : EachAct start (ActsWell o start) (revoking view (revokes_of old.desk.asked blockers.to_ask) (acts_of view old.acts))
  told-well = subst (λ (l : List (ClientId × Revoke)). EachAct start (ActsWell o start) (revoking view l (acts_of view old.acts))) sents (head-told o start (acts_of view old.acts) view table-reached admitted-reached (λ is. f.space) f.well)

  abbrev end : ServerState
  end = after_acts start (revoking view (revokes_of law-server.asked (blocks_of law-server (head law-server))) (acts_of view old.acts))

  -- the first that blocks is named
  names : (named : Option Block) → named ≡ option_map (block_by request) (first_of (blockers.to_ask ++ blockers.own)) → IsNamed end (head end) named
  names named is =
      let ys = tell_all (revokes_of law-server.asked (blocks_of law-server (head law-server))) law-server.asked in
      let asking : ServerState = record law-server { asked = ys } in
      let still : blocks asking request ≡ blockers.to_ask ++ blockers.own =
      ap (blocks_of asking) (sym head-reached) ∙ steady-of law-server table-reached f.space (head law-server) ys (λ q. inr (all-told law-server.asked (blocks_of law-server (head law-server)) q)) ∙ blocks-at-head in
      subst (λ (s : ServerState). IsNamed s (head s) named) (sym (tells-alone start view (revokes_of law-server.asked (blocks_of law-server (head law-server))) (acts_of view old.acts)))
      (subst (λ (r : Option Request). IsNamed asking r named) (sym head-reached)
      (subst (λ (bs : List Blocker). IsBlocked request bs named) (sym still) (named-first request (blockers.to_ask ++ blockers.own) named some is)))

  pub rested : (named : Option Block) → named ≡ option_map (block_by request) (first_of (blockers.to_ask ++ blockers.own)) → Rests (after_acts start (revoking view (revokes_of old.desk.asked blockers.to_ask) (acts_of view old.acts))) named
  rested named is =
      subst (λ (l : List (ClientId × Revoke)). Rests (after_acts start (revoking view l (acts_of view old.acts))) named) sents
      (record { named_is = names named is; asked = rests start (acts_of view old.acts) view table-reached admitted-reached (λ is. f.space) })

some-named : (request : Request) (bs : List Blocker) (named : Option Block) → is_empty bs ≡ false → named ≡ option_map (block_by request) (first_of bs) → named ≡ None → ⊥
some-named request [] named e is none = true≢false e
some-named request (b ∷ bs) named e is none = let one : ◌≡◌ {A = Option Block} (Some (block_by request b)) None = sym is ∙ none in absurd (cc)

-- what blocks the head is asked back
pub rest-serves : (old new : Draft) (client : ClientId) (number : ℕ) (blockers : Blockers) (named : Option Block) (to_ask : List Blocker) → to_ask ≡ blockers.to_ask
    → AsksAll old.desk.asked new.desk.asked to_ask × (new.desk ≡ record old.desk { asked = new.desk.asked })
    → new.image ≡ old.image → new.acts ≡ old.acts ++ map asked_back (revokes_of old.desk.asked to_ask)
    → ((view : ℕ) → acts_of view new.acts ≡ revoking view (revokes_of old.desk.asked to_ask) (acts_of view old.acts))
    → ((view : ℕ) (o : Occasion) (start : ServerState) → Follows view o start old → EachAct start (ActsWell o start) (revoking view (revokes_of old.desk.asked to_ask) (acts_of view old.acts)) → Follows view o start new)
    → ((to : ℕ) → told_to to new.acts ≤ told_to to old.acts + limits.inodes)
    → ((asked : Asked) → named ≡ option_map (block_by (as_request client number asked)) (first_of (blockers.to_ask ++ blockers.own)))
    → (asked : Asked) → IsHead old (as_request client number asked) → AreBlockers (known old []) (as_request client number asked) blockers → is_empty (blockers.to_ask ++ blockers.own) ≡ false
    → Serves (λ start. Unit {0}) (Unit {0}) old new named
rest-serves old new client number blockers named to_ask is desk image grows acts follows few named-is asked at-head are some = record {
  goes = record {
    keeps = record {
      grows = record { more = map asked_back (revokes_of old.desk.asked to_ask); is = grows };
      standing = ap (λ (d : DeskValue). record d.collecting { table = old.desk.collecting.table }) desk.1;
      lower = none-left old.desk.asked new.desk.asked to_ask desk.0;
      told = λ view c. subst (λ (told : List law.Act). TellsNoMore c (acts_of view old.acts) told) (sym (acts view)) (revokes-quiet view c (revokes_of old.desk.asked to_ask) (acts_of view old.acts));
      removed = λ view. ap has_removed (acts view) ∙ revokes-remove-nothing view (revokes_of old.desk.asked to_ask) (acts_of view old.acts);
    };
    names = λ names. subst (λ (v : Volume). AreNamed v) (sym image) names;
    follows = λ view o start sees names f. follows view o start f
        (subst (λ (bs : List Blocker). EachAct start (ActsWell o start) (revoking view (revokes_of old.desk.asked bs) (acts_of view old.acts))) (sym is) (told-well old client number asked blockers at-head are some view o start f));
    unread = λ view o start sees other names f all.
        subst (λ (told : List law.Act). ReadNothing start told) (sym (acts view)) (revokes-read-nothing start view (revokes_of old.desk.asked to_ask) (acts_of view old.acts) all);
  };
  few = asked-few named refl;
  gone = λ none. absurd (some-named (as_request client number asked) (blockers.to_ask ++ blockers.own) named some (named-is asked) none);
  rests = λ view o start block one sees names f.
      subst (λ (told : List law.Act). Rests (after_acts start told) named) (sym (acts view))
      (subst (λ (bs : List Blocker). Rests (after_acts start (revoking view (revokes_of old.desk.asked bs) (acts_of view old.acts))) named) (sym is)
      (rested old client number asked blockers at-head are some view o start f named (named-is asked)));
}
  where
    asked-few : (n : Option Block) → named ≡ n → GrewBy (revokes_for n) old new
    asked-few None e = absurd (some-named (as_request client number asked) (blockers.to_ask ++ blockers.own) named some (named-is asked) e)
    asked-few (Some block) e = told-more old new limits.inodes (ap (λ (d : DeskValue). d.requests) desk.1) few
