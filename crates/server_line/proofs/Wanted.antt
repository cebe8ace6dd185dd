-- The Acquire at the head of the line: granted, refused, or not read.
use Rattle.std.proofs.Common.{◌≡◌, ◌≢◌, ◌≤◌, ◌<◌, ◌+◌, ◌*◌, ◌++◌, ◌∷◌, ◌&&◌, ◌⊎◌, inl, inr, [], ℕ, nat_eq, nat_lt, List, Bool, true, false, not, Option, Some, None, drop, filter, length, if◌then◌else◌, refl, sym, ap, subst, ◌∙◌, arith, rules}
use Rattle.std.specs.List.{All, list_any}
use Rattle.std.specs.Prelude.{IsTrue}
use Rattle.std.proofs.lemmas.List.Elements.{filter_passes}
use Rattle.cal_base.specs.declared.identity.ClientId.{ClientId}
use Rattle.cal_base.specs.declared.identity.Ino.{Ino}
use Rattle.message.specs.declared.message.Message.TheVariants.{Grant as Gives, Refuse as Declines}
use Rattle.shared_disk.specs.Disk.{Disk}
use Rattle.token_kind.specs.declared.«class».Class.TheVariants.{Data}
use Rattle.token_kind.specs.declared.grant_item.GrantItem.{GrantItem}
use Rattle.token_kind.specs.declared.token.Token.{Token}
use Rattle.token_table.specs.Series.{with_holds}
use Rattle.token_table.specs.Table.{IsGrantable, Table}
use Rattle.tree_law.specs.declared.request.Asked.{Asked}
use Rattle.tree_law.specs.declared.request.Asked.TheVariants.{Want as Wants, Change as Alters}
use Rattle.tree_law.specs.declared.request.Request.{Request}
use Rattle.token_kind.specs.declared.block.Block.{Block}
use Rattle.tree_law.specs.declared.request.Want.{Want}
use Rattle.volume.specs.Volume.{Volume}
use Rattle.volume_edit.specs.Edit.{inode_at}
use Rattle.volume_plan.specs.Plans.{free_count}
use Rattle.cluster_law.specs.Blocking as law
use Rattle.cluster_law.specs.Book.{is_held}
use Rattle.cluster_law.specs.DiskRules.{ReadsNothing, reads_for, reads_for_request, would_read}
use Rattle.cluster_law.specs.Granting.{head}
use Rattle.cluster_law.specs.Lanes as lanes
use Rattle.cluster_law.specs.Lists.{is_empty}
use Rattle.cluster_law.specs.ServerRules.{ActsWell, Occasion}
use Rattle.cluster_law.specs.ServerState.{ServerState, after_act, as_request, granted_token, telling}
use Rattle.cluster_law.specs.Tokens.{same_class}
use Rattle.server_book.specs.Alike.{Alike}
use Rattle.server_book.proofs.Deciding.{blocked, head-same, held-same, lacks, short}
use Rattle.server_draft.specs.Acts.{act_of, acts_of, tells, told_to}
use Rattle.server_draft.specs.Draft.{Follows, HasSpace, reached}
use Rattle.server_draft.specs.declared.act.Act.TheVariants.{Tells}
use Rattle.server_draft.specs.declared.draft.Draft.{Draft}
use Rattle.server_line.specs.Blocked.{IsGap}
use Rattle.server_line.specs.Granted.{AreAnswers}
use Rattle.server_line.specs.Known.{IsHead, SeesOwn, known}
use Rattle.volume_names.specs.Named.{AreNamed}
use Rattle.server_line.specs.Served.{Keeps, ReadNothing, Serves, Stops}
use Rattle.server_line.specs.declared.stopping.ServeError.{ServeError}
use Rattle.server_line.specs.declared.stopping.ServeError.TheVariants.{OutOfMemory, Refused}
use Rattle.shared_disk.specs.declared.disk_refusal.DiskRefusal.{DiskRefusal}
use Rattle.server_line.specs.declared.needing.Gap.{Gap}
use Rattle.server_line.proofs.Changes.{admitted-known, space-known}
use Rattle.server_line.proofs.Committed.{enough}
use Rattle.server_line.proofs.Counting.{has-head, head-gone, one-more}
use Rattle.server_line.proofs.Firsts.{both-empty, empty-is}
use Rattle.server_line.proofs.Giving.{any-mapped, none-write, writes, writes-few}
use Rattle.server_line.proofs.Going.{alike-known}

-- the places of what is granted, and blocks enough for them
kept-enough : (table : Table) (client : ClientId) (tokens : List Token) (free : ℕ) → length (filter writes tokens) ≤ 1 → nat_lt free (if law.needs_write tokens then 16 else 0) ≡ false
    → ((if law.needs_write tokens then 16 else 0) + 16 * length table.writes ≤ free) ⊎ (table.writes ≡ []) → 16 * length (with_holds table client tokens).writes ≤ free
kept-enough table client tokens free one room enough' = by (law.needs_write tokens) refl room enough'
  where
    grown : length (with_holds table client tokens).writes ≤ length table.writes + length (filter writes tokens)
    grown = writes-few table client tokens

    by : (b : Bool) → law.needs_write tokens ≡ b → nat_lt free (if b then 16 else 0) ≡ false → ((if b then 16 else 0) + 16 * length table.writes ≤ free) ⊎ (table.writes ≡ []) → 16 * length (with_holds table client tokens).writes ≤ free
    by true e f (inl le) = let g = grown in omega arith
    by true e f (inr none) =
        let g = grown in
        let zero-kept : length table.writes ≡ 0 = ap (λ (ws : List (ClientId × Ino)). length ws) none in
        let enough : 16 ≤ free = search rules in
        omega arith
    by false e f (inl le) = let g = grown in let none-new = none-write tokens e in omega arith
    by false e f (inr none) =
        let g = grown in
        let none-new = none-write tokens e in
        let zero-kept : length table.writes ≡ 0 = ap (λ (ws : List (ClientId × Ino)). length ws) none in
        omega arith

-- reading is the same for alike servers
reads-same : (a b : ServerState) → Alike a b → (client : ClientId) → reads_for a client ≡ reads_for b client
reads-same a b alike client = λ i. λ need.
    same_class need.«class» Data && not (is_held (held-same a b alike client need.ino Data i)) && list_any (λ pointer. not (nat_eq pointer 0)) (inode_at (alike.volume i).inodes need.ino.0).blocks

-- and so is what the head would read
pub would-same : (a b : ServerState) → Alike a b → would_read a (head a) ≡ would_read b (head b)
would-same a b alike = ap (would_read a) (head-same a b alike) ∙ by (head b)
  where
    of-want : (client : ClientId) (number : ℕ) (want : Want) → reads_for_request a (as_request client number (Wants want)) (Wants want) ≡ reads_for_request b (as_request client number (Wants want)) (Wants want)
    of-want client number want = λ i.
        is_empty (blocked a b alike (as_request client number (Wants want)) i) && not (short a b alike (as_request client number (Wants want)) i) && list_any (reads-same a b alike client i) (lacks a b alike client want i)

    of-asked : (client : ClientId) (number : ℕ) (asked : Asked) → reads_for_request a (as_request client number asked) asked ≡ reads_for_request b (as_request client number asked) asked
    of-asked client number (Wants want) = of-want client number want
    of-asked client number (Alters call) = refl

    by : (o : Option Request) → would_read a o ≡ would_read b o
    by None = refl
    by (Some request) = of-asked request.client request.number request.asked

module _ (old : Draft) (client : ClientId) (number : ℕ) (gap : Gap) (want : Want)
    (at-head : IsHead old (as_request client number (Wants want))) (is-gap : (sectors : List (List ℕ)) → IsGap (known old sectors) client number want gap)
    (free : is_empty (gap.blockers.to_ask ++ gap.blockers.own) ≡ true) where
  unblocked : (sectors : List (List ℕ)) → law.blocks (known old sectors) (as_request client number (Wants want)) ≡ []
  unblocked sectors = (is-gap sectors).blocked.all ∙ empty-is (gap.blockers.to_ask ++ gap.blockers.own) free

  short-of : (sectors : List (List ℕ)) → law.lacks_space (known old sectors) (as_request client number (Wants want)) ≡ nat_lt (free_count old.image) gap.wanted
  short-of sectors = λ i. is_empty (unblocked sectors i) && nat_lt (free_count old.image) (sym (is-gap sectors).wanted_is i)

  enough-for : (gap.wanted + law.reserved (known old []) ≤ free_count old.image) ⊎ (old.desk.collecting.table.writes ≡ [])
  unfolding law.blocks
  enough-for = enough (known old []) gap.wanted (law.holds_for (known old []) client number (Wants want))
      (ap (λ (n : ℕ). law.or_space (known old []) n (law.holds_for (known old []) client number (Wants want))) (is-gap []).wanted_is ∙ unblocked [])

  -- a Refuse tells what is free and what is wanted
  pub refuse-well : nat_lt (free_count old.image) gap.wanted ≡ true → (free' : ℕ) → free' ≡ free_count old.image
      → (view : ℕ) (o : Occasion) (start : ServerState) → Follows view o start old → ActsWell o start (known old (reached view start old).sectors) (acts_of view old.acts) (act_of view (Tells client (Declines number free' gap.wanted)))
  unfolding after_act
  refuse-well less free' told view o start f = record {
    grants = tt;
    refuses = record {
      want = want;
      admitted = admitted-known old (reached view start old).sectors at-head.admitted;
      head_is = at-head.head_is;
      lacks = subst (λ (b : Bool). IsTrue b) (sym (short-of (reached view start old).sectors ∙ less)) refl;
      free_is = told;
      wanted_is = (is-gap (reached view start old).sectors).wanted_is;
    };
    commits = tt;
    collects = tt;
    revokes = tt;
    removes = tt;
    reserve = λ is. space-known view o start old f;
  }

  module _ (room : nat_lt (free_count old.image) gap.wanted ≡ false) where
    -- what can't be read would be read for the head
    pub would : list_any (reads_for (known old []) client) gap.lacking ≡ true → IsTrue (would_read (known old []) (head (known old [])))
    would some = subst (λ (o : Option Request). IsTrue (would_read (known old []) o)) (sym at-head.head_is)
        (subst (λ (b : Bool). IsTrue b) (sym (λ i. is_empty (unblocked [] i) && not ((short-of [] ∙ room) i) && list_any (reads_for (known old []) client) (sym (is-gap []).lacks i))) (subst (λ (b : Bool). IsTrue b) (sym some) refl))

    module _ (new : Draft) (seat : ℕ) (disk : Disk) (items : List GrantItem) (answers : AreAnswers old seat disk client gap.lacking items) where
      space : (sectors : List (List ℕ)) → HasSpace (telling (known old sectors) client (Gives number items))
      space sectors =
          subst (λ (ts : List Token). 16 * length (with_holds old.desk.collecting.table client ts).writes ≤ free_count old.image) (sym answers.tokens)
          (kept-enough old.desk.collecting.table client gap.lacking (free_count old.image) (is-gap []).needs.writes (subst (λ (n : ℕ). nat_lt (free_count old.image) n ≡ false) wanted-as room)
          (subst (λ (n : ℕ). (n + law.reserved (known old []) ≤ free_count old.image) ⊎ (old.desk.collecting.table.writes ≡ [])) wanted-as enough-for))
        where
          wanted-as : gap.wanted ≡ (if law.needs_write gap.lacking then 16 else 0)
          wanted-as = (is-gap []).wanted_is ∙ ap (λ (ts : List Token). if law.needs_write ts then 16 else 0) (sym (is-gap []).lacks)

      grant-well : (view : ℕ) (o : Occasion) (start : ServerState) → SeesOwn start seat disk → AreNamed old.image → Follows view o start old
          → ActsWell o start (known old (reached view start old).sectors) (acts_of view old.acts) (act_of view (Tells client (Gives number items)))
      unfolding after_act
      grant-well view o start sees names f = record {
        grants = record {
          want = want;
          admitted = admitted-known old (reached view start old).sectors at-head.admitted;
          head_is = at-head.head_is;
          unblocked = unblocked (reached view start old).sectors;
          room = short-of (reached view start old).sectors ∙ room;
          lacks = answers.tokens ∙ (is-gap (reached view start old).sectors).lacks;
          each = answers.each names view start sees;
        };
        refuses = tt;
        commits = tt;
        collects = tt;
        revokes = tt;
        removes = tt;
        reserve = λ is. space (reached view start old).sectors;
      }

      grant-unread : (view : ℕ) (o : Occasion) (start : ServerState) → disk.key ≢ seat → Follows view o start old → ReadsNothing (reached view start old) (act_of view (Tells client (Gives number items)))
      grant-unread view o start other f =
          any-mapped (reads_for (reached view start old) client) granted_token items
          ∙ ap (λ (ts : List Token). list_any (reads_for (reached view start old) client) ts) answers.tokens
          ∙ ap (λ (p : Token → Bool). list_any p gap.lacking) (sym (reads-same (known old (reached view start old).sectors) (reached view start old) (alike-known view o start old f) client))
          ∙ answers.unread other

      pub grant-serves : Keeps old new → new.image ≡ old.image → new.desk.requests ≡ drop 1 old.desk.requests
          → ((view : ℕ) → acts_of view new.acts ≡ act_of view (Tells client (Gives number items)) ∷ acts_of view old.acts)
          → ((view : ℕ) (o : Occasion) (start : ServerState) → Follows view o start old → HasSpace (telling (known old (reached view start old).sectors) client (Gives number items))
          → ActsWell o start (known old (reached view start old).sectors) (acts_of view old.acts) (act_of view (Tells client (Gives number items))) → Follows view o start new)
          → ((to : ℕ) → told_to to new.acts ≡ told_to to old.acts + tells to (Tells client (Gives number items)))
          → Serves (λ start. SeesOwn start seat disk) (disk.key ≢ seat) old new None
      grant-serves keeps image gone acts follows count = record {
        goes = record {
          keeps = keeps;
          names = λ names. subst (λ (v : Volume). AreNamed v) (sym image) names;
          follows = λ view o start sees names f. follows view o start f (space (reached view start old).sectors) (grant-well view o start sees names f);
          unread = λ view o start sees other names f all. subst (λ (told : List lanes.Act). ReadNothing start told) (sym (acts view)) (all, grant-unread view o start other f);
        };
        few = head-gone old new (has-head old (as_request client number (Wants want)) at-head) gone (one-more old.acts new.acts (Tells client (Gives number items)) count);
        gone = λ none. gone;
        rests = λ view o start block one. absurd (let no-block : ◌≡◌ {A = Option Block} None (Some block) = one in cc);
      }

-- where a block can't be read, nothing has changed, and the head would read it
pub stops-by : (old new : Draft) (error : ServeError) → ((why : DiskRefusal) → error ≡ Refused why → new ≡ old) → ((why : DiskRefusal) → error ≡ Refused why → IsTrue (would_read (known old []) (head (known old [])))) → Stops error old new
stops-by old new OutOfMemory same would = tt
stops-by old new (Refused why) same would = (same why refl, subst (λ (d : Draft). IsTrue (would_read (known d []) (head (known d [])))) (sym (same why refl)) (would why refl))

-- what is granted lacks
pub all-lack : (draft : Draft) (client : ClientId) (number : ℕ) (want : Want) (gap : Gap) → IsGap (known draft []) client number want gap → All (λ need. not (law.is_shown draft.desk.collecting.table client need) ≡ true) gap.lacking
all-lack draft client number want gap is =
    subst (λ (ts : List Token). All (λ need. not (law.is_shown draft.desk.collecting.table client need) ≡ true) ts) (sym is.lacks)
    (filter_passes (λ need. not (law.is_shown draft.desk.collecting.table client need)) (law.needed (known draft []) want))

pub all-grantable : (draft : Draft) (client : ClientId) (number : ℕ) (want : Want) (gap : Gap) → IsGap (known draft []) client number want gap → is_empty (gap.blockers.to_ask ++ gap.blockers.own) ≡ true → All (IsGrantable draft.desk.collecting.table client) gap.lacking
all-grantable draft client number want gap is free = is.grantable (both-empty gap.blockers.to_ask gap.blockers.own free).0

pub is-less : (free count wanted : ℕ) → free ≡ count → free < wanted → nat_lt count wanted ≡ true
is-less free count wanted same less = by (nat_lt count wanted) refl
  where
    by : (b : Bool) → nat_lt count wanted ≡ b → b ≡ true
    by true e = refl
    by false e = absurd (let le : wanted ≤ count = search rules in omega arith)

pub is-enough : (free count wanted : ℕ) → free ≡ count → wanted ≤ free → nat_lt count wanted ≡ false
is-enough free count wanted same enough' = by (nat_lt count wanted) refl
  where
    by : (b : Bool) → nat_lt count wanted ≡ b → b ≡ false
    by false e = refl
    by true e = absurd (let lt : count < wanted = search rules in omega arith)
