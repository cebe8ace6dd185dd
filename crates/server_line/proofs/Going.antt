-- What stays as the service of a line goes on, act by act.
use Rattle.std.proofs.Common.{◌≡◌, ◌++◌, ◌∷◌, ◌&&◌, [], ℕ, nat_eq, List, Bool, true, false, Option, drop, if◌then◌else◌, refl, sym, ap, subst, ◌∙◌, arith}
use Rattle.std.proofs.lemmas.List.{append-nil, append_assoc}
use Rattle.cal_base.specs.declared.identity.ClientId.{ClientId}
use Rattle.message.specs.declared.message.Message.{Message}
use Rattle.message.specs.declared.message.Message.TheVariants.{Acquire, Grant, Refuse, Change, Done, Flush, Flushed, Revoke as Asks, Release, Ask, Piece, Wait, Admit}
use Rattle.rebuild.specs.Collecting.{Collecting}
use Rattle.revocation.specs.Waiting.{asked_at}
use Rattle.token_kind.specs.declared.block.Block.{Block}
use Rattle.token_kind.specs.declared.revoke.Revoke.{Revoke}
use Rattle.token_table.specs.declared.hold_key.HoldKey.{HoldKey}
use Rattle.volume.specs.Volume.{Volume}
use Rattle.cluster_law.specs.Asking.{is_admit, is_flushed, is_wait, was_told}
use Rattle.cluster_law.specs.DiskRules.{ReadsNothing}
use Rattle.cluster_law.specs.Lanes as law
use Rattle.cluster_law.specs.Removing.{has_removed}
use Rattle.cluster_law.specs.ServerRules.{ActsWell, Occasion}
use Rattle.cluster_law.specs.ServerState.{ServerState, telling}
use Rattle.server_book.specs.Alike.{Alike, revoking}
use Rattle.server_book.proofs.Keeping.{act-keeps}
use Rattle.server_book.proofs.Moving.{alike-refl}
use Rattle.server_desk.specs.Desk.{with_desk}
use Rattle.server_draft.specs.Acts.{act_of, acts_of, told_to}
use Rattle.server_draft.specs.Draft.{Follows, reached}
use Rattle.server_draft.specs.declared.act.Act.{Act}
use Rattle.server_draft.specs.declared.act.Act.TheVariants.{Tells}
use Rattle.server_draft.specs.declared.draft.Draft.{Draft}
use Rattle.server_line.specs.Known.{known}
use Rattle.server_line.specs.Served.{Goes, IsAnswer, Keeps, ReadNothing, Serves, TellsNoMore, revokes_for}
use Rattle.server_line.proofs.Counting.{grew-on, told-more}
use Rattle.server_line.proofs.Asked.{none-left-same}

-- what a draft knows is alike the law's server that it follows
pub alike-known : (view : ℕ) (o : Occasion) (start : ServerState) (draft : Draft) → Follows view o start draft → Alike (known draft (reached view start draft).sectors) (reached view start draft)
alike-known view o start draft f =
    subst (λ (v : Volume). Alike (with_desk draft.desk v (reached view start draft).sectors) (reached view start draft)) (sym f.volume) f.like

-- what is right in the server that a draft knows is right in the law's
pub well-reached : (view : ℕ) (o : Occasion) (start : ServerState) (draft : Draft) (act : law.Act) → Follows view o start draft
    → ActsWell o start (known draft (reached view start draft).sectors) (acts_of view draft.acts) act → ActsWell o start (reached view start draft) (acts_of view draft.acts) act
well-reached view o start draft act f well = act-keeps o start start (known draft (reached view start draft).sectors) (reached view start draft) (acts_of view draft.acts) act (alike-refl start) (alike-known view o start draft f) well

-- messages of which none is a Wait, a Flushed or an Admit
untold : (n c : ℕ) (test : Message → Bool) (message : Message) (before : List law.Act) → test message ≡ false
    → (if nat_eq n c && test message then true else was_told c test before) ≡ was_told c test before
untold n c test message before e = ap (λ (b : Bool). if nat_eq n c && b then true else was_told c test before) e ∙ by (nat_eq n c)
  where
    by : (b : Bool) → (if b && false then true else was_told c test before) ≡ was_told c test before
    by true = refl
    by false = refl

quiet : (view : ℕ) (client : ClientId) (message : Message) (c : ℕ) (before : List law.Act) → is_wait message ≡ false → is_flushed message ≡ false → is_admit message ≡ false → TellsNoMore c before (act_of view (Tells client message) ∷ before)
quiet view client message c before w f a = record {
  waits = untold client.0 c is_wait message before w;
  flushed = untold client.0 c is_flushed message before f;
  admits = untold client.0 c is_admit message before a;
}

pub answer-quiet : (view : ℕ) (client : ClientId) (message : Message) (c : ℕ) (before : List law.Act) → IsAnswer message → TellsNoMore c before (act_of view (Tells client message) ∷ before)
answer-quiet view client (Acquire number want) c before is = absurd is
answer-quiet view client (Grant number items) c before is = absurd is
answer-quiet view client (Refuse number free needed) c before is = quiet view client (Refuse number free needed) c before refl refl refl
answer-quiet view client (Change number call) c before is = absurd is
answer-quiet view client (Done number reply) c before is = quiet view client (Done number reply) c before refl refl refl
answer-quiet view client (Flush flush) c before is = absurd is
answer-quiet view client (Flushed number) c before is = absurd is
answer-quiet view client (Asks revoke) c before is = absurd is
answer-quiet view client (Release release) c before is = absurd is
answer-quiet view client Ask c before is = absurd is
answer-quiet view client (Piece piece) c before is = absurd is
answer-quiet view client (Wait number least) c before is = absurd is
answer-quiet view client Admit c before is = absurd is

pub answer-tells : (message : Message) → IsAnswer message → (server : ServerState) (client : ClientId) → record server { requests = drop 1 server.requests } ≡ telling server client message
answer-tells (Acquire number want) is server client = absurd is
answer-tells (Grant number items) is server client = absurd is
answer-tells (Refuse number free needed) is server client = refl
answer-tells (Change number call) is server client = absurd is
answer-tells (Done number reply) is server client = refl
answer-tells (Flush flush) is server client = absurd is
answer-tells (Flushed number) is server client = absurd is
answer-tells (Asks revoke) is server client = absurd is
answer-tells (Release release) is server client = absurd is
answer-tells Ask is server client = absurd is
answer-tells (Piece piece) is server client = absurd is
answer-tells (Wait number least) is server client = absurd is
answer-tells Admit is server client = absurd is

pub answer-reads : (message : Message) → IsAnswer message → (server : ServerState) (lane : law.Lane) → ReadsNothing server (law.Tells lane message)
answer-reads (Acquire number want) is server lane = absurd is
answer-reads (Grant number items) is server lane = absurd is
answer-reads (Refuse number free needed) is server lane = tt
answer-reads (Change number call) is server lane = absurd is
answer-reads (Done number reply) is server lane = tt
answer-reads (Flush flush) is server lane = absurd is
answer-reads (Flushed number) is server lane = absurd is
answer-reads (Asks revoke) is server lane = absurd is
answer-reads (Release release) is server lane = absurd is
answer-reads Ask is server lane = absurd is
answer-reads (Piece piece) is server lane = absurd is
answer-reads (Wait number least) is server lane = absurd is
answer-reads Admit is server lane = absurd is

pub grant-quiet : (view : ℕ) (client : ClientId) (number : ℕ) (items : List _) (c : ℕ) (before : List law.Act) → TellsNoMore c before (act_of view (Tells client (Grant number items)) ∷ before)
grant-quiet view client number items c before = quiet view client (Grant number items) c before refl refl refl

-- Revokes that are told
pub revokes-quiet : (view c : ℕ) (sents : List (ClientId × Revoke)) (before : List law.Act) → TellsNoMore c before (revoking view sents before)
unfolding revoking
revokes-quiet view c [] before = record { waits = refl; flushed = refl; admits = refl }
revokes-quiet view c (sent ∷ rest) before =
    let more = revokes-quiet view c rest (law.Tells (record { client = sent.0.0; view = view; way = law.Down }) (Asks sent.1) ∷ before) in
    record {
      waits = more.waits ∙ untold sent.0.0 c is_wait (Asks sent.1) before refl;
      flushed = more.flushed ∙ untold sent.0.0 c is_flushed (Asks sent.1) before refl;
      admits = more.admits ∙ untold sent.0.0 c is_admit (Asks sent.1) before refl;
    }

pub revokes-remove-nothing : (view : ℕ) (sents : List (ClientId × Revoke)) (before : List law.Act) → has_removed (revoking view sents before) ≡ has_removed before
unfolding revoking
revokes-remove-nothing view [] before = refl
revokes-remove-nothing view (sent ∷ rest) before = revokes-remove-nothing view rest (law.Tells (record { client = sent.0.0; view = view; way = law.Down }) (Asks sent.1) ∷ before)

pub revokes-read-nothing : (start : ServerState) (view : ℕ) (sents : List (ClientId × Revoke)) (before : List law.Act) → ReadNothing start before → ReadNothing start (revoking view sents before)
unfolding revoking
revokes-read-nothing start view [] before all = all
revokes-read-nothing start view (sent ∷ rest) before all = revokes-read-nothing start view rest (law.Tells (record { client = sent.0.0; view = view; way = law.Down }) (Asks sent.1) ∷ before) (all, tt)

-- one act is put behind others
pub keeps-one : (old new : Draft) (act : Act) → new.acts ≡ old.acts ++ act ∷ [] → ((view : ℕ) → acts_of view new.acts ≡ act_of view act ∷ acts_of view old.acts)
    → record new.desk.collecting { table = old.desk.collecting.table } ≡ old.desk.collecting → ((q : HoldKey) → asked_at new.desk.asked q ≡ asked_at old.desk.asked q)
    → ((view c : ℕ) (before : List law.Act) → TellsNoMore c before (act_of view act ∷ before)) → ((view : ℕ) (before : List law.Act) → has_removed (act_of view act ∷ before) ≡ has_removed before) → Keeps old new
keeps-one old new act grows acts standing asked told removed = record {
  grows = record { more = act ∷ []; is = grows };
  standing = standing;
  lower = none-left-same old.desk.asked new.desk.asked asked;
  told = λ view c. subst (λ (told : List law.Act). TellsNoMore c (acts_of view old.acts) told) (sym (acts view)) (told view c (acts_of view old.acts));
  removed = λ view. ap has_removed (acts view) ∙ removed view (acts_of view old.acts);
}

pub keeps-none : (draft : Draft) → Keeps draft draft
keeps-none draft = record {
  grows = record { more = []; is = sym (append-nil draft.acts) };
  standing = refl;
  lower = λ bs none. none;
  told = λ view c. record { waits = refl; flushed = refl; admits = refl };
  removed = λ view. refl;
}

pub keeps-more : (old mid new : Draft) → Keeps old mid → Keeps mid new → Keeps old new
keeps-more old mid new a b = record {
  grows = record { more = a.grows.more ++ b.grows.more; is = b.grows.is ∙ ap (λ (l : List Act). l ++ b.grows.more) a.grows.is ∙ append_assoc old.acts a.grows.more b.grows.more };
  standing = ap (λ (s : Collecting). record s { table = old.desk.collecting.table }) b.standing ∙ a.standing;
  lower = λ bs none. b.lower bs (a.lower bs none);
  told = λ view c. record {
    waits = (b.told view c).waits ∙ (a.told view c).waits;
    flushed = (b.told view c).flushed ∙ (a.told view c).flushed;
    admits = (b.told view c).admits ∙ (a.told view c).admits;
  };
  removed = λ view. b.removed view ∙ a.removed view;
}

module _ (Sees : ServerState → Type 0) (Other : Type 0) where
  pub goes-none : (draft : Draft) → Goes Sees Other draft draft
  goes-none draft = record { keeps = keeps-none draft; names = λ names. names; follows = λ view o start sees names f. f; unread = λ view o start sees other names f all. all }

  pub goes-more : (old mid new : Draft) → Goes Sees Other old mid → Goes Sees Other mid new → Goes Sees Other old new
  goes-more old mid new a b = record {
    keeps = keeps-more old mid new a.keeps b.keeps;
    names = λ names. b.names (a.names names);
    follows = λ view o start sees names f. b.follows view o start sees (a.names names) (a.follows view o start sees names f);
    unread = λ view o start sees other names f all. b.unread view o start sees other (a.names names) (a.follows view o start sees names f) (a.unread view o start sees other names f all);
  }

  -- what needs no sight of the disk goes on with it
  pub goes-blind : (old new : Draft) → Goes (λ start. Unit {0}) (Unit {0}) old new → Goes Sees Other old new
  goes-blind old new g = record {
    keeps = g.keeps;
    names = g.names;
    follows = λ view o start sees names f. g.follows view o start tt names f;
    unread = λ view o start sees other names f all. g.unread view o start tt tt names f all;
  }

  pub serves-blind : (old new : Draft) (named : Option Block) → Serves (λ start. Unit {0}) (Unit {0}) old new named → Serves Sees Other old new named
  serves-blind old new named s = record {
    goes = goes-blind old new s.goes;
    few = s.few;
    gone = s.gone;
    rests = λ view o start block is sees names f. s.rests view o start block is tt names f;
  }

  -- a head that is served after more was done
  pub serves-then : (old mid new : Draft) (named : Option Block) → Goes Sees Other old mid → mid.desk.requests ≡ old.desk.requests → ((to : ℕ) → told_to to mid.acts ≡ told_to to old.acts) → Serves Sees Other mid new named → Serves Sees Other old new named
  serves-then old mid new named g same untold s = record {
    goes = goes-more old mid new g s.goes;
    few = grew-on old mid new (revokes_for named) (told-more old mid 0 same (λ to. let told = untold to in omega arith)) s.few;
    gone = λ none. s.gone none ∙ ap (drop 1) same;
    rests = λ view o start block is sees names f. s.rests view o start block is sees (g.names names) (g.follows view o start sees names f);
  }
