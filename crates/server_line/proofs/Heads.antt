-- The line is served head after head.
use Rattle.std.proofs.Common.{◌≡◌, ◌≢◌, ◌∷◌, [], ℕ, List, Bool, true, false, Option, Some, None, Err, IsTrue, refl, sym, ap, subst, ◌∙◌, arith}
use Rattle.std.specs.Prelude.{is_none, is_some, slice_get}
use Rattle.std.specs.List.{All}
use Rattle.std.proofs.lemmas.List.Elements.{All-head}
use Rattle.cal_base.specs.Limits as limits
use Rattle.cal_base.specs.declared.identity.ClientId.{ClientId}
use Rattle.rebuild.specs.Collecting.{Collecting, missing_of}
use Rattle.revocation.specs.Waiting.{IsRequest}
use Rattle.shared_disk.specs.Disk.{Disk}
use Rattle.token_kind.specs.declared.block.Block.{Block}
use Rattle.tree_law.specs.declared.request.Asked.{Asked}
use Rattle.tree_law.specs.declared.request.Request.{Request}
use Rattle.volume_names.specs.Named.{AreNamed}
use Rattle.cluster_law.specs.Asking.{blocks_of, next_revoke}
use Rattle.cluster_law.specs.Blocking as law
use Rattle.cluster_law.specs.DiskRules.{would_read}
use Rattle.cluster_law.specs.Granting.{head}
use Rattle.cluster_law.specs.Lists.{first_of}
use Rattle.cluster_law.specs.ServerRules.{IsNamed, LineRests, Occasion, Rests}
use Rattle.cluster_law.specs.ServerState.{ServerState, as_request, is_admitted}
use Rattle.server_book.proofs.Deciding.{admitted, head-same}
use Rattle.server_draft.specs.Draft.{Follows, reached}
use Rattle.server_draft.specs.declared.draft.Draft.{Draft}
use Rattle.server_line.specs.Known.{HasHead, IsHead, SeesOwn, known}
use Rattle.server_line.specs.Served.{Goes, GrewBy, Keeps, Serves, Stops, WouldRead}
use Rattle.server_line.specs.Stopping.{UnlessOom}
use Rattle.server_line.specs.declared.stopping.ServeError.{ServeError}
use Rattle.server_line.specs.declared.stopping.ServeError.TheVariants.{OutOfMemory, Refused}
use Rattle.server_line.proofs.Counting.{grew-most}
use Rattle.server_line.proofs.Going.{alike-known, goes-more}
use Rattle.server_line.proofs.Wanted.{would-same}

-- the head that waits
pub head-waits : (draft : Draft) (request : Request) → HasHead draft → Some request ≡ slice_get draft.desk.requests 0 → All IsRequest draft.desk.requests → IsHead draft request
head-waits draft request has is each = record { admitted = has.admitted; head_is = (by draft.desk.requests is each).0; request_is = (by draft.desk.requests is each).1 }
  where
    by : (rs : List Request) → Some request ≡ slice_get rs 0 → All IsRequest rs → (first_of rs ≡ Some request) × IsRequest request
    by [] e all = absurd (cc)
    by (r ∷ rs) e all =
        let one : request ≡ r = cc in
        (ap (λ (x : Request). Some x) (sym one), subst (λ (x : Request). IsRequest x) (sym one) (All-head IsRequest r rs all))

-- and as what it asks
pub head-as : (draft : Draft) (request : Request) (asked : Asked) → IsHead draft request → request.asked ≡ asked → IsHead draft (as_request request.client request.number asked)
head-as draft request asked head is = subst (λ (a : Asked). IsHead draft (as_request request.client request.number a)) is head

-- whom a server waits for is told without the table
missing-same : (old new : Draft) → Keeps old new → missing_of new.desk.collecting ≡ missing_of old.desk.collecting
missing-same old new keeps = ap (λ (s : Collecting). missing_of s) keeps.standing

admitted-reached : (view : ℕ) (o : Occasion) (start : ServerState) (draft : Draft) → Follows view o start draft → missing_of draft.desk.collecting ≡ None → is_admitted (reached view start draft) ≡ true
admitted-reached view o start draft f none =
    sym (admitted (known draft (reached view start draft).sectors) (reached view start draft) (alike-known view o start draft f)) ∙ ap (λ (m : Option ClientId). is_none m) none

-- in whatever sectors files are, the head would read the same
would-anywhere : (draft : Draft) (sectors : List (List ℕ)) → would_read (known draft []) (head (known draft [])) ≡ would_read (known draft sectors) (head (known draft sectors))
unfolding law.blocks
would-anywhere draft sectors = refl

-- a step of the loop, where the disk is as it was
pub serves-at : (at disk : Disk) (view : ℕ) (old new : Draft) (named : Option Block) → at ≡ disk → Serves (λ start. SeesOwn start view at) (at.key ≢ view) old new named → Serves (λ start. SeesOwn start view disk) (disk.key ≢ view) old new named
serves-at at disk view old new named same s = subst (λ (d : Disk). Serves (λ start. SeesOwn start view d) (d.key ≢ view) old new named) same s

module _ (disk : Disk) (seat : ℕ) (old mid : Draft) (went : Goes (λ start. SeesOwn start seat disk) (disk.key ≢ seat) old mid) where
  pub went-on : (new : Draft) (named : Option Block) → Serves (λ start. SeesOwn start seat disk) (disk.key ≢ seat) mid new named → Goes (λ start. SeesOwn start seat disk) (disk.key ≢ seat) old new
  went-on new named s = goes-more (λ start. SeesOwn start seat disk) (disk.key ≢ seat) old mid new went s.goes

  -- the head is blocked, and so the line rests
  pub rests-blocked : HasHead mid → (new : Draft) (block : Block) → Serves (λ start. SeesOwn start seat disk) (disk.key ≢ seat) mid new (Some block)
      → (view : ℕ) (o : Occasion) (start : ServerState) → SeesOwn start seat disk → AreNamed old.image → Follows view o start old → LineRests (is_admitted (reached view start new)) (reached view start new) (Some block)
  rests-blocked has new block s view o start sees names f =
      let f' = went.follows view o start sees names f in
      let f'' = s.goes.follows view o start sees (went.names names) f' in
      subst (λ (b : Bool). LineRests b (reached view start new) (Some block)) (sym (admitted-reached view o start new f'' (missing-same mid new s.goes.keeps ∙ has.admitted)))
      (s.rests view o start block refl sees (went.names names) f')

  -- no head is served any longer
  pub rests-unheaded : (HasHead mid → ⊥) → (view : ℕ) (o : Occasion) (start : ServerState) → SeesOwn start seat disk → AreNamed old.image → Follows view o start old → LineRests (is_admitted (reached view start mid)) (reached view start mid) None
  rests-unheaded none view o start sees names f =
      let f' = went.follows view o start sees names f in
      by f' (missing_of mid.desk.collecting) refl
    where
      at-end : Follows view o start mid → first_of mid.desk.requests ≡ None → Rests (reached view start mid) None
      at-end f' empty =
          let head-none : head (reached view start mid) ≡ None = sym (head-same (known mid (reached view start mid).sectors) (reached view start mid) (alike-known view o start mid f')) ∙ empty in
          record {
            named_is = subst (λ (r : Option Request). IsNamed (reached view start mid) r None) (sym head-none) refl;
            asked = ap (λ (r : Option Request). next_revoke (reached view start mid) (blocks_of (reached view start mid) r)) head-none;
          }

      no-head : missing_of mid.desk.collecting ≡ None → (r : Option Request) → first_of mid.desk.requests ≡ r → first_of mid.desk.requests ≡ None
      no-head e None g = g
      no-head e (Some request) g = absurd (none (record { admitted = e; waits = ap (λ (r : Option Request). is_some r) g }))

      by : Follows view o start mid → (m : Option ClientId) → missing_of mid.desk.collecting ≡ m → LineRests (is_admitted (reached view start mid)) (reached view start mid) None
      by f' None e = subst (λ (b : Bool). LineRests b (reached view start mid) None) (sym (admitted-reached view o start mid f' e)) (at-end f' (no-head e (first_of mid.desk.requests) refl))
      by f' (Some client) e =
          let waits : is_admitted (reached view start mid) ≡ false = sym (admitted (known mid (reached view start mid).sectors) (reached view start mid) (alike-known view o start mid f')) ∙ ap (λ (m : Option ClientId). is_none m) e in
          subst (λ (b : Bool). LineRests b (reached view start mid) None) (sym waits) refl

  -- a block couldn't be read
  pub stopped-goes : (new : Draft) (error : ServeError) → Stops error mid new → UnlessOom {T = Option Block} (Err error) (Goes (λ start. SeesOwn start seat disk) (disk.key ≢ seat) old new)
  stopped-goes new OutOfMemory stops = tt
  stopped-goes new (Refused why) stops = subst (λ (d : Draft). Goes (λ start. SeesOwn start seat disk) (disk.key ≢ seat) old d) (sym stops.0) went

  pub stopped-would : (new : Draft) (error : ServeError) → Stops error mid new → (view : ℕ) (o : Occasion) (start : ServerState) → SeesOwn start seat disk → AreNamed old.image → Follows view o start old → WouldRead error (reached view start new)
  stopped-would new OutOfMemory stops view o start sees names f = tt
  stopped-would new (Refused why) stops view o start sees names f =
      let f' = subst (λ (d : Draft). Follows view o start d) (sym stops.0) (went.follows view o start sees names f) in
      subst (λ (b : Bool). IsTrue b) (would-anywhere new (reached view start new).sectors ∙ would-same (known new (reached view start new).sectors) (reached view start new) (alike-known view o start new f')) stops.1

-- and then no more was told
pub stopped-few : (old mid new : Draft) (error : ServeError) → GrewBy 0 old mid → Stops error mid new → UnlessOom {T = Option Block} (Err error) (GrewBy limits.inodes old new)
stopped-few old mid new OutOfMemory few stops = tt
stopped-few old mid new (Refused why) few stops = subst (λ (d : Draft). GrewBy limits.inodes old d) (sym stops.0) (grew-most old mid 0 limits.inodes (omega arith) few)
