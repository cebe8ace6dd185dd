-- A change that is carried out.
use Rattle.std.proofs.Common.{◌≡◌, ◌≤◌, ◌<◌, ◌+◌, ◌*◌, ◌++◌, ◌∷◌, ◌||◌, ◌⊎◌, inl, inr, [], ℕ, nat_lt, List, Bool, true, false, None, length, if◌then◌else◌, refl, sym, ap, subst, ◌∙◌, arith, rules}
use Rattle.cal_base.specs.declared.identity.ClientId.{ClientId}
use Rattle.cal_base.specs.declared.identity.Ino.{Ino}
use Rattle.image.specs.declared.plans.Planned.{Planned}
use Rattle.message.specs.declared.message.Message.TheVariants.{Done}
use Rattle.rebuild.specs.Collecting.{missing_of}
use Rattle.revocation.specs.Waiting.{asked_at}
use Rattle.cluster_law.specs.Lists.{first_of}
use Rattle.tree_law.specs.declared.reply.Reply.{Reply}
use Rattle.volume_plan.proofs.SlotNumbers.{number_is_kept}
use Rattle.token_kind.specs.declared.blocker.Blocker.{Blocker}
use Rattle.tree_law.specs.declared.call.Call.{Call}
use Rattle.tree_law.specs.declared.request.Asked.TheVariants.{Change as Alters}
use Rattle.volume.specs.Stands.{AreBlocksKept}
use Rattle.volume.specs.Volume.{Volume}
use Rattle.volume_edit.specs.Blocks.{TakesFree}
use Rattle.volume_edit.specs.Edit.{IsVolume, edited, slot_at}
use Rattle.volume_edit.specs.Homes.{AreHomes}
use Rattle.volume_edit.specs.declared.edit.Edit.{Edit}
use Rattle.volume_plan.specs.Plans.{Plan, free_count}
use Rattle.volume_names.proofs.Plans.{plan_named}
use Rattle.volume_space.proofs.Planning.{plan_takes_needed}
use Rattle.cluster_law.specs.Blocking as law
use Rattle.cluster_law.specs.Lanes as lanes
use Rattle.cluster_law.specs.Removing.{has_removed, is_removing}
use Rattle.cluster_law.specs.ServerRules.{ActsWell, Occasion}
use Rattle.cluster_law.specs.ServerState.{ServerState, after_act, as_request, doing, table_in}
use Rattle.server_book.specs.Alike.{Alike}
use Rattle.server_book.proofs.Deciding.{reserve}
use Rattle.server_book.proofs.Moving.{acts-once}
use Rattle.server_desk.specs.Desk.{DeskValue, IsLike}
use Rattle.server_draft.specs.Acts.{act_of, acts_of, deed_of, told_to}
use Rattle.server_draft.specs.Draft.{Follows, HasSpace, reached}
use Rattle.server_draft.specs.declared.act.Act.TheVariants.{Commits, Tells}
use Rattle.server_draft.specs.declared.act.Commit.{Commit}
use Rattle.server_draft.specs.declared.act.Deed.{Deed}
use Rattle.server_draft.specs.declared.act.Deed.TheVariants.{Changes}
use Rattle.server_draft.specs.declared.draft.Draft.{Draft}
use Rattle.server_line.specs.Changed.{IsPlanned}
use Rattle.server_line.specs.Known.{HasHead, IsHead, known}
use Rattle.volume_names.specs.Named.{AreNamed}
use Rattle.server_line.specs.Served.{Goes, ReadNothing, Serves}
use Rattle.server_line.proofs.Changes.{admitted-known, done-well, kept-by, new-not-done}
use Rattle.server_line.proofs.Counting.{has-head}
use Rattle.server_line.proofs.Going.{alike-known, keeps-one, serves-then, well-reached}

-- alike servers keep as much
pub space-alike : (a b : ServerState) → Alike a b → HasSpace a → HasSpace b
space-alike a b alike space =
    let same = reserve a b alike in
    let free : free_count a.volume ≡ free_count b.volume = ap (λ (v : Volume). free_count v) alike.volume in
    let kept : law.reserved a ≤ free_count a.volume = space in
    let goal : law.reserved b ≤ free_count b.volume = omega arith in
    goal

-- where nothing blocks, there are as many blocks as are wanted beside those that are kept, or none is kept
pub enough : (server : ServerState) (wanted : ℕ) (holds : List Blocker) → law.or_space server wanted holds ≡ [] → (wanted + law.reserved server ≤ free_count server.volume) ⊎ ((table_in server).writes ≡ [])
enough server wanted (b ∷ bs) e = absurd (cc)
enough server wanted [] e = by (nat_lt (free_count server.volume) (wanted + law.reserved server)) refl e
  where
    first : (ws : List (ClientId × Ino)) → law.first_write ws ≡ [] → ws ≡ []
    first [] f = refl
    first (w ∷ ws) f = absurd (cc)

    by : (b : Bool) → nat_lt (free_count server.volume) (wanted + law.reserved server) ≡ b → (if b then law.first_write (table_in server).writes else []) ≡ [] → (wanted + law.reserved server ≤ free_count server.volume) ⊎ ((table_in server).writes ≡ [])
    by true f g = inr (first (table_in server).writes g)
    by false f g = inl (search rules)

module _ (draft : Draft) (client : ClientId) (number : ℕ) (call : Call) (planned : Planned) (commit : Commit) (head : IsHead draft (as_request client number (Alters call)))
    (new : (slot_at draft.image.slots client.0).call < number) (is : IsPlanned draft client number call planned)
    (deed-is : commit.deed ≡ Changes (as_request client number (Alters call)) planned.plan.reply planned.plan.new_ino) (edit-is : commit.edit ≡ planned.plan.edit) (lays-are : commit.lays ≡ []) (homes-are : commit.homes ≡ planned.txn)
    (free : law.blocks (known draft []) (as_request client number (Alters call)) ≡ []) where
  abbrev at : List (List ℕ) → ServerState
  at sectors = known draft sectors

  -- there are blocks enough for the change
  needed-free : (law.planned (known draft []) client number call).needed + law.reserved (known draft []) ≤ free_count draft.image ⊎ (draft.desk.collecting.table.writes ≡ [])
  unfolding law.blocks
  needed-free =
      enough (known draft []) (law.planned (known draft []) client number call).needed (law.holds_for (known draft []) client number (Alters call))
      (ap (λ (n : ℕ). law.or_space (known draft []) n (law.holds_for (known draft []) client number (Alters call)))
      (sym (ap (λ (b : Bool). if b then 0 else (law.planned (known draft []) client number call).needed) (new-not-done number (slot_at draft.image.slots client.0).call new))) ∙ free)

  -- and so what is kept stays free
  pub space-left : AreBlocksKept draft.image → law.reserved (known draft []) ≤ free_count (edited draft.image commit.edit)
  space-left kept = by needed-free
    where
      takes : free_count draft.image ≤ free_count (edited draft.image commit.edit) + (law.planned (known draft []) client number call).needed
      takes =
          subst (λ (e : Edit). free_count draft.image ≤ free_count (edited draft.image e) + (law.planned (known draft []) client number call).needed) (sym (edit-is ∙ ap (λ (p : Plan). p.edit) is.plan_is))
          (plan_takes_needed draft.image client number call (law.opened_files (known draft [])) is.volume kept)

      by : (law.planned (known draft []) client number call).needed + law.reserved (known draft []) ≤ free_count draft.image ⊎ (draft.desk.collecting.table.writes ≡ []) → law.reserved (known draft []) ≤ free_count (edited draft.image commit.edit)
      by (inl le) = omega (arith, takes, le)
      by (inr none) = let zero-kept : law.reserved (known draft []) ≡ 0 = ap (λ (ws : List (ClientId × Ino)). 16 * length ws) none in omega (arith, zero-kept)

  -- the commit is as the law asks
  pub commit-well : (view : ℕ) (o : Occasion) (start : ServerState) → Follows view o start draft → ActsWell o start (known draft (reached view start draft).sectors) (acts_of view draft.acts) (act_of view (Commits commit))
  unfolding after_act law.blocks
  commit-well view o start f =
      subst (λ (d : Deed). ActsWell o start (known draft (reached view start draft).sectors) (acts_of view draft.acts) (lanes.Commits (record { deed = deed_of d; lays = commit.lays; edit = commit.edit; homes = commit.homes }))) (sym deed-is)
      (record {
        grants = tt;
        refuses = tt;
        commits = (
          record {
            call = call;
            admitted = admitted-known draft (reached view start draft).sectors head.admitted;
            head_is = head.head_is;
            call_is = refl;
            new = new;
            unblocked = free;
            reply_is = ap (λ (p : Plan). p.reply) is.plan_is;
            new_ino_is = ap (λ (p : Plan). p.new_ino) is.plan_is;
            edit_is = edit-is ∙ ap (λ (p : Plan). p.edit) is.plan_is;
            lays_none = lays-are;
          },
          subst (λ (homes : List (ℕ × List ℕ)). AreHomes draft.image commit.edit homes) (sym homes-are) (subst (λ (e : Edit). AreHomes draft.image e planned.txn) (sym edit-is) is.homes),
        );
        collects = tt;
        revokes = tt;
        removes = tt;
        reserve = λ admitted. space-left f.kept;
      })

  doing-is : (server : ServerState) → server ≡ doing server (deed_of commit.deed)
  doing-is server = sym (ap (λ (d : Deed). doing server (deed_of d)) deed-is)

  pub commit-goes : (after : Draft) → after ≡ record draft { image = edited draft.image commit.edit; acts = draft.acts ++ Commits commit ∷ [] }
      → ((view : ℕ) → acts_of view after.acts ≡ act_of view (Commits commit) ∷ acts_of view draft.acts)
      → ((view : ℕ) (o : Occasion) (start : ServerState) (before : Draft) → Follows view o start before → draft.image ≡ before.image → draft.acts ≡ before.acts
      → TakesFree before.image commit.edit → IsLike draft.desk (doing (reached view start before) (deed_of commit.deed)) → HasSpace (after_act (reached view start before) (act_of view (Commits commit)))
      → ActsWell o start (reached view start before) (acts_of view before.acts) (act_of view (Commits commit)) → Follows view o start after)
      → Goes (λ start. Unit {0}) (Unit {0}) draft after
  unfolding after_act
  commit-goes after so acts follows = record {
    keeps = keeps-one draft after (Commits commit) (ap (λ (d : Draft). d.acts) so) acts (ap (λ (d : Draft). record d.desk.collecting { table = draft.desk.collecting.table }) so) (λ q. ap (λ (d : Draft). asked_at d.desk.asked q) so)
        (λ view c before. record { waits = refl; flushed = refl; admits = refl })
        (λ view before. ap (λ (d : Deed). is_removing (deed_of d) || has_removed before) deed-is);
    names = λ names. subst (λ (v : Volume). AreNamed v) (sym (ap (λ (d : Draft). d.image) so)) (subst (λ (e : Edit). AreNamed (edited draft.image e)) (sym (edit-is ∙ ap (λ (p : Plan). p.edit) is.plan_is)) (plan_named draft.image client number call (law.opened_files (known draft [])) is.volume names));
    follows = λ view o start sees names f.
        follows view o start draft f refl refl
        (subst (λ (e : Edit). TakesFree draft.image e) (sym edit-is) (is.takes f.kept))
        (subst (λ (s : ServerState). IsLike draft.desk s) (doing-is (reached view start draft)) f.like)
        (space-alike (after_act (known draft (reached view start draft).sectors) (act_of view (Commits commit))) (after_act (reached view start draft) (act_of view (Commits commit)))
        (acts-once (known draft (reached view start draft).sectors) (reached view start draft) (alike-known view o start draft f) (act_of view (Commits commit)))
        (subst (λ (s : ServerState). law.reserved s ≤ free_count (edited draft.image commit.edit)) (doing-is (known draft (reached view start draft).sectors)) (space-left f.kept)))
        (well-reached view o start draft (act_of view (Commits commit)) f (commit-well view o start f));
    unread = λ view o start sees other names f all. subst (λ (told : List lanes.Act). ReadNothing start told) (sym (acts view)) (all, tt);
  }

-- after a commit its number stands in the slot
pub number-kept : (draft mid : Draft) (client : ClientId) (number : ℕ) (call : Call) → IsHead draft (as_request client number (Alters call)) → mid.image ≡ edited draft.image (law.planned (known draft []) client number call).edit → IsVolume draft.image
    → (slot_at mid.image.slots client.0).call ≡ number
number-kept draft mid client number call head is volume =
    ap (λ (v : Volume). (slot_at v.slots client.0).call) is
    ∙ (kept-by (slot_at (edited draft.image (law.planned (known draft []) client number call).edit).slots client.0) number (law.planned (known draft []) client number call).reply
    (number_is_kept draft.image client number call (law.opened_files (known draft [])) volume head.request_is.client)).0

-- and then the head, which still stands, is answered by it
pub carried : (old mid new : Draft) (client : ClientId) (number : ℕ) (call : Call) (reply : Reply) → IsHead old (as_request client number (Alters call)) → mid.desk ≡ old.desk → Goes (λ start. Unit {0}) (Unit {0}) old mid → ((to : ℕ) → told_to to mid.acts ≡ told_to to old.acts)
    → (slot_at mid.image.slots client.0).call ≡ number → reply ≡ (slot_at mid.image.slots client.0).reply
    → (HasHead mid → ((view : ℕ) (o : Occasion) (start : ServerState) → Follows view o start mid → ActsWell o start (known mid (reached view start mid).sectors) (acts_of view mid.acts) (act_of view (Tells client (Done number reply)))) → Serves (λ start. Unit {0}) (Unit {0}) mid new None)
    → Serves (λ start. Unit {0}) (Unit {0}) old new None
carried old mid new client number call reply head same goes untold called kept answers =
    serves-then (λ start. Unit {0}) (Unit {0}) old mid new None goes (ap (λ (d : DeskValue). d.requests) same) untold
    (answers (has-head mid (as_request client number (Alters call)) still) (done-well mid client number call reply still called (sym kept)))
  where
    still : IsHead mid (as_request client number (Alters call))
    still = record {
      admitted = ap (λ (d : DeskValue). missing_of d.collecting) same ∙ head.admitted;
      head_is = ap (λ (d : DeskValue). first_of d.requests) same ∙ head.head_is;
      request_is = head.request_is;
    }
