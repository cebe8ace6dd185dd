-- A step goes on from its first acts to its end.
use Rattle.std.proofs.Common.{arith, length, ◌≡◌, ◌≢◌, ◌≤◌, ◌+◌, ◌∷◌, [], ℕ, Err, List, Option, is_none, ap, sym, ◌∙◌}
use Rattle.cal_base.specs.Limits as limits
use Rattle.message.specs.declared.message.Message.TheVariants.{Ask, Admit}
use Rattle.rebuild.specs.Collecting.{missing_of}
use Rattle.revocation.specs.Revokes.{revokes_of}
use Rattle.shared_disk.specs.Disk.{Disk}
use Rattle.token_kind.specs.declared.block.Block.{Block}
use Rattle.token_kind.specs.declared.blocker.Blocker.{Blocker}
use Rattle.token_kind.specs.declared.hold.Hold.{Hold}
use Rattle.token_table.specs.declared.hold_key.HoldKey.{HoldKey}
use Rattle.cluster_law.specs.Removing.{due}
use Rattle.cluster_law.specs.ServerRules.{Collected, LineRests, Occasion}
use Rattle.cluster_law.specs.ServerState.{ServerState, is_admitted}
use Rattle.server_book.proofs.Deciding.{admitted}
use Rattle.server_desk.specs.Desk.{DeskValue, IsLike, with_desk}
use Rattle.server_draft.specs.Acts.{acts_of, told_to}
use Rattle.server_draft.specs.Draft.{Follows, TellsOnly, reached, told_or_waiting}
use Rattle.server_draft.specs.declared.draft.Draft.{Draft}
use Rattle.server_line.specs.Known.{SeesOwn}
use Rattle.server_line.specs.Served.{ReadNothing, TellsNoMore, WouldRead}
use Rattle.server_line.specs.declared.stopping.ServeError.{ServeError}
use Rattle.server_line.specs.declared.stopping.ServeError.TheVariants.{OutOfMemory, Refused}
use Rattle.server_line.specs.Stopping.{UnlessOom}
use Rattle.server_opening.specs.Opens.{Opens}
use Rattle.server_reports.specs.Reports.{AsksOnly}
use Rattle.server_turn.specs.Turn.{IsCollected, IsPlanned, MayBeRefused}
use Rattle.server_turn.specs.declared.planning.Planned.{Planned}
use Rattle.server_turn.proofs.Reading.{still-ungranted, ungranted-unread}
use Rattle.server_turn.proofs.Staying.{StaysFreed, StaysPurged, StaysTold, stays-asked, stays-collected, stays-removed, stays-taken}
use Rattle.tree_law.specs.declared.request.Request.{Request}
use Rattle.volume_names.specs.Named.{AreNamed}

-- a server is admitted where its desk misses nobody
pub was-admitted : (desk : DeskValue) (server : ServerState) → IsLike desk server → is_admitted server ≡ is_none (missing_of desk.collecting)
was-admitted desk server like = sym (admitted (with_desk desk server.volume server.sectors) server like)

-- a client is told little more than the requests that waited at the start of a step
pub collects-few : (n : ℕ) (opened draft : Draft) (to : ℕ) → AsksOnly opened draft → told_or_waiting to opened ≤ n + limits.inodes + 1 → told_to to draft.acts ≤ told_to to opened.acts + 2 → told_or_waiting to draft ≤ n + limits.inodes + 3
collects-few n opened draft to asks before more = by (length draft.desk.requests) (ap (λ (requests : List Request). length requests) asks.requests)
  where
    by : (waiting : ℕ) → waiting ≡ length opened.desk.requests → told_to to draft.acts + waiting ≤ n + limits.inodes + 3
    by waiting e = omega arith

module _ (view : ℕ) (o : Occasion) (start : ServerState) where
  -- what the first acts have done stays done as reports are collected
  pub collects : (opened draft : Draft) → Opens view o start opened → AsksOnly opened draft → TellsOnly (Ask ∷ Admit ∷ []) opened.acts draft.acts → Follows view o start draft → Collected o (reached view start draft) (acts_of view draft.acts)
      → StaysTold (acts_of view opened.acts) (acts_of view draft.acts) → StaysPurged (acts_of view opened.acts) (acts_of view draft.acts) → StaysFreed (acts_of view opened.acts) (acts_of view draft.acts)
      → IsCollected view o start draft
  collects opened draft opens asks tells follows collected told purged freed = record {
    follows = follows;
    taken = stays-taken start (acts_of view opened.acts) (acts_of view draft.acts) o.took told opens.taken;
    collected = collected;
    removed = λ tick. stays-removed start (reached view start opened) (reached view start draft) (acts_of view opened.acts) (acts_of view draft.acts) (due o.gone start) purged freed
        (stays-asked view o start opened draft opens.follows follows lower) (opens.removed tick);
    unread = ungranted-unread start (acts_of view draft.acts) (still-ungranted view opened.acts draft.acts tells opens.ungranted);
  }
    where
      lower : (blockers : List Blocker) → revokes_of opened.desk.asked blockers ≡ [] → revokes_of draft.desk.asked blockers ≡ []
      lower blockers none = ap (λ (asked : List (HoldKey × Hold)). revokes_of asked blockers) asks.asked ∙ none

  -- and as the line is served
  pub plans : (disk : Disk) (collected : Draft) (planned : Planned) → IsCollected view o start collected → Follows view o start planned.draft
      → record planned.draft.desk.collecting { table = collected.desk.collecting.table } ≡ collected.desk.collecting
      → ((blockers : List Blocker) → revokes_of collected.desk.asked blockers ≡ [] → revokes_of planned.draft.desk.asked blockers ≡ [])
      → ((client : ℕ) → TellsNoMore client (acts_of view collected.acts) (acts_of view planned.draft.acts))
      → LineRests (is_admitted (reached view start planned.draft)) (reached view start planned.draft) planned.head
      → StaysTold (acts_of view collected.acts) (acts_of view planned.draft.acts) → StaysPurged (acts_of view collected.acts) (acts_of view planned.draft.acts) → StaysFreed (acts_of view collected.acts) (acts_of view planned.draft.acts)
      → AreNamed planned.draft.image → (disk.key ≢ view → ReadNothing start (acts_of view collected.acts) → ReadNothing start (acts_of view planned.draft.acts))
      → IsPlanned view o start disk planned
  plans disk collected planned done follows standing lower tells rests told purged freed named unread = record {
    follows = follows;
    ends = record {
      taken = stays-taken start (acts_of view collected.acts) (acts_of view planned.draft.acts) o.took told done.taken;
      collected = stays-collected view o start collected planned.draft done.follows follows standing (λ client. (tells client).admits) done.collected;
      line = rests;
      removed = λ tick. stays-removed start (reached view start collected) (reached view start planned.draft) (acts_of view collected.acts) (acts_of view planned.draft.acts) (due o.gone start) purged freed
          (stays-asked view o start collected planned.draft done.follows follows lower) (done.removed tick);
    };
    named = named;
    unread = λ other. unread other done.unread;
  }

  -- where a block can't be read the draft follows all the same
  pub may-be-refused : (disk : Disk) (collected draft : Draft) (error : ServeError)
      → UnlessOom {T = Option Block} (Err error) ((seat : ℕ) (at : Occasion) (first : ServerState) → SeesOwn first view disk → AreNamed collected.image → Follows seat at first collected → Follows seat at first draft)
      → SeesOwn start view disk → AreNamed collected.image → Follows view o start collected → WouldRead error (reached view start draft) → MayBeRefused error view o start
  may-be-refused disk collected draft OutOfMemory follows sees named followed reads = tt
  may-be-refused disk collected draft (Refused why) follows sees named followed reads = record { acts = draft.acts; well = (follows view o start sees named followed).well; reads = reads }
