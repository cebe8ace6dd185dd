-- A flush is committed as the law asks.
use Rattle.std.proofs.Common.{◌≡◌, ◌<◌, ◌≤◌, ◌+◌, ◌∷◌, [], ℕ, true, List, All, length, ap, subst, sym, ◌∙◌, arith}
use Rattle.std.proofs.lemmas.List.Elements.{All-cons, All-nil}
use Rattle.std.proofs.lemmas.Option.{slice_get_within}
use Rattle.cal_base.specs.Limits as limits
use Rattle.cal_base.specs.declared.identity.ClientId.{ClientId}
use Rattle.message.specs.declared.message.Message.TheVariants.{Flush as FlushOf}
use Rattle.token_kind.specs.Flush.{IsFlush}
use Rattle.token_kind.specs.declared.flush.Flush.{Flush}
use Rattle.token_table.specs.Table.{IsTable}
use Rattle.volume.specs.Stands.{AreBlocksKept}
use Rattle.volume.specs.Volume.{Volume}
use Rattle.volume_edit.specs.Blocks.{GoToFree}
use Rattle.volume_edit.specs.Edit.{IsVolume, edited}
use Rattle.volume_edit.specs.Homes.{AreHomes}
use Rattle.volume_edit.specs.declared.edit.Edit.{Edit}
use Rattle.volume_plan.specs.Flushing.{blocks_for, data_writes, flush_of}
use Rattle.volume_plan.specs.Plans.{free_count}
use Rattle.cluster_law.specs.Blocking.{reserved}
use Rattle.cluster_law.specs.Granting.{Took}
use Rattle.cluster_law.specs.ServerRules.{ActsWell, Occasion}
use Rattle.cluster_law.specs.ServerState.{ServerState, after_act, left_by, lowering}
use Rattle.server_book.proofs.Moving.{alike-refl}
use Rattle.server_desk.specs.Desk.{DeskValue, IsLike, with_desk}
use Rattle.server_draft.specs.Acts.{act_of, acts_of}
use Rattle.server_draft.specs.Draft.{Follows, HasSpace, reached}
use Rattle.server_draft.specs.declared.act.Act.TheVariants.{Commits}
use Rattle.server_draft.specs.declared.act.Commit.{Commit}
use Rattle.server_draft.specs.declared.act.Deed.TheVariants.{Flushes}
use Rattle.server_draft.specs.declared.draft.Draft.{Draft}
use Rattle.server_flushes.specs.Flushes.{LowersOnly, knowing}
use Rattle.server_flushes.proofs.Readings.{MayCommit, law-last, law-uses-new}
use Rattle.server_flushes.proofs.Room.{room-left}

-- blocks that go to free blocks are laid into sectors of the disk
pub within-the-disk : (v : Volume) (writes : List (ℕ × List ℕ)) → length v.free ≡ limits.blocks → GoToFree v writes → All (λ lay. lay.0 < limits.sectors) writes
within-the-disk v [] map goes = All-nil (λ lay. lay.0 < limits.sectors)
within-the-disk v (write ∷ writes) map goes =
    let block = slice_get_within v.free goes.0.block true goes.0.free in
    let at = goes.0.sector in
    All-cons (λ lay. lay.0 < limits.sectors) write writes (omega arith) (within-the-disk v writes map goes.1)

-- a desk on which holds are lowered has the same requests, and clients stand the same on it
pub lowers-only : (old new : Draft) (desk : DeskValue) (client : ClientId) (flush : Flush) → ((server : ServerState) → IsLike old.desk server → IsLike desk (lowering server client flush.ino (left_by flush))) → new.desk ≡ desk → LowersOnly old new
lowers-only old new desk client flush lowers is =
    let like = lowers (with_desk old.desk old.image []) (alike-refl (with_desk old.desk old.image [])) in
    record {
      requests = ap (λ (d : DeskValue). d.requests) is ∙ like.requests;
      window = ap (λ (d : DeskValue). d.collecting.window) is ∙ ap (λ c. c.window) like.standing;
      standings = ap (λ (d : DeskValue). d.collecting.standings) is ∙ ap (λ c. c.standings) like.standing;
    }

-- the commit of a flush
abbrev pub flushing : ClientId → Flush → List (ℕ × List ℕ) → Edit → List (ℕ × List ℕ) → Commit
flushing client flush lays edit homes = record { deed = Flushes client flush; lays = lays; edit = edit; homes = homes }

module _ (view : ℕ) (o : Occasion) (start : ServerState) (d : Draft) (follows : Follows view o start d) (client : ClientId) (flush : Flush) (may : MayCommit (knowing d) client flush) where
  -- blocks are kept for what is held then
  pub space-then : (edit : Edit) (lays homes : List (ℕ × List ℕ)) → edit ≡ flush_of d.image client flush → IsFlush flush → IsVolume d.image → IsTable d.desk.collecting.table
      → HasSpace (after_act (reached view start d) (act_of view (Commits (flushing client flush lays edit homes))))
  unfolding after_act
  space-then edit lays homes edit-is is volume table =
      let server = reached view start d in
      subst (λ (e : Edit). reserved (lowering server client flush.ino (left_by flush)) ≤ free_count (edited server.volume e))
      (ap (λ (v : Volume). flush_of v client flush) (sym follows.volume) ∙ sym edit-is)
      (room-left d.desk server client flush follows.like table may.writing is (subst IsVolume follows.volume volume) (subst (λ v. AreBlocksKept v) follows.volume follows.kept) follows.space)

  -- and the commit is as the law asks
  pub commits-well : (edit : Edit) (lays homes : List (ℕ × List ℕ)) → Took o.took client (FlushOf flush) → edit ≡ flush_of d.image client flush → lays ≡ data_writes (blocks_for d.image flush) flush.pieces → AreHomes d.image edit homes
      → HasSpace (after_act (reached view start d) (act_of view (Commits (flushing client flush lays edit homes))))
      → ActsWell o start (reached view start d) (acts_of view d.acts) (act_of view (Commits (flushing client flush lays edit homes)))
  commits-well edit lays homes took edit-is lays-is are space = record {
    grants = tt;
    refuses = tt;
    commits = (
      record {
        taken = took;
        next = may.next ∙ ap (λ (n : ℕ). n + 1) (law-last view o start d follows client flush);
        fits = sym (law-uses-new view o start d follows client flush) ∙ may.new;
        lays_is = lays-is ∙ ap (λ (v : Volume). data_writes (blocks_for v flush) flush.pieces) follows.volume;
        edit_is = edit-is ∙ ap (λ (v : Volume). flush_of v client flush) follows.volume;
      },
      subst (λ (v : Volume). AreHomes v edit homes) follows.volume are,
    );
    collects = tt;
    revokes = tt;
    removes = tt;
    reserve = λ _. space;
  }
