-- A client is told that its flush is on the disk.
use Rattle.std.proofs.Common.{◌≡◌, ◌≤◌, ◌<◌, ◌+◌, [], ℕ, false, List, arith, ap, subst, sym, ◌∙◌}
use Rattle.cal_base.specs.Limits as limits
use Rattle.cal_base.specs.declared.identity.ClientId.{ClientId}
use Rattle.message.specs.declared.message.Message.TheVariants.{Flush as FlushOf, Flushed}
use Rattle.token_kind.specs.declared.flush.Flush.{Flush}
use Rattle.volume.specs.Volume.{Volume}
use Rattle.volume_edit.specs.Edit.{IsVolume, slot_at}
use Rattle.volume_plan.proofs.SlotNumbers.{flush_is_counted}
use Rattle.cluster_law.specs.Asking.{is_flushed, was_told}
use Rattle.cluster_law.specs.Granting.{Took}
use Rattle.cluster_law.specs.ServerRules.{ActsWell, Occasion}
use Rattle.cluster_law.specs.ServerState.{ServerState, after_act}
use Rattle.server_draft.specs.Acts.{act_of, acts_of, told_to}
use Rattle.server_draft.specs.Draft.{Follows, reached}
use Rattle.server_draft.specs.declared.act.Act.{Act}
use Rattle.server_draft.specs.declared.act.Act.TheVariants.{Tells}
use Rattle.server_draft.specs.declared.draft.Draft.{Draft}
use Rattle.volume_names.specs.Named.{AreNamed}
use Rattle.volume_names.proofs.Plans.{flush_named}
use Rattle.server_flushes.specs.Flushes.{CommitsOne, with_flushed}

-- a Flushed of a flush that is on the disk, once, is as the law asks
pub tells-well : (view : ℕ) (o : Occasion) (start : ServerState) (d : Draft) (client : ClientId) (flush : Flush) (number : ℕ) → Follows view o start d → Took o.took client (FlushOf flush) → flush.number ≡ number
    → number ≤ (slot_at d.image.slots client.0).flush → was_told client.0 is_flushed (acts_of view d.acts) ≡ false
    → ActsWell o start (reached view start d) (acts_of view d.acts) (act_of view (Tells client (Flushed number)))
unfolding after_act
tells-well view o start d client flush number follows took is lasts once = record {
  grants = tt;
  refuses = tt;
  commits = record { flush = flush; taken = took; number_is = is; lasts = subst (λ (v : Volume). number ≤ (slot_at v.slots client.0).flush) follows.volume lasts };
  collects = once;
  revokes = tt;
  removes = tt;
  reserve = λ _. follows.space;
}

-- nothing was told at the start
pub nothing-told : (view client : ℕ) (acts : List Act) → acts ≡ [] → was_told client is_flushed (acts_of view acts) ≡ false
unfolding acts_of
nothing-told view client acts none = ap (λ (acts : List Act). was_told client is_flushed (acts_of view acts)) none

-- nor is it once a flush is committed
pub nothing-told-yet : (view c : ℕ) (client : ClientId) (flush : Flush) (old new : Draft) → CommitsOne client flush old new → old.acts ≡ [] → was_told c is_flushed (acts_of view new.acts) ≡ false
nothing-told-yet view c client flush old new one none = ap (was_told c is_flushed) (one.law view) ∙ nothing-told view c old.acts none

-- a flush that is committed is counted as on the disk
pub counted : (client : ClientId) (flush : Flush) (old new : Draft) → CommitsOne client flush old new → IsVolume old.image → client.0 < limits.clients → flush.number ≤ (slot_at new.image.slots client.0).flush
counted client flush old new one volume known =
    let is : (slot_at new.image.slots client.0).flush ≡ flush.number = ap (λ (v : Volume). (slot_at v.slots client.0).flush) one.image ∙ flush_is_counted old.image client flush volume known in
    omega (arith, is)

-- what is told changes no name
pub told-named : (old new : Draft) (client : ClientId) (number : ℕ) → new ≡ with_flushed old client number → AreNamed old.image → AreNamed new.image
told-named old new client number is names = subst (λ (v : Volume). AreNamed v) (sym (ap (λ (d : Draft). d.image) is)) names

-- nor does the commit of a flush
pub committed-named : (client : ClientId) (flush : Flush) (old new : Draft) → CommitsOne client flush old new → IsVolume old.image → AreNamed old.image → AreNamed new.image
committed-named client flush old new one volume names = subst (λ (v : Volume). AreNamed v) (sym one.image) (flush_named old.image client flush volume names)

-- what is told once a flush is committed
pub told-then : (client : ClientId) (flush : Flush) (old mid new : Draft) (to : ℕ) → CommitsOne client flush old mid → told_to to new.acts ≤ told_to to mid.acts + 1 → told_to to new.acts ≤ told_to to old.acts + 1
told-then client flush old mid new to one few = let same = one.untold to in omega (arith, same, few)
