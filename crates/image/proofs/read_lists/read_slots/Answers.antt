use Rattle.std.proofs.Common.{◌+◌, ℕ, arith, sym}
use Rattle.std.proofs.lemmas.List.{length-set}
use Rattle.journal.specs.Layout.{sector}
use Rattle.request_log.specs.Slot.{SpellsSlot}
use Rattle.request_log.specs.declared.slot.Slot.{Slot}
use Rattle.image.specs.Damage.{FirstSlot, LacksSlot}
use Rattle.image.proofs.Listing.{each_more, slots_kept, slots_stand}
use Rattle.image.proofs.Reading.{reads_from, reads_ok, reads_widen, told_before}
use Rattle.image.proofs.read_lists.read_slots.Goals as goal

pub returns-in-Err-clause-reads : goal.returns-in-Err-clause-reads
returns-in-Err-clause-reads g c =
    let i = c.loop-client.invariant in
    let count = i.count in
    let test = c.loop-client-test.true in
    reads_from FirstSlot _ _ _ _ _ _ _ _ i.same i.later (reads_widen (LacksSlot c.loop-client.client) FirstSlot _ _ _ _ _ _ (λ s at t lacks. record {
      client = c.loop-client.client;
      within = test;
      before = slots_stand s c.loop-client.slots c.loop-client.client (omega arith) (i.read s (told_before _ _ s (sym i.same) t));
      lacks = lacks;
    }) c.in-Err.ensures.reads)

pub returns-in-Err-clause-kept : goal.returns-in-Err-clause-kept
returns-in-Err-clause-kept g c = λ are.
    let i = c.loop-client.invariant in
    let count = i.count in
    let test = c.loop-client-test.true in
    slots_kept c.loop-client.slots c.loop-client.client _ _ (omega arith) c.in-Err.ensures.kept (i.kept are)

pub loop-client-preserved : goal.loop-client-preserved
loop-client-preserved g c =
    let i = c.loop-client.invariant in
    let count = i.count in
    let test = c.loop-client-test.true in
    let now = c.in-Ok.ensures in
    let reads = reads_from FirstSlot _ _ _ _ _ _ _ _ i.same i.later (reads_ok (LacksSlot c.loop-client.client) FirstSlot _ _ _ _ _ now.reads) in
    record {
      reads = λ some. reads;
      same = reads.same;
      later = reads.later;
      read = λ s t. each_more (λ (n : ℕ) (x : Slot). SpellsSlot (sector s (20 + n)) x) c.loop-client.slots c.loop-client.client _ (now.ok s (told_before (g.D.PortDisk.means c.args.disk.now) _ s i.same t)) (i.read s t);
      kept = λ are. slots_kept c.loop-client.slots c.loop-client.client _ _ (omega arith) now.kept (i.kept are);
      count = (let size = length-set c.loop-client.slots c.loop-client.client c.read_client_slot.new.slot in omega arith);
    }

pub returns-clause-ok : goal.returns-clause-ok
returns-clause-ok g c = λ s t client slot below.
    let test = c.loop-client-test.false in
    c.loop-client.invariant.read s t client slot (omega arith)
