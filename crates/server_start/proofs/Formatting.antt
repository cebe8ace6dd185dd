-- How a format ends.
use Rattle.std.proofs.Common.{◌≡◌, ◌≤◌, ℕ, [], Result, Ok, Err, inl, inr, refl, sym, ap, subst, ◌∙◌, arith}
use Rattle.std.specs.Prelude.{IsErrAnd}
use Rattle.cal_base.specs.Faults.{Rose}
use Rattle.fence.specs.Halts.{halt_of}
use Rattle.fence.specs.Port.{PortState, Takes, TakesKey, fresh}
use Rattle.fence.specs.Writes.{Runs}
use Rattle.fence.specs.declared.port_halt.PortHalt.{PortHalt}
use Rattle.fence.specs.declared.port_halt.PortHalt.TheVariants.{Fenced, Failed, Stopped}
use Rattle.fence.proofs.EndingLemmas.{counts_and_keeps, ends_as}
use Rattle.fence.proofs.RunsLemmas.{all_after, runs_then}
use Rattle.shared_disk.specs.Disk.{Disk, fenced}
use Rattle.shared_disk.specs.declared.disk_refusal.DiskRefusal.{DiskRefusal}
use Rattle.shared_disk.specs.declared.disk_refusal.DiskRefusal.TheVariants.{Fenced as Refenced, Failed as Refailed}
use Rattle.volume.specs.Format.{format_writes}
use Rattle.server_start.specs.Formats.{FormatEnds, Formats}
use Rattle.server_start.specs.declared.started.Started.{Started}
use Rattle.server_start.specs.declared.stops.FormatError.{FormatError}
use Rattle.server_start.specs.declared.stops.FormatError.TheVariants.{OutOfMemory, Halted}

-- memory ran out before the fence
pub no-memory : (clients : ℕ) (d : Disk) (f : ℕ) (r : Result Started FormatError) (new : Disk) (f' : ℕ) → IsErrAnd r (λ e. e ≡ OutOfMemory) → new ≡ d → f' ≡ f → Formats clients d f r new f'
no-memory clients d f (Ok started) new f' is same faults = absurd is
no-memory clients d f (Err e) new f' is same faults =
    subst (λ (x : FormatError). Formats clients d f (Err x) new f') (sym is) (record { room = d.room; more = omega arith; ends = (same, faults) })

-- once there is room
pub with-room : (clients : ℕ) (d : Disk) (f : ℕ) (r : Result Started FormatError) (d1 : Disk) (f1 : ℕ) (new : Disk) (f' : ℕ) → d1 ≡ record d { room = d1.room } → d.room ≤ d1.room → f1 ≡ f
    → FormatEnds clients d1 f1 r new f' → Formats clients d f r new f'
with-room clients d f r d1 f1 new f' same more faults ends = record {
  room = d1.room;
  more = more;
  ends = subst (λ (x : Disk). FormatEnds clients x f r new f') same (subst (λ (n : ℕ). FormatEnds clients d1 n r new f') faults ends);
}

-- the fence was refused
pub not-fenced : (clients : ℕ) (d : Disk) (f : ℕ) (refusal : DiskRefusal) (halt : PortHalt) (new : Disk) (f' : ℕ) → halt ≡ halt_of refusal → Takes d 1 (Err refusal) new → (refusal ≡ Refailed → Rose f f')
    → FormatEnds clients d f (Err (Halted halt)) new f'
not-fenced clients d f refusal halt new f' is takes rose = subst (λ (h : PortHalt). FormatEnds clients d f (Err (Halted h)) new f') (sym is) (by refusal takes rose)
  where
    by : (refusal : DiskRefusal) → Takes d 1 (Err refusal) new → (refusal ≡ Refailed → Rose f f') → FormatEnds clients d f (Err (Halted (halt_of refusal))) new f'
    by (Refenced mine current) takes rose = takes
    by Refailed takes rose = (rose refl, inl takes)

-- what runs from the fence on runs from before it
from-fence : (clients : ℕ) (d d1 : Disk) (f f1 : ℕ) (p p' : PortState) (r : Result (Unit {0}) PortHalt) (new : Disk) (f' : ℕ) → TakesKey d 1 p d1 → f ≤ f1 → Runs p d1 f1 (format_writes clients) r p' new f'
    → Runs (fresh 1) (fenced d 1) f (format_writes clients) r p' new f'
from-fence clients d d1 f f1 p p' r new f' takes later runs =
    let there = subst (λ (q : PortState). Runs q (fenced d 1) f1 (format_writes clients) r p' new f') takes.port_is (subst (λ (x : Disk). Runs p x f1 (format_writes clients) r p' new f') takes.fenced_is runs) in
    let before : Runs (fresh 1) (fenced d 1) f [] (Ok tt) (fresh 1) (fenced d 1) f1 = record { makes = (refl, refl); room = omega arith; counted = tt; later = later } in
    runs_then [] (format_writes clients) (fresh 1) (fenced d 1) f (fresh 1) (fenced d 1) f1 r p' new f' before there

-- the key that was taken
taken-key : (d d1 : Disk) (p : PortState) → TakesKey d 1 p d1 → (fenced d 1).key ≡ 1
taken-key d d1 p takes = ap (λ (x : Disk). x.key) (sym takes.fenced_is) ∙ takes.own

-- a write halted
pub not-written : (clients : ℕ) (d d1 : Disk) (f f1 : ℕ) (p p' : PortState) (halt : PortHalt) (new : Disk) (f' : ℕ) → TakesKey d 1 p d1 → f ≤ f1 → Runs p d1 f1 (format_writes clients) (Err halt) p' new f'
    → FormatEnds clients d f (Err (Halted halt)) new f'
not-written clients d d1 f f1 p p' halt new f' takes later runs = by halt (from-fence clients d d1 f f1 p p' (Err halt) new f' takes later runs)
  where
    by : (halt : PortHalt) → Runs (fresh 1) (fenced d 1) f (format_writes clients) (Err halt) p' new f' → FormatEnds clients d f (Err (Halted halt)) new f'
    by (Fenced mine current) runs =
        let other = (ends_as (format_writes clients) (fresh 1) (fenced d 1) (Err (Fenced mine current)) p' new runs.makes).met.other in
        absurd (other (taken-key d d1 p takes))
    by Failed runs = (runs.counted refl, inr (record { port = p'; own = taken-key d d1 p takes; runs = runs }))
    by Stopped runs =
        let armed = (ends_as (format_writes clients) (fresh 1) (fenced d 1) (Err Stopped) p' new runs.makes).armed in
        absurd (cc)

-- all was written
pub all-written : (clients : ℕ) (d d1 : Disk) (f f1 : ℕ) (p : PortState) (started : Started) (new : Disk) (f' : ℕ) → TakesKey d 1 p d1 → f ≤ f1 → Runs p d1 f1 (format_writes clients) (Ok tt) started.port new f'
    → FormatEnds clients d f (Ok started) new f'
all-written clients d d1 f f1 p started new f' takes later runs =
    let all = from-fence clients d d1 f f1 p started.port (Ok tt) new f' takes later runs in
    let same : new.key ≡ (fenced d 1).key = ap (λ (x : Disk). x.key) (all_after (format_writes clients) (fresh 1) (fenced d 1) started.port new all.makes) in
    (same ∙ taken-key d d1 p takes, all)

-- the port is still that of view 1
pub same-view : (clients : ℕ) (d d1 : Disk) (f1 : ℕ) (p p' : PortState) (new : Disk) (f' : ℕ) → TakesKey d 1 p d1 → Runs p d1 f1 (format_writes clients) (Ok tt) p' new f' → p'.view ≡ 1
same-view clients d d1 f1 p p' new f' takes runs =
    ap (λ (q : PortState). q.view) (ends_as (format_writes clients) p d1 (Ok tt) p' new runs.makes).accepted
    ∙ (counts_and_keeps (format_writes clients) p).view
    ∙ ap (λ (q : PortState). q.view) takes.port_is
