-- Calls that only read, one after the other.
use Rattle.std.proofs.Common.{◌≡◌, ◌≤◌, ℕ, List, [], Some, Ok, Err, Result, refl, sym, ap, ◌∙◌, subst, arith}
use Rattle.std.proofs.lemmas.Option.{get_or_from_slice_get}
use Rattle.cal_base.specs.Faults.{Rose}
use Rattle.journal.specs.Layout.{sector}
use Rattle.shared_disk.specs.Disk.{Disk, Reads, SectorIs}
use Rattle.shared_disk.specs.declared.disk_refusal.DiskRefusal.{DiskRefusal}
use Rattle.shared_disk.specs.declared.disk_refusal.DiskRefusal.TheVariants.{Fenced as Refenced, Failed as Refailed}
use Rattle.image.specs.declared.mount_halt.MountHalt.{MountHalt}
use Rattle.image.specs.declared.mount_halt.MountHalt.TheVariants.{Fenced, Failed, Damaged}
use Rattle.image.specs.Mount.{NoDamage, ReadEnds, ReadsOnly, refused}

pub sector_told : (d : Disk) (at : ℕ) (bytes : List ℕ) → SectorIs d at bytes → (s : List (List ℕ)) → d.sectors ≡ Some s → bytes ≡ sector s at
sector_told d at bytes is s t = sym (get_or_from_slice_get s at bytes [] (is s t))

-- a read was refused
refused_ends : (r : DiskRefusal) (d : Disk) (view at f f' : ℕ) (into : List ℕ) → Reads d view at into (Err r) → (r ≡ Refailed → Rose f f') → ReadEnds NoDamage d view f (Err (refused r)) f'
refused_ends (Refenced mine current) d view at f f' into h rose = h
refused_ends Refailed d view at f f' into h rose = (h, rose refl)

pub read_refused : (r : DiskRefusal) (d d1 : Disk) (view at f f' : ℕ) (into : List ℕ) (h : MountHalt) → Reads d view at into (Err r) → (r ≡ Refailed → Rose f f') → h ≡ refused r
    → d1 ≡ d → f ≤ f' → ReadsOnly NoDamage d view f (Err h) d1 f'
read_refused r d d1 view at f f' into h reads rose is same later =
    subst (λ (x : MountHalt). ReadsOnly NoDamage d view f (Err x) d1 f') (sym is) (record { ends = refused_ends r d view at f f' into reads rose; same = same; later = later })

-- the key, wherever a call didn't meet another
widen_ends : (P Q : List (List ℕ) → ℕ → Type 0) (d : Disk) (view f f' : ℕ) (r : Result (Unit {0}) MountHalt) → ((s : List (List ℕ)) (at : ℕ) → d.sectors ≡ Some s → P s at → Q s at)
    → ReadEnds P d view f r f' → ReadEnds Q d view f r f'
widen_ends P Q d view f f' (Ok done) w h = h
widen_ends P Q d view f f' (Err (Fenced mine current)) w h = h
widen_ends P Q d view f f' (Err Failed) w h = h
widen_ends P Q d view f f' (Err (Damaged at)) w h = (h.0, λ s t. w s at t (h.1 s t))

-- damage of one kind is damage of another
pub reads_widen : (P Q : List (List ℕ) → ℕ → Type 0) (d : Disk) (view f : ℕ) (r : Result (Unit {0}) MountHalt) (d' : Disk) (f' : ℕ) → ((s : List (List ℕ)) (at : ℕ) → d.sectors ≡ Some s → P s at → Q s at)
    → ReadsOnly P d view f r d' f' → ReadsOnly Q d view f r d' f'
reads_widen P Q d view f r d' f' w h = record { ends = widen_ends P Q d view f f' r w h.ends; same = h.same; later = h.later }

pub reads_any : (Q : List (List ℕ) → ℕ → Type 0) (d : Disk) (view f : ℕ) (r : Result (Unit {0}) MountHalt) (d' : Disk) (f' : ℕ) → ReadsOnly NoDamage d view f r d' f' → ReadsOnly Q d view f r d' f'
reads_any Q d view f r d' f' h = reads_widen NoDamage Q d view f r d' f' (λ s at t none. absurd none) h

-- a sector that was read is outside its grammar
pub reads_bad : (Q : List (List ℕ) → ℕ → Type 0) (d : Disk) (view f at : ℕ) (d' : Disk) (f' : ℕ) → ReadsOnly NoDamage d view f (Ok tt) d' f' → ((s : List (List ℕ)) → d.sectors ≡ Some s → Q s at)
    → ReadsOnly Q d view f (Err (Damaged at)) d' f'
reads_bad Q d view f at d' f' h bad = record { ends = (h.ends, bad); same = h.same; later = h.later }

ends_then : (Q : List (List ℕ) → ℕ → Type 0) (d : Disk) (view f f1 f2 : ℕ) (r : Result (Unit {0}) MountHalt) → f ≤ f1 → ReadEnds Q d view f1 r f2 → ReadEnds Q d view f r f2
ends_then Q d view f f1 f2 (Ok done) later h = h
ends_then Q d view f f1 f2 (Err (Fenced mine current)) later h = h
ends_then Q d view f f1 f2 (Err Failed) later h = (h.0, (let rose = h.1 in omega arith))
ends_then Q d view f f1 f2 (Err (Damaged at)) later h = h

-- one call after another
pub reads_then : (Q : List (List ℕ) → ℕ → Type 0) (d : Disk) (view f : ℕ) (d1 : Disk) (f1 : ℕ) (r : Result (Unit {0}) MountHalt) (d2 : Disk) (f2 : ℕ) → ReadsOnly Q d view f (Ok tt) d1 f1
    → ReadsOnly Q d1 view f1 r d2 f2 → ReadsOnly Q d view f r d2 f2
reads_then Q d view f d1 f1 r d2 f2 a b =
    let c = subst (λ (x : Disk). ReadsOnly Q x view f1 r d2 f2) a.same b in
    record { ends = ends_then Q d view f f1 f2 r a.later c.ends; same = c.same; later = (let one = a.later in let two = c.later in omega arith) }

-- a call that ended well found no damage of any kind
pub reads_ok : (P Q : List (List ℕ) → ℕ → Type 0) (d : Disk) (view f : ℕ) (d' : Disk) (f' : ℕ) → ReadsOnly P d view f (Ok tt) d' f' → ReadsOnly Q d view f (Ok tt) d' f'
reads_ok P Q d view f d' f' h = record { ends = h.ends; same = h.same; later = h.later }

-- nothing was read yet
pub reads_none : (Q : List (List ℕ) → ℕ → Type 0) (d : Disk) (view f : ℕ) → d.key ≡ view → ReadsOnly Q d view f (Ok tt) d f
reads_none Q d view f own = record { ends = own; same = refl; later = omega arith }

-- what a disk tells it told before
pub told_before : (d d1 : Disk) (s : List (List ℕ)) → d1 ≡ d → d.sectors ≡ Some s → d1.sectors ≡ Some s
told_before d d1 s same t = ap (λ (x : Disk). x.sectors) same ∙ t

-- a call that came later
pub reads_from : (Q : List (List ℕ) → ℕ → Type 0) (d : Disk) (view f : ℕ) (d1 : Disk) (f1 : ℕ) (r : Result (Unit {0}) MountHalt) (d2 : Disk) (f2 : ℕ) → d1 ≡ d → f ≤ f1
    → ReadsOnly Q d1 view f1 r d2 f2 → ReadsOnly Q d view f r d2 f2
reads_from Q d view f d1 f1 r d2 f2 same later b =
    let c = subst (λ (x : Disk). ReadsOnly Q x view f1 r d2 f2) same b in
    record { ends = ends_then Q d view f f1 f2 r later c.ends; same = c.same; later = (let two = c.later in omega arith) }
