-- How the writes of a step end.
use Rattle.std.proofs.Common.{◌≡◌, ◌≢◌, ◌⊎◌, ◌≤◌, ◌<◌, ◌++◌, ◌∷◌, [], ℕ, zero, suc, Bool, true, false, if◌then◌else◌, nat_eq, List, Option, Some, None, Result, Ok, Err, length, take, refl, sym, ap, ◌∙◌, subst, inl, inr, arith}
use Rattle.std.specs.Prelude.{slice_get}
use Rattle.std.proofs.lemmas.Bool.{eqb-false}
use Rattle.std.proofs.lemmas.List.{length-take-le, take_all}
use Rattle.cal_base.specs.declared.identity.View.{View}
use Rattle.shared_disk.specs.Disk.{Disk, after}
use Rattle.shared_disk.specs.Sectors.{left_of, written}
use Rattle.shared_disk.specs.declared.stop.Stop.{Stop}
use Rattle.shared_disk.proofs.Changes.{after-nil}
use Rattle.fence.specs.Port.{PortState, accepting, accepting_all, due, due_after, Stops, WritesAt}
use Rattle.fence.specs.Writes.{HaltsIn, MakesAll, Runs}
use Rattle.fence.specs.declared.port_halt.PortHalt.{PortHalt}
use Rattle.fence.specs.declared.port_halt.PortHalt.TheVariants.{Fenced as Outfenced, Failed as Outfailed, Stopped as Outstopped}
use Rattle.fence.proofs.EndingLemmas.{ends_as, counts_and_keeps}
use Rattle.journal.proofs.AfterCommit.{left_all, told_after}
use Rattle.cluster_law.specs.DiskRules.{IsDueAfter, IsStopped, IsWithinStop, WritesOn}
use Rattle.cluster_law.specs.Noted.{DiskAt}
use Rattle.cluster_law.specs.declared.step.Halt.TheVariants.{Fenced, Failed, Stopped}
use Rattle.server_writes.specs.Ending.{IsReady, StandsAs, halt_by}
use Rattle.server_writes.specs.Halted.{AreLeft}

-- no stop was due
undue_by : (stop : Stop) (accepted : ℕ) (b : Bool) → nat_eq stop.after accepted ≡ b → (if b then Some stop else None) ≡ None → stop.after ≢ accepted
undue_by stop accepted true e h = absurd (cc)
undue_by stop accepted false e h = eqb-false stop.after accepted e

undue : (p : PortState) (stop : Stop) → p.stop ≡ Some stop → due p ≡ None → stop.after ≢ p.accepted
undue p stop armed h = undue_by stop p.accepted (nat_eq stop.after p.accepted) refl (subst (λ (o : Option Stop). due_after p.accepted o ≡ None) armed h)

-- no port that made all its writes, or failed at one, accepted more than the stop lets through
all_within : (ws : List (ℕ × List ℕ)) (p : PortState) (d : Disk) (p' : PortState) (d' : Disk) (stop : Stop) → MakesAll p d ws p' d' → p.stop ≡ Some stop → p.accepted ≤ stop.after → p'.accepted ≤ stop.after
all_within [] p d p' d' stop h armed few = subst (λ (q : PortState). q.accepted ≤ stop.after) (sym h.0) few
all_within (w ∷ ws) p d p' d' stop h armed few =
    let other = undue p stop armed h.0.undue in
    all_within ws (accepting p w) (after d (w ∷ [])) p' d' stop h.1 armed (omega arith)

uncounted_stop : (t : Option (List ℕ)) (p : PortState) (d : Disk) (at : ℕ) (p' : PortState) (d' : Disk) → Stops t p d at (Err Outfailed) p' d' → p' ≡ p
uncounted_stop None p d at p' d' a = let h = a.stopped in absurd (cc)
uncounted_stop (Some t) p d at p' d' a = a.uncounted

uncounted_at : (o : Option Stop) (p : PortState) (d : Disk) (at : ℕ) (bytes : List ℕ) (p' : PortState) (d' : Disk) → WritesAt o p d at bytes (Err Outfailed) p' d' → p' ≡ p
uncounted_at None p d at bytes p' d' a = a.uncounted
uncounted_at (Some stop) p d at bytes p' d' a = uncounted_stop stop.torn p d at p' d' a

failed_within : (ws : List (ℕ × List ℕ)) (p : PortState) (d : Disk) (p' : PortState) (d' : Disk) (stop : Stop) → HaltsIn p d ws Outfailed p' d' → p.stop ≡ Some stop → p.accepted ≤ stop.after → p'.accepted ≤ stop.after
failed_within [] p d p' d' stop h armed few = absurd h
failed_within (w ∷ ws) p d p' d' stop h armed few = elim h [
  | inl a ↦ subst (λ (q : PortState). q.accepted ≤ stop.after) (sym (uncounted_at (due p) p d w.0 w.1 p' d' a)) few
  | inr k ↦ (let other = undue p stop armed k.0.undue in failed_within ws (accepting p w) (after d (w ∷ [])) p' d' stop k.1 armed (omega arith))
]

-- what a port counts and keeps that begins with nothing
kept_is : (planned made : List (ℕ × List ℕ)) (p p' : PortState) → IsReady p planned → length made ≤ length planned → p' ≡ accepting_all p made → p'.kept.writes ≡ made
kept_is planned made p p' ready few e =
    let room = ready.room in
    ap (λ (q : PortState). q.kept.writes) e
    ∙ ap (λ k. k.writes) (counts_and_keeps made p).kept
    ∙ ap (λ (xs : List (ℕ × List ℕ)). xs ++ take p.kept.space made) ready.unkept
    ∙ take_all p.kept.space made (omega arith)

counted : (planned made : List (ℕ × List ℕ)) (p : PortState) → IsReady p planned → length made ≤ length planned → (accepting_all p made).accepted ≡ length made
counted planned made p ready few =
    let none = ready.uncounted in
    let bound = ready.few in
    (counts_and_keeps made p).accepted (omega arith) ∙ omega arith

length_left : (ws : List (ℕ × List ℕ)) (k : ℕ) (t : Option (List ℕ)) → length (left_of ws k t) ≤ length ws
length_left [] k t = omega arith
length_left (w ∷ ws) zero None = omega arith
length_left (w ∷ ws) zero (Some t) = omega arith
length_left (w ∷ ws) (suc k) t = let e = length_left ws k t in omega arith

-- the first so many, with nothing of the next one
none_of_next : (ws : List (ℕ × List ℕ)) (k : ℕ) → left_of ws k None ≡ take k ws
none_of_next [] zero = refl
none_of_next [] (suc k) = refl
none_of_next (w ∷ ws) zero = refl
none_of_next (w ∷ ws) (suc k) = ap (λ (xs : List (ℕ × List ℕ)). w ∷ xs) (none_of_next ws k)

-- the write at which a run failed, and what it left
record FailedAt (planned : List (ℕ × List ℕ)) (made : ℕ) (left : List ℕ) : Type 0 where
  next : ℕ × List ℕ
  stands : slice_get planned made ≡ Some next
  split : left_of planned made (Some left) ≡ take made planned ++ (next.0, left) ∷ []

failed_at : (planned : List (ℕ × List ℕ)) (made : ℕ) (left : List ℕ) → made < length planned → FailedAt planned made left
failed_at [] made left h = absurd (omega arith)
failed_at (w ∷ ws) zero left h = record { next = w; stands = refl; split = refl }
failed_at (w ∷ ws) (suc k) left h = let f = failed_at ws k left (omega arith) in record { next = f.next; stands = f.stands; split = ap (λ (xs : List (ℕ × List ℕ)). w ∷ xs) f.split }

-- the sectors and the key after some writes
sectors_are : (made : List (ℕ × List ℕ)) (d d' : Disk) (f f' : ℕ) (before now : DiskAt) → StandsAs d f before → StandsAs d' f' now → d' ≡ after d made → now.sectors ≡ written before.sectors made
sectors_are made d d' f f' before now a b e = let told = told_after before.sectors made d d' a.told e in let same = b.told in cc

key_is : (made : List (ℕ × List ℕ)) (d d' : Disk) (f f' : ℕ) (before now : DiskAt) → StandsAs d f before → StandsAs d' f' now → d' ≡ after d made → now.key ≡ before.key
key_is made d d' f f' before now a b e = sym b.key ∙ ap (λ (x : Disk). x.key) e ∙ a.key

own_or_none : (made : List (ℕ × List ℕ)) (d : Disk) (f view : ℕ) (before : DiskAt) → StandsAs d f before → (0 < length made → d.key ≡ view) → (before.key ≡ view) ⊎ (made ≡ [])
own_or_none [] d f view before a own = inr refl
own_or_none (w ∷ ws) d f view before a own = inl (sym a.key ∙ own (omega arith))

due_after_all : (planned : List (ℕ × List ℕ)) (o : Option Stop) → ((stop : Stop) → o ≡ Some stop → length planned ≤ stop.after) → IsDueAfter planned o
due_after_all planned None h = tt
due_after_all planned (Some stop) h = h stop refl

within_stop : (made : List (ℕ × List ℕ)) (o : Option Stop) → ((stop : Stop) → o ≡ Some stop → length made ≤ stop.after) → IsWithinStop o made
within_stop made None h = tt
within_stop made (Some stop) h = h stop refl

later : (f f' : ℕ) (d d' : Disk) (before now : DiskAt) → StandsAs d f before → StandsAs d' f' now → f ≤ f' → before.faults ≤ now.faults
later f f' d d' before now a b h = let e = a.count in let g = b.count in omega arith

-- all were written
ends_whole : (ws : List (ℕ × List ℕ)) (p p' : PortState) (d d' : Disk) (f f' : ℕ) (before now : DiskAt) → IsReady p ws → StandsAs d f before → StandsAs d' f' now → Runs p d f ws (Ok tt) p' d' f'
    → WritesOn false p.view ws p.stop before now p'.kept.writes None
ends_whole ws p p' d d' f f' before now ready a b r =
    let e = ends_as ws p d (Ok tt) p' d' r.makes in
    let kept = kept_is ws ws p p' ready (omega arith) e.accepted in
    let count = ap (λ (q : PortState). q.accepted) e.accepted ∙ counted ws ws p ready (omega arith) in
    let none = ready.uncounted in
    subst (λ (ks : List (ℕ × List ℕ)). WritesOn false p.view ws p.stop before now ks None) (sym kept) (record {
      ends = (refl, due_after_all ws p.stop (λ stop armed. let h = all_within ws p d p' d' stop r.makes armed (omega arith) in omega arith));
      key = (key_is ws d d' f f' before now a b e.changed, own_or_none ws d f p.view before a e.own);
      own = tt;
      sectors = sectors_are ws d d' f f' before now a b e.changed;
      faults = later f f' d d' before now a b r.later;
    })

-- the key was another
ends_fenced : (ws : List (ℕ × List ℕ)) (p p' : PortState) (d d' : Disk) (f f' : ℕ) (before now : DiskAt) (mine current : View) → IsReady p ws → StandsAs d f before → StandsAs d' f' now → Runs p d f ws (Err (Outfenced mine current)) p' d' f'
    → WritesOn false p.view ws p.stop before now p'.kept.writes (Some (Fenced mine current))
ends_fenced ws p p' d d' f f' before now mine current ready a b r =
    let e = ends_as ws p d (Err (Outfenced mine current)) p' d' r.makes in
    let kept : p'.kept.writes ≡ [] = ap (λ (q : PortState). q.kept.writes) e.uncounted ∙ ready.unkept in
    let changed : d' ≡ after d [] = e.unchanged ∙ sym (after-nil d) in
    subst (λ (ks : List (ℕ × List ℕ)). WritesOn false p.view ws p.stop before now ks (Some (Fenced mine current))) (sym kept) (record {
      ends = (e.met.mine_is, e.met.current_is ∙ a.key, (λ same. e.met.other (a.key ∙ same)), refl);
      key = (key_is [] d d' f f' before now a b changed, inr refl);
      own = tt;
      sectors = sectors_are [] d d' f f' before now a b changed;
      faults = later f f' d d' before now a b r.later;
    })

-- a write failed
ends_failed : (ws : List (ℕ × List ℕ)) (p p' : PortState) (d d' : Disk) (f f' : ℕ) (before now : DiskAt) → IsReady p ws → StandsAs d f before → StandsAs d' f' now → Runs p d f ws (Err Outfailed) p' d' f'
    → WritesOn false p.view ws p.stop before now p'.kept.writes (Some (Failed f'))
ends_failed ws p p' d d' f f' before now ready a b r =
    let e = ends_as ws p d (Err Outfailed) p' d' r.makes in
    let within = e.within in
    let made = take e.made ws in
    let long : length made ≡ e.made = length-take-le e.made ws (omega arith) in
    let kept = kept_is ws made p p' ready (omega arith) e.accepted in
    let count = ap (λ (q : PortState). q.accepted) e.accepted ∙ counted ws made p ready (omega arith) in
    let none = ready.uncounted in
    let at = failed_at ws e.made e.left within in
    let rose = r.counted refl in
    let f_is = a.count in
    let f'_is = b.count in
    let key : now.key ≡ before.key = key_is (left_of ws e.made (Some e.left)) d d' f f' before now a b e.changed in
    subst (λ (ks : List (ℕ × List ℕ)). WritesOn false p.view ws p.stop before now ks (Some (Failed f'))) (sym kept) (record {
      ends = (
        f'_is,
        omega arith,
        sym (ap (λ (n : ℕ). take n ws) long),
        within_stop made p.stop (λ stop armed. let h = failed_within ws p d p' d' stop r.makes armed (omega arith) in omega arith),
      );
      key = (key, inl (sym a.key ∙ e.own));
      own = tt;
      sectors = (
        (at.next.0, e.left) ∷ [],
        (at.next, ap (slice_get ws) long ∙ at.stands, refl, e.whole),
        sectors_are (left_of ws e.made (Some e.left)) d d' f f' before now a b e.changed ∙ ap (written before.sectors) at.split,
      );
      faults = later f f' d d' before now a b r.later;
    })

-- the stop was due
ends_stopped : (ws : List (ℕ × List ℕ)) (p p' : PortState) (d d' : Disk) (f f' : ℕ) (before now : DiskAt) → IsReady p ws → StandsAs d f before → StandsAs d' f' now → Runs p d f ws (Err Outstopped) p' d' f'
    → WritesOn false p.view ws p.stop before now p'.kept.writes (Some Stopped)
ends_stopped ws p p' d d' f f' before now ready a b r =
    let e = ends_as ws p d (Err Outstopped) p' d' r.makes in
    let stop = e.stop in
    let within = e.within in
    let made = left_of ws e.made stop.torn in
    let long : length (take e.made ws) ≡ e.made = length-take-le e.made ws (omega arith) in
    let kept = kept_is ws made p p' ready (length_left ws e.made stop.torn) e.accepted in
    let due_is : stop.after ≡ e.made = e.due ∙ counted ws (take e.made ws) p ready (omega arith) ∙ long in
    subst (λ (ks : List (ℕ × List ℕ)). WritesOn false p.view ws p.stop before now ks (Some Stopped)) (sym kept) (record {
      ends = subst (λ (o : Option Stop). IsStopped ws o made) (sym e.armed) ((omega arith), ap (λ (n : ℕ). left_of ws n stop.torn) (sym due_is));
      key = (key_is made d d' f f' before now a b e.changed, own_or_none made d f p.view before a e.own);
      own = tt;
      sectors = sectors_are made d d' f f' before now a b e.changed;
      faults = later f f' d d' before now a b r.later;
    })

pub writes_as_the_law : (ws : List (ℕ × List ℕ)) (p p' : PortState) (d d' : Disk) (f f' : ℕ) (r : Result (Unit {0}) PortHalt) (before now : DiskAt) → IsReady p ws → StandsAs d f before → StandsAs d' f' now → Runs p d f ws r p' d' f'
    → WritesOn false p.view ws p.stop before now p'.kept.writes (halt_by r f')
writes_as_the_law ws p p' d d' f f' (Ok done) before now ready a b r = ends_whole ws p p' d d' f f' before now ready a b r
writes_as_the_law ws p p' d d' f f' (Err (Outfenced mine current)) before now ready a b r = ends_fenced ws p p' d d' f f' before now mine current ready a b r
writes_as_the_law ws p p' d d' f f' (Err Outfailed) before now ready a b r = ends_failed ws p p' d d' f f' before now ready a b r
writes_as_the_law ws p p' d d' f f' (Err Outstopped) before now ready a b r = ends_stopped ws p p' d d' f f' before now ready a b r

none_made : (ws : List (ℕ × List ℕ)) → left_of ws 0 None ≡ []
none_made [] = refl
none_made (w ∷ ws) = refl

pub are_left : (ws : List (ℕ × List ℕ)) (p p' : PortState) (d d' : Disk) (f f' : ℕ) (r : Result (Unit {0}) PortHalt) → IsReady p ws → Runs p d f ws r p' d' f' → AreLeft ws p'.kept.writes
are_left ws p p' d d' f f' (Ok done) ready r =
    let e = ends_as ws p d (Ok tt) p' d' r.makes in
    record { made = length ws; torn = None; kept_is = kept_is ws ws p p' ready (omega arith) e.accepted ∙ sym (left_all ws) }
are_left ws p p' d d' f f' (Err (Outfenced mine current)) ready r =
    let e = ends_as ws p d (Err (Outfenced mine current)) p' d' r.makes in
    record { made = 0; torn = None; kept_is = ap (λ (q : PortState). q.kept.writes) e.uncounted ∙ ready.unkept ∙ sym (none_made ws) }
are_left ws p p' d d' f f' (Err Outfailed) ready r =
    let e = ends_as ws p d (Err Outfailed) p' d' r.makes in
    let within = e.within in
    let long = length-take-le e.made ws (omega arith) in
    record { made = e.made; torn = None; kept_is = kept_is ws (take e.made ws) p p' ready (omega arith) e.accepted ∙ sym (none_of_next ws e.made) }
are_left ws p p' d d' f f' (Err Outstopped) ready r =
    let e = ends_as ws p d (Err Outstopped) p' d' r.makes in
    record { made = e.made; torn = e.stop.torn; kept_is = kept_is ws (left_of ws e.made e.stop.torn) p p' ready (length_left ws e.made e.stop.torn) e.accepted }

-- a halt comes at a write
pub some_planned : (ws : List (ℕ × List ℕ)) (p p' : PortState) (d d' : Disk) (f f' : ℕ) (halt : PortHalt) → Runs p d f ws (Err halt) p' d' f' → ws ≢ []
some_planned [] p p' d d' f f' halt r = absurd r.makes
some_planned (w ∷ ws) p p' d d' f f' halt r = λ none. absurd (cc)
