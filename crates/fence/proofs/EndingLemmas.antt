-- How a list of writes ended, by the cause of its halt.
use Rattle.std.proofs.Common.{◌≡◌, ◌<◌, ◌+◌, ◌-◌, ◌^◌, ℕ, zero, suc, min, Bool, true, false, nat_eq, if◌then◌else◌, List, [], ◌∷◌, ◌++◌, length, take, Option, Some, None, Result, Ok, Err, refl, sym, ap, ◌∙◌, subst, inl, inr, arith, append_assoc}
use Rattle.std.proofs.lemmas.Bool.{eqb-true}
use Rattle.std.proofs.lemmas.List.{append-nil}
use Rattle.cal_base.specs.declared.identity.View.{View}
use Rattle.shared_disk.specs.Disk.{Disk, KeepsCount, after}
use Rattle.shared_disk.specs.Sectors.{left_of}
use Rattle.shared_disk.specs.declared.stop.Stop.{Stop}
use Rattle.shared_disk.proofs.Changes.{after-append, after-nil, keeps_count}
use Rattle.fence.specs.Port.{PortState, Kept, due, due_after, WritesAt, Stops, Refuses, accepting, accepting_all, keeping_all}
use Rattle.fence.specs.Writes.{MakesAll, HaltsIn, Makes}
use Rattle.fence.specs.Endings.{FailsAmong, StopsAmong, EndsAs, CountsAndKeeps}
use Rattle.fence.specs.declared.port_halt.PortHalt.{PortHalt}
use Rattle.fence.specs.declared.port_halt.PortHalt.TheVariants.{Fenced, Failed, Stopped}
use Rattle.fence.proofs.RunsLemmas.{all_after}

-- all were accepted
all_accepted : (ws : List (ℕ × List ℕ)) (p : PortState) (d : Disk) (p' : PortState) (d' : Disk) → MakesAll p d ws p' d' → p' ≡ accepting_all p ws
all_accepted [] p d p' d' h = h.0
all_accepted (w ∷ ws) p d p' d' h = all_accepted ws _ _ p' d' h.1

all_own : (ws : List (ℕ × List ℕ)) (p : PortState) (d : Disk) (p' : PortState) (d' : Disk) → MakesAll p d ws p' d' → 0 < length ws → d.key ≡ p.view
all_own [] p d p' d' h some = absurd (omega arith)
all_own (w ∷ ws) p d p' d' h some = h.0.own

-- a refusal comes at the first write
refused_at : (o : Option Stop) (p : PortState) (d : Disk) (at : ℕ) (bytes : List ℕ) (mine current : View) (p' : PortState) (d' : Disk) → WritesAt o p d at bytes (Err (Fenced mine current)) p' d' → Refuses p d mine current p' d'
refused_at None p d at bytes mine current p' d' w = w
refused_at (Some stop) p d at bytes mine current p' d' w = refused_stop stop.torn p d at mine current p' d' w
  where
    refused_stop : (t : Option (List ℕ)) (p : PortState) (d : Disk) (at : ℕ) (mine current : View) (p' : PortState) (d' : Disk) → Stops t p d at (Err (Fenced mine current)) p' d' → Refuses p d mine current p' d'
    refused_stop None p d at mine current p' d' w = let h = w.stopped in absurd (cc)
    refused_stop (Some t) p d at mine current p' d' w = w

refused_first : (ws : List (ℕ × List ℕ)) (p : PortState) (d : Disk) (mine current : View) (p' : PortState) (d' : Disk) → HaltsIn p d ws (Fenced mine current) p' d' → Refuses p d mine current p' d'
refused_first [] p d mine current p' d' h = absurd h
refused_first (w ∷ ws) p d mine current p' d' h = elim h [
  | inl a ↦ refused_at (due p) p d w.0 w.1 mine current p' d' a
  | inr k ↦ (let r = refused_first ws (accepting p w) (after d (w ∷ [])) mine current p' d' k.1 in let own = k.0.own in let other = r.met.other in absurd (other own))
]

-- a write fails
fails_at : (o : Option Stop) (p : PortState) (d : Disk) (w : ℕ × List ℕ) (ws : List (ℕ × List ℕ)) (p' : PortState) (d' : Disk) → WritesAt o p d w.0 w.1 (Err Failed) p' d' → FailsAmong p d (w ∷ ws) p' d'
fails_at None p d w ws p' d' a = record {
  own = a.leaves.own;
  made = 0;
  within = omega arith;
  left = a.leaves.left;
  whole = a.leaves.whole;
  accepted = a.uncounted;
  changed = a.leaves.changed;
}
fails_at (Some stop) p d w ws p' d' a = fails_stop stop.torn p d w ws p' d' a
  where
    fails_stop : (t : Option (List ℕ)) (p : PortState) (d : Disk) (w : ℕ × List ℕ) (ws : List (ℕ × List ℕ)) (p' : PortState) (d' : Disk) → Stops t p d w.0 (Err Failed) p' d' → FailsAmong p d (w ∷ ws) p' d'
    fails_stop None p d w ws p' d' a = let h = a.stopped in absurd (cc)
    fails_stop (Some t) p d w ws p' d' a = record {
      own = a.leaves.own;
      made = 0;
      within = omega arith;
      left = a.leaves.left;
      whole = a.leaves.whole;
      accepted = a.uncounted;
      changed = a.leaves.changed;
    }

fails_later : (p : PortState) (d : Disk) (w : ℕ × List ℕ) (ws : List (ℕ × List ℕ)) (p' : PortState) (d' : Disk) → FailsAmong (accepting p w) (after d (w ∷ [])) ws p' d' → FailsAmong p d (w ∷ ws) p' d'
fails_later p d w ws p' d' f = record {
  own = f.own;
  made = suc f.made;
  within = (let h = f.within in omega arith);
  left = f.left;
  whole = f.whole;
  accepted = f.accepted;
  changed = f.changed ∙ after-append d (w ∷ []) (left_of ws f.made (Some f.left));
}

fails_among : (ws : List (ℕ × List ℕ)) (p : PortState) (d : Disk) (p' : PortState) (d' : Disk) → HaltsIn p d ws Failed p' d' → FailsAmong p d ws p' d'
fails_among [] p d p' d' h = absurd h
fails_among (w ∷ ws) p d p' d' h = elim h [
  | inl a ↦ fails_at (due p) p d w ws p' d' a
  | inr k ↦ fails_later p d w ws p' d' (fails_among ws (accepting p w) (after d (w ∷ [])) p' d' k.1)
]

-- the stop that is due is the one that is armed, and as many writes were accepted as it lets through
record IsDue (armed : Option Stop) (accepted : ℕ) (stop : Stop) : Type 0 where
  armed_is : armed ≡ Some stop
  count : stop.after ≡ accepted

due_is : (armed : Option Stop) (accepted : ℕ) (stop : Stop) → due_after accepted armed ≡ Some stop → IsDue armed accepted stop
due_is None accepted stop e = absurd (cc)
due_is (Some s) accepted stop e = due_one (nat_eq s.after accepted) refl e
  where
    due_one : (b : Bool) → nat_eq s.after accepted ≡ b → (if b then Some s else None) ≡ Some stop → IsDue (Some s) accepted stop
    due_one true h k = record { armed_is = k; count = subst (λ (o : Option Stop). Some s ≡ o → s.after ≡ accepted → stop.after ≡ accepted) k (λ j c. cc) k (eqb-true s.after accepted h) }
    due_one false h k = absurd (cc)

stops_so : (stop : Stop) (t : Option (List ℕ)) (p : PortState) (d : Disk) (w : ℕ × List ℕ) (ws : List (ℕ × List ℕ)) (p' : PortState) (d' : Disk) → IsDue p.stop p.accepted stop → stop.torn ≡ t → Stops t p d w.0 (Err Stopped) p' d' → StopsAmong p d (w ∷ ws) p' d'
stops_so stop None p d w ws p' d' is t a = record {
  stop = stop;
  armed = is.armed_is;
  made = 0;
  within = omega arith;
  due = is.count;
  own = subst (λ (o : Option (List ℕ)). 0 < length (left_of (w ∷ ws) 0 o) → d.key ≡ p.view) (sym t) (λ some. absurd (omega arith));
  accepted = subst (λ (o : Option (List ℕ)). p' ≡ accepting_all p (left_of (w ∷ ws) 0 o)) (sym t) a.uncounted;
  changed = subst (λ (o : Option (List ℕ)). d' ≡ after d (left_of (w ∷ ws) 0 o)) (sym t) (a.unchanged ∙ sym (after-nil d));
}
stops_so stop (Some torn) p d w ws p' d' is t a = record {
  stop = stop;
  armed = is.armed_is;
  made = 0;
  within = omega arith;
  due = is.count;
  own = λ some. a.own;
  accepted = subst (λ (o : Option (List ℕ)). p' ≡ accepting_all p (left_of (w ∷ ws) 0 o)) (sym t) a.counted;
  changed = subst (λ (o : Option (List ℕ)). d' ≡ after d (left_of (w ∷ ws) 0 o)) (sym t) a.changed;
}

stops_at : (o : Option Stop) (p : PortState) (d : Disk) (w : ℕ × List ℕ) (ws : List (ℕ × List ℕ)) (p' : PortState) (d' : Disk) → due p ≡ o → WritesAt o p d w.0 w.1 (Err Stopped) p' d' → StopsAmong p d (w ∷ ws) p' d'
stops_at None p d w ws p' d' e a = absurd a
stops_at (Some stop) p d w ws p' d' e a = stops_so stop stop.torn p d w ws p' d' (due_is p.stop p.accepted stop e) refl a

stops_later : (p : PortState) (d : Disk) (w : ℕ × List ℕ) (ws : List (ℕ × List ℕ)) (p' : PortState) (d' : Disk) → d.key ≡ p.view → StopsAmong (accepting p w) (after d (w ∷ [])) ws p' d' → StopsAmong p d (w ∷ ws) p' d'
stops_later p d w ws p' d' own s = record {
  stop = s.stop;
  armed = s.armed;
  made = suc s.made;
  within = (let h = s.within in omega arith);
  due = s.due;
  own = λ some. own;
  accepted = s.accepted;
  changed = s.changed ∙ after-append d (w ∷ []) (left_of ws s.made s.stop.torn);
}

stops_among : (ws : List (ℕ × List ℕ)) (p : PortState) (d : Disk) (p' : PortState) (d' : Disk) → HaltsIn p d ws Stopped p' d' → StopsAmong p d ws p' d'
stops_among [] p d p' d' h = absurd h
stops_among (w ∷ ws) p d p' d' h = elim h [
  | inl a ↦ stops_at (due p) p d w ws p' d' refl a
  | inr k ↦ stops_later p d w ws p' d' k.0.own (stops_among ws (accepting p w) (after d (w ∷ [])) p' d' k.1)
]

pub ends_as : (ws : List (ℕ × List ℕ)) (p : PortState) (d : Disk) (r : Result (Unit {0}) PortHalt) (p' : PortState) (d' : Disk) → Makes p d ws r p' d' → EndsAs p d ws r p' d'
ends_as ws p d (Ok done) p' d' h = record { own = all_own ws p d p' d' h; accepted = all_accepted ws p d p' d' h; changed = all_after ws p d p' d' h }
ends_as ws p d (Err (Fenced mine current)) p' d' h = refused_first ws p d mine current p' d' h
ends_as ws p d (Err Failed) p' d' h = fails_among ws p d p' d' h
ends_as ws p d (Err Stopped) p' d' h = stops_among ws p d p' d' h

-- what is counted and kept
none_left : (space : ℕ) → take {A = ℕ × List ℕ} space [] ≡ []
none_left zero = refl
none_left (suc n) = refl

keeping_more : (k : List (ℕ × List ℕ)) (space : ℕ) (w : ℕ × List ℕ) (ws : List (ℕ × List ℕ)) → (k ++ take space (w ∷ [])) ++ take (space - 1) ws ≡ k ++ take space (w ∷ ws)
keeping_more k zero w ws = append-nil (k ++ [])
keeping_more k (suc n) w ws =
    let e : suc n - 1 ≡ n = omega arith in
    subst (λ (m : ℕ). (k ++ w ∷ take n []) ++ take m ws ≡ k ++ w ∷ take n ws) (sym e) (subst (λ (x : List (ℕ × List ℕ)). (k ++ w ∷ x) ++ take n ws ≡ k ++ w ∷ take n ws) (sym (none_left n)) (append_assoc k (w ∷ []) (take n ws)))

same_kept : (a b : Kept) → a.writes ≡ b.writes → a.space ≡ b.space → a ≡ b
same_kept a b e f =
    ap (λ (x : List (ℕ × List ℕ)). record { writes = x; space = a.space }) e ∙ ap (λ (x : ℕ). record { writes = b.writes; space = x }) f

kept_all : (ws : List (ℕ × List ℕ)) (p : PortState) → (accepting_all p ws).kept ≡ keeping_all p.kept ws
kept_all [] p = same_kept _ _ (sym (append-nil p.kept.writes) ∙ ap (λ (x : List (ℕ × List ℕ)). p.kept.writes ++ x) (sym (none_left p.kept.space))) (omega arith)
kept_all (w ∷ ws) p = kept_all ws (accepting p w) ∙ same_kept _ _ (keeping_more p.kept.writes p.kept.space w ws) (omega arith)

same_view : (ws : List (ℕ × List ℕ)) (p : PortState) → (accepting_all p ws).view ≡ p.view
same_view [] p = refl
same_view (w ∷ ws) p = same_view ws (accepting p w)

same_stop : (ws : List (ℕ × List ℕ)) (p : PortState) → (accepting_all p ws).stop ≡ p.stop
same_stop [] p = refl
same_stop (w ∷ ws) p = same_stop ws (accepting p w)

counted_all : (ws : List (ℕ × List ℕ)) (p : PortState) → p.accepted < 2 ^ 64 → (accepting_all p ws).accepted ≡ min (p.accepted + length ws) (2 ^ 64 - 1)
counted_all [] p h = omega arith
counted_all (w ∷ ws) p h = counted_all ws (accepting p w) (omega arith) ∙ omega arith

pub counts_and_keeps : (ws : List (ℕ × List ℕ)) (p : PortState) → CountsAndKeeps p ws
counts_and_keeps ws p = record { view = same_view ws p; stop = same_stop ws p; kept = kept_all ws p; accepted = counted_all ws p }

-- the count of sectors stays
pub run_keeps_count : (ws : List (ℕ × List ℕ)) (p : PortState) (d : Disk) (r : Result (Unit {0}) PortHalt) (p' : PortState) (d' : Disk) → Makes p d ws r p' d' → KeepsCount d d'
run_keeps_count ws p d (Ok done) p' d' h = keeps_count d d' ws (ends_as ws p d (Ok tt) p' d' h).changed
run_keeps_count ws p d (Err (Fenced mine current)) p' d' h = keeps_count d d' [] ((ends_as ws p d (Err (Fenced mine current)) p' d' h).unchanged ∙ sym (after-nil d))
run_keeps_count ws p d (Err Failed) p' d' h = let e = ends_as ws p d (Err Failed) p' d' h in keeps_count d d' (left_of ws e.made (Some e.left)) e.changed
run_keeps_count ws p d (Err Stopped) p' d' h = let e = ends_as ws p d (Err Stopped) p' d' h in keeps_count d d' (left_of ws e.made e.stop.torn) e.changed
